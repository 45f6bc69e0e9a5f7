-- The part from `from` on is searched; where there is none, there is no line end.
-- Assumes nothing.
use Rattle.std.proofs.Common.{sym, ap, ◌+◌, option_map, ◌∙◌}
use Rattle.lines.proofs.Laws.{line_in}
use Rattle.lines.proofs.find_line.Goals as goal

pub returns-in_err-i : goal.returns-in_err-i
returns-in_err-i c = c.from_residual-in_err-i.ensures ∙ ap (option_map (λ i. c.args.from + i)) (sym c.in_err-i.was) ∙ line_in _ _ _ c.in_ok-get.ensures.lookup.0.2 _ c.find_byte.ensures

pub returns : goal.returns
returns c = ap (option_map (λ i. c.args.from + i)) (sym c.in_ok-i.was) ∙ line_in _ _ _ c.in_ok-get.ensures.lookup.0.2 _ c.find_byte.ensures
