-- The part of the input that is fed is its next bytes, and feed takes no more than there is.
-- Assumes nothing.
use native.Mathlib.Omega.{arith}
use mathlib.Core.Path.{ap, ◌∙◌}
use Prim.Native.Nat.{◌+◌}
use borrow.Author.Rules.{rules}
use Rattle.protocol.proofs.Supplies.{took_is, supplied_end, took_within, supplied_bytes}
use Rattle.protocol.proofs.supply.Goals as goal

pub returns-then-input-at : goal.returns-then-input-at
returns-then-input-at c = let h = supplied_end _ _ _ _ _ _ (omega arith) c.finish-f.ensures in record { answer = h.0; bytes = h.1 }

pub overflow_add-result : goal.overflow_add-result
overflow_add-result c = let h = took_within c.args.state c.args.window.now c.args.input.now c.args.at c.args.chunk _ _ _ (omega arith) (ap (λ x. c.args.at + x) c.min.ensures) c.feed-f.ensures.answer (c.unwrap_or.ensures ∙ took_is c.feed-f.result.answer) in search rules

pub returns : goal.returns
returns c =
    let h = supplied_bytes c.args.state c.args.window.now c.args.input.now c.args.at c.args.chunk _ _ _ (omega arith) (ap (λ x. c.args.at + x) c.min.ensures) c.feed-f.ensures.answer (c.unwrap_or.ensures ∙ took_is c.feed-f.result.answer) _ c.feed-f.ensures.bytes in
    record { answer = h.0; bytes = h.1 }
