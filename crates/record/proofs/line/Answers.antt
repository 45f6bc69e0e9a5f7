-- The part is cut off at the end of the bytes; where nothing of it is left, the line is empty.
-- Assumes nothing.
use mathlib.Core.Path.{◌∙◌}
use native.Mathlib.Omega.{arith}
use Rattle.record.proofs.Laws.{line_nothing, line_part}
use Rattle.record.proofs.line.Goals as goal

pub returns-then-e-from : goal.returns-then-e-from
returns-then-e-from c = record { bytes = line_nothing _ _ _ _ c.min-e.ensures c.if-e-from.true; place = λ h k. absurd (omega arith) }

pub returns : goal.returns
returns c = record { bytes = c.trim_cr.ensures.bytes ∙ line_part _ _ _ _ c.min-e.ensures; place = λ h k. c.trim_cr.ensures.place }
