-- The room is counted by differences, so that no sum wraps; one law for each answer (Feeding).
-- Assumes nothing.
use mathlib.Core.Path.{◌∙◌}
use native.Mathlib.Omega.{arith}
use Rattle.reader.proofs.Feeding.{taking_far, taking_move, taking_stay}
use Rattle.reader.proofs.Reader.taking.Goals as goal

pub returns-then-byte-held : goal.returns-then-byte-held
returns-then-byte-held c = c.refused.ensures ∙ taking_far _ _ _ c.min-t.ensures (omega arith)

pub returns-then-w-fill : goal.returns-then-w-fill
returns-then-w-fill c = rw (c.with_fill.ensures, c.to_front-m.ensures) (taking_move _ _ _ c.min-t.ensures (omega arith) c.if-w-fill.true)

pub returns-else-w-fill : goal.returns-else-w-fill
returns-else-w-fill c = rw c.with_fill-else-w-fill.ensures (taking_stay _ _ _ c.min-t.ensures (omega arith) c.if-w-fill.false)
