-- The length of the first line decides; the id ends within the window, so that its end does not wrap.
-- Assumes nothing.
use Prim.Native.Nat.{◌+◌, ◌-◌}
use native.Mathlib.Omega.{arith}
use Rattle.record.proofs.Laws.{error_absent, error_range, id_short}
use Rattle.record.proofs.error_id.Goals as goal

pub returns-then-saturating_sub-le1 : goal.returns-then-saturating_sub-le1
returns-then-saturating_sub-le1 c = error_absent _ _ _ _ c.saturating_sub.ensures c.if-saturating_sub-le1.true

pub overflow_add-to : goal.overflow_add-to
overflow_add-to c = let a = c.args in omega (arith, id_short a.window.now _ (a.start + 1) (a.seq - 1) _ c.line-head.ensures.bytes c.id_length.ensures)

pub returns : goal.returns
returns c = error_range _ _ _ _ c.saturating_sub.ensures _ _ c.if-saturating_sub-le1.false c.line-head.ensures.bytes c.id_length.ensures
