-- Too little room, or all parts laid.
-- Assumes nothing.
use native.Mathlib.Omega.{arith}
use Rattle.std.proofs.lemmas.Result.{err_from_is_err_and}
use Rattle.writer.proofs.Laws.{short, wrote}
use Rattle.writer.proofs.write_all.Goals as goal

pub returns-in_err-left : goal.returns-in_err-left
returns-in_err-left c =
    let p = err_from_is_err_and c.from_residual.result c.from_residual.ensures.1 in
    let n = rw c.in_err-left.ensures.ok_part at c.left_behind.ensures in
    rw (p.1, p.2, rw c.in_err-left.ensures.ok_part at c.in_err-left.ensures.value) (short _ _ _ n)

pub returns : goal.returns
returns c = let k = rw c.in_ok-left.ensures.ok_part at c.left_behind.ensures in wrote _ _ _ _ _ (omega (arith, k)) (omega (arith, k)) c.put_all.ensures
