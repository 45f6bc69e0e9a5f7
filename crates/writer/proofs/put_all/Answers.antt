-- Each part is laid behind those before it.
-- Assumes nothing.
use mathlib.Core.Path.{ap}
use Prim.Native.Nat.{ℕ}
use native.Mathlib.Omega.{arith}
use lib.ListN.{length, length-append}
use Rattle.writer.proofs.Laws.{joined_more, laid_next}
use Rattle.writer.proofs.put_all.Goals as goal

pub loop-part-preserved : goal.loop-part-preserved
loop-part-preserved c =
    let more = joined_more c.args.parts.now c.loop-part.part-index c.loop-part-test.true in
    (laid_next _ _ _ _ _ _ _ c.loop-part-test.true c.requires c.loop-part.invariant.0 c.loop-part.invariant.1 c.loop-part.auto.out c.copy_into.ensures, omega (arith, ap length more, length-append {A = ℕ}))
