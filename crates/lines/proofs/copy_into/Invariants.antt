-- After `i` turns the first `i` bytes of `src` stand over the front of `dst`, whose length stays.
-- Assumes nothing.
use mathlib.Core.Path.{◌≡◌}
use Prim.Native.Nat.{min}
use lib.ListN.{length}
use Rattle.lines.proofs.Copies.{over}
use Rattle.lines.proofs.copy_into.Given as goal

abbrev pub invariant-loop-i : goal.invariant-loop-i
invariant-loop-i l = (l.dst ≡ over l.initial.dst l.src l.i) × (length l.dst ≡ length l.initial.dst) × (l.n ≡ min (length l.initial.dst) (length l.src))
