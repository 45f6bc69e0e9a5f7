-- The search from the mark on, with the notes so far, always finds what the whole search does.
-- Assumes nothing.
use mathlib.Core.Path.{◌≡◌}
use Prim.Native.Nat.{◌-◌}
use lib.ListN.{length}
use Rattle.record.specs.Noted.{listed, sought_of}
use Rattle.record.proofs.search.Given as goal

abbrev pub invariant-loop-mark : goal.invariant-loop-mark
invariant-loop-mark l = sought_of l.held l.noted l.mark ≡ sought_of l.held l.initial.noted l.initial.mark

abbrev pub decreases-loop-mark : goal.decreases-loop-mark
decreases-loop-mark l = 4 - length (listed l.noted)
