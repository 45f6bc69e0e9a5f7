-- The invariant: the answer in the end, and the table with what is left to list stored in it, are those of the beginning.
-- Assumes nothing.
use mathlib.Core.Path.{◌≡◌}
use Prim.Native.Nat.{◌*◌, ◌/◌}
use lib.ListN.{length}
use lib.Seq.{sets}
use Rattle.sets.specs.Sets.{rows_of}
use Rattle.sets.specs.Inside.{left_of, end_of, Ready}
use Rattle.sets.proofs.read_record_set_exact.Given as goal

abbrev pub invariant-loop-run : goal.invariant-loop-run
invariant-loop-run l = Ready l.run (length l.initial.table / 5) × (end_of l.run l.window ≡ end_of l.initial.run l.window) × (sets l.table (l.run.count * 5) (rows_of (left_of l.run l.window)) ≡ sets l.initial.table (l.initial.run.count * 5) (rows_of (left_of l.initial.run l.window))) × (length l.table ≡ length l.initial.table)

abbrev pub decreases-loop-run : goal.decreases-loop-run
decreases-loop-run l = length (left_of l.run l.window)
