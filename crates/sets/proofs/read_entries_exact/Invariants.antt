-- The invariant: the answer in the end, and the table with what is left to list stored in it, are those of the call.
-- Assumes nothing.
use mathlib.Core.Path.{◌≡◌}
use lib.ListN.{length}
use lib.Seq.{sets}
use Rattle.sets.specs.Inside.{left_of, end_of, Ready}
use Rattle.sets.proofs.read_entries_exact.Given as goal

abbrev pub invariant-loop-run : goal.invariant-loop-run
invariant-loop-run l = Ready l.run (length l.initial.table) × (end_of l.run l.window ≡ end_of l.initial.run l.window) × (sets l.table l.run.count (left_of l.run l.window) ≡ sets l.initial.table l.initial.run.count (left_of l.initial.run l.window)) × (length l.table ≡ length l.initial.table)

abbrev pub decreases-loop-run : goal.decreases-loop-run
decreases-loop-run l = length (left_of l.run l.window)
