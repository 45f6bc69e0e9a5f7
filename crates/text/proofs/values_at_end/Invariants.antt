-- The text from `i` on is always the bytes of the values behind those that are left, and LF; 21 places are left for each that is left.
-- Assumes nothing.
use Prim.Native.Nat.{◌*◌, ◌≤◌}
use lib.ListN.{length, drop}
use Rattle.std.specs.Iterator.Adapters.{rev_source}
use Rattle.std.specs.Slice.Iter.{iter_rest}
use Rattle.text.proofs.Lines.{Behind}
use Rattle.text.proofs.values_at_end.Given as goal

abbrev pub invariant-loop-value : goal.invariant-loop-value
invariant-loop-value l =
    let left = iter_rest (rev_source l.value-iterator) in
    record { done : Behind left l.values (drop l.i l.text); room : 21 * length left ≤ l.i; before : l.i ≤ 126 }
