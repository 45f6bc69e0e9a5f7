-- The digits of what is left of n, and the text from `i` on, are always the digits of n; a place is left for each digit.
-- Assumes nothing.
use mathlib.Core.Path.{◌≡◌}
use mathlib.Core.List.{◌++◌}
use Prim.Native.Nat.{◌+◌, ◌-◌, ◌^◌, ◌≤◌, ◌<◌}
use lib.ListN.{length, drop}
use Rattle.text.specs.Decimal.{decimal}
use Rattle.text.proofs.digits_at_end.Given as goal

abbrev pub invariant-loop-rest : goal.invariant-loop-rest
invariant-loop-rest l =
    record {
      digits : decimal l.rest ++ drop l.i l.text ≡ decimal l.n;
      before : l.i ≤ length l.initial.text;
      room : length l.initial.text ≤ l.i + 19;
      small : l.rest < 10 ^ (l.i + 20 - length l.initial.text);
    }

abbrev pub decreases-loop-rest : goal.decreases-loop-rest
decreases-loop-rest l = l.i
