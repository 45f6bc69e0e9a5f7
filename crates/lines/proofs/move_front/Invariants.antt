-- After `i` turns the first `i` bytes from `start` on stand at the front; what is read next lies behind what was written.
-- Assumes nothing.
use mathlib.Core.Path.{◌≡◌}
use Prim.Native.Nat.{◌-◌, min}
use lib.ListN.{length, drop}
use Rattle.lines.proofs.Copies.{over}
use Rattle.lines.proofs.move_front.Given as goal

abbrev pub invariant-loop-i : goal.invariant-loop-i
invariant-loop-i l = (l.window ≡ over l.initial.window (drop l.start l.initial.window) l.i) × (length l.window ≡ length l.initial.window) × (l.count ≡ min l.fill (length l.initial.window) - l.start)
