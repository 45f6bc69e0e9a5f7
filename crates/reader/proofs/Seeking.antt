-- Laws of open, finish and seek: their answers, by the tests.
-- Assumes nothing.
use mathlib.Core.Path.{◌≡◌}
use mathlib.Core.Bool.{true, false}
use Prim.Native.Nat.{ℕ, ◌+◌, ◌-◌, ◌<◌, ◌≤◌}
use native.Mathlib.Omega.{arith}
use borrow.Author.Tests.{le-leb, lt-leb, lt-ltb, le-ltb}
use Rattle.reader.specs.declared.Reader.{Reader}
use Rattle.reader.specs.declared.Position.{Position}
use Rattle.std.specs.Prelude.{Ok, Err}
use Rattle.reader.specs.declared.Refusal.TheVariants.{WindowSize, Foreign, PastLimit}
use Rattle.reader.specs.State.{smallest, largest, most_bytes, fresh_of, open_of, own}
use Rattle.reader.specs.Feed.{ended_of, finish_of}
use Rattle.reader.specs.Seek.{base, is_held, moved_by, seek_of}

pub open_small : (W : ℕ) → W < smallest → Err WindowSize ≡ open_of W
unfolding open_of
open_small W h = simp (lt-leb smallest W h)

pub open_large : (W : ℕ) → smallest ≤ W → largest < W → Err WindowSize ≡ open_of W
unfolding open_of
open_large W h k = simp (le-leb smallest W h, lt-leb W largest k)

pub open_fresh : (W : ℕ) → smallest ≤ W → W ≤ largest → Ok (fresh_of W) ≡ open_of W
unfolding open_of
open_fresh W h k = simp (le-leb smallest W h, le-leb W largest k)

-- finish refuses a foreign state, and notes the end for one that is own, waits, and is not told the end yet
module _ (s : Reader) (w : ℕ) where
  pub finish_foreign : own s w ≡ false → record { state = s; answer = Err Foreign } ≡ finish_of s w
  unfolding finish_of
  finish_foreign e = rw e

  pub finish_notes : own s w ≡ true → s.ended ≡ false → s.waiting ≡ true → record { state = ended_of s; answer = Ok tt } ≡ finish_of s w
  unfolding finish_of
  finish_notes e k h = rw (e, k, h)

-- whether a place is held
module _ (s : Reader) (q : ℕ) where
  pub held_before : q < base s → false ≡ is_held s q
  unfolding is_held
  held_before h = simp (lt-leb (base s) q h)

  pub held_behind : base s ≤ q → s.fill ≤ q - base s → false ≡ is_held s q
  unfolding is_held
  held_behind h k = simp (le-leb (base s) q h, le-ltb q (base s + s.fill) (omega arith))

  pub held_inside : base s ≤ q → q - base s < s.fill → true ≡ is_held s q
  unfolding is_held
  held_inside h k = simp (le-leb (base s) q h, lt-ltb q (base s + s.fill) (omega arith))

module _ (s : Reader) (w : ℕ) (p : Position) where
  pub seek_foreign : own s w ≡ false → record { state = s; answer = Err Foreign } ≡ seek_of s w p
  unfolding seek_of
  seek_foreign e = rw e

  pub seek_far_line : own s w ≡ true → most_bytes < p.line.0 → record { state = s; answer = Err PastLimit } ≡ seek_of s w p
  unfolding seek_of
  seek_far_line e h = simp (e, lt-leb p.line.0 most_bytes h)

  pub seek_far_byte : own s w ≡ true → p.line.0 ≤ most_bytes → most_bytes < p.byte.0 → record { state = s; answer = Err PastLimit } ≡ seek_of s w p
  unfolding seek_of
  seek_far_byte e k h = simp (e, le-leb p.line.0 most_bytes k, lt-leb p.byte.0 most_bytes h)

  pub seek_moves : own s w ≡ true → p.line.0 ≤ most_bytes → p.byte.0 ≤ most_bytes → moved_by s p (is_held s p.byte.0) ≡ seek_of s w p
  unfolding seek_of
  seek_moves e k h = simp (e, le-leb p.line.0 most_bytes k, le-leb p.byte.0 most_bytes h)
