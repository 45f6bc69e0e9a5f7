-- The window's bytes after a run: from turn to turn, what the rest of the run leaves is the same.
-- Assumes nothing.
use Prim.Native.Nat.{ℕ, zero, suc, ◌+◌, ◌*◌, ◌<◌}
use native.Mathlib.Omega.{arith}
use mathlib.Core.Path.{◌≡◌, refl}
use mathlib.Core.List.{List}
use lib.ListN.{length}
use Rattle.reader.specs.declared.Reader.{Reader}
use Rattle.reader.specs.State.{fresh_of}
use Rattle.reader.specs.Next.{next_of}
use Rattle.protocol.specs.declared.Kind.{Kind}
use Rattle.protocol.specs.declared.Kind.TheVariants as kind
use Rattle.protocol.specs.declared.Supplied.{Supplied}
use Rattle.protocol.specs.Turns.{kind_of, supplied_of, supplied_window, window_by, window_for, window_after}
use Rattle.protocol.proofs.Turns.{left_of}

-- the rest of the run leaves the window `left`: there are turns enough for what is left to do
pub record Leaving (B : List ℕ) (chunk : ℕ) (left : List ℕ) (s : Reader) (w : List ℕ) (at k : ℕ) : Type 0 where
  pub turns : ℕ
  pub enough : left_of B s at k < turns
  pub leaves : window_for turns B chunk s w at ≡ left

-- before the first turn, what the whole run leaves
pub fresh_leaving : (B w : List ℕ) (chunk : ℕ) (s : Reader) → s ≡ fresh_of (length w) → Leaving B chunk (window_after B w chunk) s w 0 0
unfolding window_after left_of
fresh_leaving B w chunk s e = rw e (record { turns = 2 * length B + 2; enough = omega arith; leaves = refl })

module _ (B : List ℕ) (chunk : ℕ) (left : List ℕ) (s : Reader) (w : List ℕ) (at k : ℕ) (b : Leaving B chunk left s w at k) where
  -- a turn is left, and the turns after it
  turn : (x : Kind) → kind_of (next_of s w).answer ≡ x
      → (n : ℕ) × (b.turns ≡ suc n) × (window_by (λ u v t. window_for n B chunk u v t) B chunk w at (next_of s w).state x ≡ left)
  unfolding window_for
  turn x h = go b.turns refl b.leaves
    where
      go : (m : ℕ) → b.turns ≡ m → window_for m B chunk s w at ≡ left
          → (n : ℕ) × (b.turns ≡ suc n) × (window_by (λ u v t. window_for n B chunk u v t) B chunk w at (next_of s w).state x ≡ left)
      go zero z l = absurd (omega (arith, b.enough))
      go (suc n) z l = (n, z, rw (← h) l)

  -- a record leaves the window as it is
  pub record_leaving : kind_of (next_of s w).answer ≡ kind.Record → left_of B (next_of s w).state at (k + 1) < left_of B s at k → Leaving B chunk left (next_of s w).state w at (k + 1)
  record_leaving h less = let (n, z, l) = turn kind.Record h in record { turns = n; enough = omega (arith, b.enough); leaves = l }

  -- a request is answered
  pub request_leaving : kind_of (next_of s w).answer ≡ kind.Request → (u : Supplied) (w' : List ℕ)
      → u ≡ supplied_of (next_of s w).state w B at chunk → w' ≡ supplied_window (next_of s w).state w B at chunk
      → left_of B u.state u.at k < left_of B s at k → Leaving B chunk left u.state w' u.at k
  request_leaving h u w' e f less = let (n, z, l) = turn kind.Request h in record { turns = n; enough = omega (arith, b.enough); leaves = rw (e, f) l }

  -- any other answer ends the run
  pub closing_leaving : kind_of (next_of s w).answer ≡ kind.Closing → w ≡ left
  closing_leaving h = (turn kind.Closing h).2
