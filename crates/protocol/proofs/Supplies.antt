-- How a request is answered: the bytes that are offered are the input's next ones.
-- Assumes nothing.
use Prim.Native.Nat.{ℕ, ◌+◌, ◌-◌, ◌≤◌, ◌<◌, min}
use native.Mathlib.Omega.{arith}
use native.Mathlib.Decide.{dec_le}
use mathlib.Core.Path.{◌≡◌, refl, sym, ap, ◌∙◌}
use mathlib.Core.List.{List}
use lib.ListN.{length, take, drop, length-take, length-drop}
use lib.Seq.{take_all, take-length}
use borrow.Author.Tests.{le-leb, lt-leb}
use Rattle.std.specs.Prelude.{Result, Ok, Err}
use Rattle.std.specs.Result.{result_unwrap_or}
use Rattle.reader.specs.declared.Refusal.{Refusal}
use Rattle.reader.specs.declared.Reader.{Reader}
use Rattle.reader.specs.declared.Outcome.{Outcome}
use Rattle.reader.specs.Feed.{feed_of, fed_window, finish_of}
use Rattle.demands.specs.Runs.{took_of}
use Rattle.demands.proofs.Feeds.{took_some}
use Rattle.protocol.specs.declared.Supplied.{Supplied}
use Rattle.protocol.specs.Turns.{offered, supplied_of, supplied_window}

-- no more is taken than there is
take_least : (n : ℕ) (l : List ℕ) → take (min n (length l)) l ≡ take n l
take_least n l = go (dec_le n (length l))
  where
    go : Dec (n ≤ length l) → take (min n (length l)) l ≡ take n l
    go (yes h) = let e : min n (length l) ≡ n = omega arith in rw e
    go (no h) = let e : min n (length l) ≡ length l = omega arith in rw e (take-length l ∙ sym (take_all n l (omega arith)))

-- the bytes that are offered are the input's next ones
pub offered_next : (B : List ℕ) (at chunk : ℕ) → offered B at chunk ≡ take (length (offered B at chunk)) (drop at B)
offered_next B at chunk = sym (ap (λ (k : ℕ). take k (drop at B)) (length-take chunk (drop at B)) ∙ take_least chunk (drop at B))

-- the part of the input that is fed
pub part_offered : (B : List ℕ) (at chunk end : ℕ) → end ≡ at + min chunk (length B - at) → take (end - at) (drop at B) ≡ offered B at chunk
part_offered B at chunk end e =
    let q : end - at ≡ min chunk (length (drop at B)) = omega (arith, length-drop at B) in
    ap (λ (k : ℕ). take k (drop at B)) q ∙ take_least chunk (drop at B)

-- what a refused feed takes is nothing
pub took_is : (a : Result ℕ Refusal) → result_unwrap_or a 0 ≡ took_of a
took_is (Ok t) = refl
took_is (Err r) = refl

-- where all is taken, the end is noted
pub supplied_end : (s : Reader) (w B : List ℕ) (at chunk : ℕ) (f : Outcome Unit) → length B ≤ at → f ≡ finish_of s (length w)
    → (◌≡◌ {A = Supplied} (record { state = f.state; at = at }) (supplied_of s w B at chunk)) × (w ≡ supplied_window s w B at chunk)
unfolding supplied_of supplied_window
supplied_end s w B at chunk f h e = rw (le-leb (length B) at h, e) (refl, refl)

module _ (s : Reader) (w B : List ℕ) (at chunk end t : ℕ) (f : Outcome ℕ) (short : at < length B) (e : end ≡ at + min chunk (length B - at))
    (fed : f ≡ feed_of s (length w) (length (take (end - at) (drop at B)))) (some : t ≡ took_of f.answer) where
  -- feed takes no more than there is
  pub took_within : at + t ≤ length B
  took_within =
      omega
      (arith, some ∙ ap (λ (x : Outcome ℕ). took_of x.answer) fed, took_some s (length w) (length (take (end - at) (drop at B))), ap length (part_offered B at chunk end e), length-take chunk (drop at B), length-drop at B)

  -- otherwise the input's next bytes are fed
  pub supplied_bytes : (w' : List ℕ) → w' ≡ fed_window s w (take (end - at) (drop at B))
      → (◌≡◌ {A = Supplied} (record { state = f.state; at = at + t }) (supplied_of s w B at chunk)) × (w' ≡ supplied_window s w B at chunk)
  unfolding supplied_of supplied_window
  supplied_bytes w' b = rw (lt-leb (length B) at short, some, fed, b, part_offered B at chunk end e) (refl, refl)
