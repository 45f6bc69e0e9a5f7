-- Refusals change nothing, and neither does an empty chunk; next is refused for a foreign state alone; an answer's number is the reading's.
-- Assumes nothing.
use mathlib.Core.Path.{◌≡◌, refl, sym, ap, ◌∙◌}
use mathlib.Core.Bool.{Bool, true, false, ◌&&◌}
use mathlib.Core.List.{List, [], ◌++◌}
use Prim.Native.Nat.{ℕ, ◌+◌, ◌-◌}
use native.Mathlib.Omega.{arith}
use lib.Dec.{leb}
use lib.ListN.{length, take, drop, length-take, take-append-drop}
use borrow.Author.Tests.{le-ltb}
use native.Mathlib.Nat.{add-zero}
use Rattle.lines.proofs.Laws.{drop_within}
use Rattle.reading.specs.Answer as told
use Rattle.reader.specs.declared.Byte.{Byte}
use Rattle.reader.specs.declared.Reader.{Reader}
use Rattle.reader.specs.declared.Position.{Position}
use Rattle.std.specs.Prelude.{Result, Ok, Err}
use Rattle.reader.specs.declared.Refusal.{Refusal}
use Rattle.reader.specs.declared.Refusal.TheVariants.{Foreign}
use Rattle.reader.specs.State.{most_bytes, own}
use Rattle.reader.specs.Feed.{held_of, taken_of, moves, taking_by, taking_of, ready_of, feed_by, feed_of, landed, fed_by, fed_window, finish_by, finish_of}
use Rattle.reader.specs.Next.{answer_of, seeking_of, next_by, next_of}
use Rattle.reader.specs.Seek.{is_held, moved_by, seek_by, seek_of}
use Rattle.reader.specs.Numbers.{next_number}

-- ---- a refusal changes no state and no window

-- FEED: a refused feed hands the state back as it was
pub feed_refused_state : (s : Reader) (w n : ℕ) (r : Refusal) → (feed_of s w n).answer ≡ Err r → (feed_of s w n).state ≡ s
unfolding feed_of taking_of
feed_refused_state s w n r = go (ready_of s w)
  where
    by : (t : Bool) → (taking_by s n t).answer ≡ Err r → (taking_by s n t).state ≡ s
    by true e = let z : ◌≡◌ {A = ℕ} 0 1 = cc in absurd (omega arith)
    by false e = refl

    go : (a : Result Unit Refusal) → (feed_by s n a).answer ≡ Err r → (feed_by s n a).state ≡ s
    go (Ok u) e = by (leb (s.byte.0 + held_of s + taken_of s n) most_bytes) e
    go (Err q) e = refl

-- FEED: and leaves the window's bytes as they were
pub feed_refused_window : (s : Reader) (w chunk : List ℕ) (r : Refusal) → (feed_of s (length w) (length chunk)).answer ≡ Err r → fed_window s w chunk ≡ w
unfolding fed_window
feed_refused_window s w chunk r e = ap (fed_by s w chunk) e

-- FINISH: a refused finish hands the state back as it was (it is lent no memory that it could change)
pub finish_refused_state : (s : Reader) (w : ℕ) (r : Refusal) → (finish_of s w).answer ≡ Err r → (finish_of s w).state ≡ s
unfolding finish_of
finish_refused_state s w r = go (ready_of s w)
  where
    go : (a : Result Unit Refusal) → (finish_by s a).answer ≡ Err r → (finish_by s a).state ≡ s
    go (Ok u) e = let z : ◌≡◌ {A = ℕ} 0 1 = cc in absurd (omega arith)
    go (Err q) e = refl

-- NEXT: it is refused for a foreign state alone, with 2, and hands the state back as it was (it is lent no memory that it could change)
pub next_refused : (s : Reader) (w : List ℕ) (r : Refusal) → (next_of s w).answer ≡ Err r → (own s (length w) ≡ false) × (r ≡ Foreign) × ((next_of s w).state ≡ s)
unfolding next_of seeking_of
next_refused s w r = go (own s (length w)) refl s.closed
  where
    go : (a : Bool) → own s (length w) ≡ a → (b : Bool) → (next_by s w a b).answer ≡ Err r → (own s (length w) ≡ false) × (r ≡ Foreign) × ((next_by s w a b).state ≡ s)
    go false f b e = (f, cc, refl)
    go true f true e = let z : ◌≡◌ {A = ℕ} 0 1 = cc in absurd (omega arith)
    go true f false e = let z : ◌≡◌ {A = ℕ} 0 1 = cc in absurd (omega arith)

-- SEEK: a refused seek hands the state back as it was (it is lent no memory that it could change)
pub seek_refused_state : (s : Reader) (w : ℕ) (p : Position) (r : Refusal) → (seek_of s w p).answer ≡ Err r → (seek_of s w p).state ≡ s
unfolding seek_of
seek_refused_state s w p r = go (own s w) (leb p.line.0 most_bytes && leb p.byte.0 most_bytes)
  where
    by : (t : Bool) → (moved_by s p t).answer ≡ Err r → (moved_by s p t).state ≡ s
    by true e = let z : ◌≡◌ {A = ℕ} 0 1 = cc in absurd (omega arith)
    by false e = let z : ◌≡◌ {A = ℕ} 0 1 = cc in absurd (omega arith)

    go : (a b : Bool) → (seek_by s p a b).answer ≡ Err r → (seek_by s p a b).state ≡ s
    go false b e = refl
    go true false e = refl
    go true true e = by (is_held s p.byte.0) e

-- ---- an answer's number is the reading's

pub number_kept : (b : Byte) (a : told.Answer) → next_number (Ok (answer_of b a)) ≡ told.number_of a
number_kept b (told.found r) = refl
number_kept b (told.window_limit L p) = refl
number_kept b (told.invalid_start x L) = refl
number_kept b (told.invalid_separator x L i) = refl
number_kept b (told.unequal_lengths n m L i) = refl
number_kept b (told.unexpected_end L i) = refl
number_kept b told.ended = refl

-- ---- an empty chunk

-- AN EMPTY CHUNK takes 0 and changes nothing
pub empty_chunk_state : (s : Reader) (w t : ℕ) → (feed_of s w 0).answer ≡ Ok t → (t ≡ 0) × ((feed_of s w 0).state ≡ s)
unfolding feed_of taking_of
empty_chunk_state s w t = go (ready_of s w)
  where
    none_taken : taken_of s 0 ≡ 0
    none_taken = omega arith

    still : moves s 0 ≡ false
    still = le-ltb (s.window - s.fill) 0 (omega arith)

    by : (b : Bool) → (taking_by s 0 b).answer ≡ Ok t → (t ≡ 0) × ((taking_by s 0 b).state ≡ s)
    by true e = let q : t ≡ taken_of s 0 = cc in (q ∙ none_taken, rw (still, none_taken, add-zero))
    by false e = let z : ◌≡◌ {A = ℕ} 0 1 = cc in absurd (omega arith)

    go : (a : Result Unit Refusal) → (feed_by s 0 a).answer ≡ Ok t → (t ≡ 0) × ((feed_by s 0 a).state ≡ s)
    go (Ok u) e = by (leb (s.byte.0 + held_of s + taken_of s 0) most_bytes) e
    go (Err r) e = let z : ◌≡◌ {A = ℕ} 0 1 = cc in absurd (omega arith)

-- and leaves the window's bytes as they were
pub empty_chunk_window : (s : Reader) (w : List ℕ) → fed_window s w [] ≡ w
unfolding fed_window landed
empty_chunk_window s w = go (feed_of s (length w) 0).answer
  where
    none_taken : taken_of s 0 ≡ 0
    none_taken = omega arith

    still : moves s 0 ≡ false
    still = le-ltb (s.window - s.fill) 0 (omega arith)

    go : (a : _) → fed_by s w [] a ≡ w
    go (Err k) = refl
    go (Ok t) = rw (still, none_taken) (by (length (take s.fill w)) refl)
      where
        by : (n : ℕ) → length (take s.fill w) ≡ n → take s.fill w ++ drop (n + 0) w ≡ w
        by n e = ap (λ (k : ℕ). take s.fill w ++ drop k w) (add-zero n ∙ sym e ∙ length-take s.fill w) ∙ ap (λ (l : List ℕ). take s.fill w ++ l) (drop_within s.fill w) ∙ take-append-drop s.fill w
