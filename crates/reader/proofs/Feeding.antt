-- Laws of feed: its answer case by case, and the window's bytes after it.
-- Assumes nothing.
use mathlib.Core.Path.{◌≡◌, refl, sym, ap, ◌∙◌}
use mathlib.Core.Bool.{Bool, true, false}
use mathlib.Core.List.{List, [], ◌++◌, append-nil}
use Prim.Native.Nat.{ℕ, ◌+◌, ◌-◌, ◌<◌, ◌≤◌, min}
use native.Mathlib.Omega.{arith}
use lib.Dec.{leb}
use lib.ListN.{length, take, drop, length-drop, length-append, drop_of_length-le}
use lib.Seq.{slice, take_all, take_at, drop_at, drop-drop, length-slice, length-take-le}
use borrow.Author.Tests.{le-leb, lt-leb, lt-ltb, le-ltb, ltb-false}
use Rattle.lines.specs.Lines.{copied, moved_front}
use Rattle.lines.proofs.Laws.{take_within, drop_within}
use Rattle.reader.specs.declared.Reader.{Reader}
use Rattle.std.specs.Prelude.{Result, Ok, Err}
use Rattle.reader.specs.declared.Refusal.{Refusal}
use Rattle.reader.specs.declared.Refusal.TheVariants.{Foreign, PastLimit}
use Rattle.reader.specs.State.{most_bytes, own, Own}
use Rattle.reader.specs.Feed.{held_of, taken_of, filled, front_of, moves, refused, taking_by, taking_of, ready_of, feed_by, feed_of, kept_by, landed_on, landed, fed_window}
use Rattle.reader.specs.Inside.{put_of, land_by, land_of}
use Rattle.reader.proofs.Owning.{own_facts, ready_own}

-- what feed answers once it refuses with neither 2 nor 4 nor 3
module _ (s : Reader) (n t : ℕ) (e : t ≡ taken_of s n) where
  pub taking_far : most_bytes < s.byte.0 + held_of s + t → refused s PastLimit ≡ taking_of s n
  unfolding taking_of
  taking_far h = simp (← e, lt-leb (s.byte.0 + held_of s + t) most_bytes h)

  pub taking_move : s.byte.0 + held_of s + t ≤ most_bytes → s.window - s.fill < n → record { state = filled (front_of s) t; answer = Ok t } ≡ taking_of s n
  unfolding taking_of
  taking_move h k = simp (← e, le-leb (s.byte.0 + held_of s + t) most_bytes h, lt-ltb (s.window - s.fill) n k)

  pub taking_stay : s.byte.0 + held_of s + t ≤ most_bytes → n ≤ s.window - s.fill → record { state = filled s t; answer = Ok t } ≡ taking_of s n
  unfolding taking_of
  taking_stay h k = simp (← e, le-leb (s.byte.0 + held_of s + t) most_bytes h, le-ltb (s.window - s.fill) n k)

-- feed's answer, by whether the state is ready
module _ (s : Reader) (w n : ℕ) where
  pub feed_ready : ready_of s w ≡ Ok tt → taking_of s n ≡ feed_of s w n
  unfolding feed_of
  feed_ready e = rw e

  pub feed_unready : (r : Refusal) → ready_of s w ≡ Err r → refused s r ≡ feed_of s w n
  unfolding feed_of
  feed_unready r e = rw e

-- a foreign state is refused
pub feed_foreign : (s : Reader) (w n : ℕ) → own s w ≡ false → refused s Foreign ≡ feed_of s w n
unfolding feed_of
feed_foreign s w n e = rw e

-- where feed takes, the state is own, and what is taken is the stated minimum
pub took_own : (s : Reader) (w n t : ℕ) → (feed_of s w n).answer ≡ Ok t → Own s w × (t ≡ taken_of s n)
unfolding feed_of taking_of
took_own s w n t = go (ready_of s w) refl
  where
    by : Own s w → (f : Bool) → (taking_by s n f).answer ≡ Ok t → Own s w × (t ≡ taken_of s n)
    by o true e = (o, cc)
    by o false e = let z : ◌≡◌ {A = ℕ} 0 1 = cc in absurd (omega arith)

    go : (a : Result Unit Refusal) → ready_of s w ≡ a → (feed_by s n a).answer ≡ Ok t → Own s w × (t ≡ taken_of s n)
    go (Ok u) r e = by (own_facts s w (ready_own s w r)) (leb (s.byte.0 + held_of s + taken_of s n) most_bytes) e
    go (Err q) r e = let z : ◌≡◌ {A = ℕ} 0 1 = cc in absurd (omega arith)

-- ---- the window's bytes

-- what a part that was lent from `at` on, and came back with the chunk's bytes copied into it, makes of the whole
pub put_is : (w chunk part : List ℕ) (at : ℕ) → at ≤ length w → part ≡ copied (take (length w - at) (drop at w)) chunk
    → take at w ++ (part ++ drop (length w - at) (drop at w)) ≡ put_of w at chunk
unfolding put_of copied
put_is w chunk part at h e =
    let n : length (drop at w) ≡ length w - at = length-drop at w in
    let r : take (length w - at) (drop at w) ≡ drop at w = take_all (length w - at) (drop at w) (omega arith) in
    let z : drop (length w - at) (drop at w) ≡ [] = drop_of_length-le (drop at w) {i = length w - at} (omega arith) in
    rw (e, r, z, n, append-nil, drop-drop (length chunk) at w)

-- the two ways that a chunk lands
pub land_move : (w chunk l : List ℕ) (start fill : ℕ) → length w - fill < length chunk → l ≡ moved_front w start fill → put_of l (fill - start) chunk ≡ land_of w chunk start fill
unfolding land_of
land_move w chunk l start fill h e = simp (lt-ltb (length w - fill) (length chunk) h, e)

pub land_stay : (w chunk : List ℕ) (start fill : ℕ) → length chunk ≤ length w - fill → put_of w fill chunk ≡ land_of w chunk start fill
unfolding land_of
land_stay w chunk start fill h = simp (le-ltb (length w - fill) (length chunk) h)

-- the same, with t the smaller of the chunk's length and the room
put_taken : (w chunk : List ℕ) (at t : ℕ) → at ≤ length w → t ≡ min (length chunk) (length w - at) → put_of w at chunk ≡ take at w ++ (take t chunk ++ drop (at + t) w)
unfolding put_of
put_taken w chunk at t h e =
    let x : min (length w - at) (length chunk) ≡ t = omega (arith, e) in
    let y : min (at + length chunk) (length w) ≡ at + t = omega (arith, e) in
    let a : take (length w - at) chunk ≡ take t chunk = sym (take_within (length w - at) chunk) ∙ ap (λ (k : ℕ). take k chunk) x in
    let b : drop (at + length chunk) w ≡ drop (at + t) w = sym (drop_within (at + length chunk) w) ∙ ap (λ (k : ℕ). drop k w) y in
    rw (a, b)

-- feed's way is the definition: the chunk's bytes put behind the kept ones, which move to the front first where they must
pub land_is : (s : Reader) (w chunk : List ℕ) → Own s (length w) → land_of w chunk s.start s.fill ≡ landed s w chunk
unfolding land_of landed moved_front
land_is s w chunk o = rw o.opened (go (moves s n) refl)
  where
    n : ℕ
    n = length chunk

    t : ℕ
    t = taken_of s n

    took : length (take t chunk) ≡ t
    took = length-take-le t chunk (omega arith)

    front : List ℕ
    front = slice s.start s.fill w

    wide : length front ≡ held_of s
    wide = length-slice s.start s.fill w (omega (arith, o.inside, o.opened))

    moved : List ℕ
    moved = front ++ drop (length front) w

    same : length moved ≡ length w
    same = length-append front (drop (length front) w) ∙ omega (arith, length-drop (length front) w, wide, o.inside, o.opened)

    behind : drop (held_of s + t) moved ≡ drop (held_of s + t) w
    behind = sym (drop-drop t (held_of s) moved) ∙ ap (drop t) (drop_at front (drop (length front) w) (held_of s) wide) ∙ drop-drop t (length front) w ∙ ap (λ (k : ℕ). drop (k + t) w) wide

    go : (b : Bool) → moves s n ≡ b → land_by w chunk s.start s.fill b ≡ landed_on (kept_by b s w) (take t chunk) w
    go true e =
        put_taken moved chunk (held_of s) t (omega (arith, same, o.inside, o.opened)) (omega (arith, same, o.opened))
        ∙ rw (take_at front (drop (length front) w) (held_of s) wide, behind, took, wide)
    go false e =
        put_taken w chunk s.fill t (omega (arith, o.inside, o.opened)) (omega (arith, ltb-false (s.window - s.fill) n e, o.opened, o.inside, o.forward))
        ∙ rw (took, length-take-le s.fill w (omega (arith, o.inside, o.opened)))

-- the window after feed, by its answer
pub fed_took : (s : Reader) (w chunk : List ℕ) (t : ℕ) → (feed_of s (length w) (length chunk)).answer ≡ Ok t → landed s w chunk ≡ fed_window s w chunk
unfolding fed_window
fed_took s w chunk t e = rw e

pub fed_refused : (s : Reader) (w chunk : List ℕ) (r : Refusal) → (feed_of s (length w) (length chunk)).answer ≡ Err r → w ≡ fed_window s w chunk
unfolding fed_window
fed_refused s w chunk r e = rw e
