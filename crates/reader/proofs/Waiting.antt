-- Requests for input: when next asks for more, what the state then is, and when the state waits.
-- Assumes nothing.
use Prim.Native.Nat.{ℕ, ◌≤◌, ◌<◌}
use native.Mathlib.Omega.{arith}
use mathlib.Core.Path.{◌≡◌, refl, ap, ◌∙◌}
use mathlib.Core.Bool.{Bool, true, false, ◌||◌}
use mathlib.Core.Logic.{◌↔◌}
use mathlib.Core.List.{List, [], ◌∷◌}
use lib.ListN.{length, take, length-drop}
use lib.Seq.{length-take-le}
use lib.Dec.{leb}
use borrow.Author.Tests.{leb-false}
use Rattle.reading.specs.Answer as told
use Rattle.reading.specs.Reading.{Step, onward, unended, closing, step_with, rest}
use Rattle.record.specs.declared.Noted.{Noted}
use Rattle.record.specs.declared.Noted.TheVariants.{Zero, One, Two, Three, Four}
use Rattle.record.specs.Noted.{listed, after, gathered, sought_of}
use Rattle.reader.specs.declared.Byte.{Byte}
use Rattle.reader.specs.declared.Reader.{Reader}
use Rattle.std.specs.Prelude.{Ok}
use Rattle.reader.specs.declared.Answer.TheVariants.{More}
use Rattle.reader.specs.State.{own, Own}
use Rattle.reader.specs.Waiting.{settles_now, Wants}
use Rattle.reader.specs.Next.{answer_of, settled_by, decided_by, decided_of, onward_by, onward_of, searched_of, seeking_of, next_by, next_of}
use Rattle.reader.proofs.Owning.{own_true}

-- an answer of a step is no request
never_more : (b : Byte) (a : told.Answer) → answer_of b a ≡ More → ⊥
never_more b (told.found r) e = let z : ◌≡◌ {A = ℕ} 0 1 = cc in omega arith
never_more b (told.window_limit L p) e = let z : ◌≡◌ {A = ℕ} 0 1 = cc in omega arith
never_more b (told.invalid_start x L) e = let z : ◌≡◌ {A = ℕ} 0 1 = cc in omega arith
never_more b (told.invalid_separator x L i) e = let z : ◌≡◌ {A = ℕ} 0 1 = cc in omega arith
never_more b (told.unequal_lengths n m L i) e = let z : ◌≡◌ {A = ℕ} 0 1 = cc in omega arith
never_more b (told.unexpected_end L i) e = let z : ◌≡◌ {A = ℕ} 0 1 = cc in omega arith
never_more b told.ended e = let z : ◌≡◌ {A = ℕ} 0 1 = cc in omega arith

settled_more : (b : Byte) (t : Step) → (settled_by b t).answer ≡ More → ⊥
settled_more b (onward r) e = never_more b (told.found r) e
settled_more b (unended r) e = never_more b (told.found r) e
settled_more b (closing a) e = never_more b a e

decided_more : (H : List ℕ) (W p L : ℕ) (b : Byte) (es : List ℕ) (t : Bool) → (decided_by H W p L b es t).answer ≡ More → t ≡ false
decided_more H W p L b es true e = absurd (settled_more b (step_with H W p L es) e)
decided_more H W p L b es false e = refl

decided_asks : (H : List ℕ) (W p L : ℕ) (b : Byte) (es : List ℕ) (t : Bool) → t ≡ false → (decided_by H W p L b es t).answer ≡ More
decided_asks H W p L b es true e = let z : ◌≡◌ {A = ℕ} 0 1 = cc in absurd (omega arith)
decided_asks H W p L b es false e = refl

seeking_more : (s : Reader) (w : List ℕ) → ((seeking_of s w).answer ≡ Ok More) ↔ (settles_now s w ≡ false)
unfolding seeking_of decided_of
seeking_more s w = (
  λ e. decided_more (take s.fill w) s.window s.start s.line.0 s.byte (listed (searched_of s w).noted) (settles_now s w) cc,
  λ e. ap Ok (decided_asks (take s.fill w) s.window s.start s.line.0 s.byte (listed (searched_of s w).noted) (settles_now s w) e),
)

-- MORE INPUT IS WANTED EXACTLY IF the reading is open, the record isn't complete, the end isn't noted and fewer than W bytes are held from the sought start
pub more_exactly : (s : Reader) (w : List ℕ) → own s (length w) ≡ true → ((next_of s w).answer ≡ Ok More) ↔ ((s.closed ≡ false) × (settles_now (onward_of s) w ≡ false))
unfolding next_of
more_exactly s w o = rw o (go s.closed)
  where
    go : (c : Bool) → ((next_by s w true c).answer ≡ Ok More) ↔ ((c ≡ false) × (settles_now (onward_of s) w ≡ false))
    go true = (λ e. let z : ◌≡◌ {A = ℕ} 0 1 = cc in absurd (omega arith), λ e. let z : ◌≡◌ {A = ℕ} 0 1 = cc e.0 in absurd (omega arith))
    go false = (λ e. (refl, (seeking_more (onward_of s) w).0 e), λ e. (seeking_more (onward_of s) w).1 e.1)

or_fails : (a b : Bool) → (a || b) ≡ false → (a ≡ false) × (b ≡ false)
or_fails true b e = let z : ◌≡◌ {A = ℕ} 0 1 = cc in absurd (omega arith)
or_fails false b e = (refl, e)

decided_waits : (H : List ℕ) (W p L : ℕ) (b : Byte) (es : List ℕ) (t : Bool) → t ≡ false → (decided_by H W p L b es t).waiting ≡ true
decided_waits H W p L b es true e = let z : ◌≡◌ {A = ℕ} 0 1 = cc in absurd (omega arith)
decided_waits H W p L b es false e = refl

-- where fewer than four line ends are noted after a search, all bytes are searched
gathered_all : (n : ℕ) (es : List ℕ) → length (listed (gathered n es).noted) < 4 → (gathered n es).mark ≡ n
gathered_all n [] h = refl
gathered_all n (a ∷ []) h = refl
gathered_all n (a ∷ b ∷ []) h = refl
gathered_all n (a ∷ b ∷ c ∷ []) h = refl
gathered_all n (a ∷ b ∷ c ∷ d ∷ es) h = absurd (omega arith)

sought_all : (H : List ℕ) (e : Noted) (m : ℕ) → length (listed e) < 4 → length (listed (sought_of H e m).noted) < 4 → (sought_of H e m).mark ≡ length H
unfolding sought_of
sought_all H Zero m h k = gathered_all (length H) (after H m) k
sought_all H (One a) m h k = gathered_all (length H) (a ∷ after H m) k
sought_all H (Two a b) m h k = gathered_all (length H) (a ∷ b ∷ after H m) k
sought_all H (Three a b c) m h k = gathered_all (length H) (a ∷ b ∷ c ∷ after H m) k
sought_all H (Four a b c d) m h k = absurd (omega arith)

seeking_wants : (s : Reader) (w : List ℕ) → s.fill ≤ length w → length (listed s.noted) < 4 → (seeking_of s w).answer ≡ Ok More → Wants (seeking_of s w).state
unfolding seeking_of decided_of
seeking_wants s w fits few e =
    let H : List ℕ = take s.fill w in
    let es : List ℕ = listed (searched_of s w).noted in
    let d = (seeking_more s w).0 e in
    let f = or_fails (leb 4 (length es)) (leb s.window (length (rest H s.start)) || s.ended) d in
    let k = or_fails (leb s.window (length (rest H s.start))) s.ended f.1 in
    record {
      waits = decided_waits H s.window s.start s.line.0 s.byte es (settles_now s w) d;
      goes_on = k.1;
      room = omega (arith, leb-false s.window (length (rest H s.start)) k.0, length-drop s.start H, length-take-le s.fill w fits);
      all_searched = sought_all H s.noted s.mark few (leb-false 4 (length es) f.0) ∙ length-take-le s.fill w fits;
    }

-- AFTER A REQUEST the state waits, the end is not noted, there is room for at least one byte, and every held byte is searched
pub next_wants : (s : Reader) (w : List ℕ) → Own s (length w) → (next_of s w).answer ≡ Ok More → Wants (next_of s w).state
unfolding next_of
next_wants s w o = rw (own_true s (length w) o) (go s.closed)
  where
    fill_is : (e : Noted) → (onward_by s e).fill ≡ s.fill
    fill_is Zero = refl
    fill_is (One a) = refl
    fill_is (Two a b) = refl
    fill_is (Three a b c) = refl
    fill_is (Four a b c d) = refl

    few : (e : Noted) → s.noted ≡ e → length (listed (onward_by s e).noted) < 4
    few Zero q = rw q (omega arith)
    few (One a) q = rw q (omega arith)
    few (Two a b) q = rw q (omega arith)
    few (Three a b c) q = rw q (omega arith)
    few (Four a b c d) q = omega arith

    go : (c : Bool) → (next_by s w true c).answer ≡ Ok More → Wants (next_by s w true c).state
    go true e = let z : ◌≡◌ {A = ℕ} 0 1 = cc in absurd (omega arith)
    go false e = seeking_wants (onward_of s) w (omega (arith, fill_is s.noted, o.inside, o.opened)) (few s.noted refl) e

-- AFTER THE END IS NOTED next never asks for input
pub ended_answers : (s : Reader) (w : List ℕ) → Own s (length w) → s.ended ≡ true → (next_of s w).answer ≡ Ok More → ⊥
ended_answers s w o e f =
    let d = ((more_exactly s w (own_true s (length w) o)).0 f).1 in
    let k = or_fails (leb 4 (length (listed (searched_of (onward_of s) w).noted))) (leb (onward_of s).window (length (rest (take (onward_of s).fill w) (onward_of s).start)) || (onward_of s).ended) d in
    let m = or_fails (leb (onward_of s).window (length (rest (take (onward_of s).fill w) (onward_of s).start))) (onward_of s).ended k.1 in
    let q = ended_is s.noted in
    let z : ◌≡◌ {A = ℕ} 0 1 = cc m.1 in
    omega arith
  where
    ended_is : (n : Noted) → (onward_by s n).ended ≡ s.ended
    ended_is Zero = refl
    ended_is (One a) = refl
    ended_is (Two a b) = refl
    ended_is (Three a b c) = refl
    ended_is (Four a b c d) = refl
