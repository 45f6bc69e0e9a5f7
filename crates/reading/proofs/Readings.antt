-- Laws of the whole reading: its steps are enough, it ends, how many answers it has, and its first n answers.
-- Assumes nothing.
use Prim.Native.Nat.{ℕ, zero, suc, ◌+◌, ◌-◌, ◌≤◌, ◌<◌}
use native.Mathlib.Omega.{arith}
use native.Mathlib.Numerals.{add-one}
use native.Mathlib.Nat.{suc-add}
use mathlib.Core.Path.{◌≡◌, refl, sym, ap}
use mathlib.Core.Bool.{Bool, true, false}
use mathlib.Core.List.{List, [], ◌∷◌}
use lib.ListN.{length, take}
use Rattle.reading.specs.Answer.{Five, found, ended, Told, told}
use Rattle.reading.specs.Reading.{Verdict, good, bad_start, bad_separator, bad_lengths, judged, record_of, validate, complete, tail_by, tail_rule, seen, Step, onward, unended, closing, step_at, follow, read_for, reading, first, padded, ends}
use Rattle.reading.specs.Lists.{is_found, Closed, last, more}
use Rattle.reading.specs.Bytes.{pieces, all_blank}
use lib.Dec.{eqb}
use lib.ListN.{get_or}
use Rattle.reading.proofs.Steps.{Rule, four, full, tail, rule_at, step_four, step_full, step_tail, step_onward, step_unended}

-- two ways to go on that agree at a step's next start give the same answers
pub follow_agree : (k j : ℕ → ℕ → List Told) (p L : ℕ) (s : Step) → ((r : Five) → s ≡ onward r → k (r.end + 1) (L + 4) ≡ j (r.end + 1) (L + 4)) → follow k p L s ≡ follow j p L s
follow_agree k j p L (onward r) h = rw (h r refl)
follow_agree k j p L (unended r) h = refl
follow_agree k j p L (closing a) h = refl

-- with more steps than there are bytes left, the number of steps doesn't matter
pub read_for_enough : (n m : ℕ) (B : List ℕ) (W p L : ℕ) → length B - p < n → length B - p < m → read_for n B W p L ≡ read_for m B W p L
unfolding read_for
read_for_enough zero m B W p L h k = absurd (omega arith)
read_for_enough (suc n) zero B W p L h k = absurd (omega arith)
read_for_enough (suc n) (suc m) B W p L h k =
    follow_agree (read_for n B W) (read_for m B W) p L (step_at B W p L)
    (λ r e.
    let g = step_onward B W p L r e in
    read_for_enough n m B W (r.end + 1) (L + 4) (omega arith) (omega arith))

-- the reading is one step, and the reading from the next start
pub reading_is : (B : List ℕ) (W p L : ℕ) → reading B W p L ≡ follow (λ q M. reading B W q M) p L (step_at B W p L)
unfolding reading read_for
reading_is B W p L =
    rw (add-one (length B))
    (follow_agree (read_for (length B) B W) (read_for (suc (length B)) B W) p L (step_at B W p L)
    (λ r e.
    let g = step_onward B W p L r e in
    read_for_enough (length B) (suc (length B)) B W (r.end + 1) (L + 4) (omega arith) (omega arith)))

-- ---- an induction over the reading: what holds of a last step, and of a step if it holds from the next start on, holds of every reading

module _ (B : List ℕ) (W : ℕ) (P : ℕ → ℕ → Type 0) (turn : (p L : ℕ) → ((r : Five) → step_at B W p L ≡ onward r → P (r.end + 1) (L + 4)) → P p L) where
  by_steps : (n p L : ℕ) → length B - p < n → P p L
  by_steps zero p L h = absurd (omega arith)
  by_steps (suc n) p L h = turn p L (λ r e. let g = step_onward B W p L r e in by_steps n (r.end + 1) (L + 4) (omega arith))

  pub reading_induction : (p L : ℕ) → P p L
  reading_induction p L = by_steps (length B + 1) p L (omega arith)

-- ---- the reading ends

-- an answer that closes a step is no record
abbrev pub ClosesWell : Step → Type 0
ClosesWell (onward r) = Unit {0}
ClosesWell (unended r) = Unit {0}
ClosesWell (closing a) = is_found a ≡ false

judged_closes : (L : ℕ) (s : Step) (v : Verdict) → ClosesWell s → ClosesWell (judged L s v)
judged_closes L s good c = c
judged_closes L s (bad_start b) c = refl
judged_closes L s (bad_separator b i) c = refl
judged_closes L s (bad_lengths n m i) c = refl

pub step_closes : (B : List ℕ) (W p L : ℕ) → ClosesWell (step_at B W p L)
unfolding complete tail_rule
step_closes B W p L = go (rule_at B W p)
  where
    es : List ℕ
    es = seen B W p

    by : (t u : Bool) → ClosesWell (tail_by B p L es t u)
    by true u = judged_closes L (unended (record_of p es (length B))) (validate B (record_of p es (length B))) tt
    by false true = refl
    by false false = refl

    go : Rule B W p → ClosesWell (step_at B W p L)
    go (four h) = rw (step_four B W p L h) (judged_closes L (onward (record_of p es (get_or es 3 0))) (validate B (record_of p es (get_or es 3 0))) tt)
    go (full h k) = rw (step_full B W p L h k) refl
    go (tail h k) = rw (step_tail B W p L h k) (by (eqb (length es) 3) (all_blank (pieces B p es)))

-- THE READING ENDS: its answers are records, and then exactly one that is none, which closes it
pub reading_closes : (B : List ℕ) (W p L : ℕ) → Closed (reading B W p L)
reading_closes B W p L = reading_induction B W (λ q M. Closed (reading B W q M)) turn p L
  where
    turn : (q M : ℕ) → ((r : Five) → step_at B W q M ≡ onward r → Closed (reading B W (r.end + 1) (M + 4))) → Closed (reading B W q M)
    turn q M ih = rw (reading_is B W q M) (go (step_at B W q M) (step_closes B W q M) ih)
      where
        go : (s : Step) → ClosesWell s → ((r : Five) → s ≡ onward r → Closed (reading B W (r.end + 1) (M + 4))) → Closed (follow (λ a b. reading B W a b) q M s)
        go (onward r) c ih = more (told M q (found r)) refl (ih r refl)
        go (unended r) c ih = more (told M q (found r)) refl (last (told M q ended) refl)
        go (closing a) c ih = last (told M q a) c

-- AT MOST n + 1 ANSWERS: a reading of n bytes has at most n + 1 answers; after them only Ends follow
pub reading_short : (B : List ℕ) (W p L : ℕ) → length (reading B W p L) ≤ length B - p + 1
reading_short B W p L = reading_induction B W (λ q M. length (reading B W q M) ≤ length B - q + 1) turn p L
  where
    turn : (q M : ℕ) → ((r : Five) → step_at B W q M ≡ onward r → length (reading B W (r.end + 1) (M + 4)) ≤ length B - (r.end + 1) + 1) → length (reading B W q M) ≤ length B - q + 1
    turn q M ih = rw (reading_is B W q M) (go (step_at B W q M) refl)
      where
        go : (s : Step) → step_at B W q M ≡ s → length (follow (λ a b. reading B W a b) q M s) ≤ length B - q + 1
        go (onward r) e = let g = step_onward B W q M r e in omega (arith, ih r e)
        go (unended r) e = let g = step_unended B W q M r e in omega arith
        go (closing a) e = omega arith

-- ---- the first n answers

-- a reading has an answer
pub record Answers (ts : List Told) : Type 0 where
  pub head : Told
  pub others : List Told
  pub are : ts ≡ head ∷ others

pub reading_answers : (B : List ℕ) (W p L : ℕ) → Answers (reading B W p L)
reading_answers B W p L = go (reading B W p L) (reading_closes B W p L)
  where
    go : (ts : List Told) → Closed ts → Answers ts
    go _ (last t e) = record { head = t; others = []; are = refl }
    go _ (more t {ts = ts} e c) = record { head = t; others = ts; are = refl }

pub padded-cons : (n : ℕ) (t : Told) (ts : List Told) → Answers ts → padded (suc n) (t ∷ ts) ≡ t ∷ padded n ts
unfolding padded
padded-cons n t ts a = rw a.are

pub ends_padded : (n L p : ℕ) → padded n (told L p ended ∷ []) ≡ ends n L p
unfolding padded
ends_padded zero L p = refl
ends_padded (suc n) L p = refl

-- a step's answer, and the n that come after it
abbrev pub first_by : (ℕ → ℕ → List Told) → ℕ → ℕ → ℕ → Step → List Told
first_by k n p L (onward r) = told L p (found r) ∷ k (r.end + 1) (L + 4)
first_by k n p L (unended r) = told L p (found r) ∷ ends n L p
first_by k n p L (closing a) = told L p a ∷ ends n L p

pub first_zero : (B : List ℕ) (W p L : ℕ) → first zero B W p L ≡ []
unfolding first padded
first_zero B W p L = refl

-- the first n + 1 answers are a step's, and the first n from the next start
pub first_suc : (n : ℕ) (B : List ℕ) (W p L : ℕ) → first (suc n) B W p L ≡ first_by (λ q M. first n B W q M) n p L (step_at B W p L)
unfolding first padded
first_suc n B W p L = rw (reading_is B W p L) (go (step_at B W p L))
  where
    go : (s : Step) → padded (suc n) (follow (λ q M. reading B W q M) p L s) ≡ first_by (λ q M. padded n (reading B W q M)) n p L s
    go (onward r) = padded-cons n (told L p (found r)) (reading B W (r.end + 1) (L + 4)) (reading_answers B W (r.end + 1) (L + 4))
    go (unended r) = ap (λ (l : List Told). told L p (found r) ∷ l) (ends_padded n L p)
    go (closing a) = refl

pub ends-length : (n L p : ℕ) → length (ends n L p) ≡ n
ends-length zero L p = refl
ends-length (suc n) L p = ap suc (ends-length n L p)

-- the first n answers are n
pub first-length : (n : ℕ) (B : List ℕ) (W p L : ℕ) → length (first n B W p L) ≡ n
first-length zero B W p L = rw (first_zero B W p L)
first-length (suc n) B W p L = rw (first_suc n B W p L) (go (step_at B W p L) (λ q M. first-length n B W q M))
  where
    go : (s : Step) → ((q M : ℕ) → length (first n B W q M) ≡ n) → length (first_by (λ q M. first n B W q M) n p L s) ≡ suc n
    go (onward r) ih = ap suc (ih (r.end + 1) (L + 4))
    go (unended r) ih = ap suc (ends-length n L p)
    go (closing a) ih = ap suc (ends-length n L p)

ends_front : (n k L p : ℕ) → take n (ends (n + k) L p) ≡ ends n L p
ends_front zero k L p = refl
ends_front (suc n) k L p = rw suc-add (ap (λ (l : List Told). told L p ended ∷ l) (ends_front n k L p))

-- fewer answers of a reading are the front of more of them
pub first_front : (n k : ℕ) (B : List ℕ) (W p L : ℕ) → take n (first (n + k) B W p L) ≡ first n B W p L
first_front zero k B W p L = sym (first_zero B W p L)
first_front (suc n) k B W p L =
    rw (suc-add, first_suc (n + k) B W p L, first_suc n B W p L) (go (step_at B W p L) (λ q M. first_front n k B W q M))
  where
    go : (s : Step) → ((q M : ℕ) → take n (first (n + k) B W q M) ≡ first n B W q M)
        → take (suc n) (first_by (λ q M. first (n + k) B W q M) (n + k) p L s) ≡ first_by (λ q M. first n B W q M) n p L s
    go (onward r) ih = ap (λ (l : List Told). told L p (found r) ∷ l) (ih (r.end + 1) (L + 4))
    go (unended r) ih = ap (λ (l : List Told). told L p (found r) ∷ l) (ends_front n k L p)
    go (closing a) ih = ap (λ (l : List Told). told L p a ∷ l) (ends_front n k L p)
