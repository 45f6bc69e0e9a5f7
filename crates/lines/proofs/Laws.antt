-- Laws of the line search, of `trim_cr`, and of parts of a list.
-- Assumes nothing.
use mathlib.Core.Path.{◌≡◌, refl, sym, ap, ◌∙◌}
use mathlib.Core.Bool.{Bool, true, false, cond}
use mathlib.Core.List.{List, [], ◌∷◌}
use Prim.Native.Nat.{ℕ, zero, suc, ◌+◌, ◌-◌, ◌<◌, ◌≤◌, min}
use native.Mathlib.Numerals.{add-one, unary_clauses}
use native.Mathlib.Nat.{zero-sub}
use native.Mathlib.Omega.{arith}
use lib.Dec.{eqb}
use lib.ListN.{length, get_or, take, drop, drop_of_length-le, length-take, length-drop}
use lib.Seq.{take_all, drop-drop, drop-nil, take-nil, slice}
use borrow.Author.Tests.{eq-eqb, ne_eqb}
use Rattle.reading.specs.Bytes.{LF, CR, byte_at, keep, line_ends, trim_cr}
use Rattle.std.specs.Prelude.{Option, Some, None, ◌==◌, nat_lt, not, option_map, position}
use Rattle.std.specs.List.{position_or_len}
use Rattle.lines.specs.Lines.{first_of, line_from}

-- ---- line ends

-- past the end there are no line ends
pub ends_past : (s : List ℕ) (i : ℕ) → length s ≤ i → line_ends i (drop i s) ≡ []
unfolding line_ends
ends_past s i h = rw drop_of_length-le

-- ---- the line search

-- the test for LF
abbrev pub is_line_end : ℕ → Bool
is_line_end b = b == LF

-- the first line end of l, whose first byte has offset o, is so far on
first_end : (o : ℕ) (l : List ℕ) → first_of (line_ends o l) ≡ option_map (λ i. o + i) (position is_line_end l)
unfolding line_ends
first_end o [] = refl
first_end o (b ∷ l) = by (eqb b LF) (first_end (suc o) l)
  where
    by : (t : Bool) → first_of (line_ends (suc o) l) ≡ option_map (λ i. suc o + i) (position is_line_end l)
        → first_of (keep t o (line_ends (suc o) l)) ≡ option_map (λ i. o + i) (cond (nat_lt (cond (not t) (1 + position_or_len is_line_end l) 0) (suc (length l))) (Some (cond (not t) (1 + position_or_len is_line_end l) 0)) None)
    by true rest = grind arith
    by false rest = grind (arith, rest)

-- a search finds what is found in the part from its start on, counted from there: r is the first place of an LF in that part
pub line_in : (s : List ℕ) (from : ℕ) (part : List ℕ) → part ≡ take (length s - from) (drop from s) → (r : Option ℕ) → r ≡ position is_line_end part
    → option_map (λ i. from + i) r ≡ line_from s from
unfolding line_from
line_in s from part e r q = rw (q, e, take_all (length s - from) (drop from s) (simp length-drop (omega arith))) (sym (first_end from (drop from s)))

-- a search that starts past the end finds nothing
pub line_past : (s : List ℕ) (i : ℕ) → length s ≤ i → line_from s i ≡ None
unfolding line_from
line_past s i h = ap first_of (ends_past s i h)

-- i is the first line end of s at or after `from`
pub record Next (s : List ℕ) (from i : ℕ) : Type 0 where
  pub behind : from ≤ i
  pub inside : i < length s
  pub ends : line_ends from (drop from s) ≡ i ∷ line_ends (i + 1) (drop (i + 1) s)

-- the same of bytes the first of which has offset o: i is k bytes on
record Ahead (o : ℕ) (l : List ℕ) (i k : ℕ) : Type 0 where
  far : i ≡ o + k
  inside : k < length l
  ends : line_ends o l ≡ i ∷ line_ends (suc i) (drop (suc k) l)

-- the first of the line ends is so far ahead
ahead : (o : ℕ) (l : List ℕ) (i : ℕ) → first_of (line_ends o l) ≡ Some i → (k : ℕ) × Ahead o l i k
unfolding line_ends
ahead o [] i e = let z : ◌≡◌ {A = ℕ} 0 1 = cc in absurd (omega arith)
ahead o (b ∷ l) i e = by (eqb b LF) refl e (λ g. ahead (suc o) l i g) where
  by : (t : Bool) → eqb b LF ≡ t → first_of (keep t o (line_ends (suc o) l)) ≡ Some i → (first_of (line_ends (suc o) l) ≡ Some i → (k : ℕ) × Ahead (suc o) l i k)
      → (k : ℕ) × Ahead o (b ∷ l) i k
  by true q e f = let z : o ≡ i = cc in (0, record { far = omega arith; inside = omega arith; ends = rw (q, z) })
  by false q e f = let a = f e in (suc a.0, record { far = omega arith; inside = omega arith; ends = rw q a.1.ends })

-- what a search finds is the first line end, and the others follow it
pub line_found : (s : List ℕ) (from i : ℕ) → line_from s from ≡ Some i → Next s from i
unfolding line_from
line_found s from i e =
    let a = ahead from (drop from s) i e in
    let q : from + suc a.0 ≡ i + 1 = omega (arith, a.1.far) in
    record {
      behind = omega (arith, a.1.far);
      inside = omega (arith, a.1.far, a.1.inside, length-drop from s);
      ends = a.1.ends ∙ rw (drop-drop, q, add-one);
    }

-- a search that finds nothing has no line end ahead
pub line_none : (s : List ℕ) (from : ℕ) → line_from s from ≡ None → line_ends from (drop from s) ≡ []
unfolding line_from
line_none s from e = none (line_ends from (drop from s)) e where
  none : (es : List ℕ) → first_of es ≡ None → es ≡ []
  none [] e = refl
  none (x ∷ es) e = let z : ◌≡◌ {A = ℕ} 0 1 = cc in absurd (omega arith)

-- ---- `trim_cr`

-- without a final carriage return all stays
pub trim_whole : (s : List ℕ) → (byte_at s (length s - 1) ≡ CR → ⊥) → s ≡ trim_cr s
unfolding trim_cr
trim_whole s h = simp (ne_eqb (get_or s (length s - 1) 0) 13 h)

-- a final carriage return is taken off
pub trim_cr_lem : (s : List ℕ) → byte_at s (length s - 1) ≡ CR → take (length s - 1) s ≡ trim_cr s
unfolding trim_cr
trim_cr_lem s h = simp (eq-eqb (get_or s (length s - 1) 0) 13 h)

-- no bytes stay no bytes
pub trim_none : (s : List ℕ) → length s ≤ 0 → s ≡ trim_cr s
unfolding trim_cr
trim_none [] h = refl
trim_none (x ∷ s) h = absurd (omega (arith, h))

-- no byte is added
pub trim_short : (s : List ℕ) → length (trim_cr s) ≤ length s
unfolding trim_cr
trim_short s = by (eqb (byte_at s (length s - 1)) CR) where
  by : (t : Bool) → length (cond t (take (length s - 1) s) s) ≤ length s
  by true = simp length-take (omega arith)
  by false = omega arith

-- ---- parts of a list

-- the bytes from f up to t are the first t - f of those from f on
pub slice-take : (f t : ℕ) (l : List ℕ) → slice f t l ≡ take (t - f) (drop f l)
slice-take zero t l = simp unary_clauses
slice-take (suc f) zero l = rw zero-sub
slice-take (suc f) (suc t) [] = sym (take-nil (suc t - suc f))
slice-take (suc f) (suc t) (x ∷ l) = simp unary_clauses (slice-take f t l)

-- taking more than there is takes all
pub take_within : (n : ℕ) (l : List ℕ) → take (min n (length l)) l ≡ take n l
take_within zero l = simp unary_clauses
take_within (suc n) [] = take-nil (min (suc n) 0)
take_within (suc n) (x ∷ l) = simp unary_clauses (ap (λ (r : List ℕ). x ∷ r) (take_within n l))

-- dropping more than there is drops all
pub drop_within : (n : ℕ) (l : List ℕ) → drop (min n (length l)) l ≡ drop n l
drop_within zero l = simp unary_clauses
drop_within (suc n) [] = drop-nil (min (suc n) 0)
drop_within (suc n) (x ∷ l) = simp unary_clauses (drop_within n l)

-- a part that would end past the list ends with it
pub slice_within : (f t : ℕ) (l : List ℕ) → slice f (min t (length l)) l ≡ slice f t l
slice_within f t l = ap (λ (r : List ℕ). drop f r) (take_within t l)

-- no bytes stand from past the end on
pub slice_past : (f t : ℕ) (l : List ℕ) → min t (length l) ≤ f → slice f t l ≡ []
slice_past f t l h = drop_of_length-le (take t l) {i = f} (simp length-take h)
