-- Laws of ids, of lines of a window, and of validation.
-- Assumes nothing.
use mathlib.Core.Path.{◌≡◌, refl, sym, ap, ◌∙◌}
use mathlib.Core.Bool.{Bool, true, false, cond}
use mathlib.Core.List.{List, [], ◌∷◌}
use Prim.Native.Nat.{ℕ, suc, ◌+◌, ◌-◌, ◌<◌, ◌≤◌, min}
use native.Mathlib.Omega.{arith}
use lib.Dec.{eqb}
use lib.ListN.{length, take, drop, length-take, length-drop}
use lib.Seq.{slice, length-take-le}
use borrow.Author.Tests.{eq-eqb, ne_eqb, lt-ltb, le-ltb}
use Rattle.reading.specs.Bytes.{line_ends, SPACE, AT, PLUS, byte_at, trim_cr, ends_id, id_length}
use Rattle.reading.specs.Answer.{Five}
use Rattle.reading.specs.Reading.{head_of, seq_of, qual_of, error_id, lengths_agree, validate}
use Rattle.lines.proofs.Laws.{slice-take, slice_within, slice_past, trim_short}
use Rattle.std.specs.Prelude.{Option, Some, None, Ok, Err, ◌==◌, not, position, unwrap_or}
use Rattle.std.specs.List.{position_or_len}
use Rattle.lines.specs.Lines.{line_from}
use Rattle.lines.proofs.Laws.{line_found, line_none}
use Rattle.record.specs.declared.Span.{Span}
use Rattle.record.specs.declared.Noted.{Noted}
use Rattle.record.specs.declared.Noted.TheVariants.{Zero, One, Two, Three, Four}
use Rattle.record.specs.declared.Invalid.TheVariants.{Start, Separator, Lengths}
use Rattle.record.specs.Noted.{listed, with_end, sought, sought_by, sought_of}
use Rattle.record.specs.Check.{span, span_of, check_of}

-- ---- the search

-- a line end that is found is noted, and the search goes on behind it
pub search_on : (h : List ℕ) (n : Noted) (m e : ℕ) → length (listed n) < 4 → line_from h m ≡ Some e → sought_of h n m ≡ sought_of h (with_end n e) (e + 1)
unfolding sought_of
search_on h n m e k f = by n k where
  q : line_ends m (drop m h) ≡ e ∷ line_ends (e + 1) (drop (e + 1) h)
  q = (line_found h m e f).ends

  by : (o : Noted) → length (listed o) < 4 → sought_by h m o ≡ sought_by h (e + 1) (with_end o e)
  by Zero k = rw q refl
  by (One a) k = rw q refl
  by (Two a b) k = rw q refl
  by (Three a b c) k = rw q refl
  by (Four a b c d) k = absurd (omega (arith, k))

-- what a search finds lies before the end of the held bytes
pub search_inside : (h : List ℕ) (m e : ℕ) → line_from h m ≡ Some e → e < length h
search_inside h m e f = (line_found h m e f).inside

-- where there is no further line end, all held bytes are searched
pub search_past : (h : List ℕ) (n : Noted) (m : ℕ) → length (listed n) < 4 → line_from h m ≡ None → sought n (length h) ≡ sought_of h n m
unfolding sought_of
search_past h n m k f = by n k where
  q : line_ends m (drop m h) ≡ []
  q = line_none h m f

  by : (o : Noted) → length (listed o) < 4 → sought o (length h) ≡ sought_by h m o
  by Zero k = rw q refl
  by (One a) k = rw q refl
  by (Two a b) k = rw q refl
  by (Three a b c) k = rw q refl
  by (Four a b c d) k = absurd (omega (arith, k))

-- with four line ends noted there is nothing to search
pub search_full : (h : List ℕ) (n : Noted) (m : ℕ) → 4 ≤ length (listed n) → sought n m ≡ sought_of h n m
unfolding sought_of
search_full h Zero m k = absurd (omega (arith, k))
search_full h (One a) m k = absurd (omega (arith, k))
search_full h (Two a b) m k = absurd (omega (arith, k))
search_full h (Three a b c) m k = absurd (omega (arith, k))
search_full h (Four a b c d) m k = refl

-- one line end more is noted
pub with_more : (n : Noted) (e : ℕ) → length (listed n) < 4 → length (listed (with_end n e)) ≡ suc (length (listed n))
with_more Zero e k = refl
with_more (One a) e k = refl
with_more (Two a b) e k = refl
with_more (Three a b c) e k = refl
with_more (Four a b c d) e k = absurd (omega (arith, k))

-- ---- ids

-- the test for a space
abbrev pub is_space : ℕ → Bool
is_space b = b == SPACE

-- an id is as long as what stands before the first space
id_first : (h : List ℕ) → position_or_len is_space h ≡ id_length h
unfolding id_length
id_first [] = refl
id_first (b ∷ h) = by (eqb b SPACE) (id_first h)
  where
    by : (t : Bool) → position_or_len is_space h ≡ id_length h → cond (not t) (1 + position_or_len is_space h) 0 ≡ cond t 0 (suc (id_length h))
    by true rest = refl
    by false rest = grind (arith, rest)

-- an id is a front of the bytes
pub id_within : (h : List ℕ) → id_length h ≤ length h
unfolding id_length
id_within [] = omega arith
id_within (b ∷ h) = by (ends_id b) refl (id_within h) where
  by : (t : Bool) → ends_id b ≡ t → id_length h ≤ length h → id_length (b ∷ h) ≤ length (b ∷ h)
  by true q k = rw q (omega arith)
  by false q k = rw q (omega arith)

-- by the first place of a space: the id ends there, or with the head
pub id_at : (h : List ℕ) (r : Option ℕ) → r ≡ position is_space h → unwrap_or r (length h) ≡ id_length h
id_at h r e = rw e (grind (arith, id_first h, id_within h))

-- an id that a space ends
pub id_ended : (h : List ℕ) (r : Option ℕ) (i : ℕ) → r ≡ position is_space h → r ≡ Some i → i ≡ id_length h
id_ended h r i e k = ap (λ (x : Option ℕ). unwrap_or x (length h)) (sym k) ∙ id_at h r e

-- an id that no space ends
pub id_whole : (h : List ℕ) (r : Option ℕ) → r ≡ position is_space h → r ≡ None → length h ≡ id_length h
id_whole h r e k = ap (λ (x : Option ℕ). unwrap_or x (length h)) (sym k) ∙ id_at h r e

-- as many bytes as the id has are there
pub id_counted : (h : List ℕ) (n : ℕ) → n ≡ id_length h → n ≡ length (take n h)
id_counted h n e = sym (length-take-le n h (omega (arith, id_within h)))

-- ---- parts of a window

-- where none of the bytes is there, the line is empty
pub line_nothing : (s : List ℕ) (f t e : ℕ) → e ≡ min t (length s) → e < f → [] ≡ trim_cr (slice f t s)
unfolding trim_cr
line_nothing s f t e q h = rw (slice_past f t s (omega arith))

-- a line is the bytes of its part that are there, after `trim_cr`
pub line_part : (s : List ℕ) (f t e : ℕ) → e ≡ min t (length s) → trim_cr (take (e - f) (drop f s)) ≡ trim_cr (slice f t s)
line_part s f t e q = rw (q, ← slice-take f (min t (length s)) s, slice_within)

-- a line from f on has no more bytes than stand from f on
pub line_short : (s : List ℕ) (f t : ℕ) → length (trim_cr (slice f t s)) ≤ length s - f
line_short s f t = let h : length (slice f t s) ≤ length s - f = simp (length-drop, length-take) (omega arith) in omega (arith, trim_short (slice f t s))

-- nor has the id of a head that starts at f
pub id_short : (s h : List ℕ) (f t n : ℕ) → h ≡ trim_cr (slice f t s) → n ≡ id_length h → n ≤ length s - f
id_short s h f t n e q = let k : length h ≤ length s - f = rw e (line_short s f t) in omega (arith, id_within h)

-- ---- the id of an error, by the length d of its first line

module _ (B : List ℕ) (p seq d : ℕ) (e : d ≡ seq - p) where
  -- a first line that is no longer than its LF has no id
  pub error_absent : d ≤ 1 → None ≡ span_of (error_id B p seq)
  unfolding error_id
  error_absent h = simp (le-ltb (p + 1) seq (omega arith))

  -- the id of a longer one starts after its `@`
  pub error_range : (h : List ℕ) (n : ℕ) → 1 < d → h ≡ trim_cr (slice (p + 1) (seq - 1) B) → n ≡ id_length h
      → Some (span (p + 1) (p + 1 + n)) ≡ span_of (error_id B p seq)
  unfolding error_id head_of
  error_range h n k q z = simp (z, q, lt-ltb (p + 1) seq (omega arith))

-- ---- validation: one law for each way out, by what its parts answered

module _ (B : List ℕ) (r : Five) (b : ℕ) (e : b ≡ byte_at B r.start) where
  -- another first byte than `@` is told
  pub check_start : (b ≡ AT → ⊥) → Err (Start b) ≡ check_of (validate B r)
  unfolding validate
  check_start h = rw e (simp (ne_eqb _ _ (λ z. h (e ∙ z))))

  module _ (g : b ≡ AT) (c : ℕ) (f : c ≡ byte_at B r.sep) where
    -- another separator than `+` is told, with the id
    pub check_plus : (c ≡ PLUS → ⊥) → (i : Option Span) → i ≡ span_of (error_id B r.start r.seq) → Err (Separator c i) ≡ check_of (validate B r)
    unfolding validate
    check_plus h i k = rw (f, k) (simp (eq-eqb _ _ (sym e ∙ g), ne_eqb _ _ (λ z. h (f ∙ z))))

    -- lengths that agree are the last test
    pub check_good : c ≡ PLUS → (t : Bool) → t ≡ lengths_agree B r → t ≡ true → Ok tt ≡ check_of (validate B r)
    unfolding validate
    check_good h t a z = simp (eq-eqb _ _ (sym e ∙ g), eq-eqb _ _ (sym f ∙ h), sym a ∙ z)

    -- lengths that do not agree are told after `trim_cr`, with the id
    pub check_lengths : c ≡ PLUS → (t : Bool) → t ≡ lengths_agree B r → t ≡ false
        → (m : ℕ) → m ≡ r.sep - 1 → (s q : List ℕ) → s ≡ trim_cr (slice r.seq m B) → q ≡ trim_cr (slice r.qual r.end B)
        → (i : Option Span) → i ≡ span_of (error_id B r.start r.seq) → Err (Lengths (length s) (length q) i) ≡ check_of (validate B r)
    unfolding validate seq_of qual_of
    check_lengths h t a z m l s q x y i k = rw (x, y, k, l) (simp (eq-eqb _ _ (sym e ∙ g), eq-eqb _ _ (sym f ∙ h), sym a ∙ z))
