-- A reading that starts k bytes further on is the reading of the bytes from k on, shifted by k.
-- Assumes nothing.
use Prim.Native.Nat.{ℕ, zero, suc, ◌+◌, ◌-◌, ◌≤◌, ◌<◌}
use native.Mathlib.Omega.{arith}
use native.Mathlib.Nat.{zero-add, suc-add, add_assoc, add-zero}
use native.Mathlib.Decide.{dec_le}
use mathlib.Core.Path.{◌≡◌, refl, sym, ap, ◌∙◌}
use mathlib.Core.Bool.{Bool, true, false, cond}
use mathlib.Core.List.{List, [], ◌∷◌, map}
use lib.ListN.{length, get_or, take, drop, length-map, length-take, length-drop}
use lib.Seq.{slice, take-nil, drop-drop, get_or-drop}
use lib.Dec.{leb, eqb, ltb}
use borrow.Author.Tests.{leb-true, eqb-true, ltb-true, ltb-false, lt-ltb, le-ltb}
use Rattle.reading.specs.Bytes.{byte_at, id_length, pieces, all_blank}
use Rattle.reading.specs.Answer.{Five, absent, range}
use Rattle.reading.specs.Reading.{Verdict, good, bad_start, bad_separator, bad_lengths, Step, onward, unended, closing, judged, rest, seen, record_of, validate, verdict, starts_well, has_plus, lengths_agree, complete, tail_rule, tail_by, end_id, step_by, step_at, error_id, head_of, seq_of, qual_of, follow, reading}
use Rattle.reading.specs.Shift.{shift_five, shift_id, shift, shift_told}
use Rattle.reading.proofs.Lines.{line_ends-shift, line_ends-length}
use Rattle.reading.proofs.Readings.{reading_is, reading_induction}

pub drop-take : (k b : ℕ) (l : List ℕ) → drop k (take (k + b) l) ≡ take b (drop k l)
drop-take zero b l = rw zero-add
drop-take (suc k) b [] = rw (take-nil (suc k + b), take-nil b)
drop-take (suc k) b (x ∷ l) = rw suc-add (drop-take k b l)

pub slice-shift : (k a b : ℕ) (B : List ℕ) → slice (k + a) (k + b) B ≡ slice a b (drop k B)
slice-shift k a b B = sym (drop-drop a k (take (k + b) B)) ∙ ap (drop a) (drop-take k b B)

get_or_later : (k : ℕ) (es : List ℕ) (i : ℕ) → i < length es → get_or (map (λ e. k + e) es) i 0 ≡ k + get_or es i 0
get_or_later k [] i h = absurd (omega arith)
get_or_later k (e ∷ es) zero h = refl
get_or_later k (e ∷ es) (suc i) h = get_or_later k es i (omega arith)

-- tests of facts that follow from one another agree
ltb_same : (a b c d : ℕ) → (a < b → c < d) → (c < d → a < b) → ltb a b ≡ ltb c d
ltb_same a b c d f g = go (ltb c d) refl
  where
    go : (t : Bool) → ltb c d ≡ t → ltb a b ≡ t
    go true e = lt-ltb a b (g (ltb-true c d e))
    go false e = le-ltb a b (by (dec_le (suc a) b))
      where
        by : Dec (a < b) → b ≤ a
        by (yes h) = let k = f h in let j = ltb-false c d e in absurd (omega arith)
        by (no h) = omega arith

abbrev shift_verdict : ℕ → Verdict → Verdict
shift_verdict k good = good
shift_verdict k (bad_start b) = bad_start b
shift_verdict k (bad_separator b i) = bad_separator b (shift_id k i)
shift_verdict k (bad_lengths n m i) = bad_lengths n m (shift_id k i)

abbrev pub shift_step : ℕ → Step → Step
shift_step k (onward r) = onward (shift_five k r)
shift_step k (unended r) = unended (shift_five k r)
shift_step k (closing a) = closing (shift k a)

judged-shift : (k L : ℕ) (s : Step) (v : Verdict) → judged L (shift_step k s) (shift_verdict k v) ≡ shift_step k (judged L s v)
judged-shift k L s good = refl
judged-shift k L s (bad_start b) = refl
judged-shift k L s (bad_separator b i) = refl
judged-shift k L s (bad_lengths n m i) = refl

module _ (B : List ℕ) (k : ℕ) where
  pub head_shift : (p seq : ℕ) → 1 ≤ seq → head_of B (k + p) (k + seq) ≡ head_of (drop k B) p seq
  unfolding head_of
  head_shift p seq h =
      let a : k + p + 1 ≡ k + (p + 1) = omega arith in
      let b : k + seq - 1 ≡ k + (seq - 1) = omega arith in
      rw (a, b, slice-shift)

  id_shift : (p seq : ℕ) → 1 ≤ seq → error_id B (k + p) (k + seq) ≡ shift_id k (error_id (drop k B) p seq)
  unfolding error_id
  id_shift p seq h =
      let a : k + p + 1 ≡ k + (p + 1) = omega arith in
      rw (ltb_same (k + p + 1) (k + seq) (p + 1) seq (λ x. omega arith) (λ x. omega arith), head_shift p seq h, a, add_assoc k (p + 1) (id_length (head_of (drop k B) p seq)))
      (go (ltb (p + 1) seq))
    where
      go : (t : Bool) → cond t (range (k + (p + 1)) (k + (p + 1 + id_length (head_of (drop k B) p seq)))) absent ≡ shift_id k (cond t (range (p + 1) (p + 1 + id_length (head_of (drop k B) p seq))) absent)
      go true = refl
      go false = refl

  pub seq_shift : (r : Five) → 1 ≤ r.sep → seq_of B (shift_five k r) ≡ seq_of (drop k B) r
  unfolding seq_of
  seq_shift r h =
      let b : k + r.sep - 1 ≡ k + (r.sep - 1) = omega arith in
      rw (b, slice-shift)

  pub qual_shift : (r : Five) → qual_of B (shift_five k r) ≡ qual_of (drop k B) r
  unfolding qual_of
  qual_shift r = rw slice-shift

  byte-shift : (i : ℕ) → byte_at B (k + i) ≡ byte_at (drop k B) i
  byte-shift i = sym (get_or-drop k B i 0)

  lengths_shift : (r : Five) → 1 ≤ r.sep → lengths_agree B (shift_five k r) ≡ lengths_agree (drop k B) r
  unfolding lengths_agree
  lengths_shift r h =
      let a : k + r.sep - (k + r.seq) ≡ r.sep - r.seq = omega arith in
      let b : k + r.end - (k + r.qual) ≡ r.end - r.qual = omega arith in
      rw (a, b)

  validate-shift : (r : Five) → 1 ≤ r.seq → 1 ≤ r.sep → validate B (shift_five k r) ≡ shift_verdict k (validate (drop k B) r)
  unfolding validate
  validate-shift r h g =
      rw (lengths_shift r g, byte-shift r.start, byte-shift r.sep)
      (go (starts_well (drop k B) r) (has_plus (drop k B) r) (lengths_agree (drop k B) r))
    where
      i : error_id B (k + r.start) (k + r.seq) ≡ shift_id k (error_id (drop k B) r.start r.seq)
      i = id_shift r.start r.seq h

      go : (t u v : Bool) → verdict B (shift_five k r) t u v ≡ shift_verdict k (verdict (drop k B) r t u v)
      go false u v = rw (byte-shift r.start)
      go true false v = rw (byte-shift r.sep, i)
      go true true false = rw (seq_shift r g, qual_shift r, i)
      go true true true = refl

  rest-shift : (p : ℕ) → rest B (k + p) ≡ rest (drop k B) p
  rest-shift p = sym (drop-drop p k B)

  seen-shift : (W p : ℕ) → seen B W (k + p) ≡ map (λ e. k + e) (seen (drop k B) W p)
  seen-shift W p = rw (rest-shift p) (line_ends-shift k p (take W (rest (drop k B) p)))

  pieces-shift : (p : ℕ) (es : List ℕ) → pieces B (k + p) (map (λ e. k + e) es) ≡ pieces (drop k B) p es
  unfolding pieces
  pieces-shift p [] = rw (rest-shift p)
  pieces-shift p (e ∷ es) = rw (slice-shift k p e B, add_assoc k e 1, pieces-shift (e + 1) es)

  record_shift : (p : ℕ) (es : List ℕ) (end : ℕ) → 3 ≤ length es → record_of (k + p) (map (λ e. k + e) es) (k + end) ≡ shift_five k (record_of p es end)
  record_shift p es end h =
      rw (
        get_or_later k es 0 (omega arith),
        get_or_later k es 1 (omega arith),
        get_or_later k es 2 (omega arith),
        add_assoc k (get_or es 0 0) 1,
        add_assoc k (get_or es 1 0) 1,
        add_assoc k (get_or es 2 0) 1,
      )

  complete-shift : (p L : ℕ) (es : List ℕ) → 4 ≤ length es → complete B (k + p) L (map (λ e. k + e) es) ≡ shift_step k (complete (drop k B) p L es)
  unfolding complete
  complete-shift p L es h =
      rw (get_or_later k es 3 h, record_shift p es (get_or es 3 0) (omega arith), validate-shift (record_of p es (get_or es 3 0)) (omega arith) (omega arith))
      (judged-shift k L (onward (record_of p es (get_or es 3 0))) (validate (drop k B) (record_of p es (get_or es 3 0))))

  tail_shift : (p L : ℕ) (es : List ℕ) → (length es ≡ 3 → k ≤ length B) → tail_rule B (k + p) L (map (λ e. k + e) es) ≡ shift_step k (tail_rule (drop k B) p L es)
  unfolding tail_rule
  tail_shift p L es h = rw (length-map, pieces-shift p es) (go (eqb (length es) 3) refl (all_blank (pieces (drop k B) p es)))
    where
      id : (fs : List ℕ) → end_id B (k + p) (map (λ e. k + e) fs) ≡ shift_id k (end_id (drop k B) p fs)
      id [] = refl
      id (f ∷ fs) = rw (add_assoc k f 1) (id_shift p (f + 1) (omega arith))

      go : (t : Bool) → eqb (length es) 3 ≡ t → (u : Bool) → tail_by B (k + p) L (map (λ e. k + e) es) t u ≡ shift_step k (tail_by (drop k B) p L es t u)
      go true e u =
          let three = eqb-true (length es) 3 e in
          let n : length B ≡ k + length (drop k B) = omega (arith, length-drop k B, h three) in
          rw (n, record_shift p es (length (drop k B)) (omega arith), validate-shift (record_of p es (length (drop k B))) (omega arith) (omega arith))
          (judged-shift k L (unended (record_of p es (length (drop k B)))) (validate (drop k B) (record_of p es (length (drop k B)))))
      go false e true = refl
      go false e false = rw (length-map, id es)

  -- a step k bytes further on is the step on the bytes from k on, shifted by k
  pub step_shift : (W p L : ℕ) → step_at B W (k + p) L ≡ shift_step k (step_at (drop k B) W p L)
  unfolding step_at
  step_shift W p L = rw (seen-shift W p, rest-shift p, length-map) (go (leb 4 (length (seen (drop k B) W p))) refl (leb W (length (rest (drop k B) p))))
    where
      es : List ℕ
      es = seen (drop k B) W p

      go : (t : Bool) → leb 4 (length es) ≡ t → (u : Bool) → step_by B (k + p) L (map (λ e. k + e) es) t u ≡ shift_step k (step_by (drop k B) p L es t u)
      go true e u = complete-shift p L es (leb-true 4 (length es) e)
      go false e true = refl
      go false e false = tail_shift p L es (λ h. omega (arith, line_ends-length p (take W (rest (drop k B) p)), length-take W (rest (drop k B) p), length-drop p (drop k B), length-drop k B))

-- the answers of a reading that starts k bytes further on are those of the bytes from k on, shifted by k
pub reading-shift : (B : List ℕ) (k W p L : ℕ) → reading B W (k + p) L ≡ map (shift_told k) (reading (drop k B) W p L)
reading-shift B k W p L = reading_induction (drop k B) W (λ q M. reading B W (k + q) M ≡ map (shift_told k) (reading (drop k B) W q M)) turn p L
  where
    turn : (q M : ℕ) → ((r : Five) → step_at (drop k B) W q M ≡ onward r → reading B W (k + (r.end + 1)) (M + 4) ≡ map (shift_told k) (reading (drop k B) W (r.end + 1) (M + 4)))
        → reading B W (k + q) M ≡ map (shift_told k) (reading (drop k B) W q M)
    turn q M ih = rw (reading_is B W (k + q) M, reading_is (drop k B) W q M, step_shift B k W q M) (go (step_at (drop k B) W q M) ih)
      where
        go : (s : Step) → ((r : Five) → s ≡ onward r → reading B W (k + (r.end + 1)) (M + 4) ≡ map (shift_told k) (reading (drop k B) W (r.end + 1) (M + 4)))
            → follow (λ a b. reading B W a b) (k + q) M (shift_step k s) ≡ map (shift_told k) (follow (λ a b. reading (drop k B) W a b) q M s)
        go (onward r) ih = rw (add_assoc k r.end 1, ih r refl)
        go (unended r) ih = refl
        go (closing a) ih = refl

-- FROM (p, L): the reading from (p, L) is the reading of the bytes from p on, shifted by p
pub reading_from : (B : List ℕ) (W p L : ℕ) → reading B W p L ≡ map (shift_told p) (reading (drop p B) W 0 L)
reading_from B W p L = rw (← reading-shift B p W 0 L, add-zero)
