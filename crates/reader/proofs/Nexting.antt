-- Laws of next: the notes after a search fit, and the answer is the reading's step.
-- Assumes nothing.
use mathlib.Core.Path.{◌≡◌, refl, ap}
use mathlib.Core.Bool.{Bool, true, false, not, ◌&&◌, and-true}
use mathlib.Core.List.{List, [], ◌∷◌, ◌++◌}
use Prim.Native.Nat.{ℕ, suc, ◌+◌, ◌-◌, ◌<◌, ◌≤◌}
use native.Mathlib.Omega.{arith}
use native.Mathlib.Nat.{le_refl}
use lib.Dec.{leb, ltb, eqb}
use lib.ListN.{length, take, drop, length-drop}
use lib.Seq.{slice, take_all, length-take-le}
use borrow.Author.Tests.{le-leb, lt-leb, leb-true, leb-false, lt-ltb, ltb-true, ne_eqb, not-true, not-false}
use Rattle.reading.specs.Bytes.{LF, keep, line_ends, trim_cr, is_empty, pieces, all_blank}
use Rattle.reading.specs.Reading.{Verdict, good, bad_start, bad_separator, bad_lengths, Step, onward, unended, closing, judged, validate, rest, record_of, complete, tail_rule, end_id}
use Rattle.reading.specs.Reading as reading
use Rattle.record.specs.declared.Noted.{Noted}
use Rattle.record.specs.declared.Noted.TheVariants.{Zero, One, Two, Three, Four}
use Rattle.record.specs.declared.Record.{Record}
use Rattle.std.specs.Prelude.{Option, Err}
use Rattle.record.specs.declared.Span.{Span}
use Rattle.record.specs.Noted.{listed, after, gathered, sought_by, sought_of}
use Rattle.record.specs.Check.{five_of, span_of, check_of}
use Rattle.reader.specs.declared.Byte.{Byte}
use Rattle.reader.specs.declared.Reader.{Reader}
use Rattle.reader.specs.declared.Answer.TheVariants.{More, WindowLimit, UnexpectedEnd, End}
use Rattle.reader.specs.declared.Refusal.TheVariants.{Foreign}
use Rattle.reader.specs.State.{line, own, Notes, Own}
use Rattle.reader.specs.Next.{deciding, settled_by, decided_of, onward_by, onward_of, searched_of, seeking_of, closed_of, next_of}
use Rattle.reader.proofs.Owning.{both, fails}
use Rattle.reader.specs.Inside.{numbers_of, tail_by, tail_of, judged_by, judged_of, Seeks}

-- ---- notes that fit

-- notes that fit from a later place on fit from an earlier one
pub notes_from_lem : (a b fill m : ℕ) (es : List ℕ) → a ≤ b → Notes b fill m es → Notes a fill m es
notes_from_lem a b fill m [] h n = (omega arith, n.1)
notes_from_lem a b fill m (e ∷ es) h n = (omega arith, n.1, n.2)

-- what fits begins by the fill point
pub notes_start : (a fill m : ℕ) (es : List ℕ) → Notes a fill m es → a ≤ fill
notes_start a fill m [] n = omega arith
notes_start a fill m (e ∷ es) n = omega (arith, n.1)

-- and the mark lies between
pub notes_mark : (a fill m : ℕ) (es : List ℕ) → Notes a fill m es → (a ≤ m) × (m ≤ fill)
notes_mark a fill m [] n = n
notes_mark a fill m (e ∷ es) n = let k = notes_mark (suc e) fill m es n.2 in (omega (arith, n.0, k.0), k.1)

-- line ends that are found fit
pub ends_notes : (o fill : ℕ) (xs : List ℕ) → o + length xs ≤ fill → Notes o fill fill (line_ends o xs)
unfolding line_ends
ends_notes o fill [] h = (omega arith, le_refl fill)
ends_notes o fill (b ∷ bs) h = go (eqb b LF) (ends_notes (suc o) fill bs (omega arith))
  where
    go : (t : Bool) → Notes (suc o) fill fill (line_ends (suc o) bs) → Notes o fill fill (keep t o (line_ends (suc o) bs))
    go true n = (omega arith, omega arith, n)
    go false n = notes_from_lem o (suc o) fill fill (line_ends (suc o) bs) (omega arith) n

-- notes up to the mark and notes from the mark on fit together
pub notes_join : (a fill m : ℕ) (es fs : List ℕ) → Notes a fill m es → Notes m fill fill fs → Notes a fill fill (es ++ fs)
notes_join a fill m [] fs n k = notes_from_lem a m fill fill fs n.0 k
notes_join a fill m (e ∷ es) fs n k = (n.0, n.1, notes_join (suc e) fill m es fs n.2 k)

-- the first of them fit
pub notes_take : (a fill i : ℕ) (es : List ℕ) → a ≤ fill → Notes a fill fill es → Notes a fill fill (take i es)
notes_take a fill Prim.Native.Nat.zero es h n = (h, le_refl fill)
notes_take a fill (suc i) [] h n = n
notes_take a fill (suc i) (e ∷ es) h n = (n.0, n.1, notes_take (suc e) fill i es (omega (arith, n.1)) n.2)

-- notes up to a mark fit all the more up to the end
pub notes_all : (a fill m : ℕ) (es : List ℕ) → Notes a fill m es → Notes a fill fill es
notes_all a fill m [] n = (omega arith, le_refl fill)
notes_all a fill m (e ∷ es) n = (n.0, n.1, notes_all (suc e) fill m es n.2)

-- a search notes the first four line ends that there are
pub gathered_listed : (n : ℕ) (es : List ℕ) → listed (gathered n es).noted ≡ take 4 es
gathered_listed n [] = refl
gathered_listed n (a ∷ []) = refl
gathered_listed n (a ∷ b ∷ []) = refl
gathered_listed n (a ∷ b ∷ c ∷ []) = refl
gathered_listed n (a ∷ b ∷ c ∷ d ∷ es) = refl

-- the notes after a search of the held bytes fit
pub sought_notes : (H : List ℕ) (e : Noted) (p m : ℕ) → Notes p (length H) m (listed e) → Notes p (length H) (length H) (listed (sought_of H e m).noted)
unfolding sought_of
sought_notes H e p m n = go e n
  where
    n₀ : ℕ
    n₀ = length H

    last : (es : List ℕ) (a : ℕ) → Notes a n₀ m es → m ≤ n₀
    last [] a k = k.1
    last (x ∷ es) a k = last es (suc x) k.2

    by : (es : List ℕ) → Notes p n₀ m es → Notes p n₀ n₀ (listed (gathered n₀ (es ++ after H m)).noted)
    by es k =
        let l = last es p k in
        rw (gathered_listed n₀ (es ++ after H m))
        (notes_take p n₀ 4 (es ++ after H m) (notes_start p n₀ m es k) (notes_join p n₀ m es (after H m) k (ends_notes m n₀ (drop m H) (omega (arith, length-drop m H)))))

    go : (f : Noted) → Notes p n₀ m (listed f) → Notes p n₀ n₀ (listed (sought_by H m f).noted)
    go Zero k = by [] k
    go (One a) k = by (a ∷ []) k
    go (Two a b) k = by (a ∷ b ∷ []) k
    go (Three a b c) k = by (a ∷ b ∷ c ∷ []) k
    go (Four a b c d) k = notes_all p n₀ m (a ∷ b ∷ c ∷ d ∷ []) k

-- from an own state to the record that is sought
pub onward_seeks : (s : Reader) (n : ℕ) → Own s n → Seeks (onward_of s) n
onward_seeks s n o = go s.noted o.notes
  where
    stays : Seeks s n
    stays = record { inside = omega (arith, o.inside, o.opened); notes = o.notes; few = omega (arith, o.few) }

    go : (e : Noted) → Notes s.start s.fill s.mark (listed e) → Seeks (onward_by s e) n
    go Zero k = stays
    go (One a) k = stays
    go (Two a b) k = stays
    go (Three a b c) k = stays
    go (Four a b c d) k = record { inside = omega (arith, o.inside, o.opened); notes = (le_refl (d + 1), omega (arith, k)); few = omega (arith, o.few) }

-- the notes after the search of a window's held bytes fit, and the line is small enough for the answers
pub held_notes : (s : Reader) (w : List ℕ) → Seeks s (length w)
    → Notes s.start (length (take s.fill w)) (length (take s.fill w)) (listed (searched_of s w).noted) × (s.line.0 ≤ 1125899906842624)
held_notes s w k =
    let n : length (take s.fill w) ≡ s.fill = length-take-le s.fill w k.inside in
    (sought_notes (take s.fill w) s.noted s.start s.mark (rw n k.notes), k.few)

-- ---- the answer

-- a verdict as the code's check decides the step that it makes
judged_on : (r : Record) (L : ℕ) (b : Byte) (v : Verdict) → judged_by r L b false (check_of v) ≡ settled_by b (judged L (onward (five_of r)) v)
judged_on r L b good = refl
judged_on r L b (bad_start x) = refl
judged_on r L b (bad_separator x i) = refl
judged_on r L b (bad_lengths n m i) = refl

judged_last : (r : Record) (L : ℕ) (b : Byte) (v : Verdict) → judged_by r L b true (check_of v) ≡ settled_by b (judged L (unended (five_of r)) v)
judged_last r L b good = refl
judged_last r L b (bad_start x) = refl
judged_last r L b (bad_separator x i) = refl
judged_last r L b (bad_lengths n m i) = refl

-- the answer, by the code's tests: `n` line ends are noted; fewer than four and a full window; fewer than four and the end not noted
module _ (H : List ℕ) (W p L : ℕ) (b : Byte) (end : Bool) (e : Noted) (n : ℕ) (q : n ≡ length (listed e)) where
  few : (t : Bool) → (ltb n 4 && t) ≡ true → (length (listed e) < 4) × (t ≡ true)
  few t f = let g = both (ltb n 4) t f in (omega (arith, ltb-true n 4 g.0), g.1)

  pub decided_limit : (ltb n 4 && leb W (length H - p)) ≡ true → deciding (WindowLimit (line L) b) false true ≡ decided_of H W p L b end e
  unfolding decided_of
  decided_limit f =
      let g = few (leb W (length H - p)) f in
      simp (lt-leb 4 (length (listed e)) g.0, le-leb W (length (rest H p)) (omega (arith, leb-true W (length H - p) g.1, length-drop p H)))

  -- fewer than four line ends: the window is not full
  room : (ltb n 4 && leb W (length H - p)) ≡ false → n < 4 → length (rest H p) < W
  room f h = omega (arith, leb-false W (length H - p) (fails (ltb n 4) (leb W (length H - p)) f (lt-ltb n 4 h)), length-drop p H)

  pub decided_more : (ltb n 4 && leb W (length H - p)) ≡ false → (ltb n 4 && not end) ≡ true → deciding More true false ≡ decided_of H W p L b end e
  unfolding decided_of
  decided_more f h =
      let g = few (not end) h in
      simp (lt-leb 4 (length (listed e)) g.0, lt-leb W (length (rest H p)) (room f (omega (arith, g.0))), not-true end g.1)

  -- fewer than four line ends: the end is noted
  over : (ltb n 4 && not end) ≡ false → n < 4 → end ≡ true
  over f h = not-false end (fails (ltb n 4) (not end) f (lt-ltb n 4 h))

  pub decided_tail : (ltb n 4 && leb W (length H - p)) ≡ false → (ltb n 4 && not end) ≡ false → n < 3 → tail_of H p L e ≡ decided_of H W p L b end e
  unfolding decided_of tail_of tail_rule
  decided_tail f g h =
      simp (lt-leb 4 (length (listed e)) (omega arith), lt-leb W (length (rest H p)) (room f (omega arith)), over g (omega arith), ne_eqb (length (listed e)) 3 (λ x. omega arith))
      (go (all_blank (pieces H p (listed e))))
    where
      go : (t : Bool) → tail_by H p L e t ≡ settled_by b (reading.tail_by H p L (listed e) false t)
      go true = refl
      go false = refl

-- the record is complete, or the input ends without its fourth line end
whole_is : (H : List ℕ) (W p L : ℕ) (b : Byte) (end : Bool) (e : Noted) → 3 ≤ length (listed e)
    → (length (listed e) < 4 → length (rest H p) < W) → (length (listed e) < 4 → end ≡ true)
    → judged_of H (numbers_of e p (length H)) L b (ltb (length (listed e)) 4) ≡ decided_of H W p L b end e
unfolding decided_of judged_of complete tail_rule
whole_is H W p L b end Zero h f g = absurd (omega arith)
whole_is H W p L b end (One a) h f g = absurd (omega arith)
whole_is H W p L b end (Two a c) h f g = absurd (omega arith)
whole_is H W p L b end (Three a c d) h f g =
    simp (lt-leb W (length (rest H p)) (f (omega arith)), g (omega arith))
    (judged_last (numbers_of (Three a c d) p (length H)) L b (validate H (five_of (numbers_of (Three a c d) p (length H)))))
whole_is H W p L b end (Four a c d x) h f g =
    judged_on (numbers_of (Four a c d x) p (length H)) L b (validate H (five_of (numbers_of (Four a c d x) p (length H))))

module _ (H : List ℕ) (W p L : ℕ) (b : Byte) (end : Bool) (e : Noted) (n : ℕ) (q : n ≡ length (listed e)) where
  pub decided_judged : (ltb n 4 && leb W (length H - p)) ≡ false → (ltb n 4 && not end) ≡ false → 3 ≤ n
      → judged_of H (numbers_of e p (length H)) L b (ltb n 4) ≡ decided_of H W p L b end e
  decided_judged f g h =
      rw q
      (whole_is H W p L b end e (omega arith) (λ x. room H W p L b end e n q f (omega arith)) (λ x. over H W p L b end e n q g (omega arith)))

-- the tail rule, by whether every piece is blank
module _ (H : List ℕ) (p L : ℕ) (e : Noted) where
  pub tail_blank : all_blank (pieces H p (listed e)) ≡ true → deciding End false true ≡ tail_of H p L e
  unfolding tail_of
  tail_blank q = rw q

  pub tail_cut : all_blank (pieces H p (listed e)) ≡ false → (n : ℕ) → n ≡ length (listed e) → (i : Option Span) → i ≡ span_of (end_id H p (listed e))
      → deciding (UnexpectedEnd (line (L + n)) i) false true ≡ tail_of H p L e
  unfolding tail_of
  tail_cut q n f i g = rw (q, f, g)

-- the bytes up to the end are all that are left
pub slice_rest : (p : ℕ) (H : List ℕ) → slice p (length H) H ≡ drop p H
slice_rest p H = ap (drop p) (take_all (length H) H (le_refl (length H)))

-- the pieces of a tail, by the notes
module _ (H : List ℕ) (p : ℕ) where
  pub blank_zero : is_empty (trim_cr (slice p (length H) H)) ≡ all_blank (pieces H p [])
  unfolding all_blank pieces
  blank_zero = rw (slice_rest p H, and-true)

  pub blank_one : (a : ℕ) → (is_empty (trim_cr (slice p a H)) && is_empty (trim_cr (slice (a + 1) (length H) H))) ≡ all_blank (pieces H p (a ∷ []))
  unfolding all_blank pieces
  blank_one a = rw (slice_rest (a + 1) H, and-true)

  pub blank_two : (a b : ℕ)
      → (is_empty (trim_cr (slice p a H)) && (is_empty (trim_cr (slice (a + 1) b H)) && is_empty (trim_cr (slice (b + 1) (length H) H)))) ≡ all_blank (pieces H p (a ∷ b ∷ []))
  unfolding all_blank pieces
  blank_two a b = rw (slice_rest (b + 1) H, and-true)

-- next's answer, by the tests
module _ (s : Reader) (w : List ℕ) where
  pub next_foreign : own s (length w) ≡ false → record { state = s; answer = Err Foreign } ≡ next_of s w
  unfolding next_of
  next_foreign e = rw e

  pub next_closed : own s (length w) ≡ true → s.closed ≡ true → closed_of s ≡ next_of s w
  unfolding next_of
  next_closed e k = rw (e, k)

  pub next_open : own s (length w) ≡ true → s.closed ≡ false → seeking_of (onward_of s) w ≡ next_of s w
  unfolding next_of
  next_open e k = rw (e, k)
