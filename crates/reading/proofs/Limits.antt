-- The window limit: exactly when it comes, and what a larger window keeps.
-- Assumes nothing.
use Prim.Native.Nat.{ℕ, zero, suc, ◌+◌, ◌-◌, ◌≤◌, ◌<◌}
use native.Mathlib.Omega.{arith}
use native.Mathlib.Decide.{dec_le}
use mathlib.Core.Path.{◌≡◌, refl, sym, ap, ◌∙◌}
use mathlib.Core.Logic.{◌⊎◌, inl, inr, ◌↔◌}
use mathlib.Core.Bool.{Bool, true, false}
use mathlib.Core.List.{List, [], ◌∷◌, ◌++◌, append-nil}
use lib.ListN.{length, get_or, take, drop, length-append, length-take, length-drop, get_or-append}
use lib.Dec.{eqb}
use Rattle.reading.specs.Bytes.{line_ends, pieces, all_blank}
use Rattle.reading.specs.Answer.{Five, Answer, found, window_limit, ended, Told, told}
use Rattle.reading.specs.Reading.{Verdict, good, bad_start, bad_separator, bad_lengths, judged, rest, seen, record_of, validate, complete, tail_by, tail_rule, Step, onward, unended, closing, step_at, follow, reading, first, ends}
use Rattle.reading.specs.Size.{ends_from, record_size, TooLarge}
use Rattle.reading.specs.Lists.{is_limit, unless_limit, kept, SameOrOn, same, on}
use Rattle.reading.proofs.Lines.{line_ends_low, line_ends_high, line_ends-length, line_ends_split, get_d_past}
use Rattle.reading.proofs.Steps.{Rule, four, full, tail, rule_at, step_four, step_full, step_tail}
use Rattle.reading.proofs.Stable.{step_wider}
use Rattle.reading.proofs.Readings.{reading_is, reading_induction, first_by, first_zero, first_suc}

-- ---- the limit, exactly

-- the line ends seen are those from p on that lie before p + W: four of them, if the fourth does
seen_four : (B : List ℕ) (W p : ℕ) → (4 ≤ length (seen B W p)) ↔ ((4 ≤ length (ends_from B p)) × (get_or (ends_from B p) 3 0 < p + W))
seen_four B W p = (there, back)
  where
    A : List ℕ
    A = seen B W p

    C : List ℕ
    C = line_ends (p + length (take W (rest B p))) (drop W (rest B p))

    e : ends_from B p ≡ A ++ C
    e = line_ends_split p W (rest B p)

    there : 4 ≤ length A → (4 ≤ length (ends_from B p)) × (get_or (ends_from B p) 3 0 < p + W)
    there h =
        rw e (
          omega (arith, length-append A C),
          omega (arith, get_or-append A C 0 3 h, line_ends_high p (take W (rest B p)) 3 h, length-take W (rest B p)),
        )

    back : (4 ≤ length (ends_from B p)) × (get_or (ends_from B p) 3 0 < p + W) → 4 ≤ length A
    back h = by (dec_le 4 (length A))
      where
        by : Dec (4 ≤ length A) → 4 ≤ length A
        by (yes l) = l
        by (no l) =
            let n : ℕ = 3 - length A in
            let h' = rw e at h in
            let in_c : n < length C = omega (arith, length-append A C, h') in
            let at : get_or (A ++ C) 3 0 ≡ get_or C n 0 = get_d_past A C 3 0 (omega arith) in
            absurd
            (omega (
              arith,
              h',
              at,
              line_ends_low (p + length (take W (rest B p))) (drop W (rest B p)) n in_c,
              line_ends-length (p + length (take W (rest B p))) (drop W (rest B p)),
              length-take W (rest B p),
              length-drop W (rest B p),
            ))

-- too large is: fewer than four line ends seen, and W bytes or more
pub too_large_iff : (B : List ℕ) (W p : ℕ) → TooLarge B W p ↔ ((length (seen B W p) < 4) × (W ≤ length (rest B p)))
too_large_iff B W p = (there, back)
  where
    few : (4 ≤ length (seen B W p) → ⊥) → length (seen B W p) < 4
    few h = by (dec_le 4 (length (seen B W p)))
      where
        by : Dec (4 ≤ length (seen B W p)) → length (seen B W p) < 4
        by (yes l) = absurd (h l)
        by (no l) = omega arith

    fewer : length (seen B W p) ≤ length (ends_from B p)
    fewer = rw (line_ends_split p W (rest B p), length-append) (omega arith)

    there : TooLarge B W p → (length (seen B W p) < 4) × (W ≤ length (rest B p))
    there (inl h) = (
      few (λ l. omega (arith, (seen_four B W p).0 l, line_ends_low p (rest B p) 3 h.0)),
      omega (arith, line_ends_high p (rest B p) 3 h.0, line_ends_low p (rest B p) 3 h.0),
    )
    there (inr h) = (omega (arith, fewer), h.1)

    back : (length (seen B W p) < 4) × (W ≤ length (rest B p)) → TooLarge B W p
    back h = by (dec_le 4 (length (ends_from B p)))
      where
        far : 4 ≤ length (ends_from B p) → Dec (get_or (ends_from B p) 3 0 < p + W) → W < record_size B p
        far k (yes l) = let m = (seen_four B W p).1 (k, l) in absurd (omega arith)
        far k (no l) = omega (arith, line_ends_low p (rest B p) 3 k)

        by : Dec (4 ≤ length (ends_from B p)) → TooLarge B W p
        by (yes k) = inl (k, far k (dec_le (suc (get_or (ends_from B p) 3 0)) (p + W)))
        by (no k) = inr (omega arith, h.1)

abbrev step_limit : Step → Bool
step_limit (onward r) = false
step_limit (unended r) = false
step_limit (closing a) = is_limit a

judged_no_limit : (L : ℕ) (s : Step) (v : Verdict) → step_limit s ≡ false → step_limit (judged L s v) ≡ false
judged_no_limit L s good e = e
judged_no_limit L s (bad_start b) e = refl
judged_no_limit L s (bad_separator b i) e = refl
judged_no_limit L s (bad_lengths n m i) e = refl

complete_no_limit : (B : List ℕ) (p L : ℕ) (es : List ℕ) → step_limit (complete B p L es) ≡ false
unfolding complete
complete_no_limit B p L es = judged_no_limit L (onward (record_of p es (get_or es 3 0))) (validate B (record_of p es (get_or es 3 0))) refl

tail_no_limit : (B : List ℕ) (p L : ℕ) (es : List ℕ) → step_limit (tail_rule B p L es) ≡ false
unfolding tail_rule
tail_no_limit B p L es = go (eqb (length es) 3) (all_blank (pieces B p es))
  where
    go : (t u : Bool) → step_limit (tail_by B p L es t u) ≡ false
    go true u = judged_no_limit L (unended (record_of p es (length B))) (validate B (record_of p es (length B))) refl
    go false true = refl
    go false false = refl

-- WINDOW LIMIT EXACTLY WHEN: at p and L the step is window limit, with L and p, exactly when the record with its four line ends, or the tail short of
-- its fourth, is too large
pub limit_exactly : (B : List ℕ) (W p L : ℕ) → (step_at B W p L ≡ closing (window_limit L p)) ↔ TooLarge B W p
limit_exactly B W p L = (there (rule_at B W p), λ h. let k = (too_large_iff B W p).0 h in step_full B W p L k.0 k.1)
  where
    no : step_limit (step_at B W p L) ≡ false → step_at B W p L ≡ closing (window_limit L p) → ⊥
    no f e = let g = ap step_limit e in let z : ◌≡◌ {A = ℕ} 0 1 = cc in omega arith

    there : Rule B W p → step_at B W p L ≡ closing (window_limit L p) → TooLarge B W p
    there (four h) e = absurd (no (rw (step_four B W p L h) (complete_no_limit B p L (seen B W p))) e)
    there (full h k) e = (too_large_iff B W p).1 (h, k)
    there (tail h k) e = absurd (no (rw (step_tail B W p L h k) (tail_no_limit B p L (seen B W p))) e)

-- any limit that closes a step is the one at p and L
pub limit_here : (B : List ℕ) (W p L : ℕ) (a : Answer) → step_at B W p L ≡ closing a → is_limit a ≡ true → a ≡ window_limit L p
limit_here B W p L a e f = go (rule_at B W p)
  where
    no : step_limit (step_at B W p L) ≡ false → ⊥
    no g = let h = ap step_limit e in let z : ◌≡◌ {A = ℕ} 0 1 = cc in omega arith

    go : Rule B W p → a ≡ window_limit L p
    go (four h) = absurd (no (rw (step_four B W p L h) (complete_no_limit B p L (seen B W p))))
    go (full h k) = let g = step_full B W p L h k in cc
    go (tail h k) = absurd (no (rw (step_tail B W p L h k) (tail_no_limit B p L (seen B W p))))

-- ---- a larger window

-- one record more in front
on_more : (t : Told) (small large : List Told) → is_limit t.answer ≡ false → SameOrOn small large → SameOrOn (t ∷ small) (t ∷ large)
unfolding kept
on_more t _ _ e (same ts k) = same (t ∷ ts) (rw (e, k))
on_more t _ _ e (on pre L q more k) = on (t ∷ pre) L q more (rw (e, k))

-- LARGER WINDOW: for W at most U, the reading with U is the reading with W, or it keeps all of its answers, in place and order, up to a closing window
-- limit, which may become further answers
pub reading_wider : (B : List ℕ) (W U : ℕ) → W ≤ U → (p L : ℕ) → SameOrOn (reading B W p L) (reading B U p L)
unfolding kept
reading_wider B W U w p L = reading_induction B W (λ q M. SameOrOn (reading B W q M) (reading B U q M)) turn p L
  where
    turn : (q M : ℕ) → ((r : Five) → step_at B W q M ≡ onward r → SameOrOn (reading B W (r.end + 1) (M + 4)) (reading B U (r.end + 1) (M + 4))) → SameOrOn (reading B W q M) (reading B U q M)
    turn q M ih = rw (reading_is B W q M) (go (rule_at B W q))
      where
        by : (s : Step) → step_at B W q M ≡ s → step_limit s ≡ false → SameOrOn (follow (λ a b. reading B W a b) q M s) (follow (λ a b. reading B U a b) q M s)
        by (onward r) e f = on_more (told M q (found r)) (reading B W (r.end + 1) (M + 4)) (reading B U (r.end + 1) (M + 4)) refl (ih r e)
        by (unended r) e f = same (told M q (found r) ∷ told M q ended ∷ []) refl
        by (closing a) e f = same (told M q a ∷ []) (rw f)

        keeps : (4 ≤ length (seen B W q)) ⊎ (length (rest B q) < W) → step_limit (step_at B W q M) ≡ false → SameOrOn (follow (λ a b. reading B W a b) q M (step_at B W q M)) (reading B U q M)
        keeps c f = rw (reading_is B U q M, step_wider B W U q M w c) (by (step_at B W q M) refl f)

        go : Rule B W q → SameOrOn (follow (λ a b. reading B W a b) q M (step_at B W q M)) (reading B U q M)
        go (four h) = keeps (inl h) (rw (step_four B W q M h) (complete_no_limit B q M (seen B W q)))
        go (full h k) = rw (step_full B W q M h k) (on [] M q (reading B U q M) refl)
        go (tail h k) = keeps (inr k) (rw (step_tail B W q M h k) (tail_no_limit B q M (seen B W q)))

kept_append : (xs ys : List Told) → kept (xs ++ ys) ≡ kept xs ++ kept ys
unfolding kept
kept_append [] ys = refl
kept_append (t ∷ xs) ys = go (is_limit t.answer) (kept_append xs ys)
  where
    go : (b : Bool) → kept (xs ++ ys) ≡ kept xs ++ kept ys → unless_limit b t (kept (xs ++ ys)) ≡ unless_limit b t (kept xs) ++ kept ys
    go true ih = ih
    go false ih = rw ih

-- a list that closes with a window limit loses it
kept_limit : (pre : List Told) (L q : ℕ) → kept pre ≡ pre → kept (pre ++ (told L q (window_limit L q) ∷ [])) ≡ pre
unfolding kept
kept_limit pre L q e = kept_append pre (told L q (window_limit L q) ∷ []) ∙ go pre e
  where
    go : (l : List Told) → kept l ≡ l → kept l ++ [] ≡ l
    go l k = rw (k, append-nil)

-- every answer of the smaller window that is no window limit is kept by the larger one, in place and order
pub wider_keeps : (B : List ℕ) (W U : ℕ) → W ≤ U → (p L : ℕ) → (more : List Told) × (reading B U p L ≡ kept (reading B W p L) ++ more)
wider_keeps B W U w p L = go (reading B W p L) (reading B U p L) (reading_wider B W U w p L)
  where
    go : (small large : List Told) → SameOrOn small large → (more : List Told) × (large ≡ kept small ++ more)
    go _ _ (same ts k) = ([], rw (k, append-nil))
    go _ _ (on pre M q more k) = (more, rw (kept_limit pre M q k))

-- no window limit among the answers: the two readings are equal
pub wider_same : (B : List ℕ) (W U : ℕ) → W ≤ U → (p L : ℕ) → kept (reading B W p L) ≡ reading B W p L → reading B U p L ≡ reading B W p L
wider_same B W U w p L = go (reading B W p L) (reading B U p L) (reading_wider B W U w p L)
  where
    longer : (pre : List Told) (t : Told) → length (pre ++ (t ∷ [])) ≡ length pre → ⊥
    longer pre t e = omega (arith, length-append pre (t ∷ []))

    go : (small large : List Told) → SameOrOn small large → kept small ≡ small → large ≡ small
    go _ _ (same ts k) e = refl
    go _ _ (on pre M q more k) e = absurd (longer pre (told M q (window_limit M q)) (ap length (sym e ∙ kept_limit pre M q k)))

kept_short : (ts : List Told) → length (kept ts) ≤ length ts
unfolding kept
kept_short [] = omega arith
kept_short (t ∷ ts) = go (is_limit t.answer) (kept_short ts)
  where
    go : (b : Bool) → length (kept ts) ≤ length ts → length (unless_limit b t (kept ts)) ≤ suc (length ts)
    go true h = omega arith
    go false h = omega arith

-- where all answers are kept, the first is no limit, and those after it are kept
kept_head : (t : Told) (ts : List Told) → kept (t ∷ ts) ≡ t ∷ ts → (is_limit t.answer ≡ false) × (kept ts ≡ ts)
unfolding kept
kept_head t ts = go (is_limit t.answer) refl
  where
    go : (b : Bool) → is_limit t.answer ≡ b → unless_limit b t (kept ts) ≡ t ∷ ts → (is_limit t.answer ≡ false) × (kept ts ≡ ts)
    go false f e = (f, cc)
    go true f e = absurd (omega (arith, ap length e, kept_short ts))

-- as long as the smaller window's answers have no window limit, the larger one's are the same
pub first_wider : (n : ℕ) (B : List ℕ) (W U : ℕ) → W ≤ U → (p L : ℕ) → kept (first n B W p L) ≡ first n B W p L → first n B W p L ≡ first n B U p L
first_wider zero B W U w p L k = first_zero B W p L ∙ sym (first_zero B U p L)
first_wider (suc n) B W U w p L k =
    first_suc n B W p L ∙ go (rule_at B W p) (rw (first_suc n B W p L) at k) (λ q M. first_wider n B W U w q M) ∙ sym (first_suc n B U p L)
  where
    by : (s : Step) → kept (first_by (λ q M. first n B W q M) n p L s) ≡ first_by (λ q M. first n B W q M) n p L s
        → ((q M : ℕ) → kept (first n B W q M) ≡ first n B W q M → first n B W q M ≡ first n B U q M)
        → first_by (λ q M. first n B W q M) n p L s ≡ first_by (λ q M. first n B U q M) n p L s
    by (onward r) k ih =
        ap (λ (l : List Told). told L p (found r) ∷ l) (ih (r.end + 1) (L + 4) (kept_head (told L p (found r)) (first n B W (r.end + 1) (L + 4)) k).1)
    by (unended r) k ih = refl
    by (closing a) k ih = refl

    same : (4 ≤ length (seen B W p)) ⊎ (length (rest B p) < W)
        → kept (first_by (λ q M. first n B W q M) n p L (step_at B W p L)) ≡ first_by (λ q M. first n B W q M) n p L (step_at B W p L)
        → ((q M : ℕ) → kept (first n B W q M) ≡ first n B W q M → first n B W q M ≡ first n B U q M)
        → first_by (λ q M. first n B W q M) n p L (step_at B W p L) ≡ first_by (λ q M. first n B U q M) n p L (step_at B U p L)
    same c k ih = rw (step_wider B W U p L w c) (by (step_at B W p L) k ih)

    go : Rule B W p → kept (first_by (λ q M. first n B W q M) n p L (step_at B W p L)) ≡ first_by (λ q M. first n B W q M) n p L (step_at B W p L)
        → ((q M : ℕ) → kept (first n B W q M) ≡ first n B W q M → first n B W q M ≡ first n B U q M)
        → first_by (λ q M. first n B W q M) n p L (step_at B W p L) ≡ first_by (λ q M. first n B U q M) n p L (step_at B U p L)
    go (four h) k ih = same (inl h) k ih
    go (tail h l) k ih = same (inr l) k ih
    go (full h l) k ih =
        let e = (kept_head (told L p (window_limit L p)) (ends n L p) (rw (step_full B W p L h l) at k)).0 in
        let z : ◌≡◌ {A = ℕ} 0 1 = cc in
        absurd (omega arith)
