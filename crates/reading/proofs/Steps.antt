-- Laws of one step: its three rules, and where the next record starts.
-- Assumes nothing.
use Prim.Native.Nat.{ℕ, suc, ◌+◌, ◌≤◌, ◌<◌}
use native.Mathlib.Omega.{arith}
use mathlib.Core.Path.{◌≡◌, refl, sym, ap, ◌∙◌}
use mathlib.Core.Bool.{Bool, true, false}
use mathlib.Core.List.{List}
use lib.ListN.{length, get_or, take, drop, length-take, length-drop}
use lib.Dec.{leb, eqb}
use borrow.Author.Tests.{le-leb, lt-leb, leb-true, leb-false, eqb-true}
use Rattle.reading.specs.Bytes.{pieces, all_blank}
use Rattle.reading.specs.Answer.{Five, window_limit}
use Rattle.reading.specs.Reading.{Verdict, good, bad_start, bad_separator, bad_lengths, onward, unended, closing, judged, rest, seen, record_of, validate, complete, tail_by, tail_rule, step_at}
use Rattle.reading.proofs.Lines.{line_ends_low, line_ends_high, line_ends_rises, line_ends-length}

-- which of the three rules applies at p
pub data Rule (B : List ℕ) (W p : ℕ) : Type 0 where
  four : 4 ≤ length (seen B W p) → Rule B W p
  full : length (seen B W p) < 4 → W ≤ length (rest B p) → Rule B W p
  tail : length (seen B W p) < 4 → length (rest B p) < W → Rule B W p

pub rule_at : (B : List ℕ) (W p : ℕ) → Rule B W p
rule_at B W p = go (leb 4 (length (seen B W p))) refl (leb W (length (rest B p))) refl
  where
    go : (t : Bool) → leb 4 (length (seen B W p)) ≡ t → (u : Bool) → leb W (length (rest B p)) ≡ u → Rule B W p
    go true e u f = four (leb-true 4 _ e)
    go false e true f = full (leb-false 4 _ e) (leb-true W _ f)
    go false e false f = tail (leb-false 4 _ e) (leb-false W _ f)

-- four line ends seen: the record is complete
pub step_four : (B : List ℕ) (W p L : ℕ) → 4 ≤ length (seen B W p) → step_at B W p L ≡ complete B p L (seen B W p)
unfolding step_at
step_four B W p L h = rw (le-leb 4 (length (seen B W p)) h)

-- fewer, and W bytes or more: window limit
pub step_full : (B : List ℕ) (W p L : ℕ) → length (seen B W p) < 4 → W ≤ length (rest B p) → step_at B W p L ≡ closing (window_limit L p)
unfolding step_at
step_full B W p L h k = rw (lt-leb 4 (length (seen B W p)) h, le-leb W (length (rest B p)) k)

-- fewer of both: the tail rule
pub step_tail : (B : List ℕ) (W p L : ℕ) → length (seen B W p) < 4 → length (rest B p) < W → step_at B W p L ≡ tail_rule B p L (seen B W p)
unfolding step_at
step_tail B W p L h k = rw (lt-leb 4 (length (seen B W p)) h, lt-leb W (length (rest B p)) k)

-- what is judged is the step itself, if the verdict is good, or closes the reading
judged_onward : (L : ℕ) (v : Verdict) (r s : Five) → judged L (onward r) v ≡ onward s → (r ≡ s) × (v ≡ good)
judged_onward L good r s e = (cc, refl)
judged_onward L (bad_start b) r s e = let z : ◌≡◌ {A = ℕ} 0 1 = cc in absurd (omega arith)
judged_onward L (bad_separator b i) r s e = let z : ◌≡◌ {A = ℕ} 0 1 = cc in absurd (omega arith)
judged_onward L (bad_lengths n m i) r s e = let z : ◌≡◌ {A = ℕ} 0 1 = cc in absurd (omega arith)

judged_unended : (L : ℕ) (v : Verdict) (r s : Five) → judged L (unended r) v ≡ unended s → (r ≡ s) × (v ≡ good)
judged_unended L good r s e = (cc, refl)
judged_unended L (bad_start b) r s e = let z : ◌≡◌ {A = ℕ} 0 1 = cc in absurd (omega arith)
judged_unended L (bad_separator b i) r s e = let z : ◌≡◌ {A = ℕ} 0 1 = cc in absurd (omega arith)
judged_unended L (bad_lengths n m i) r s e = let z : ◌≡◌ {A = ℕ} 0 1 = cc in absurd (omega arith)

never_onward : (L : ℕ) (v : Verdict) (r s : Five) → judged L (unended r) v ≡ onward s → ⊥
never_onward L good r s e = let z : ◌≡◌ {A = ℕ} 0 1 = cc in omega arith
never_onward L (bad_start b) r s e = let z : ◌≡◌ {A = ℕ} 0 1 = cc in omega arith
never_onward L (bad_separator b i) r s e = let z : ◌≡◌ {A = ℕ} 0 1 = cc in omega arith
never_onward L (bad_lengths n m i) r s e = let z : ◌≡◌ {A = ℕ} 0 1 = cc in omega arith

never_unended : (L : ℕ) (v : Verdict) (r s : Five) → judged L (onward r) v ≡ unended s → ⊥
never_unended L good r s e = let z : ◌≡◌ {A = ℕ} 0 1 = cc in omega arith
never_unended L (bad_start b) r s e = let z : ◌≡◌ {A = ℕ} 0 1 = cc in omega arith
never_unended L (bad_separator b i) r s e = let z : ◌≡◌ {A = ℕ} 0 1 = cc in omega arith
never_unended L (bad_lengths n m i) r s e = let z : ◌≡◌ {A = ℕ} 0 1 = cc in omega arith

-- the tail rule goes on to no next record
tail_closes : (B : List ℕ) (p L : ℕ) (es : List ℕ) (r : Five) → tail_rule B p L es ≡ onward r → ⊥
unfolding tail_rule
tail_closes B p L es r = go (eqb (length es) 3) (all_blank (pieces B p es))
  where
    go : (t u : Bool) → tail_by B p L es t u ≡ onward r → ⊥
    go true u e = never_onward L (validate B (record_of p es (length B))) (record_of p es (length B)) r e
    go false true e = let z : ◌≡◌ {A = ℕ} 0 1 = cc in omega arith
    go false false e = let z : ◌≡◌ {A = ℕ} 0 1 = cc in omega arith

-- what the tail rule says of a record that it answers
tail_unended : (B : List ℕ) (p L : ℕ) (es : List ℕ) (r : Five) → tail_rule B p L es ≡ unended r → (length es ≡ 3) × (r ≡ record_of p es (length B)) × (validate B (record_of p es (length B)) ≡ good)
unfolding tail_rule
tail_unended B p L es r = go (eqb (length es) 3) refl (all_blank (pieces B p es))
  where
    go : (t : Bool) → eqb (length es) 3 ≡ t → (u : Bool) → tail_by B p L es t u ≡ unended r
        → (length es ≡ 3) × (r ≡ record_of p es (length B)) × (validate B (record_of p es (length B)) ≡ good)
    go true f u e =
        let q = judged_unended L (validate B (record_of p es (length B))) (record_of p es (length B)) r e in
        (eqb-true (length es) 3 f, sym q.0, q.1)
    go false f true e = let z : ◌≡◌ {A = ℕ} 0 1 = cc in absurd (omega arith)
    go false f false e = let z : ◌≡◌ {A = ℕ} 0 1 = cc in absurd (omega arith)

-- a complete record: its five numbers, and the bounds on its end
pub record Onward (B : List ℕ) (W p : ℕ) (r : Five) : Type 0 where
  pub beyond : p + 3 ≤ r.end
  pub within : r.end < length B
  pub numbers : r ≡ record_of p (seen B W p) (get_or (seen B W p) 3 0)
  pub ended : 4 ≤ length (seen B W p)
  pub valid : validate B r ≡ good

pub step_onward : (B : List ℕ) (W p L : ℕ) (r : Five) → step_at B W p L ≡ onward r → Onward B W p r
unfolding complete
step_onward B W p L r e = go (rule_at B W p)
  where
    go : Rule B W p → Onward B W p r
    go (four h) =
        let q = judged_onward L (validate B (record_of p (seen B W p) (get_or (seen B W p) 3 0))) (record_of p (seen B W p) (get_or (seen B W p) 3 0)) r (sym (step_four B W p L h) ∙ e) in
        let f : get_or (seen B W p) 3 0 ≡ r.end = ap (λ (x : Five). x.end) q.0 in
        record {
          beyond = omega (arith, line_ends_low p (take W (drop p B)) 3 h);
          within = omega (arith, line_ends_low p (take W (drop p B)) 3 h, line_ends_high p (take W (drop p B)) 3 h, length-take W (drop p B), length-drop p B);
          numbers = sym q.0;
          ended = h;
          valid = ap (validate B) (sym q.0) ∙ q.1;
        }
    go (full h k) = let z : ◌≡◌ {A = ℕ} 0 1 = cc (step_full B W p L h k) in absurd (omega arith)
    go (tail h k) = absurd (tail_closes B p L (seen B W p) r (sym (step_tail B W p L h k) ∙ e))

-- NEXT START: the next start after a record, end + 1, is beyond the record and within the input
pub next_start_lem : (B : List ℕ) (W p L : ℕ) (r : Five) → step_at B W p L ≡ onward r → (p < r.end + 1) × (r.end < r.end + 1) × (r.end + 1 ≤ length B)
next_start_lem B W p L r e = let g = step_onward B W p L r e in (omega arith, omega arith, omega arith)

-- a record with no final LF: its five numbers, and where it stands
pub record Unended (B : List ℕ) (W p : ℕ) (r : Five) : Type 0 where
  pub numbers : r ≡ record_of p (seen B W p) (length B)
  pub three : length (seen B W p) ≡ 3
  pub within : p + 3 ≤ length B
  pub small : length (rest B p) < W
  pub valid : validate B r ≡ good

pub step_unended : (B : List ℕ) (W p L : ℕ) (r : Five) → step_at B W p L ≡ unended r → Unended B W p r
unfolding complete
step_unended B W p L r e = go (rule_at B W p)
  where
    go : Rule B W p → Unended B W p r
    go (four h) =
        absurd (never_unended L (validate B (record_of p (seen B W p) (get_or (seen B W p) 3 0))) (record_of p (seen B W p) (get_or (seen B W p) 3 0)) r (sym (step_four B W p L h) ∙ e))
    go (full h k) = let z : ◌≡◌ {A = ℕ} 0 1 = cc (step_full B W p L h k) in absurd (omega arith)
    go (tail h k) =
        let q = tail_unended B p L (seen B W p) r (sym (step_tail B W p L h k) ∙ e) in
        record {
          numbers = q.1;
          three = q.0;
          within = omega (arith, q.0, line_ends-length p (take W (drop p B)), length-take W (drop p B), length-drop p B);
          small = k;
          valid = ap (validate B) q.1 ∙ q.2;
        }

-- the line ends seen, where there are n + 1 or more: rising from p, within the input
module _ (B : List ℕ) (W p : ℕ) where
  pub seen_low : (i : ℕ) → i < length (seen B W p) → p + i ≤ get_or (seen B W p) i 0
  seen_low i h = line_ends_low p (take W (drop p B)) i h

  pub seen_high : (i : ℕ) → i < length (seen B W p) → (get_or (seen B W p) i 0 < length B) × (get_or (seen B W p) i 0 < p + W)
  seen_high i h =
      let u = line_ends_high p (take W (drop p B)) i h in
      let l = line_ends_low p (take W (drop p B)) i h in
      let n = length-take W (drop p B) in
      let m = length-drop p B in (omega arith, omega arith)

  pub seen_rises : (i : ℕ) → suc i < length (seen B W p) → get_or (seen B W p) i 0 < get_or (seen B W p) (suc i) 0
  seen_rises i h = line_ends_rises p (take W (drop p B)) i h
