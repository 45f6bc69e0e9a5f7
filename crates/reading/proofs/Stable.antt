-- What a step has answered stands: whatever bytes follow (`step_prefix`), and in a larger window (`step_wider`).
-- Assumes nothing.
use Prim.Native.Nat.{ℕ, ◌+◌, ◌-◌, ◌≤◌, ◌<◌}
use native.Mathlib.Omega.{arith}
use native.Mathlib.Decide.{dec_le}
use borrow.Author.Tests.{leb-true, le-leb}
use mathlib.Core.Path.{◌≡◌, refl, sym, ap, ◌∙◌}
use mathlib.Core.Logic.{◌⊎◌, inl, inr}
use mathlib.Core.Bool.{Bool, true, false, ◌||◌}
use mathlib.Core.List.{List, ◌++◌}
use lib.ListN.{length, get_or, take, drop, length-append, length-drop, take-append-drop, get_or-append}
use lib.Seq.{take_all, take-append-le, drop-append-le, length-take-le}
use lib.Dec.{leb}
use Rattle.reading.specs.Bytes.{line_ends, byte_at}
use Rattle.reading.specs.Answer.{Five}
use Rattle.reading.specs.Reading.{rest, seen, record_of, validate, verdict, starts_well, has_plus, lengths_agree, complete, tail_rule, step_with, step_at, settled, error_id, head_of, seq_of, qual_of}
use Rattle.reading.proofs.Lines.{line_ends-append, take-append, take_wider}
use Rattle.reading.proofs.Steps.{Rule, four, full, tail, rule_at, step_four, step_full, step_tail, seen_low, seen_high, seen_rises}

-- ---- bytes that follow

-- the views of a record that ends by the end of F are the same whatever follows F
module _ (F X : List ℕ) where
  byte_prefix : (i : ℕ) → i < length F → byte_at (F ++ X) i ≡ byte_at F i
  byte_prefix i h = get_or-append F X 0 i h

  pub head_prefix : (p seq : ℕ) → seq - 1 ≤ length F → head_of (F ++ X) p seq ≡ head_of F p seq
  unfolding head_of
  head_prefix p seq h = rw (take-append-le (seq - 1) F X h)

  id_prefix : (p seq : ℕ) → seq - 1 ≤ length F → error_id (F ++ X) p seq ≡ error_id F p seq
  unfolding error_id
  id_prefix p seq h = rw (head_prefix p seq h)

  pub seq_prefix : (r : Five) → r.sep - 1 ≤ length F → seq_of (F ++ X) r ≡ seq_of F r
  unfolding seq_of
  seq_prefix r h = rw (take-append-le (r.sep - 1) F X h)

  pub qual_prefix : (r : Five) → r.end ≤ length F → qual_of (F ++ X) r ≡ qual_of F r
  unfolding qual_of
  qual_prefix r h = rw (take-append-le r.end F X h)

  lengths_prefix : (r : Five) → r.sep - 1 ≤ length F → r.end ≤ length F → lengths_agree (F ++ X) r ≡ lengths_agree F r
  unfolding lengths_agree
  lengths_prefix r h k = refl

  -- and so is the verdict on it
  validate_prefix : (r : Five) → r.start < length F → r.seq ≤ r.sep → r.sep < length F → r.end ≤ length F → validate (F ++ X) r ≡ validate F r
  unfolding validate
  validate_prefix r a b c d =
      rw (lengths_prefix r (omega arith) d, byte_prefix r.start a, byte_prefix r.sep c)
      (go (starts_well F r) (has_plus F r) (lengths_agree F r))
    where
      i : error_id (F ++ X) r.start r.seq ≡ error_id F r.start r.seq
      i = id_prefix r.start r.seq (omega arith)

      go : (t u v : Bool) → verdict (F ++ X) r t u v ≡ verdict F r t u v
      go false u v = rw (byte_prefix r.start a)
      go true false v = rw (byte_prefix r.sep c, i)
      go true true false = rw (seq_prefix r (omega arith), qual_prefix r d, i)
      go true true true = refl

-- a record is made of the first four line ends
record_front : (p : ℕ) (es fs : List ℕ) → 4 ≤ length es → record_of p (es ++ fs) (get_or (es ++ fs) 3 0) ≡ record_of p es (get_or es 3 0)
record_front p es fs h =
    rw (
      get_or-append es fs 0 0 (omega arith),
      get_or-append es fs 0 1 (omega arith),
      get_or-append es fs 0 2 (omega arith),
      get_or-append es fs 0 3 (omega arith),
    )

pub complete_front : (B : List ℕ) (p L : ℕ) (es fs : List ℕ) → 4 ≤ length es → complete B p L (es ++ fs) ≡ complete B p L es
unfolding complete
complete_front B p L es fs h = rw (record_front p es fs h)

complete_prefix : (F X : List ℕ) (W p L : ℕ) → 4 ≤ length (seen F W p) → complete (F ++ X) p L (seen F W p) ≡ complete F p L (seen F W p)
unfolding complete
complete_prefix F X W p L h =
    let l = seen_low F W p 3 h in
    let u = seen_high F W p 3 h in
    let a = seen_rises F W p 0 (omega arith) in
    let b = seen_rises F W p 1 (omega arith) in
    let c = seen_rises F W p 2 (omega arith) in
    rw
    (validate_prefix F X (record_of p (seen F W p) (get_or (seen F W p) 3 0)) (omega arith) (omega arith) (omega arith) (omega arith))

-- the line ends seen stay, and others may follow; none follow if W bytes are held
seen_prefix : (F X : List ℕ) (W p : ℕ) → p ≤ length F → seen (F ++ X) W p ≡ seen F W p ++ line_ends (p + length (take W (drop p F))) (take (W - length (drop p F)) X)
seen_prefix F X W p h = rw (drop-append-le p F X h, take-append W (drop p F) X, line_ends-append)

full_prefix : (F X : List ℕ) (W p : ℕ) → W ≤ length (rest F p) → (seen (F ++ X) W p ≡ seen F W p) × (W ≤ length (rest (F ++ X) p))
full_prefix F X W p h = go (dec_le p (length F))
  where
    go : Dec (p ≤ length F) → (seen (F ++ X) W p ≡ seen F W p) × (W ≤ length (rest (F ++ X) p))
    go (yes k) = rw (drop-append-le p F X k) (rw (take-append-le W (drop p F) X h), omega (arith, length-append (drop p F) X))
    go (no k) = let z : W ≡ 0 = omega (arith, length-drop p F) in rw z (refl, omega arith)

-- which rule settles a step
settled_rule : (F : List ℕ) (W p : ℕ) → settled F W p ≡ true → (4 ≤ length (seen F W p)) ⊎ (W ≤ length (rest F p))
settled_rule F W p = go (leb 4 (length (seen F W p))) refl (leb W (length (rest F p))) refl
  where
    go : (t : Bool) → leb 4 (length (seen F W p)) ≡ t → (u : Bool) → leb W (length (rest F p)) ≡ u → (t || u) ≡ true → (4 ≤ length (seen F W p)) ⊎ (W ≤ length (rest F p))
    go true e u f s = inl (leb-true _ _ e)
    go false e true f s = inr (leb-true _ _ f)
    go false e false f s = let z : ◌≡◌ {A = ℕ} 0 1 = cc in absurd (omega arith)

-- SETTLED: a step that is settled by the bytes at hand, by four line ends or by W bytes, stays the same whatever bytes follow
pub step_prefix : (F X : List ℕ) (W p L : ℕ) → settled F W p ≡ true → step_at (F ++ X) W p L ≡ step_at F W p L
step_prefix F X W p L s = go (rule_at F W p)
  where
    go : Rule F W p → step_at (F ++ X) W p L ≡ step_at F W p L
    go (four h) =
        let l = seen_low F W p 3 h in
        let g = seen_high F W p 3 h in
        let q = seen_prefix F X W p (omega arith) in
        let m : 4 ≤ length (seen (F ++ X) W p) = rw (q, length-append) (omega arith) in
        step_four (F ++ X) W p L m ∙ ap (complete (F ++ X) p L) q ∙ complete_front (F ++ X) p L (seen F W p) _ h ∙ complete_prefix F X W p L h ∙ sym (step_four F W p L h)
    go (full h k) =
        let q = full_prefix F X W p k in
        step_full (F ++ X) W p L (rw q.0 h) q.1 ∙ sym (step_full F W p L h k)
    go (tail h k) = absurd (no (settled_rule F W p s))
      where
        no : (4 ≤ length (seen F W p)) ⊎ (W ≤ length (rest F p)) → ⊥
        no (inl m) = omega arith
        no (inr m) = omega arith

-- ---- a larger window

-- a step to which the window sets no limit is the same in a larger window
pub step_wider : (B : List ℕ) (W U p L : ℕ) → W ≤ U → (4 ≤ length (seen B W p)) ⊎ (length (rest B p) < W) → step_at B U p L ≡ step_at B W p L
step_wider B W U p L w (inl h) =
    let q : seen B U p ≡ seen B W p ++ line_ends (p + length (take W (drop p B))) (take (U - W) (drop W (drop p B))) = rw (take_wider W U (drop p B) w, line_ends-append) in
    let m : 4 ≤ length (seen B U p) = rw (q, length-append) (omega arith) in
    step_four B U p L m ∙ ap (complete B p L) q ∙ complete_front B p L (seen B W p) _ h ∙ sym (step_four B W p L h)
step_wider B W U p L w (inr k) = go (rule_at B W p)
  where
    q : seen B U p ≡ seen B W p
    q = rw (take_all U (drop p B) (omega arith), take_all W (drop p B) (omega arith))

    go : Rule B W p → step_at B U p L ≡ step_at B W p L
    go (four h) = step_four B U p L (rw q h) ∙ ap (complete B p L) q ∙ sym (step_four B W p L h)
    go (full h l) = absurd (omega arith)
    go (tail h l) = step_tail B U p L (rw q h) (omega arith) ∙ ap (tail_rule B p L) q ∙ sym (step_tail B W p L h l)

-- ---- a step needs no line end past the fourth

pub step_notes : (B : List ℕ) (W p L : ℕ) (es : List ℕ) → step_with B W p L (take 4 es) ≡ step_with B W p L es
step_notes B W p L es = go (dec_le 4 (length es))
  where
    go : Dec (4 ≤ length es) → step_with B W p L (take 4 es) ≡ step_with B W p L es
    go (yes h) =
        let n : length (take 4 es) ≡ 4 = length-take-le 4 es h in
        rw (le-leb 4 (length es) h, le-leb 4 (length (take 4 es)) (omega arith))
        (sym (complete_front B p L (take 4 es) (drop 4 es) (omega arith)) ∙ ap (complete B p L) (take-append-drop 4 es))
    go (no h) = rw (take_all 4 es (omega arith))
