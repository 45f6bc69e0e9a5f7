-- Laws of a set call on its way, turn by turn: what is left to list, and the answer in the end.
-- Assumes nothing.
use mathlib.Core.Path.{◌≡◌, refl, sym, ap, ◌∙◌}
use mathlib.Core.Bool.{Bool, true, false}
use mathlib.Core.List.{List, [], ◌∷◌}
use Prim.Native.Nat.{ℕ, zero, suc, ◌+◌, ◌-◌, ◌<◌, ◌≤◌, min}
use native.Mathlib.Omega.{arith}
use native.Mathlib.Nat.{not-suc-le-zero}
use lib.ListN.{length}
use lib.Dec.{ltb, eqb}
use borrow.Author.Tests.{lt-ltb, le-ltb, ltb-true, ltb-false, ne_eqb, eqb-true, eqb-false}
use Rattle.record.specs.declared.Record.{Record}
use Rattle.reader.specs.declared.Reader.{Reader}
use Rattle.reader.specs.declared.Outcome.{Outcome}
use Rattle.reader.specs.declared.Answer.{Answer}
use Rattle.sets.specs.declared.Reply.{Reply}
use Rattle.reader.specs.State.{own}
use Rattle.reader.specs.Next.{next_of}
use Rattle.std.specs.Prelude.{Option, Some, None, Ok, Err}
use Rattle.reader.specs.declared.Refusal.TheVariants.{Foreign, NothingToDo}
use Rattle.sets.specs.declared.Reply.TheVariants.{Count}
use Rattle.sets.specs.declared.Run.{Run}
use Rattle.sets.specs.Sets.{row_in, other_of, collected_by, collected, after_of, listed, listed_by, set_by, set_of, records_of}
use Rattle.sets.specs.Inside.{over_of, stopped_of, onward_of, none_by, look_by, look_of, step_by, step_of, begin_by, begin_of, left_by, left_of, end_by, end_of, Ready}
use Rattle.sets.proofs.Sounds.{next_sound, record_own}

-- ---- what the code does is the definition

-- x is next's answer, where k records of n are listed
module _ (s : Reader) (w : List ℕ) (k n : ℕ) (x : Outcome Answer) (ex : x ≡ next_of s w) where
  pub look_record : (r : Record) → row_in x.answer ≡ Some r → onward_of k n x r ≡ look_of s w k n
  unfolding look_of
  look_record r q = rw (← ex, q)

  pub look_other : row_in x.answer ≡ None → k ≡ 0 → over_of 0 s (listed x.state (other_of x.answer)) ≡ look_of s w k n
  unfolding look_of
  look_other q z = rw (← ex, q, z)

  pub look_stop : row_in x.answer ≡ None → (k ≡ 0 → ⊥) → stopped_of k s ≡ look_of s w k n
  unfolding look_of
  look_stop q z = rw (← ex, q, ne_eqb k 0 z)

module _ (r : Run) (w : List ℕ) where
  pub step_look : r.count + 1 < r.wanted → look_of r.state w (r.count + 1) r.wanted ≡ step_of r w
  unfolding step_of
  step_look h = rw (lt-ltb (r.count + 1) r.wanted h)

  pub step_stop : r.wanted ≤ r.count + 1 → stopped_of (r.count + 1) r.state ≡ step_of r w
  unfolding step_of
  step_stop h = rw (le-ltb (r.count + 1) r.wanted h)

module _ (s : Reader) (w : List ℕ) (room wanted n : ℕ) (en : n ≡ min wanted room) where
  pub begin_foreign : own s (length w) ≡ false → over_of 0 s (listed s (Err Foreign)) ≡ begin_of s w room wanted
  unfolding begin_of
  begin_foreign o = rw o

  pub begin_none : own s (length w) ≡ true → n ≡ 0 → over_of 0 s (listed s (Err NothingToDo)) ≡ begin_of s w room wanted
  unfolding begin_of
  begin_none o z = rw (o, ← en, z)

  pub begin_look : own s (length w) ≡ true → (n ≡ 0 → ⊥) → look_of s w 0 n ≡ begin_of s w room wanted
  unfolding begin_of
  begin_look o z = rw (o, ← en, ne_eqb n 0 z)

-- ---- what is left, and the end

-- with a record listed the answer is the count
pub listed_some : (k : ℕ) (x : Outcome Answer) (t : Reader) → 0 < k → listed (after_of t) (Ok (Count k)) ≡ listed_by k x t
listed_some zero x t h = absurd (not-suc-le-zero h)
listed_some (suc k) x t h = refl

-- a foreign state gives no record
pub foreign_none : (n : ℕ) (s : Reader) (w : List ℕ) → own s (length w) ≡ false → (collected n s w).records ≡ []
unfolding collected next_of
foreign_none zero s w o = refl
foreign_none (suc n) s w o = rw o

module _ (s : Reader) (w : List ℕ) (k n : ℕ) (h : k < n) where
  one_more : n - k ≡ suc (n - (k + 1))
  one_more = omega arith

  pub look_left : left_of (look_of s w k n) w ≡ (collected (n - k) s w).records
  unfolding left_of look_of collected
  look_left = rw one_more (go (row_in (next_of s w).answer))
    where
      none : (z : Bool) → left_by (none_by s k (next_of s w) z) w (none_by s k (next_of s w) z).entry ≡ []
      none true = refl
      none false = refl

      go : (o : Option Record) → left_by (look_by s k n (next_of s w) o) w (look_by s k n (next_of s w) o).entry ≡ (collected_by (λ t. collected (n - (k + 1)) t w) s (next_of s w).state o).records
      go (Some r) = refl
      go None = none (eqb k 0)

  pub look_end : end_of (look_of s w k n) w ≡ listed_by (k + length (collected (n - k) s w).records) (next_of s w) (collected (n - k) s w).state
  unfolding end_of look_of collected
  look_end = rw one_more (go (row_in (next_of s w).answer))
    where
      x : Outcome Answer
      x = next_of s w

      none : (z : Bool) → eqb k 0 ≡ z → end_by (none_by s k x z) w (none_by s k x z).entry ≡ listed_by (k + 0) x s
      none true e = let q : k + 0 ≡ 0 = omega (arith, eqb-true k 0 e) in rw q
      none false e = let q : k + 0 ≡ k = omega arith in rw q (listed_some k x s (omega (arith, eqb-false k 0 e)))

      go : (o : Option Record) → end_by (look_by s k n x o) w (look_by s k n x o).entry
          ≡ listed_by (k + length (collected_by (λ t. collected (n - (k + 1)) t w) s x.state o).records) x (collected_by (λ t. collected (n - (k + 1)) t w) s x.state o).state
      go (Some r) =
          let c = collected (n - (k + 1)) x.state w in
          let q : k + 1 + length c.records ≡ k + suc (length c.records) = omega arith in
          rw q (listed_some (k + suc (length c.records)) x c.state (omega arith))
      go None = none (eqb k 0) refl

  pub look_count : (look_of s w k n).count ≡ k
  unfolding look_of
  look_count = go (row_in (next_of s w).answer)
    where
      none : (z : Bool) → eqb k 0 ≡ z → (none_by s k (next_of s w) z).count ≡ k
      none true e = sym (eqb-true k 0 e)
      none false e = refl

      go : (o : Option Record) → (look_by s k n (next_of s w) o).count ≡ k
      go (Some r) = refl
      go None = none (eqb k 0) refl

-- ---- a turn

module _ (r : Run) (w : List ℕ) (i : Record) (m : r.entry ≡ Some i) (h : r.count < r.wanted) where
  pub step_left : left_of r w ≡ i ∷ left_of (step_of r w) w
  unfolding left_of step_of collected
  step_left = ap (left_by r w) m ∙ go (ltb (r.count + 1) r.wanted) refl
    where
      go : (t : Bool) → ltb (r.count + 1) r.wanted ≡ t → i ∷ (collected (r.wanted - (r.count + 1)) r.state w).records ≡ i ∷ left_of (step_by r w t) w
      go true e = rw (look_left r.state w (r.count + 1) r.wanted (ltb-true (r.count + 1) r.wanted e))
      go false e = let z : r.wanted - (r.count + 1) ≡ 0 = omega (arith, ltb-false (r.count + 1) r.wanted e) in rw z

  pub step_end : end_of (step_of r w) w ≡ end_of r w
  unfolding end_of step_of collected
  step_end = go (ltb (r.count + 1) r.wanted) refl ∙ sym (ap (end_by r w) m)
    where
      c : (i : ℕ) → Outcome Reply
      c i = listed (after_of (collected i r.state w).state) (Ok (Count (r.count + 1 + length (collected i r.state w).records)))

      go : (t : Bool) → ltb (r.count + 1) r.wanted ≡ t → end_of (step_by r w t) w ≡ c (r.wanted - (r.count + 1))
      go true e =
          look_end r.state w (r.count + 1) r.wanted (ltb-true (r.count + 1) r.wanted e)
          ∙ sym (listed_some _ _ _ (omega arith))
      go false e =
          let z : r.wanted - (r.count + 1) ≡ 0 = omega (arith, ltb-false (r.count + 1) r.wanted e) in
          let q : r.count + 1 + 0 ≡ r.count + 1 = omega arith in
          rw (z, q)

  pub step_count : (step_of r w).count ≡ r.count + 1
  unfolding step_of
  step_count = go (ltb (r.count + 1) r.wanted) refl
    where
      go : (t : Bool) → ltb (r.count + 1) r.wanted ≡ t → (step_by r w t).count ≡ r.count + 1
      go true e = look_count r.state w (r.count + 1) r.wanted (ltb-true (r.count + 1) r.wanted e)
      go false e = refl

  -- less is left
  pub step_less : length (left_of (step_of r w) w) < length (left_of r w)
  step_less = rw step_left (omega arith)

-- where there is no more, nothing is left, and the answer is at hand
module _ (r : Run) (w : List ℕ) (m : r.entry ≡ None) where
  pub end_left : left_of r w ≡ []
  unfolding left_of
  end_left = ap (left_by r w) m

  pub end_out : r.out ≡ end_of r w
  unfolding end_of
  end_out = sym (ap (end_by r w) m)

-- ---- the beginning

module _ (s : Reader) (w : List ℕ) (room wanted : ℕ) where
  abbrev many : ℕ
  many = min wanted room

  some : eqb many 0 ≡ false → 0 < many
  some e = omega (arith, eqb-false many 0 e)

  pub begin_count : (begin_of s w room wanted).count ≡ 0
  unfolding begin_of
  begin_count = go (own s (length w)) (eqb many 0) refl
    where
      go : (o z : Bool) → eqb many 0 ≡ z → (begin_by s w many o z).count ≡ 0
      go false z e = refl
      go true true e = refl
      go true false e = look_count s w 0 many (some e)

  pub begin_left : left_of (begin_of s w room wanted) w ≡ records_of s w room wanted
  unfolding left_of begin_of collected
  begin_left = go (own s (length w)) refl (eqb many 0) refl
    where
      go : (o : Bool) → own s (length w) ≡ o → (z : Bool) → eqb many 0 ≡ z → left_of (begin_by s w many o z) w ≡ (collected many s w).records
      go false o z e = sym (foreign_none many s w o)
      go true o true e = let q = eqb-true many 0 e in rw q
      go true o false e = let z : many - 0 ≡ many = omega arith in look_left s w 0 many (some e) ∙ rw z

  pub begin_end : end_of (begin_of s w room wanted) w ≡ set_of s w room wanted
  unfolding end_of begin_of set_of
  begin_end = go (own s (length w)) (eqb many 0) refl
    where
      go : (o z : Bool) → eqb many 0 ≡ z → end_of (begin_by s w many o z) w ≡ set_by many s w o z
      go false z e = refl
      go true true e = refl
      go true false e =
          let z : many - 0 ≡ many = omega arith in
          let y : 0 + length (collected many s w).records ≡ length (collected many s w).records = omega arith in
          look_end s w 0 many (some e) ∙ rw (z, y)

-- ---- a run fits its table

none_some : {A : Type 0} (i : Record) → None ≡ Some i → A
none_some i e = let z : ◌≡◌ {A = ℕ} 0 1 = cc in absurd (omega arith)

over_ready : (k room : ℕ) (s : Reader) (l : Outcome Reply) → k ≤ room → Ready (over_of k s l) room
over_ready k room s l h = record { fits = h; ahead = λ i e. none_some i e; sound = λ i e. none_some i e }

look_ready : (s : Reader) (w : List ℕ) (k n room : ℕ) → k < n → n ≤ room → Ready (look_of s w k n) room
unfolding look_of
look_ready s w k n room h f = go (row_in (next_of s w).answer) refl
  where
    none : (z : Bool) → Ready (none_by s k (next_of s w) z) room
    none true = over_ready 0 room s _ (omega arith)
    none false = over_ready k room s _ (omega arith)

    go : (o : Option Record) → row_in (next_of s w).answer ≡ o → Ready (look_by s k n (next_of s w) o) room
    go (Some r) e = record { fits = f; ahead = λ i t. h; sound = λ i t. next_sound s w (record_own s w r e) }
    go None e = none (eqb k 0)

pub begin_ready : (s : Reader) (w : List ℕ) (room wanted : ℕ) → Ready (begin_of s w room wanted) room
unfolding begin_of
begin_ready s w room wanted = go (own s (length w)) (eqb (min wanted room) 0) refl
  where
    go : (o z : Bool) → eqb (min wanted room) 0 ≡ z → Ready (begin_by s w (min wanted room) o z) room
    go false z e = over_ready 0 room s _ (omega arith)
    go true true e = over_ready 0 room s _ (omega arith)
    go true false e = look_ready s w 0 (min wanted room) room (some s w room wanted e) (omega arith)

pub step_ready : (r : Run) (w : List ℕ) (room : ℕ) (i : Record) → r.entry ≡ Some i → Ready r room → Ready (step_of r w) room
unfolding step_of
step_ready r w room i m f = go (ltb (r.count + 1) r.wanted) refl
  where
    go : (t : Bool) → ltb (r.count + 1) r.wanted ≡ t → Ready (step_by r w t) room
    go true e = look_ready r.state w (r.count + 1) r.wanted room (ltb-true (r.count + 1) r.wanted e) f.fits
    go false e = over_ready (r.count + 1) room r.state _ (omega (arith, f.fits, f.ahead i m))
