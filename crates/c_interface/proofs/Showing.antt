-- Laws of the views' offsets: where a view stands, and that it lies in the window.
-- Assumes nothing.
use mathlib.Core.Path.{◌≡◌, refl, sym, ap, ◌∙◌}
use mathlib.Core.Bool.{Bool, true, false, cond, ◌&&◌}
use mathlib.Core.Option.{Option, none, some}
use mathlib.Core.List.{List, []}
use Prim.Native.Nat.{ℕ, zero, suc, ◌+◌, ◌-◌, ◌≤◌, ◌<◌}
use native.Mathlib.Omega.{arith}
use lib.ListN.{length, take, drop, length-take, length-drop}
use lib.Seq.{sets, slice, take-nil}
use lib.Dec.{ltb, eqb}
use borrow.Author.Tests.{lt-ltb, le-ltb, ltb-true, ne_eqb}
use Rattle.reading.specs.Answer.{Five}
use Rattle.reading.specs.Bytes.{byte_at, trim_cr, id_length, CR}
use Rattle.reading.specs.Reading.{head_of, desc_in}
use Rattle.record.specs.Views as views
use Rattle.record.specs.Views.{View, view, view_test, head_view, seq_view, qual_view, id_view, desc_by, desc_view, present, has_desc}
use Rattle.record.proofs.Views.{fits_facts}
use Rattle.c_interface.specs.declared.Told.{Told}
use Rattle.c_interface.specs.Told.{briefly}
use Rattle.c_interface.specs.Shown.{view_of, placed, placed_by, view_by, view_told, Shown, view_call}

-- what is told of a view by its place and its bytes
pub shown_told : (x : View) {t : Told} {a : ℕ} {s : List ℕ} → t ≡ briefly 0 a (length s) → a ≡ x.from → s ≡ x.bytes → t ≡ view_of x
shown_told x p q r = p ∙ rw (q, r)

module _ (w : List ℕ) (r : Five) {t : Bool} (asked : t ≡ view_test r (length w)) where
  pub placed_none : (n : ℕ) → t ≡ false → 0 ≡ placed w r n
  unfolding placed
  placed_none n h = rw (sym asked ∙ h)

  pub placed_some : (n : ℕ) → t ≡ true → n ≡ placed w r n
  unfolding placed
  placed_some n h = rw (sym asked ∙ h)

  pub head_none : t ≡ false → 0 ≡ (head_view w r).from
  unfolding head_view
  head_none h = rw (sym asked ∙ h)

  pub head_some : t ≡ true → r.start + 1 ≡ (head_view w r).from
  unfolding head_view
  head_some h = rw (sym asked ∙ h)

module _ (w : List ℕ) (r : Five) where
  pub seq_from : placed w r r.seq ≡ (seq_view w r).from
  unfolding placed seq_view
  seq_from = go (view_test r (length w)) _
    where
      go : (u : Bool) (s : List ℕ) → placed_by u r.seq ≡ (views.view_by u (view r.seq s)).from
      go true s = refl
      go false s = refl

  pub qual_from : placed w r r.qual ≡ (qual_view w r).from
  unfolding placed qual_view
  qual_from = go (view_test r (length w)) _
    where
      go : (u : Bool) (s : List ℕ) → placed_by u r.qual ≡ (views.view_by u (view r.qual s)).from
      go true s = refl
      go false s = refl

  pub id_from : (head_view w r).from ≡ (id_view w r).from
  unfolding id_view
  id_from = refl

trim_most : (s : List ℕ) → length (trim_cr s) ≤ length s
unfolding trim_cr
trim_most s = go (eqb (byte_at s (length s - 1)) CR)
  where
    go : (u : Bool) → length (cond u (take (length s - 1) s) s) ≤ length s
    go true = simp length-take (omega arith)
    go false = omega arith

-- the head lies in the window
head_inside : (w : List ℕ) (r : Five) → (head_view w r).from + length (head_view w r).bytes ≤ length w
unfolding head_view head_of
head_inside w r = go (view_test r (length w)) refl
  where
    go : (u : Bool) → view_test r (length w) ≡ u
        → (views.view_by u (view (r.start + 1) (trim_cr (slice (r.start + 1) (r.seq - 1) w)))).from + length (views.view_by u (view (r.start + 1) (trim_cr (slice (r.start + 1) (r.seq - 1) w)))).bytes ≤ length w
    go false e = omega arith
    go true e =
        let f = fits_facts r (length w) e in
        let s = trim_most (slice (r.start + 1) (r.seq - 1) w) in
        let n : length (slice (r.start + 1) (r.seq - 1) w) ≤ r.seq - 1 - (r.start + 1) = simp (length-drop, length-take) (omega arith) in
        omega arith

module _ (w : List ℕ) (r : Five) {t : Bool} (asked : t ≡ has_desc w r) where
  pub desc_none : t ≡ false → 0 ≡ (desc_view w r).from
  unfolding has_desc desc_view
  desc_none h = go (desc_in (head_view w r).bytes) (sym asked ∙ h)
    where
      go : (d : Option (List ℕ)) → present d ≡ false → 0 ≡ (desc_by ((head_view w r).from + (id_length (head_view w r).bytes + 1)) d).from
      go none e = refl
      go (some d) e = let z : ◌≡◌ {A = ℕ} 0 1 = cc in omega arith

  pub desc_some : t ≡ true → (head_view w r).from + (id_length (head_view w r).bytes + 1) ≡ (desc_view w r).from
  unfolding has_desc desc_view
  desc_some h = go (desc_in (head_view w r).bytes) (sym asked ∙ h)
    where
      go : (d : Option (List ℕ)) → present d ≡ true → (head_view w r).from + (id_length (head_view w r).bytes + 1) ≡ (desc_by ((head_view w r).from + (id_length (head_view w r).bytes + 1)) d).from
      go none e = let z : ◌≡◌ {A = ℕ} 0 1 = cc in omega arith
      go (some d) e = refl

  -- a description starts in the window, or at its end
  pub desc_inside : t ≡ true → (head_view w r).from + (id_length (head_view w r).bytes + 1) ≤ length w
  unfolding has_desc
  desc_inside h = go (ltb (id_length (head_view w r).bytes) (length (head_view w r).bytes)) refl (sym asked ∙ h)
    where
      go : (u : Bool) → ltb (id_length (head_view w r).bytes) (length (head_view w r).bytes) ≡ u
          → present (cond u (some (drop (id_length (head_view w r).bytes + 1) (head_view w r).bytes)) none) ≡ true
          → (head_view w r).from + (id_length (head_view w r).bytes + 1) ≤ length w
      go true e p = omega (arith, ltb-true (id_length (head_view w r).bytes) (length (head_view w r).bytes) e, head_inside w r)
      go false e p = let z : ◌≡◌ {A = ℕ} 0 1 = cc in omega arith

  -- it is what is left of the head behind the id and the byte that ends it
  pub desc_behind : t ≡ true → length (desc_view w r).bytes + (id_length (head_view w r).bytes + 1) ≡ length (head_view w r).bytes
  unfolding has_desc desc_view
  desc_behind h = go (ltb (id_length (head_view w r).bytes) (length (head_view w r).bytes)) refl (sym asked ∙ h)
    where
      go : (u : Bool) → ltb (id_length (head_view w r).bytes) (length (head_view w r).bytes) ≡ u
          → present (cond u (some (drop (id_length (head_view w r).bytes + 1) (head_view w r).bytes)) none) ≡ true
          → length (desc_by ((head_view w r).from + (id_length (head_view w r).bytes + 1)) (cond u (some (drop (id_length (head_view w r).bytes + 1) (head_view w r).bytes)) none)).bytes
          + (id_length (head_view w r).bytes + 1) ≡ length (head_view w r).bytes
      go true e p = simp length-drop (omega (arith, ltb-true (id_length (head_view w r).bytes) (length (head_view w r).bytes) e))
      go false e p = let z : ◌≡◌ {A = ℕ} 0 1 = cc in omega arith

-- five numbers that are no record's: the empty part at offset 0, and no description
module _ (w : List ℕ) (r : Five) (fails : view_test r (length w) ≡ false) where
  no_desc : has_desc w r ≡ false
  unfolding has_desc head_view
  no_desc = rw (fails, le-ltb (id_length []) 0 (omega arith))

  pub view_empty : (which : ℕ) → which < 4 → briefly 0 0 0 ≡ view_told which w r
  unfolding view_told head_view seq_view qual_view id_view
  view_empty zero h = rw fails
  view_empty (suc zero) h = rw fails
  view_empty (suc (suc zero)) h = rw fails
  view_empty (suc (suc (suc zero))) h = rw (fails, take-nil)
  view_empty (suc (suc (suc (suc n)))) h = absurd (omega arith)

  pub view_absent : (which : ℕ) → 4 ≤ which → briefly 18 0 0 ≡ view_told which w r
  unfolding view_told
  view_absent which h =
      rw (ne_eqb which 0 (omega arith), ne_eqb which 1 (omega arith), ne_eqb which 2 (omega arith), ne_eqb which 3 (omega arith), no_desc) (go (eqb which 4))
    where
      go : (t : Bool) → briefly 18 0 0 ≡ view_by w r false false false false (t && false)
      go true = refl
      go false = refl

module _ (v : List ℕ) where
  pub view_short : (t : Told) → length v < 6 → Shown 2 v (view_call v t)
  unfolding view_call
  view_short t h = rw (lt-ltb _ _ h) (record { code = refl; values = refl })

  pub view_done : (v' : List ℕ) (t u : Told) → 6 ≤ length v → u ≡ t → v' ≡ sets v 0 u.values → Shown u.code v' (view_call v t)
  unfolding view_call
  view_done v' t u h p q = rw (le-ltb _ _ h) (record { code = ap (λ (x : Told). x.code) p; values = rw p at q })
