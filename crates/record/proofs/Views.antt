-- Laws of the view test and of the views.
-- Assumes nothing.
use mathlib.Core.Path.{◌≡◌, refl, sym, ap, ◌∙◌}
use mathlib.Core.Bool.{Bool, true, false, cond, ◌&&◌}
use mathlib.Core.Option.{Option, none, some}
use mathlib.Core.List.{List, []}
use Prim.Native.Nat.{ℕ, ◌+◌, ◌-◌, ◌<◌, ◌≤◌}
use native.Mathlib.Nat.{zero-add}
use native.Mathlib.Omega.{arith}
use lib.Dec.{ltb}
use lib.ListN.{length, take, drop, length-drop}
use lib.Seq.{take_all}
use borrow.Author.Tests.{leb-true, lt-ltb}
use denote.Ref.{Bor}
use Rattle.std.specs.Prelude.{Some, None, is_some, IfSome, unwrap_or}
use Rattle.std.specs.Prelude as std
use Rattle.reading.specs.Bytes.{id_length}
use Rattle.reading.specs.Answer.{Five}
use Rattle.reading.specs.Reading.{id_in, desc_in}
use Rattle.record.specs.Views.{view_test, View, view, nowhere, view_by, head_view, desc_by, desc_view, present, has_desc, Shows}

-- the five numbers are those of a record within n bytes
pub record Fits (r : Five) (n : ℕ) : Type 0 where
  pub head : r.start + 2 ≤ r.seq
  pub sequence : r.seq + 1 ≤ r.sep
  pub separator : r.sep + 2 ≤ r.qual
  pub quality : r.qual ≤ r.end
  pub inside : r.end ≤ n

-- both of two tests that pass together pass
both : (a b : Bool) → (a && b) ≡ true → (a ≡ true) × (b ≡ true)
both true b e = (refl, e)
both false b e = let z : ◌≡◌ {A = ℕ} 0 1 = cc in absurd (omega arith)

-- what the view test says
pub fits_facts : (r : Five) (n : ℕ) → view_test r n ≡ true → Fits r n
unfolding view_test
fits_facts r n e =
    let p = both _ _ e in let q = both _ _ p.0 in let s = both _ _ q.0 in let t = both _ _ s.0 in
    record { head = leb-true _ _ t.0; sequence = leb-true _ _ t.1; separator = leb-true _ _ s.1; quality = leb-true _ _ q.1; inside = leb-true _ _ p.1 }

-- the same of a test that was asked and did not fail
pub fits_asked : {t : Bool} (r : Five) (n : ℕ) → t ≡ view_test r n → t ≡ true → Fits r n
fits_asked r n e h = fits_facts r n (sym e ∙ h)

-- where the test did not fail, the view is shown
pub shown : {w v : Bor (List ℕ)} {t : Bool} (u : Bool) (x : View) → t ≡ u → t ≡ true → Shows w x v → Shows w (view_by u x) v
shown u x e h s = let q : u ≡ true = sym e ∙ h in rw q s

-- the empty part at the window's front shows nothing
pub front : {w v : Bor (List ℕ)} → v.now ≡ [] → v.ref_ptr ≡ w.ref_ptr → Shows w nowhere v
front {w} b p = record { bytes = b; place = p ∙ ap (λ (k : ℕ). (w.ref_ptr.0, k)) (sym (zero-add w.ref_ptr.1)) }

-- where it failed, that part is shown
pub hidden : {w v : Bor (List ℕ)} {t : Bool} (u : Bool) (x : View) → t ≡ u → t ≡ false → v.now ≡ [] → v.ref_ptr ≡ w.ref_ptr → Shows w (view_by u x) v
hidden u x e h b p = let q : u ≡ false = sym e ∙ h in rw q (front b p)

-- ---- the parts of a head that is shown as the part h, n bytes of which are its id

module _ (w h v : Bor (List ℕ)) (x : View) (s : Shows w x h) (n : ℕ) (e : n ≡ id_length h.now) where
  -- the front of the head is its id
  pub id_shown : v.now ≡ take n h.now → v.ref_ptr ≡ h.ref_ptr → Shows w (view x.from (id_in x.bytes)) v
  id_shown b p = record { bytes = rw (← s.bytes, ← e) b; place = p ∙ s.place }

  -- what stands behind the id and a space is the description
  pub desc_shown : n < length h.now → v.now ≡ take (length h.now - (n + 1)) (drop (n + 1) h.now) → v.ref_ptr ≡ (h.ref_ptr.0, (n + 1) + h.ref_ptr.1)
      → Shows w (desc_by (x.from + (id_length x.bytes + 1)) (desc_in x.bytes)) v
  desc_shown k b p =
      let q : ltb (id_length h.now) (length h.now) ≡ true = lt-ltb (id_length h.now) (length h.now) (omega arith) in
      let a : (n + 1) + (x.from + w.ref_ptr.1) ≡ x.from + (id_length h.now + 1) + w.ref_ptr.1 = omega arith in
      rw (← s.bytes, q)
      (record {
        bytes = b ∙ take_all (length h.now - (n + 1)) (drop (n + 1) h.now) (simp length-drop (omega arith)) ∙ ap (λ (i : ℕ). drop (i + 1) h.now) e;
        place = p ∙ ap (λ z. (z.0, (n + 1) + z.1)) s.place ∙ ap (λ (i : ℕ). (w.ref_ptr.0, i)) a;
      })

  -- the description is there where the id is not the whole head
  pub desc_told : ltb n (length h.now) ≡ present (desc_in x.bytes)
  desc_told = rw (← s.bytes, e) (by (ltb (id_length h.now) (length h.now))) where
    by : (t : Bool) → t ≡ present (cond t (some (drop (id_length h.now + 1) h.now)) none)
    by true = refl
    by false = refl

-- the description, or where there is none the empty part at the window's front
pub desc_or_front : {w d v : Bor (List ℕ)} (r : Five) (o : std.Option (Bor (List ℕ)))
    → is_some o ≡ has_desc w.now r → IfSome o (Shows w (desc_view w.now r)) → d.now ≡ [] → d.ref_ptr ≡ w.ref_ptr → v ≡ unwrap_or o d → Shows w (desc_view w.now r) v
unfolding has_desc desc_view
desc_or_front {w} {d} {v} r (Some x) g s b p e = rw e s
desc_or_front {w} {d} {v} r None g s b p e = rw e (by (desc_in (head_view w.now r).bytes) g)
  where
    by : (q : Option (List ℕ)) → false ≡ present q → Shows w (desc_by ((head_view w.now r).from + (id_length (head_view w.now r).bytes + 1)) q) d
    by none f = front b p
    by (some q) f = let z : ◌≡◌ {A = ℕ} 0 1 = cc in absurd (omega arith)
