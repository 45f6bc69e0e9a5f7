-- Laws of the foreign-state test: what the code tests is what the definition says, and the facts that an own state gives.
-- Assumes nothing.
use mathlib.Core.Path.{◌≡◌, refl, subst}
use mathlib.Core.Bool.{Bool, true, false, ◌&&◌, true≢false}
use mathlib.Core.List.{List, [], ◌∷◌}
use Prim.Native.Nat.{ℕ, suc, ◌+◌, ◌-◌, ◌<◌, ◌≤◌}
use native.Mathlib.Omega.{arith}
use borrow.Author.Tests.{le-leb, leb-true, lt-ltb, ltb-true, eq-eqb, eqb-true}
use Rattle.record.specs.declared.Noted.{Noted}
use Rattle.record.specs.declared.Noted.TheVariants.{Zero, One, Two, Three, Four}
use Rattle.record.specs.Noted.{listed}
use Rattle.reader.specs.declared.Reader.{Reader}
use Rattle.std.specs.Prelude.{Ok}
use Rattle.reader.specs.Feed.{ready_by, ready_of}
use Rattle.reader.specs.State.{most_bytes, most_lines, notes_fit, own, Notes, Own}

pub both : (a b : Bool) → (a && b) ≡ true → (a ≡ true) × (b ≡ true)
both true b e = (refl, e)
both false b e = let z : ◌≡◌ {A = Bool} true false = cc in absurd (true≢false z)

pub fails : (a b : Bool) → (a && b) ≡ false → a ≡ true → b ≡ false
fails true b e h = e
fails false b e h = let z : ◌≡◌ {A = Bool} true false = cc in absurd (true≢false z)

pub notes_facts : (from fill mark : ℕ) (es : List ℕ) → notes_fit from fill mark es ≡ true → Notes from fill mark es
unfolding notes_fit
notes_facts from fill mark [] q = let p = both _ _ q in (leb-true _ _ p.0, leb-true _ _ p.1)
notes_facts from fill mark (e ∷ es) q =
    let p = both _ _ q in let r = both _ _ p.1 in
    (leb-true _ _ p.0, ltb-true _ _ r.0, notes_facts (suc e) fill mark es r.1)

-- a state that is not foreign, as facts
pub own_facts : (s : Reader) (n : ℕ) → own s n ≡ true → Own s n
unfolding own
own_facts s n e =
    let a = both _ _ e in
    let b = both _ _ a.0 in
    let c = both _ _ b.0 in
    let d = both _ _ c.0 in
    let f = both _ _ d.0 in
    let g = both _ _ f.1 in
    record {
      opened = eqb-true _ _ f.0;
      forward = leb-true _ _ g.0;
      inside = leb-true _ _ g.1;
      notes = notes_facts _ _ _ _ d.1;
      behind = leb-true _ _ c.1;
      near = leb-true _ _ b.1;
      few = leb-true _ _ a.1;
    }

-- and facts make the test true
pub fits_notes : (from fill mark : ℕ) (es : List ℕ) → Notes from fill mark es → notes_fit from fill mark es ≡ true
unfolding notes_fit
fits_notes from fill mark [] n = rw (le-leb from mark n.0, le-leb mark fill n.1)
fits_notes from fill mark (e ∷ es) n = rw (le-leb from e n.0, lt-ltb e fill n.1) (fits_notes (suc e) fill mark es n.2)

-- and the facts make a state own
pub own_true : (s : Reader) (n : ℕ) → Own s n → own s n ≡ true
unfolding own
own_true s n o =
    rw (
      eq-eqb n s.window o.opened,
      le-leb s.start s.fill o.forward,
      le-leb s.fill s.window o.inside,
      fits_notes s.start s.fill s.mark (listed s.noted) o.notes,
      le-leb s.start s.byte.0 o.behind,
      le-leb (s.byte.0 + (s.fill - s.start)) most_bytes o.near,
      le-leb s.line.0 most_lines o.few,
    )

-- notes that fit, of an enum that is known
pub notes_at : (a fill m : ℕ) (e f : Noted) → e ≡ f → Notes a fill m (listed e) → Notes a fill m (listed f)
notes_at a fill m e f q n = subst (λ (x : Noted). Notes a fill m (listed x)) q n

-- notes of n bytes that fit, by their count: they rise from p on, and lie before n
module _ (p n : ℕ) (e : Noted) (fit : notes_fit p n n (listed e) ≡ true) where
  seen : (f : Noted) → e ≡ f → Notes p n n (listed f)
  seen f q = notes_at p n n e f q (notes_facts p n n (listed e) fit)

  pub seen_none : e ≡ Zero → p ≤ n
  seen_none q = omega (arith, seen Zero q)

  pub seen_one : (a : ℕ) → e ≡ One a → (p ≤ a) × (a < n)
  seen_one a q = let f = seen (One a) q in (omega (arith, f), omega (arith, f))

  pub seen_two : (a b : ℕ) → e ≡ Two a b → (p ≤ a) × (a < b) × (b < n)
  seen_two a b q = let f = seen (Two a b) q in (omega (arith, f), omega (arith, f), omega (arith, f))

  pub seen_three : (a b c : ℕ) → e ≡ Three a b c → (a < b) × (b < c) × (c < n)
  seen_three a b c q = let f = seen (Three a b c) q in (omega (arith, f), omega (arith, f), omega (arith, f))

  pub seen_four : (a b c d : ℕ) → e ≡ Four a b c d → (a < b) × (b < c) × (c < d) × (d < n)
  seen_four a b c d q = let f = seen (Four a b c d) q in (omega (arith, f), omega (arith, f), omega (arith, f), omega (arith, f))

  -- the sought record starts among the bytes, or right behind them
  pub seen_start : p ≤ n
  seen_start = by e (notes_facts p n n (listed e) fit)
    where
      by : (f : Noted) → Notes p n n (listed f) → p ≤ n
      by Zero g = omega (arith, g)
      by (One a) g = omega (arith, g)
      by (Two a b) g = omega (arith, g)
      by (Three a b c) g = omega (arith, g)
      by (Four a b c d) g = omega (arith, g)

pub own_self : (s : Reader) (n : ℕ) → Own s n → Own s s.window
own_self s n h = subst (λ (k : ℕ). Own s k) h.opened h

-- whether a state may be fed, or told the end
module _ (s : Reader) (w : ℕ) where
  -- a state that is ready is own
  pub ready_own : ready_of s w ≡ Ok tt → own s w ≡ true
  ready_own = go (own s w) s.ended s.waiting
    where
      go : (a b c : Bool) → ready_by a b c ≡ Ok tt → a ≡ true
      go false b c e = let z : ◌≡◌ {A = ℕ} 0 1 = cc in absurd (omega arith)
      go true b c e = refl

  -- and so it is of its own window's length
  pub ready_own_self : ready_of s w ≡ Ok tt → Own s s.window
  ready_own_self e = own_self s w (own_facts s w (ready_own e))
