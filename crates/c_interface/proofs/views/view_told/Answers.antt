-- One arm for each view: its place and its length (Showing).
-- Assumes nothing.
use mathlib.Core.Path.{◌≡◌, refl, sym, ap, ◌∙◌}
use lib.ListN.{length}
use borrow.Author.Tests.{ne_eqb}
use native.Mathlib.Omega.{arith}
use mathlib.Core.List.{List}
use Prim.Native.Nat.{ℕ, ◌+◌, ◌-◌}
use Rattle.reading.specs.Bytes.{id_length}
use Rattle.record.specs.Check.{five_of}
use Rattle.record.specs.Views.{head_view}
use Rattle.record.proofs.Views.{fits_asked}
use Rattle.c_interface.specs.Shown.{view_told}
use Rattle.c_interface.proofs.Showing.{shown_told, placed_some, head_some, seq_from, qual_from, id_from, desc_some, desc_behind, desc_inside, view_empty, view_absent}
use Rattle.c_interface.proofs.views.view_told.Goals as goal

pub returns-then-which-lt4 : goal.returns-then-which-lt4
returns-then-which-lt4 c = c.part.ensures ∙ view_empty _ _ (sym c.fits.ensures ∙ c.if-not-fits.true) _ c.if-which-lt4.true

pub returns-else-which-lt4 : goal.returns-else-which-lt4
returns-else-which-lt4 c = c.absent-absent.ensures ∙ view_absent _ _ (sym c.fits.ensures ∙ c.if-not-fits.true) _ c.if-which-lt4.false

pub overflow_add-r : goal.overflow_add-r
overflow_add-r c = let f = fits_asked _ _ c.fits.ensures c.if-not-fits.false in omega arith

pub overflow_add-r-in-3 : goal.overflow_add-r-in-3
overflow_add-r-in-3 c = let f = fits_asked _ _ c.fits.ensures c.if-not-fits.false in omega arith

pub overflow_add-r-in-Some : goal.overflow_add-r-in-Some
overflow_add-r-in-Some c = let f = fits_asked _ _ c.fits.ensures c.if-not-fits.false in omega arith

pub overflow_sub-head : goal.overflow_sub-head
overflow_sub-head c = let d = desc_behind _ _ c.in-Some.ensures.given refl in omega (arith, ap (λ (s : List ℕ). length s) c.in-Some.ensures.shown.bytes, ap (λ (s : List ℕ). length s) c.head-in-Some.ensures.bytes)

pub overflow_add-r-in-Some-2 : goal.overflow_add-r-in-Some-2
overflow_add-r-in-Some-2 c =
    let d = desc_behind _ _ c.in-Some.ensures.given refl in
    let i = desc_inside _ _ c.in-Some.ensures.given refl in
    omega (arith, head_some _ _ c.fits.ensures c.if-not-fits.false, ap (λ (s : List ℕ). length s) c.in-Some.ensures.shown.bytes, ap (λ (s : List ℕ). length s) c.head-in-Some.ensures.bytes)

pub returns-in-0 : goal.returns-in-0
unfolding view_told
returns-in-0 c = rw c.in-0.is (shown_told _ c.part-in-0.ensures (head_some _ _ c.fits.ensures c.if-not-fits.false) c.head.ensures.bytes)

pub returns-in-1 : goal.returns-in-1
unfolding view_told
returns-in-1 c = rw c.in-1.is (shown_told _ c.part-in-1.ensures (placed_some _ _ c.fits.ensures _ c.if-not-fits.false ∙ seq_from _ _) c.seq.ensures.bytes)

pub returns-in-2 : goal.returns-in-2
unfolding view_told
returns-in-2 c = rw c.in-2.is (shown_told _ c.part-in-2.ensures (placed_some _ _ c.fits.ensures _ c.if-not-fits.false ∙ qual_from _ _) c.qual.ensures.bytes)

pub returns-in-3 : goal.returns-in-3
unfolding view_told
returns-in-3 c = rw c.in-3.is (shown_told _ c.part-in-3.ensures (head_some _ _ c.fits.ensures c.if-not-fits.false ∙ id_from _ _) c.id_bytes.ensures.bytes)

pub returns-in-Some : goal.returns-in-Some
unfolding view_told
returns-in-Some c =
    let d = desc_behind _ _ c.in-Some.ensures.given refl in
    let p : c.args.r.start + 1 + (length c.head-in-Some.result.now - length c.in-Some.desc.now) ≡ (head_view c.args.window.now (five_of c.args.r)).from + (id_length (head_view c.args.window.now (five_of c.args.r)).bytes + 1) =
    omega (arith, head_some _ _ c.fits.ensures c.if-not-fits.false, ap (λ (s : List ℕ). length s) c.in-Some.ensures.shown.bytes, ap (λ (s : List ℕ). length s) c.head-in-Some.ensures.bytes) in
    rw (c.in-4.is, ← c.in-Some.ensures.given) (shown_told _ c.part-in-Some.ensures (p ∙ desc_some _ _ c.in-Some.ensures.given refl) c.in-Some.ensures.shown.bytes)

pub returns-in-None : goal.returns-in-None
unfolding view_told
returns-in-None c = rw (c.in-4.is, sym c.in-None.ensures.given) c.absent-absent.ensures

pub returns-in_default : goal.returns-in_default
unfolding view_told
returns-in_default c =
    rw (ne_eqb c.args.which 0 (omega arith), ne_eqb c.args.which 1 (omega arith), ne_eqb c.args.which 2 (omega arith), ne_eqb c.args.which 3 (omega arith), ne_eqb c.args.which 4 (omega arith))
    c.absent-absent.ensures
