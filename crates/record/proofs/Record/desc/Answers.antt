-- The description stands behind the id and a space in the head that is shown; without a space there is none.
-- Assumes nothing.
use mathlib.Core.Path.{refl, sym, ◌∙◌}
use borrow.Author.Tests.{lt-ltb, le-ltb}
use Rattle.record.proofs.Views.{desc_shown, desc_told}
use Rattle.record.specs.Views.{has_desc, desc_view}
use Rattle.record.proofs.Record.desc.Goals as goal

pub returns-then-n-h : goal.returns-then-n-h
unfolding desc_view has_desc
returns-then-n-h c =
    record {
      given = sym (lt-ltb _ _ c.if-n-h.true) ∙ desc_told _ _ c.head-h.result _ c.head-h.ensures _ c.id_length-n.ensures;
      shown = desc_shown _ _ _ _ c.head-h.ensures _ c.id_length-n.ensures c.if-n-h.true refl refl;
    }

pub returns-else-n-h : goal.returns-else-n-h
unfolding desc_view has_desc
returns-else-n-h c = record { given = sym (le-ltb _ _ c.if-n-h.false) ∙ desc_told _ _ c.head-h.result _ c.head-h.ensures _ c.id_length-n.ensures; shown = tt }
