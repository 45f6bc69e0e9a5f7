-- The numbers are copied over the front of what is lent.
-- Assumes nothing.
use mathlib.Core.Path.{◌∙◌}
use Rattle.c_interface.proofs.Calling.{copied_front, numbers_by}
use Rattle.c_interface.proofs.pack.Goals as goal

pub returns : goal.returns
returns c =
    copied_front _ _ _ _ c.requires c.copy_from_slice.ensures.len
    (simp (c.from.ensures, c.from-2.ensures, c.from-3.ensures) at c.copy_from_slice.ensures.after ∙ numbers_by c.args.s _ c.places_of.ensures)
