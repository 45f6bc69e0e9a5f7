-- The notes after the search fit, so that the answer can be decided; the state is built once.
-- Assumes nothing.
use native.Mathlib.Omega.{arith}
use lib.ListN.{length-take}
use Rattle.reader.specs.Next.{seeking_of}
use Rattle.reader.proofs.Owning.{fits_notes}
use Rattle.reader.proofs.Nexting.{held_notes}
use Rattle.reader.proofs.Reader.seeking.Goals as goal

pub slice_bounds-held-end : goal.slice_bounds-held-end
slice_bounds-held-end c = simp length-take (omega arith)

pub invariant_of-seen : goal.invariant_of-seen
invariant_of-seen c = let h = held_notes _ _ c.requires in record { fit = rw c.search-f.ensures (fits_notes _ _ _ _ h.0); low = h.1 }

pub returns : goal.returns
unfolding seeking_of
returns c = simp (c.decide-d.ensures, c.search-f.ensures)
