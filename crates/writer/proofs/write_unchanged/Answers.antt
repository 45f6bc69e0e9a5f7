-- The view test comes first; it puts start and end within the window.
-- Assumes nothing.
use Rattle.lines.proofs.Laws.{slice-take}
use Rattle.writer.proofs.Laws.{passed}
use Rattle.writer.proofs.write_unchanged.Goals as goal

pub returns : goal.returns
returns c = passed _ _ _ _ _ _ c.fits.ensures c.if-not-fits.false (rw slice-take c.write_all.ensures)
