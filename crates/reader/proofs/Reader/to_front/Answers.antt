-- The numbers that change are differences.
-- Assumes nothing.
use Rattle.reader.proofs.Reader.to_front.Goals as goal

pub returns : goal.returns
returns c = simp (c.notes_from.ensures, c.saturating_sub.ensures, c.saturating_sub-2.ensures)
