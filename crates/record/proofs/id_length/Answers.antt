-- An id ends at the first space, or with the head.
-- Assumes nothing.
use Rattle.record.proofs.Laws.{id_ended, id_whole}
use Rattle.record.proofs.id_length.Goals as goal

pub returns-in-Some : goal.returns-in-Some
returns-in-Some c = id_ended _ _ _ c.find_byte.ensures c.in-Some.is

pub returns-in-None : goal.returns-in-None
returns-in-None c = id_whole _ _ c.find_byte.ensures c.in-None.is
