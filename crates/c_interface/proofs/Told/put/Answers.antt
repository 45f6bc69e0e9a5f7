-- The values are copied over the front of what is lent.
-- Assumes nothing.
use Rattle.c_interface.proofs.Calling.{copied_front}
use Rattle.c_interface.proofs.Told.put.Goals as goal

pub returns-clause-stored : goal.returns-clause-stored
returns-clause-stored c = copied_front _ _ _ _ c.requires c.copy_from_slice.ensures.len c.copy_from_slice.ensures.after
