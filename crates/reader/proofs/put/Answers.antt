-- The part that was lent came back with the bytes copied into it (Feeding).
-- Assumes nothing.
use Rattle.reader.proofs.Feeding.{put_is}
use Rattle.reader.proofs.put.Goals as goal

pub returns : goal.returns
returns c = put_is _ _ _ _ c.requires c.copy_into.ensures
