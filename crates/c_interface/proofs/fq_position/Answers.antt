-- A state that is lent, or numbers that are none (Calling).
-- Assumes nothing.
use mathlib.Core.Path.{sym}
use Rattle.c_interface.proofs.Calling.{unpacked_room, position_some, position_none}
use Rattle.c_interface.proofs.fq_position.Goals as goal

pub put-requires : goal.put-requires
put-requires c = (unpacked_room _ _ _ (sym c.in-Some.ensures)).1

pub returns-in-Some : goal.returns-in-Some
returns-in-Some c = rw (c.put.ensures.code, c.new.ensures) (position_some _ _ _ _ _ (sym c.in-Some.ensures) c.new.ensures c.put.ensures.stored)

pub returns-in-None : goal.returns-in-None
returns-in-None c = position_none _ _ (sym c.in-None.ensures)
