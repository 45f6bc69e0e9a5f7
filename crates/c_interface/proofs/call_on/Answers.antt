-- The state that is lent has room for its numbers and for the values.
-- Assumes nothing.
use mathlib.Core.Path.{refl, sym}
use Rattle.c_interface.proofs.Calling.{unpacked_room}
use Rattle.c_interface.proofs.call_on.Goals as goal

pub pack-requires : goal.pack-requires
pack-requires g c = (unpacked_room _ _ _ (sym c.in-Some.ensures)).0

pub put-requires : goal.put-requires
put-requires g c = (unpacked_room _ _ _ (sym c.in-Some.ensures)).1

pub returns-in-Some-clause-called : goal.returns-in-Some-clause-called
returns-in-Some-clause-called g c =
    rw (sym c.in-Some.ensures) (_, _, _, _, c.call-outcome.ensures, refl, refl, c.from.ensures, record { code = c.put.ensures.code; state = c.pack.ensures; values = c.put.ensures.stored })
