-- Room for the values or none; then the writer's own promise (Writing).
-- Assumes nothing.
use Rattle.std.proofs.Common.{rules}
use Rattle.c_interface.proofs.Writing.{write_is}
use Rattle.c_interface.proofs.writes.fq_write_to.Goals as goal

pub returns : goal.returns
returns c = write_is _ _ _ _ _ _ _ _ c.write.ensures.short (λ h. let x = c.write.ensures.written h in (x.0, search rules, x.2, x.3))
