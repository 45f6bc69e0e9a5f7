-- By what is known of the call at a state that is lent, and at numbers that are none (Calling).
-- Assumes nothing.
use Rattle.std.proofs.Common.{rules}
use Rattle.c_interface.proofs.Calling.{called_is}
use Rattle.c_interface.proofs.fq_next.Goals as goal

pub returns : goal.returns
returns c = called_is _ _ _ _ _ _ _ _ _ c.call.ensures.called c.call.ensures.foreign (λ s p. (p.0, p.1, search rules, search rules, p.3, p.4))
