-- By what is known of the call at a state that is lent, and at numbers that are none (Calling).
-- Assumes nothing.
use Rattle.std.proofs.Common.{rules}
use Rattle.c_interface.proofs.Calling.{called_is, memory_is}
use Rattle.c_interface.proofs.fq_read_record_set.Goals as goal

pub returns-clause-answer : goal.returns-clause-answer
returns-clause-answer c = called_is _ _ _ _ _ _ _ _ _ c.call_on.ensures.called c.call_on.ensures.foreign (λ s p. (p.2, p.3, search rules, search rules, p.7, p.8))

pub returns-clause-numbers : goal.returns-clause-numbers
returns-clause-numbers c = memory_is _ _ _ _ _ _ c.call_on.ensures.called c.call_on.ensures.untouched (λ s p. search rules)
