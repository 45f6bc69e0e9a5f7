-- Next's answer is a record, or another answer with none or with some records listed.
-- Assumes nothing.
use mathlib.Core.Path.{sym, ◌∙◌}
use Rattle.sets.proofs.Runs.{look_record, look_other, look_stop}
use Rattle.sets.proofs.Run.look.Goals as goal

pub returns-then-count-eq0 : goal.returns-then-count-eq0
returns-then-count-eq0 c = c.over.ensures ∙ rw c.other.ensures (look_other _ _ _ _ _ c.next-x.ensures (sym c.given.ensures ∙ c.in-None.is) c.if-count-eq0.true)

pub returns-in-Some : goal.returns-in-Some
returns-in-Some c = rw c.other.ensures (look_record _ _ _ _ _ c.next-x.ensures _ (sym c.given.ensures ∙ c.in-Some.is))

pub returns-else-count-eq0 : goal.returns-else-count-eq0
returns-else-count-eq0 c = c.stopped.ensures ∙ look_stop _ _ _ _ _ c.next-x.ensures (sym c.given.ensures ∙ c.in-None.is) c.if-count-eq0.false
