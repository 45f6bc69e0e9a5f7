-- One record more is listed: on to the next, or the wanted count is reached.
-- Assumes nothing.
use mathlib.Core.Path.{◌∙◌}
use Rattle.sets.proofs.Runs.{step_look, step_stop}
use Rattle.sets.proofs.Run.step.Goals as goal

pub returns-then-count-self : goal.returns-then-count-self
returns-then-count-self c = c.look.ensures ∙ step_look _ _ c.if-count-self.true

pub returns : goal.returns
returns c = c.stopped.ensures ∙ step_stop _ _ c.if-count-self.false
