-- By the tests: foreign, nothing wanted or no room, and otherwise the first record.
-- Assumes nothing.
use mathlib.Core.Path.{sym, ◌∙◌, refl}
use Rattle.sets.proofs.Runs.{begin_foreign, begin_none, begin_look}
use Rattle.sets.proofs.Run.begin.Goals as goal

pub returns-then-not-owns : goal.returns-then-not-owns
returns-then-not-owns c = c.over.ensures ∙ begin_foreign _ _ _ _ _ refl (sym c.owns.ensures ∙ c.if-not-owns.true)

pub returns-then-n-eq0 : goal.returns-then-n-eq0
returns-then-n-eq0 c = c.over-then-n-eq0.ensures ∙ begin_none _ _ _ _ _ c.min-n.ensures (sym c.owns.ensures ∙ c.if-not-owns.false) c.if-n-eq0.true

pub returns : goal.returns
returns c = c.look.ensures ∙ begin_look _ _ _ _ _ c.min-n.ensures (sym c.owns.ensures ∙ c.if-not-owns.false) c.if-n-eq0.false
