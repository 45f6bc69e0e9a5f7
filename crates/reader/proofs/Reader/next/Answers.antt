-- Foreign, closed, or on to the record that is sought (Nexting).
-- Assumes nothing.
use mathlib.Core.Path.{sym, ◌∙◌}
use Rattle.reader.proofs.Owning.{own_facts, own_self}
use Rattle.reader.proofs.Nexting.{next_foreign, next_closed, next_open, onward_seeks}
use Rattle.reader.proofs.Reader.next.Goals as goal

pub returns-then-not-owns : goal.returns-then-not-owns
returns-then-not-owns c = c.refused.ensures ∙ next_foreign _ _ (sym c.owns.ensures ∙ c.if-not-owns.true)

pub returns-then-self : goal.returns-then-self
returns-then-self c = next_closed _ _ (sym c.owns.ensures ∙ c.if-not-owns.false) c.if-self.true

pub onward-s-requires : goal.onward-s-requires
onward-s-requires c = own_self _ _ (own_facts _ _ (sym c.owns.ensures ∙ c.if-not-owns.false))

pub seeking-requires : goal.seeking-requires
seeking-requires c = rw c.onward-s.ensures (onward_seeks _ _ (own_facts _ _ (sym c.owns.ensures ∙ c.if-not-owns.false)))

pub returns : goal.returns
returns c = c.seeking.ensures ∙ rw c.onward-s.ensures (next_open _ _ (sym c.owns.ensures ∙ c.if-not-owns.false) c.if-self.false)
