-- Room for the values or none (Showing).
-- Assumes nothing.
use mathlib.Core.Path.{◌∙◌}
use Rattle.c_interface.proofs.Showing.{view_short, view_done}
use Rattle.c_interface.proofs.views.fq_view.Goals as goal

pub returns-then-values-lt-VALUES : goal.returns-then-values-lt-VALUES
returns-then-values-lt-VALUES c = view_short _ _ c.if-values-lt-VALUES.true

pub returns : goal.returns
returns c = rw c.put.ensures.code (view_done _ _ _ _ c.if-values-lt-VALUES.false (c.new.ensures ∙ c.view_told-view.ensures) c.put.ensures.stored)
