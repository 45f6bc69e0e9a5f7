-- One law for each answer of open (Calling).
-- Assumes nothing.
use mathlib.Core.Path.{sym, ◌∙◌}
use Rattle.c_interface.proofs.Calling.{open_short, open_fresh, open_refused}
use Rattle.c_interface.proofs.fq_open.Goals as goal

pub returns-then-state-lt-STATE : goal.returns-then-state-lt-STATE
returns-then-state-lt-STATE c = open_short _ _ c.if-state-lt-STATE.true

pub returns-in-Ok : goal.returns-in-Ok
returns-in-Ok c = open_fresh _ _ _ _ c.if-state-lt-STATE.false (sym c.in-Ok.ensures) c.pack.ensures

pub returns-in-Err : goal.returns-in-Err
returns-in-Err c = open_refused _ _ _ _ c.if-state-lt-STATE.false (sym c.in-Err.ensures) (c.from-in-Err.ensures ∙ c.from.ensures)
