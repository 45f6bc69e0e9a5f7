use mathlib.Core.Path.{refl, ◌∙◌}
use Rattle.sets.proofs.Tables.{begin_rows, turn_rows, end_rows}
use Rattle.sets.proofs.Runs.{step_less, end_out, begin_end, begin_ready, step_ready, step_end}
use Rattle.sets.proofs.read_record_set_exact.Goals as goal

pub loop-run-init : goal.loop-run-init
loop-run-init c = (rw c.begin-run.ensures (begin_ready _ _ _ _), refl, refl, refl)

pub loop-run-smaller : goal.loop-run-smaller
loop-run-smaller c = rw c.step-run.ensures (step_less _ _ _ c.in-Some.is (c.loop-run.invariant.0.ahead _ c.in-Some.is))

pub loop-run-preserved : goal.loop-run-preserved
loop-run-preserved c = let m = c.in-Some.is in let f = c.loop-run.invariant.0 in (rw c.step-run.ensures (step_ready _ _ _ _ m f), rw c.step-run.ensures (step_end _ _ _ m (f.ahead _ m)) ∙ c.loop-run.invariant.1, turn_rows _ _ _ _ _ _ m (f.ahead _ m) c.step-run.ensures c.put.ensures ∙ c.loop-run.invariant.2, c.put.auto.table ∙ c.loop-run.invariant.3)

pub returns : goal.returns
returns c = record { answer = end_out _ _ c.in_default.is ∙ c.loop-run.invariant.1 ∙ rw c.begin-run.ensures (begin_end _ _ _ _); numbers = end_rows _ _ _ _ c.in_default.is ∙ c.loop-run.invariant.2 ∙ begin_rows _ _ _ _ _ c.begin-run.ensures }
