-- Each refusal is the outcome of its test; otherwise it is the run's tally, and the window is the run's.
-- Assumes nothing.
use native.Mathlib.Omega.{arith}
use mathlib.Core.Path.{sym, ap, ◌∙◌}
use Rattle.std.proofs.lemmas.Result.{err_from_is_err_and}
use Rattle.std.specs.Prelude.{Ok}
use Rattle.demands.proofs.Chunks.{open_is}
use Rattle.protocol.proofs.Outcomes.{outcome_unopened, outcome_empty, outcome_long, outcome_counted}
use Rattle.protocol.proofs.count.Goals as goal

pub returns-in_err-fresh-clause-answer : goal.returns-in_err-fresh-clause-answer
returns-in_err-fresh-clause-answer c = let p = err_from_is_err_and c.from_residual.result c.from_residual.ensures.1 in rw (p.1, p.2) (outcome_unopened _ _ _ _ c.open.ensures _ c.in_err-fresh.was)

pub returns-then-chunk-eq0-clause-answer : goal.returns-then-chunk-eq0-clause-answer
returns-then-chunk-eq0-clause-answer c = outcome_empty _ _ _ _ c.open.ensures _ c.in_ok-fresh.was (omega arith)

pub returns-then-input-gt-LIMIT-clause-answer : goal.returns-then-input-gt-LIMIT-clause-answer
returns-then-input-gt-LIMIT-clause-answer c = outcome_long _ _ _ _ c.open.ensures _ c.in_ok-fresh.was c.if-chunk-eq0.false (omega arith)

pub run-requires : goal.run-requires
run-requires c = (open_is _ _ (sym c.open.ensures ∙ c.in_ok-fresh.was), omega arith, omega arith)

pub returns-clause-answer : goal.returns-clause-answer
returns-clause-answer c = ap Ok c.run.ensures.tally ∙ outcome_counted _ _ _ _ c.open.ensures _ c.in_ok-fresh.was c.if-chunk-eq0.false (omega arith)
