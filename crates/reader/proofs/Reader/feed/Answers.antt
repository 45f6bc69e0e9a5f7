-- The answer is that of the lengths alone; where bytes are taken, they land as the definition says (Feeding).
-- Assumes nothing.
use Prim.Native.Nat.{ℕ}
use native.Mathlib.Omega.{arith}
use mathlib.Core.Path.{sym, ◌∙◌, ap}
use Rattle.reader.specs.declared.Outcome.{Outcome}
use Rattle.reader.proofs.Feeding.{took_own, land_is, fed_took, fed_refused}
use Rattle.reader.proofs.Reader.feed.Goals as goal

pub land-requires : goal.land-requires
land-requires c = let o = (took_own _ _ _ _ (ap (λ (f : Outcome ℕ). f.answer) (sym c.plan-f.ensures) ∙ c.in-Ok.is)).0 in (o.forward, omega (arith, o.inside, o.opened))

pub returns-in-Ok : goal.returns-in-Ok
returns-in-Ok c = let e = ap (λ (f : Outcome ℕ). f.answer) (sym c.plan-f.ensures) ∙ c.in-Ok.is in record { answer = c.plan-f.ensures; bytes = c.land.ensures ∙ land_is _ _ _ (took_own _ _ _ _ e).0 ∙ fed_took _ _ _ _ e }

pub returns-in-Err : goal.returns-in-Err
returns-in-Err c = record { answer = c.plan-f.ensures; bytes = fed_refused _ _ _ _ (ap (λ (f : Outcome ℕ). f.answer) (sym c.plan-f.ensures) ∙ c.in-Err.is) }
