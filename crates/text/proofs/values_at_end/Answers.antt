-- No value stands behind those that are left at first, which are all.
-- Assumes nothing.
use mathlib.Core.Path.{◌≡◌, ap}
use native.Mathlib.Omega.{arith}
use lib.ListN.{length}
use Rattle.std.specs.Iterator.Adapters.{rev_source}
use Rattle.std.specs.Slice.Iter.{iter_rest}
use Rattle.text.proofs.Lines.{none_behind}
use Rattle.text.proofs.values_at_end.Goals as goal

pub loop-value-init : goal.loop-value-init
loop-value-init c =
    let all : iter_rest (rev_source c.into_iter-value-iterator.result) ≡ c.args.values.now = cc in
    record { done = none_behind _ _ c.args.text.now all (omega arith); room = omega (arith, ap length all); before = omega arith }
