use Rattle.std.proofs.Common.{arith}
use Rattle.lines.proofs.Copies.{over_all}
use Rattle.lines.proofs.copy_into.Goals as goal

pub returns : goal.returns
returns c = over_all _ _ _ c.loop-i.i c.loop-i.invariant.0 (omega arith)
