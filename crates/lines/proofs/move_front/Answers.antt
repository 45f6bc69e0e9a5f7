use Rattle.std.proofs.Common.{rules, arith, refl}
use lib.ListN.{length-set}
use Rattle.lines.proofs.Copies.{slide_more, slide_all}
use Rattle.lines.proofs.move_front.Goals as goal

pub loop-i-preserved : goal.loop-i-preserved
loop-i-preserved c = (slide_more _ _ _ _ _ c.loop-i.invariant.0 refl (omega arith), simp length-set c.loop-i.invariant.1, search rules)

pub returns : goal.returns
returns c = slide_all _ _ _ _ c.loop-i.i c.loop-i.invariant.0 (omega arith)
