use native.Mathlib.Omega.{arith}
use Rattle.text.proofs.Decimals.{digit_more, places_left}
use Rattle.text.proofs.digits_at_end.Goals as goal

pub loop-rest-preserved : goal.loop-rest-preserved
loop-rest-preserved c =
    let p = places_left _ _ _ c.loop-rest.invariant.small (omega arith) (omega arith) (omega arith) (omega arith) in
    record {
      digits = digit_more _ _ c.loop-rest.rest c.loop-rest.i c.loop-rest.invariant.digits (omega arith) (omega arith) (omega arith);
      before = omega arith;
      room = p.0;
      small = p.1;
    }
