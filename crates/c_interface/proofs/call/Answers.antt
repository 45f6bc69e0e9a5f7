-- What is known of the call that is lent nothing, with the memory left out.
-- Assumes nothing.
use Rattle.c_interface.specs.declared.Told.{Told}
use Rattle.reader.specs.State.{number_of}
use Rattle.c_interface.specs.Told.{Tells}
use Rattle.c_interface.specs.Calls.{Leaves, left_of}
use mathlib.Core.Path.{◌≡◌}
use Rattle.c_interface.proofs.Calling.{some_then}
use Rattle.c_interface.proofs.call.Goals as goal

pub returns-clause-called : goal.returns-clause-called
returns-clause-called g c =
    some_then {Q = λ s. (x : _) × (t : Told) × goal.F-post g c.args.call s x × Tells g.A.Into.converts (λ e n. n ≡ number_of e) x.answer t × Leaves c.call_on.result c.call_on.new.state c.call_on.new.values (left_of c.args.state.now c.args.values.now x.state t)}
    _ c.call_on.ensures.called (λ s p. (p.2, p.3, p.4.1, p.7, p.8))
