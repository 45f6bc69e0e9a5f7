-- What the bytes from here on make of the number so far is always what the whole text is.
-- Assumes nothing.
use mathlib.Core.Path.{◌≡◌}
use lib.ListN.{drop}
use Rattle.text.specs.Parse.{parsed_from, number_within}
use Rattle.text.proofs.number_within.Given as goal

abbrev pub invariant-loop-b : goal.invariant-loop-b
invariant-loop-b l = parsed_from l.value (drop l.b-index l.text) l.low l.high ≡ number_within l.text l.low l.high
