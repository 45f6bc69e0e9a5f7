-- What the count's outcome is as one number, and what it leaves in the window.
-- Assumes nothing.
use Rattle.std.specs.Prelude.{ℕ, ◌-◌, ◌≡◌, List, length, Result, Ok, Err}
use Rattle.reader.specs.declared.Refusal.{Refusal}
use Rattle.reader.specs.State.{number_of}
use Rattle.protocol.specs.Tallies.{Tallied}
use Rattle.protocol.specs.Turns.{window_after}

-- the records, or, refused, the largest number less the refusal's
abbrev pub number_in : Result Tallied Refusal → ℕ
number_in (Ok t) = t.records
number_in (Err r) = 18446744073709551615 - number_of r

-- the window w afterwards, w': as it was where the count is refused, otherwise as the count's run leaves it
abbrev pub WindowIs : List ℕ → List ℕ → ℕ → List ℕ → Result Tallied Refusal → Type 0
WindowIs B w chunk w' (Ok t) = (w' ≡ window_after B w chunk) × (length w' ≡ length w)
WindowIs B w chunk w' (Err r) = w' ≡ w
