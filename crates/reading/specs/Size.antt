-- When a record or a tail is too large for a window, in terms of sizes alone.
-- Assumes nothing.
use Rattle.std.specs.Prelude.{ℕ, ◌+◌, ◌-◌, ◌≤◌, ◌<◌, ◌⊎◌, List, length, get_or}
use Rattle.reading.specs.Bytes.{line_ends}
use Rattle.reading.specs.Reading.{rest}

-- all the line ends from p on
abbrev pub ends_from : List ℕ → ℕ → List ℕ
ends_from B p = line_ends p (rest B p)

-- the bytes of the record at p, its four line ends among them
abbrev pub record_size : List ℕ → ℕ → ℕ
record_size B p = get_or (ends_from B p) 3 0 + 1 - p

-- too large for a window of W bytes: a record with its four line ends that has more than W bytes, or a tail short of its fourth that has W or more
abbrev pub TooLarge : List ℕ → ℕ → ℕ → Type 0
TooLarge B W p = ((4 ≤ length (ends_from B p)) × (W < record_size B p)) ⊎ ((length (ends_from B p) < 4) × (W ≤ length (rest B p)))
