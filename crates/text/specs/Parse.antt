-- A number out of text.
-- Assumes nothing.
use Rattle.std.specs.Prelude.{ℕ, ◌+◌, ◌-◌, ◌*◌, Bool, true, false, ◌&&◌, List, [], ◌∷◌, leb, Option, Some, None}
use Rattle.text.specs.Decimal.{ZERO}

-- `0` to `9`
abbrev pub is_digit : ℕ → Bool
is_digit b = leb ZERO b && leb b 57

unfoldable pub all_digits : List ℕ → Bool
all_digits [] = true
all_digits (b ∷ bs) = is_digit b && all_digits bs

-- the number that v and the digits behind it are
unfoldable pub value_from : ℕ → List ℕ → ℕ
value_from v [] = v
value_from v (b ∷ bs) = value_from (v * 10 + (b - ZERO)) bs

abbrev pub parsed_by : Bool → ℕ → Option ℕ
parsed_by true v = Some v
parsed_by false v = None

-- v and the digits behind it are a number from `low` to `high`
unfoldable pub parsed_from : ℕ → List ℕ → ℕ → ℕ → Option ℕ
parsed_from v s low high = parsed_by (all_digits s && (leb low (value_from v s) && leb (value_from v s) high)) (value_from v s)

-- the text is one digit or more, and their number lies from `low` to `high`
unfoldable pub number_within : List ℕ → ℕ → ℕ → Option ℕ
number_within [] low high = None
number_within (b ∷ bs) low high = parsed_from 0 (b ∷ bs) low high
