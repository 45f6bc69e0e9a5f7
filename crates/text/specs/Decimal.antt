-- The decimal digits of a number, as bytes.
-- Assumes nothing.
use Rattle.std.specs.Prelude.{ℕ, zero, suc, ◌+◌, ◌/◌, ◌%◌, cond, List, [], ◌∷◌, ◌++◌, ltb}

-- `0`
abbrev pub ZERO : ℕ
ZERO = 48

-- the digits of n by at most k divisions by 10: a number below 10 is its digit, any other is the digits of n / 10 and behind them that of n % 10
unfoldable pub digits_by : ℕ → ℕ → List ℕ
digits_by zero n = (ZERO + n) ∷ []
digits_by (suc k) n = cond (ltb n 10) ((ZERO + n) ∷ []) (digits_by k (n / 10) ++ (ZERO + n % 10) ∷ [])

-- the decimal digits of n: n divisions are more than enough
unfoldable pub decimal : ℕ → List ℕ
decimal n = digits_by n n
