-- Laws of a number that is read digit by digit.
-- Assumes nothing.
use mathlib.Core.Path.{◌≡◌, refl}
use Rattle.std.specs.Prelude.{◌≢◌}
use mathlib.Core.Bool.{Bool, true, false, ◌&&◌}
use mathlib.Core.List.{List, [], ◌∷◌}
use Prim.Native.Nat.{ℕ, suc, ◌+◌, ◌-◌, ◌*◌, ◌<◌, ◌≤◌}
use native.Mathlib.Numerals.{add-one}
use native.Mathlib.Omega.{arith}
use lib.ListN.{length, get_or, drop, drop_of_length-le}
use lib.Seq.{drop-cons}
use borrow.Author.Tests.{lt-leb, le-leb}
use Rattle.std.specs.Prelude.{Some, None, leb}
use Rattle.text.specs.Parse.{is_digit, all_digits, value_from, parsed_from, number_within}

-- digits behind a number make it no smaller
value_grows : (v : ℕ) (s : List ℕ) → v ≤ value_from v s
unfolding value_from
value_grows v [] = omega arith
value_grows v (b ∷ s) = omega (arith, value_grows (v * 10 + (b - 48)) s)

-- a last test that fails
last_fails : (x y : Bool) → (x && (y && false)) ≡ false
last_fails true true = refl
last_fails true false = refl
last_fails false y = refl

-- no text is no number
pub number_none : (s : List ℕ) (low high : ℕ) → length s ≡ 0 → number_within s low high ≡ None
unfolding number_within
number_none [] low high h = refl
number_none (b ∷ s) low high h = absurd (omega (arith, h))

-- any other is the number that its digits are from 0 on
pub number_start : (s : List ℕ) (low high : ℕ) → length s ≢ 0 → number_within s low high ≡ parsed_from 0 s low high
unfolding number_within
number_start [] low high h = absurd (omega (arith, h))
number_start (b ∷ s) low high h = refl

module _ (s : List ℕ) (v i low high : ℕ) where
  module _ (h : i < length s) where
    -- a byte that is no digit
    pub no_digit : is_digit (get_or s i 0) ≡ false → parsed_from v (drop i s) low high ≡ None
    unfolding parsed_from all_digits
    no_digit k = rw (drop-cons s i 0 h, k)

    -- a digit that takes the number past `high`
    pub past_high : high < v * 10 + (get_or s i 0 - 48) → parsed_from v (drop i s) low high ≡ None
    unfolding parsed_from value_from
    past_high k =
        let g = value_grows (v * 10 + (get_or s i 0 - 48)) (drop (suc i) s) in
        rw (drop-cons s i 0 h, lt-leb (value_from (v * 10 + (get_or s i 0 - 48)) (drop (suc i) s)) high (omega arith), last_fails)

    -- a digit is read
    pub digit_read : is_digit (get_or s i 0) ≡ true → parsed_from v (drop i s) low high ≡ parsed_from (v * 10 + (get_or s i 0 - 48)) (drop (i + 1) s) low high
    unfolding parsed_from all_digits value_from
    digit_read k = rw (add-one i, drop-cons s i 0 h, k)

  module _ (h : length s ≤ i) where
    -- all is read, and the number is too small
    pub below_low : v < low → parsed_from v (drop i s) low high ≡ None
    unfolding parsed_from all_digits value_from
    below_low k = rw (drop_of_length-le s {i = i} h, lt-leb low v k)

    -- or too large
    pub above_high : high < v → parsed_from v (drop i s) low high ≡ None
    unfolding parsed_from all_digits value_from
    above_high k = rw (drop_of_length-le s {i = i} h, lt-leb v high k, last_fails true (leb low v))

    -- or lies within
    pub within : low ≤ v → v ≤ high → parsed_from v (drop i s) low high ≡ Some v
    unfolding parsed_from all_digits value_from
    within k l = rw (drop_of_length-le s {i = i} h, le-leb low v k, le-leb v high l)
