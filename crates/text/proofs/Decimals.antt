-- Laws of decimal digits, and of digits put in front of bytes that stand already.
-- Assumes nothing.
use mathlib.Core.Path.{◌≡◌, refl, sym, ap, ◌∙◌}
use mathlib.Core.Bool.{Bool, true, false}
use mathlib.Core.List.{List, [], ◌∷◌, ◌++◌}
use Prim.Native.Nat.{ℕ, zero, suc, ◌+◌, ◌-◌, ◌/◌, ◌%◌, ◌^◌, ◌<◌, ◌≤◌}
use native.Mathlib.Nat.{div-lt_self, div-lt_iff_lt-mul, pow-suc}
use native.Mathlib.Omega.{arith}
use lib.Dec.{ltb}
use lib.ListN.{length, drop, set}
use lib.Seq.{append_snoc}
use borrow.Author.Tests.{lt-ltb, le-ltb, ltb-false}
use Rattle.text.specs.Decimal.{ZERO, digits_by, decimal}

-- a number below 10 is its digit
pub digits_last : (k n : ℕ) → n < 10 → digits_by k n ≡ (ZERO + n) ∷ []
unfolding digits_by
digits_last zero n h = refl
digits_last (suc k) n h = rw (lt-ltb n 10 h)

-- a tenth of a number of 10 or more is smaller
tenth : (n k : ℕ) → n ≤ suc k → 10 ≤ n → n / 10 ≤ k
tenth n k h g = omega (arith, div-lt_self {n = n} {k = 10} (omega arith) (omega arith))

-- more divisions than there are digits change nothing
digits_enough : (k m n : ℕ) → n ≤ k → n ≤ m → digits_by k n ≡ digits_by m n
unfolding digits_by
digits_enough zero m n h g = sym (digits_last m n (omega arith))
digits_enough (suc k) zero n h g = digits_last (suc k) n (omega arith)
digits_enough (suc k) (suc m) n h g = by (ltb n 10) refl (λ a b. digits_enough k m (n / 10) a b) where
  by : (t : Bool) → ltb n 10 ≡ t → (n / 10 ≤ k → n / 10 ≤ m → digits_by k (n / 10) ≡ digits_by m (n / 10)) → digits_by (suc k) n ≡ digits_by (suc m) n
  by true e f = rw e
  by false e f = rw (e, f (tenth n k h (ltb-false n 10 e)) (tenth n m g (ltb-false n 10 e)))

pub decimal_last : (n : ℕ) → n < 10 → decimal n ≡ (ZERO + n) ∷ []
unfolding decimal
decimal_last n h = digits_last n n h

-- a number of 10 or more is the digits of its tenth, and behind them its last
pub decimal_more : (n : ℕ) → 10 ≤ n → decimal n ≡ decimal (n / 10) ++ (ZERO + n % 10) ∷ []
unfolding decimal digits_by
decimal_more zero h = absurd (omega arith)
decimal_more (suc n) h = rw (le-ltb (suc n) 10 h, digits_enough n (suc n / 10) (suc n / 10) (tenth (suc n) n (omega arith) h) (omega arith))

-- ---- digits in front of bytes

-- a byte stored stands in front of those behind it
stored : (l : List ℕ) (j x : ℕ) → j < length l → drop j (set l j x) ≡ x ∷ drop (suc j) l
stored [] j x h = absurd (omega (arith, h))
stored (y ∷ l) zero x h = refl
stored (y ∷ l) (suc j) x h = stored l j x (omega arith)

-- one place before those from i on
pub stored_before : (l : List ℕ) (i x : ℕ) → 1 ≤ i → i ≤ length l → drop (i - 1) (set l (i - 1) x) ≡ x ∷ drop i l
stored_before l i x h k = let e : suc (i - 1) ≡ i = omega arith in stored l (i - 1) x (omega arith) ∙ ap (λ (j : ℕ). x ∷ drop j l) e

module _ (l all : List ℕ) (r i : ℕ) (e : decimal r ++ drop i l ≡ all) where
  -- with the last digit of r in front of i, those of its tenth are left
  pub digit_more : 10 ≤ r → 1 ≤ i → i ≤ length l → decimal (r / 10) ++ drop (i - 1) (set l (i - 1) (ZERO + r % 10)) ≡ all
  digit_more g h k = rw (stored_before l i (ZERO + r % 10) h k) (sym (append_snoc (decimal (r / 10)) (ZERO + r % 10) (drop i l)) ∙ rw (decimal_more r g) at e)

  -- with the only digit of r in front of i, none is left
  pub digit_last : r < 10 → 1 ≤ i → i ≤ length l → drop (i - 1) (set l (i - 1) (ZERO + r)) ≡ all
  digit_last g h k = rw (stored_before l i (ZERO + r) h k) (rw (decimal_last r g) at e)

-- ---- room for the digits

-- the tenth of a number of 10 or more has one digit less
tenth_power : (r k : ℕ) → 10 ≤ r → r < 10 ^ suc k → (1 ≤ k) × (r / 10 < 10 ^ k)
tenth_power r zero h g = absurd (omega arith)
tenth_power r (suc k) h g = (omega arith, (div-lt_iff_lt-mul {k = 10} {x = r} {y = 10 ^ suc k} (omega arith)).1 (rw (pow-suc 10 (suc k)) at g))

-- a place is left for each digit that is left
pub places_left : (r i end : ℕ) → r < 10 ^ (i + 20 - end) → 10 ≤ r → 1 ≤ i → i ≤ end → end ≤ i + 19 → (end ≤ i - 1 + 19) × (r / 10 < 10 ^ (i - 1 + 20 - end))
places_left r i end g h a b d =
    let q : i + 20 - end ≡ suc (i - 1 + 20 - end) = omega arith in
    let t = tenth_power r (i - 1 + 20 - end) h (rw q at g) in (omega (arith, t.0), t.1)
