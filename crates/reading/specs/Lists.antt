-- Lists of answers: those that close, those without window limit, those of a smaller window beside those of a larger one.
-- Assumes nothing.
use Rattle.std.specs.Prelude.{ℕ, ◌≡◌, Bool, true, false, List, [], ◌∷◌, ◌++◌}
use Rattle.reading.specs.Answer.{Answer, found, window_limit, invalid_start, invalid_separator, unequal_lengths, unexpected_end, ended, Told, told}

-- the answer is a record
abbrev pub is_found : Answer → Bool
is_found (found r) = true
is_found (window_limit L p) = false
is_found (invalid_start b L) = false
is_found (invalid_separator b L i) = false
is_found (unequal_lengths n m L i) = false
is_found (unexpected_end L i) = false
is_found ended = false

-- the answer is window limit
abbrev pub is_limit : Answer → Bool
is_limit (found r) = false
is_limit (window_limit L p) = true
is_limit (invalid_start b L) = false
is_limit (invalid_separator b L i) = false
is_limit (unequal_lengths n m L i) = false
is_limit (unexpected_end L i) = false
is_limit ended = false

-- records, and then one answer that is none
pub data Closed : List Told → Type 0 where
  last : (t : Told) → is_found t.answer ≡ false → Closed (t ∷ [])
  more : (t : Told) {ts : List Told} → is_found t.answer ≡ true → Closed ts → Closed (t ∷ ts)

abbrev pub unless_limit : Bool → Told → List Told → List Told
unless_limit true t ts = ts
unless_limit false t ts = t ∷ ts

-- the answers that are no window limit
unfoldable pub kept : List Told → List Told
kept [] = []
kept (t ∷ ts) = unless_limit (is_limit t.answer) t (kept ts)

-- a smaller window's answers beside a larger one's: the same, or those up to a closing window limit, which became further answers
pub data SameOrOn : List Told → List Told → Type 0 where
  same : (ts : List Told) → kept ts ≡ ts → SameOrOn ts ts
  on : (pre : List Told) (L q : ℕ) (more : List Told) → kept pre ≡ pre → SameOrOn (pre ++ (told L q (window_limit L q) ∷ [])) (pre ++ more)
