-- A line of text: a word and values.
-- Assumes nothing.
use Rattle.std.specs.Prelude.{ℕ, List, [], ◌∷◌, ◌++◌}
use Rattle.reading.specs.Bytes.{LF}
use Rattle.text.specs.Decimal.{decimal}

abbrev pub TAB : ℕ
TAB = 9

-- a tab and the decimal digits of each value, and LF
unfoldable pub value_bytes : List ℕ → List ℕ
value_bytes [] = LF ∷ []
value_bytes (v ∷ vs) = TAB ∷ decimal v ++ value_bytes vs

-- the word, a tab and the decimal digits of each value, LF
unfoldable pub line_bytes : List ℕ → List ℕ → List ℕ
line_bytes word vs = word ++ value_bytes vs
