-- The marked examples M1 to M14 of document 01, as a table, in its order. Each is read from its first byte, line 1.
-- Assumes nothing.
use Rattle.std.specs.Prelude.{ℕ, List, [], ◌∷◌, length}
use Prim.Native.String.{String}
use Prim.Native.Char.{code}
use Rattle.reading.specs.Answer.{five, absent, range, Answer, found, window_limit, invalid_start, invalid_separator, unequal_lengths, unexpected_end, ended, Told, told}
use Rattle.reading.specs.Reading.{seq_of, qual_of, reading}

-- a text's characters as bytes
abbrev pub bytes : String → List ℕ
bytes String.[] = []
bytes (String.◌∷◌ c s) = code c ∷ bytes s

-- an input, a window size, the answers with the positions after them, and the trimmed lengths of the sequence and the quality of each record
pub record Example : Type 0 where
  pub input : String
  pub window : ℕ
  pub answers : List Told
  pub lengths : List (ℕ × ℕ)

abbrev pub row : String → ℕ → List Told → List (ℕ × ℕ) → Example
row s W as' ls = record { input = s; window = W; answers = as'; lengths = ls }

abbrev pub marked : List Example
marked =
    -- M1
    row "" 64 (told 1 0 ended ∷ []) []
    -- M2
    ∷ row "@a\nAC\n+\nII\n" 64 (told 1 0 (found (five 0 3 6 8 10)) ∷ told 5 11 ended ∷ []) ((2, 2) ∷ [])
    -- M3
    ∷ row "@a\nAC\n+\nII" 64 (told 1 0 (found (five 0 3 6 8 10)) ∷ told 1 0 ended ∷ []) ((2, 2) ∷ [])
    -- M4
    ∷ row "@a\nAC\n+\nII\n\n\n" 64 (told 1 0 (found (five 0 3 6 8 10)) ∷ told 5 11 ended ∷ []) ((2, 2) ∷ [])
    -- M5
    ∷ row "@a\nAC\n+\nII\n\n\n\n" 64 (told 1 0 (found (five 0 3 6 8 10)) ∷ told 5 11 (invalid_start 10 5) ∷ []) ((2, 2) ∷ [])
    -- M6
    ∷ row "@a\r\nAC\r\n+\r\nII" 64 (told 1 0 (unequal_lengths 2 2 1 (range 1 2)) ∷ []) []
    -- M7
    ∷ row "@a\nAC\r\n+\nIII\n" 64 (told 1 0 (found (five 0 3 7 9 12)) ∷ told 5 13 ended ∷ []) ((2, 3) ∷ [])
    -- M8
    ∷ row "@a\nAC\n-\nII\n" 64 (told 1 0 (invalid_separator 45 3 (range 1 2)) ∷ []) []
    -- M9
    ∷ row "xa\nAC\n" 64 (told 1 0 (unexpected_end 3 (range 1 2)) ∷ []) []
    -- M10
    ∷ row "@\n\n+\n" 64 (told 1 0 (found (five 0 2 3 5 5)) ∷ told 1 0 ended ∷ []) ((0, 0) ∷ [])
    -- M11
    ∷ row "\n\nx" 64 (told 1 0 (unexpected_end 3 absent) ∷ []) []
    -- M12
    ∷ row "@a\nAC\n+\nII\n" 11 (told 1 0 (found (five 0 3 6 8 10)) ∷ told 5 11 ended ∷ []) ((2, 2) ∷ [])
    ∷ row "@a\nAC\n+\nII\n" 10 (told 1 0 (window_limit 1 0) ∷ []) []
    -- M13
    ∷ row "@a\nAC\n+\nII" 11 (told 1 0 (found (five 0 3 6 8 10)) ∷ told 1 0 ended ∷ []) ((2, 2) ∷ [])
    ∷ row "@a\nAC\n+\nII" 10 (told 1 0 (window_limit 1 0) ∷ []) []
    -- M14
    ∷ row "\r\n\r\n" 5 (told 1 0 ended ∷ []) []
    ∷ row "\r\n\r\n" 4 (told 1 0 (window_limit 1 0) ∷ []) []
    ∷ []

-- the trimmed lengths of a record, if the answer is one, before those of the others
abbrev pub lengths_of : List ℕ → Answer → List (ℕ × ℕ) → List (ℕ × ℕ)
lengths_of B (found r) ls = (length (seq_of B r), length (qual_of B r)) ∷ ls
lengths_of B (window_limit L p) ls = ls
lengths_of B (invalid_start b L) ls = ls
lengths_of B (invalid_separator b L i) ls = ls
lengths_of B (unequal_lengths s q L i) ls = ls
lengths_of B (unexpected_end L i) ls = ls
lengths_of B ended ls = ls

abbrev pub all_lengths : List ℕ → List Told → List (ℕ × ℕ)
all_lengths B [] = []
all_lengths B (t ∷ ts) = lengths_of B t.answer (all_lengths B ts)

-- what the rules say of a row's input and window
abbrev pub by_rules : Example → Example
by_rules e =
    record {
      input = e.input;
      window = e.window;
      answers = reading (bytes e.input) e.window 0 1;
      lengths = all_lengths (bytes e.input) (reading (bytes e.input) e.window 0 1);
    }
