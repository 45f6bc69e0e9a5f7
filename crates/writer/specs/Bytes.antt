-- The bytes that the writers write, and the output after a write.
-- Assumes nothing.
use Rattle.std.specs.Prelude.{ℕ, ◌+◌, Bool, true, false, List, [], ◌∷◌, ◌++◌, length, take, drop, flat_map, Option, Some, None}
use Rattle.std.specs.Borrow.{Bor}
use Rattle.std.proofs.Math.Seq.{slice}
use Rattle.reading.specs.Answer.{Five}
use Rattle.reading.specs.Bytes.{LF, SPACE, AT, PLUS}

-- the bytes of the parts, one after another
abbrev pub joined : List (Bor (List ℕ)) → List ℕ
joined parts = flat_map (λ p. p.now) parts

-- `@`, head, LF, seq, LF, `+`, LF, qual, LF
unfoldable pub record_bytes : List ℕ → List ℕ → List ℕ → List ℕ
record_bytes head seq qual = AT ∷ head ++ LF ∷ seq ++ LF ∷ PLUS ∷ LF ∷ qual ++ LF ∷ []

-- a description that is given, though it may be empty, or none
abbrev pub given_desc : Bool → List ℕ → Option (List ℕ)
given_desc true desc = Some desc
given_desc false desc = None

-- the head is the id, or the id, a space and the description where one is given
abbrev pub head_from : List ℕ → Option (List ℕ) → List ℕ
head_from id None = id
head_from id (Some desc) = id ++ SPACE ∷ desc

-- the bytes that a description takes: itself and 1, where it is given
abbrev pub desc_size : Option (List ℕ) → ℕ
desc_size None = 0
desc_size (Some desc) = length desc + 1

-- the window's bytes from a record's start to its end, and LF
abbrev pub unchanged_bytes : List ℕ → Five → List ℕ
unchanged_bytes w r = slice r.start r.end w ++ LF ∷ []

-- the output with bytes bs from place `at`: front, bytes, and the rest
unfoldable pub laid : List ℕ → ℕ → List ℕ → List ℕ
laid out at bs = take at out ++ bs ++ drop (at + length bs) out
