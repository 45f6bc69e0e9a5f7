-- Bytes: line ends, `trim_cr`, the split into pieces, where an id ends.
-- Assumes nothing.
use Rattle.std.specs.Prelude.{ℕ, suc, ◌+◌, ◌-◌, Bool, true, false, ◌&&◌, cond, List, [], ◌∷◌, length, get_or, take, drop, eqb}
use Rattle.std.proofs.Math.Seq.{slice}

-- LF is byte 10
abbrev pub LF : ℕ
LF = 10

-- a carriage return
abbrev pub CR : ℕ
CR = 13

abbrev pub SPACE : ℕ
SPACE = 32

-- `@`
abbrev pub AT : ℕ
AT = 64

-- `+`
abbrev pub PLUS : ℕ
PLUS = 43

-- the byte at an offset
abbrev pub byte_at : List ℕ → ℕ → ℕ
byte_at B i = get_or B i 0

abbrev pub keep : Bool → ℕ → List ℕ → List ℕ
keep true o es = o ∷ es
keep false o es = es

-- the offsets of the LFs of bytes, the first of which has offset `o`
unfoldable pub line_ends : ℕ → List ℕ → List ℕ
line_ends o [] = []
line_ends o (b ∷ bs) = keep (eqb b LF) o (line_ends (suc o) bs)

-- `trim_cr` takes off one final carriage return, if any
unfoldable pub trim_cr : List ℕ → List ℕ
trim_cr s = cond (eqb (byte_at s (length s - 1)) CR) (take (length s - 1) s) s

-- the bytes from p on, split at each of their line ends `es`
unfoldable pub pieces : List ℕ → ℕ → List ℕ → List (List ℕ)
pieces B p [] = drop p B ∷ []
pieces B p (e ∷ es) = slice p e B ∷ pieces B (e + 1) es

abbrev pub is_empty : List ℕ → Bool
is_empty [] = true
is_empty (b ∷ bs) = false

-- every piece is empty after `trim_cr`
unfoldable pub all_blank : List (List ℕ) → Bool
all_blank [] = true
all_blank (s ∷ ss) = is_empty (trim_cr s) && all_blank ss

-- an id ends at a space
abbrev pub ends_id : ℕ → Bool
ends_id b = eqb b SPACE

-- how many bytes of a head are its id: those up to the first that ends an id, or all
unfoldable pub id_length : List ℕ → ℕ
id_length [] = 0
id_length (b ∷ bs) = cond (ends_id b) 0 (suc (id_length bs))
