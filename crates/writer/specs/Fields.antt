-- Row 13: which fields a checked writer refuses.
-- Assumes nothing.
use Rattle.std.specs.Prelude.{ℕ, ◌-◌, Bool, true, ◌&&◌, not, List, length, eqb, Option, Some, None}
use Rattle.reading.specs.Bytes.{CR, byte_at, line_ends, is_empty, id_length}

-- a field holds no LF and doesn't end in 13
unfoldable pub good_field : List ℕ → Bool
good_field s = is_empty (line_ends 0 s) && not (eqb (byte_at s (length s - 1)) CR)

-- the fields are good, and the sequence is as long as the quality
unfoldable pub good_fields : List ℕ → List ℕ → List ℕ → Bool
good_fields head seq qual = good_field head && good_field seq && good_field qual && eqb (length seq) (length qual)

-- the id is all of the bytes given for it: none of them is a space, which would end it
abbrev pub good_id : List ℕ → Bool
good_id id = eqb (id_length id) (length id)

-- a description, where it is given, is a field
abbrev pub good_desc : Option (List ℕ) → Bool
good_desc None = true
good_desc (Some desc) = good_field desc

-- the same of an id and a description given apart, and the id holds no space
unfoldable pub good_parts : List ℕ → Option (List ℕ) → List ℕ → List ℕ → Bool
good_parts id desc seq qual = good_fields id seq qual && good_desc desc && good_id id
