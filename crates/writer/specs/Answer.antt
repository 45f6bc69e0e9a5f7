-- What a writer answers, and what it leaves in the output.
-- Assumes nothing.
use Rattle.std.specs.Prelude.{ℕ, ◌+◌, ◌≡◌, Bool, true, false, List, length, take, leb, Result, Ok, Err}
use Rattle.std.proofs.Math.Option.{Option, none, some}
use Rattle.writer.specs.Bytes.{laid}
use Rattle.writer.specs.declared.Refusal.{Refusal}
use Rattle.writer.specs.declared.Refusal.TheVariants.{NoRoom, BadFields, NoRecord}

-- document 01's number of a refusal
abbrev pub number_of : Refusal → ℕ
number_of NoRoom = 12
number_of BadFields = 13
number_of NoRecord = 14

-- how many bytes an answer says were written
abbrev pub written : Result ℕ Refusal → ℕ
written (Ok n) = n
written (Err r) = 0

-- document 01's number of what a writer answers: 13 or 14, or 12
abbrev pub write_number : Result ℕ Refusal → Option ℕ
write_number (Ok n) = none
write_number (Err r) = some (number_of r)

-- the output has n bytes of room from the place on, which isn't past its end
abbrev pub has_room : List ℕ → ℕ → ℕ → Bool
has_room out at n = leb (at + n) (length out)

-- the refusal of a test that comes before that of the room, if it fails
abbrev pub unless : Bool → Refusal → Option Refusal
unless true r = none
unless false r = some r

-- by the tests, in document 01's order: one that comes first and fails; room for n bytes
abbrev pub answer_by : Option Refusal → Bool → ℕ → Result ℕ Refusal
answer_by (some r) room n = Err r
answer_by none false n = Err NoRoom
answer_by none true n = Ok n

-- the answer to a write of bytes bs
unfoldable pub answer : Option Refusal → List ℕ → ℕ → List ℕ → Result ℕ Refusal
answer first out at bs = answer_by first (has_room out at (length bs)) (length bs)

-- a write of bytes bs is answered by r and leaves the output `after`: as many of the bytes as the answer says stand from the place on,
-- and the other bytes keep their values
pub record Writes (first : Option Refusal) (out : List ℕ) (at : ℕ) (bs : List ℕ) (r : Result ℕ Refusal) (after : List ℕ) : Type 0 where
  pub answered : r ≡ answer first out at bs
  pub leaves : after ≡ laid out at (take (written r) bs)
