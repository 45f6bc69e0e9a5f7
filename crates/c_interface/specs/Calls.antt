-- What a call through the interface answers, and what it leaves in the lent numbers.
-- Assumes nothing.
use Rattle.std.specs.Prelude.{ℕ, ◌≡◌, Bool, true, false, List, length, ltb, Option, Some, None, Result, Ok, Err}
use Rattle.std.proofs.lemmas.List.Edits.{sets}
use Rattle.reader.specs.declared.Reader.{Reader}
use Rattle.reader.specs.declared.Position.{Position}
use Rattle.reader.specs.declared.Refusal.{Refusal}
use Rattle.reader.specs.State.{line, byte, number_of, open_of}
use Rattle.reader.specs.Feed.{feed_of, fed_window, finish_of}
use Rattle.reader.specs.Next.{next_of}
use Rattle.reader.specs.Seek.{seek_of}
use Rattle.sets.specs.Sets.{set_of, table_of}
use Rattle.c_interface.specs.declared.Told.{Told}
use Rattle.c_interface.specs.Packed.{numbers_of, unpacked_of}
use Rattle.c_interface.specs.Told.{briefly, answer_told, count_told, ending_told, place_told, reply_told, told_of}

-- a code, and the numbers of the state and of the values afterwards
pub record Left : Type 0 where
  pub code : ℕ
  pub state : List ℕ
  pub values : List ℕ

-- the state s and what is told stand over the front of the lent numbers
abbrev pub left_of : List ℕ → List ℕ → Reader → Told → Left
left_of st v s t = record { code = t.code; state = sets st 0 (numbers_of s); values = sets v 0 t.values }

-- the code r, with these numbers afterwards, is what is left
pub record Leaves (r : ℕ) (st v : List ℕ) (x : Left) : Type 0 where
  pub code : r ≡ x.code
  pub state : st ≡ x.state
  pub values : v ≡ x.values

-- numbers that are no state: 2, and nothing changes
abbrev pub foreign_of : List ℕ → List ℕ → Left
foreign_of st v = record { code = 2; state = st; values = v }

abbrev pub called_by : List ℕ → List ℕ → (Reader → Reader) → (Reader → Told) → Option Reader → Left
called_by st v after tell (Some s) = left_of st v (after s) (tell s)
called_by st v after tell None = foreign_of st v

-- a call on the state that is lent: the state after it, and what it tells
unfoldable pub called : List ℕ → List ℕ → (Reader → Reader) → (Reader → Told) → Left
called st v after tell = called_by st v after tell (unpacked_of st (length v))

-- lent memory after a call: as the call leaves it, or untouched
abbrev pub memory_by : (Reader → List ℕ) → List ℕ → Option Reader → List ℕ
memory_by after m (Some s) = after s
memory_by after m None = m

unfoldable pub memory : List ℕ → List ℕ → (Reader → List ℕ) → List ℕ → List ℕ
memory st v after m = memory_by after m (unpacked_of st (length v))

abbrev pub next_call : List ℕ → List ℕ → List ℕ → Left
next_call st v w = called st v (λ s. (next_of s w).state) (λ s. told_of answer_told (next_of s w).answer)

-- n is the window's length, k the chunk's
abbrev pub feed_call : List ℕ → List ℕ → ℕ → ℕ → Left
feed_call st v n k = called st v (λ s. (feed_of s n k).state) (λ s. told_of count_told (feed_of s n k).answer)

abbrev pub feed_window : List ℕ → List ℕ → List ℕ → List ℕ → List ℕ
feed_window st v w chunk = memory st v (λ s. fed_window s w chunk) w

abbrev pub finish_call : List ℕ → List ℕ → ℕ → Left
finish_call st v n = called st v (λ s. (finish_of s n).state) (λ s. told_of ending_told (finish_of s n).answer)

abbrev pub to : ℕ → ℕ → Position
to L b = record { line = line L; byte = byte b }

abbrev pub seek_call : List ℕ → List ℕ → ℕ → ℕ → ℕ → Left
seek_call st v n L b = called st v (λ s. (seek_of s n (to L b)).state) (λ s. told_of place_told (seek_of s n (to L b)).answer)

-- room is the table's in entries
abbrev pub set_call : List ℕ → List ℕ → List ℕ → ℕ → ℕ → Left
set_call st v w room wanted = called st v (λ s. (set_of s w room wanted).state) (λ s. told_of reply_told (set_of s w room wanted).answer)

abbrev pub set_table : List ℕ → List ℕ → List ℕ → ℕ → List ℕ → List ℕ
set_table st v w wanted t = memory st v (λ s. table_of s w wanted t) t

-- position changes no state
abbrev pub position_by : List ℕ → List ℕ → Option Reader → Left
position_by st v (Some s) = record { code = 0; state = st; values = sets v 0 (briefly 0 s.line.0 s.byte.0).values }
position_by st v None = foreign_of st v

unfoldable pub position_call : List ℕ → List ℕ → Left
position_call st v = position_by st v (unpacked_of st (length v))

-- a code, and the numbers of the state afterwards
pub record Begun : Type 0 where
  pub code : ℕ
  pub state : List ℕ

-- by the test: there are fewer than 14 numbers
abbrev pub open_by : List ℕ → Bool → Result Reader Refusal → Begun
open_by st true o = record { code = 2; state = st }
open_by st false (Ok s) = record { code = 0; state = sets st 0 (numbers_of s) }
open_by st false (Err r) = record { code = number_of r; state = st }

unfoldable pub open_call : List ℕ → ℕ → Begun
open_call st W = open_by st (ltb (length st) 14) (open_of W)

-- the code r, with these numbers afterwards
pub record Begins (r : ℕ) (st : List ℕ) (x : Begun) : Type 0 where
  pub code : r ≡ x.code
  pub state : st ≡ x.state
