-- The reader's state: open, position, and the foreign-state test.
-- Assumes nothing.
use Rattle.std.specs.Prelude.{ℕ, suc, ◌+◌, ◌-◌, ◌≤◌, ◌<◌, ◌≡◌, Bool, true, false, ◌&&◌, List, [], ◌∷◌, leb, ltb, eqb, Result, Ok, Err}
use Rattle.record.specs.declared.Noted.{Noted}
use Rattle.record.specs.declared.Noted.TheVariants.{Zero}
use Rattle.record.specs.Noted.{listed}
use Rattle.reader.specs.declared.Line.{Line}
use Rattle.reader.specs.declared.Byte.{Byte}
use Rattle.reader.specs.declared.Position.{Position}
use Rattle.reader.specs.declared.Reader.{Reader}
use Rattle.reader.specs.declared.Refusal.{Refusal}
use Rattle.reader.specs.declared.Refusal.TheVariants.{WindowSize, Foreign, NotWaiting, EndNoted, PastLimit, NothingToDo}

-- window sizes run from 3 to 16,777,216
abbrev pub smallest : ℕ
smallest = 3

abbrev pub largest : ℕ
largest = 16777216

-- the most bytes of an input: 2^48
abbrev pub most_bytes : ℕ
most_bytes = 281474976710656

-- the highest line of a state: 2^49
abbrev pub most_lines : ℕ
most_lines = 562949953421312

abbrev pub line : ℕ → Line
line n = record { 0 = n }

abbrev pub byte : ℕ → Byte
byte n = record { 0 = n }

-- a state with this window, held bytes, notes, position, and flags: the end is noted, waiting, closed
abbrev pub state_of : ℕ → ℕ → ℕ → Noted → ℕ → ℕ → ℕ → Bool → Bool → Bool → Reader
state_of W start fill noted mark L b ended waiting closed =
    record { window = W; start = start; fill = fill; noted = noted; mark = mark; line = line L; byte = byte b; ended = ended; waiting = waiting; closed = closed }

-- a fresh state: line 1, byte 0, nothing held, waiting
abbrev pub fresh_of : ℕ → Reader
fresh_of W = state_of W 0 0 Zero 0 1 0 false true false

-- document 01's number of a refusal
abbrev pub number_of : Refusal → ℕ
number_of WindowSize = 1
number_of Foreign = 2
number_of NotWaiting = 3
number_of EndNoted = 4
number_of PastLimit = 5
number_of NothingToDo = 6

abbrev pub open_by : ℕ → Bool → Result Reader Refusal
open_by W true = Ok (fresh_of W)
open_by W false = Err WindowSize

-- open: refused with 1 for W below 3 or above 16,777,216
unfoldable pub open_of : ℕ → Result Reader Refusal
open_of W = open_by W (leb smallest W && leb W largest)

-- the position: the record last answered, the one being sought, or the one in error
abbrev pub position_of : Reader → Position
position_of s = record { line = s.line; byte = s.byte }

-- a noted line end lies after the one before and from start to fill - 1;
-- the searched mark is after the last noted line end and from start to fill
unfoldable pub notes_fit : ℕ → ℕ → ℕ → List ℕ → Bool
notes_fit from fill mark [] = leb from mark && leb mark fill
notes_fit from fill mark (e ∷ es) = leb from e && (ltb e fill && notes_fit (suc e) fill mark es)

-- the state is not foreign to a window of n bytes: n is the opened length; start <= fill <= W; the notes and the mark fit;
-- start is not above the byte position; byte + (fill - start) is not above 2^48; the line is not above 2^49
unfoldable pub own : Reader → ℕ → Bool
own s n =
    eqb n s.window
    && (leb s.start s.fill && leb s.fill s.window)
    && notes_fit s.start s.fill s.mark (listed s.noted)
    && leb s.start s.byte.0
    && leb (s.byte.0 + (s.fill - s.start)) most_bytes
    && leb s.line.0 most_lines

-- the notes and the mark fit, as facts
abbrev pub Notes : ℕ → ℕ → ℕ → List ℕ → Type 0
Notes from fill mark [] = (from ≤ mark) × (mark ≤ fill)
Notes from fill mark (e ∷ es) = (from ≤ e) × (e < fill) × Notes (suc e) fill mark es

-- the same as facts
pub record Own (s : Reader) (n : ℕ) : Type 0 where
  pub opened : n ≡ s.window
  pub forward : s.start ≤ s.fill
  pub inside : s.fill ≤ s.window
  pub notes : Notes s.start s.fill s.mark (listed s.noted)
  pub behind : s.start ≤ s.byte.0
  pub near : s.byte.0 + (s.fill - s.start) ≤ most_bytes
  pub few : s.line.0 ≤ most_lines
