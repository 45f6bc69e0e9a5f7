-- The line of each answer of next, and of a position.
-- Assumes nothing.
use Rattle.std.specs.Prelude.{ℕ, ◌+◌, ◌%◌, ◌^◌, List, [], ◌∷◌, Option, Some, None, Result, Ok, Err}
use Rattle.reading.specs.Marked.{bytes}
use Rattle.record.specs.declared.Record as window
use Rattle.record.specs.declared.Span.{Span}
use Rattle.reader.specs.declared.Reader.{Reader}
use Rattle.reader.specs.declared.Answer.{Answer}
use Rattle.reader.specs.declared.Answer.TheVariants.{Record, More, WindowLimit, InvalidStart, InvalidSeparator, UnequalLengths, UnexpectedEnd, End}
use Rattle.reader.specs.Seek.{base}
use Rattle.text.specs.Line.{line_bytes}

-- the absolute offset of a place in the window, whose first byte has the offset k. In a run it is at most 2^48 and does not wrap
abbrev pub offset : ℕ → ℕ → ℕ
offset k place = (k + place) % 2 ^ 64

-- an id's range, where there is one
abbrev pub id_values : ℕ → Option Span → List ℕ
id_values k None = []
id_values k (Some i) = offset k i.from ∷ offset k i.to ∷ []

-- a record's values: L is its line
abbrev pub record_values : ℕ → ℕ → window.Record → List ℕ
record_values L k r = L ∷ offset k r.start ∷ offset k r.seq ∷ offset k r.sep ∷ offset k r.qual ∷ offset k r.end ∷ []

abbrev pub word_of : Answer → List ℕ
word_of (Record r b) = bytes "record"
word_of More = bytes "request"
word_of (WindowLimit L b) = bytes "error"
word_of (InvalidStart x L) = bytes "error"
word_of (InvalidSeparator x L i) = bytes "error"
word_of (UnequalLengths n m L i) = bytes "error"
word_of (UnexpectedEnd L i) = bytes "error"
word_of End = bytes "end"

-- the values behind the word; an error's number is the first
abbrev pub values_of : ℕ → ℕ → Answer → List ℕ
values_of L k (Record r b) = record_values L k r
values_of L k More = []
values_of L k (WindowLimit l b) = 7 ∷ l.0 ∷ b.0 ∷ []
values_of L k (InvalidStart x l) = 8 ∷ l.0 ∷ x ∷ []
values_of L k (InvalidSeparator x l i) = 9 ∷ l.0 ∷ x ∷ id_values k i
values_of L k (UnequalLengths n m l i) = 10 ∷ l.0 ∷ n ∷ m ∷ id_values k i
values_of L k (UnexpectedEnd l i) = 11 ∷ l.0 ∷ id_values k i
values_of L k End = []

abbrev pub line_at : ℕ → ℕ → Answer → List ℕ
line_at L k a = line_bytes (word_of a) (values_of L k a)

-- a refusal is told by its number, whichever it is
abbrev pub line_by : ℕ → ℕ → Result Answer ℕ → List ℕ
line_by L k (Ok a) = line_at L k a
line_by L k (Err n) = line_bytes (bytes "error") (n ∷ [])

-- the line of what next answered, or of its refusal's number; s is the state after it
unfoldable pub answer_line : Reader → Result Answer ℕ → List ℕ
answer_line s a = line_by s.line.0 (base s) a

-- the line of a state's position
unfoldable pub position_line : Reader → List ℕ
position_line s = line_bytes (bytes "position") (s.line.0 ∷ s.byte.0 ∷ [])
