-- What the private helpers answer, and the facts that they are handed: steps on the way, which no public promise cites.
-- Assumes nothing.
use Rattle.std.specs.Prelude.{ℕ, ◌+◌, ◌-◌, ◌≤◌, Bool, true, false, List, ◌++◌, length, take, drop, ltb, Result, Ok, Err}
use Rattle.reading.specs.Bytes.{pieces, all_blank}
use Rattle.reading.specs.Reading.{validate, end_id}
use Rattle.lines.specs.Lines.{moved_front}
use Rattle.record.specs.declared.Noted.{Noted}
use Rattle.record.specs.declared.Noted.TheVariants.{Zero, One, Two, Three, Four}
use Rattle.record.specs.declared.Record.{Record}
use Rattle.record.specs.declared.Invalid.{Invalid}
use Rattle.record.specs.declared.Invalid.TheVariants.{Start, Separator, Lengths}
use Rattle.record.specs.Noted.{listed}
use Rattle.record.specs.Check.{five_of, span_of, check_of}
use Rattle.reader.specs.declared.Byte.{Byte}
use Rattle.reader.specs.declared.Position.{Position}
use Rattle.reader.specs.declared.Reader.{Reader}
use Rattle.reader.specs.declared.Answer.{Answer}
use Rattle.reader.specs.declared.Answer.TheVariants.{Record as a_record, InvalidStart, InvalidSeparator, UnequalLengths, UnexpectedEnd, End}
use Rattle.reader.specs.declared.Decided.{Decided}
use Rattle.reader.specs.declared.Outcome.{Outcome}
use Rattle.reader.specs.declared.Place.{Place}
use Rattle.reader.specs.State.{line, Notes}
use Rattle.reader.specs.Next.{deciding}
use Rattle.reader.specs.Seek.{moved_by, is_held}

-- the chunk's bytes from `at` on, as far as there is room
unfoldable pub put_of : List ℕ → ℕ → List ℕ → List ℕ
put_of w at chunk = take at w ++ (take (length w - at) chunk ++ drop (at + length chunk) w)

abbrev pub land_by : List ℕ → List ℕ → ℕ → ℕ → Bool → List ℕ
land_by w chunk start fill true = put_of (moved_front w start fill) (fill - start) chunk
land_by w chunk start fill false = put_of w fill chunk

unfoldable pub land_of : List ℕ → List ℕ → ℕ → ℕ → List ℕ
land_of w chunk start fill = land_by w chunk start fill (ltb (length w - fill) (length chunk))

abbrev pub nothing_of : Record
nothing_of = record { start = 0; seq = 0; sep = 0; qual = 0; end = 0 }

abbrev pub numbers_of : Noted → ℕ → ℕ → Record
numbers_of (Four a b c d) start end = record { start = start; seq = a + 1; sep = b + 1; qual = c + 1; end = d }
numbers_of (Three a b c) start end = record { start = start; seq = a + 1; sep = b + 1; qual = c + 1; end = end }
numbers_of Zero start end = nothing_of
numbers_of (One a) start end = nothing_of
numbers_of (Two a b) start end = nothing_of

abbrev pub tail_by : List ℕ → ℕ → ℕ → Noted → Bool → Decided
tail_by H p L e true = deciding End false true
tail_by H p L e false = deciding (UnexpectedEnd (line (L + length (listed e))) (span_of (end_id H p (listed e)))) false true

unfoldable pub tail_of : List ℕ → ℕ → ℕ → Noted → Decided
tail_of H p L e = tail_by H p L e (all_blank (pieces H p (listed e)))

abbrev pub invalid_of : ℕ → Invalid → Answer
invalid_of L (Start x) = InvalidStart x (line L)
invalid_of L (Separator x i) = InvalidSeparator x (line (L + 2)) i
invalid_of L (Lengths n m i) = UnequalLengths n m (line L) i

abbrev pub judged_by : Record → ℕ → Byte → Bool → Result Unit Invalid → Decided
judged_by r L b last (Ok u) = deciding (a_record r b) false last
judged_by r L b last (Err i) = deciding (invalid_of L i) false true

unfoldable pub judged_of : List ℕ → Record → ℕ → Byte → Bool → Decided
judged_of H r L b last = judged_by r L b last (check_of (validate H (five_of r)))

abbrev pub moved_of : Reader → Position → Outcome Place
moved_of s p = moved_by s p (is_held s p.byte.0)

-- a state that seeks a record in a window of n bytes: its line may be four above a handed-in state's
pub record Seeks (s : Reader) (n : ℕ) : Type 0 where
  pub inside : s.fill ≤ n
  pub notes : Notes s.start s.fill s.mark (listed s.noted)
  pub few : s.line.0 ≤ 1125899906842624
