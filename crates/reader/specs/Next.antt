-- Next: the answer by the reading's own step on the held bytes, and the state after it.
-- Assumes nothing.
use Rattle.std.specs.Prelude.{ℕ, ◌+◌, ◌-◌, Bool, true, false, ◌||◌, List, length, take, leb, Ok, Err}
use Rattle.reading.specs.Answer.{Five, found, window_limit, invalid_start, invalid_separator, unequal_lengths, unexpected_end, ended}
use Rattle.reading.specs.Answer as told
use Rattle.reading.specs.Reading.{Step, onward, unended, closing, rest, step_with}
use Rattle.record.specs.declared.Noted.{Noted}
use Rattle.record.specs.declared.Noted.TheVariants.{Zero, One, Two, Three, Four}
use Rattle.record.specs.declared.Sought.{Sought}
use Rattle.record.specs.Noted.{listed, sought_of}
use Rattle.record.specs.Check.{record_at, span_of}
use Rattle.reader.specs.declared.Byte.{Byte}
use Rattle.reader.specs.declared.Reader.{Reader}
use Rattle.reader.specs.declared.Answer.{Answer}
use Rattle.reader.specs.declared.Answer.TheVariants.{Record, More, WindowLimit, InvalidStart, InvalidSeparator, UnequalLengths, UnexpectedEnd, End}
use Rattle.reader.specs.declared.Refusal.TheVariants.{Foreign}
use Rattle.reader.specs.declared.Outcome.{Outcome}
use Rattle.reader.specs.declared.Decided.{Decided}
use Rattle.reader.specs.State.{line, state_of, own}

-- a reading's answer as next gives it: b is the absolute offset of the record
abbrev pub answer_of : Byte → told.Answer → Answer
answer_of b (found r) = Record (record_at r) b
answer_of b (window_limit L p) = WindowLimit (line L) b
answer_of b (invalid_start x L) = InvalidStart x (line L)
answer_of b (invalid_separator x L i) = InvalidSeparator x (line L) (span_of i)
answer_of b (unequal_lengths n m L i) = UnequalLengths n m (line L) (span_of i)
answer_of b (unexpected_end L i) = UnexpectedEnd (line L) (span_of i)
answer_of b ended = End

abbrev pub deciding : Answer → Bool → Bool → Decided
deciding a waiting closed = record { answer = a; waiting = waiting; closed = closed }

-- any answer but a request ends waiting; an error, the window limit, End, and a record with no final LF close
abbrev pub settled_by : Byte → Step → Decided
settled_by b (onward r) = deciding (answer_of b (found r)) false false
settled_by b (unended r) = deciding (answer_of b (found r)) false true
settled_by b (closing a) = deciding (answer_of b a) false true

-- the record is complete, or W bytes are held from its start, or the end is noted
abbrev pub settles : List ℕ → ℕ → ℕ → Bool → List ℕ → Bool
settles H W p end es = leb 4 (length es) || (leb W (length (rest H p)) || end)

-- by that test: otherwise more input is wanted
abbrev pub decided_by : List ℕ → ℕ → ℕ → ℕ → Byte → List ℕ → Bool → Decided
decided_by H W p L b es true = settled_by b (step_with H W p L es)
decided_by H W p L b es false = deciding More true false

-- the answer for the held bytes H, of which the record at p has the noted line ends
unfoldable pub decided_of : List ℕ → ℕ → ℕ → ℕ → Byte → Bool → Noted → Decided
decided_of H W p L b end e = decided_by H W p L b (listed e) (settles H W p end (listed e))

-- from a complete record that was answered to the one behind it
abbrev pub onward_by : Reader → Noted → Reader
onward_by s (Four a b c d) = state_of s.window (d + 1) s.fill Zero (d + 1) (s.line.0 + 4) (s.byte.0 + (d + 1 - s.start)) s.ended s.waiting s.closed
onward_by s Zero = s
onward_by s (One a) = s
onward_by s (Two a b) = s
onward_by s (Three a b c) = s

abbrev pub onward_of : Reader → Reader
onward_of s = onward_by s s.noted

-- the state with these notes and flags, and the answer
abbrev pub next_with : Reader → Sought → Decided → Outcome Answer
next_with s f d =
    record {
      state = state_of s.window s.start s.fill f.noted f.mark s.line.0 s.byte.0 s.ended d.waiting d.closed;
      answer = Ok d.answer;
    }

-- the search goes on where it stopped, through the held bytes
abbrev pub searched_of : Reader → List ℕ → Sought
searched_of s w = sought_of (take s.fill w) s.noted s.mark

unfoldable pub seeking_of : Reader → List ℕ → Outcome Answer
seeking_of s w =
    next_with s (searched_of s w)
    (decided_of (take s.fill w) s.window s.start s.line.0 s.byte s.ended (searched_of s w).noted)

-- every later answer is End and keeps the position
abbrev pub closed_of : Reader → Outcome Answer
closed_of s =
    record {
      state = state_of s.window s.start s.fill s.noted s.mark s.line.0 s.byte.0 s.ended false s.closed;
      answer = Ok End;
    }

-- by the tests: the state is own; the reading is closed
abbrev pub next_by : Reader → List ℕ → Bool → Bool → Outcome Answer
next_by s w false closed = record { state = s; answer = Err Foreign }
next_by s w true true = closed_of s
next_by s w true false = seeking_of (onward_of s) w

unfoldable pub next_of : Reader → List ℕ → Outcome Answer
next_of s w = next_by s w (own s (length w)) s.closed
