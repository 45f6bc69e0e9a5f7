-- Sets of records: document 01, "Sets of records". A set call lists records as next would give them, and stops before the first other answer.
-- Assumes nothing.
use Rattle.std.specs.Prelude.{ℕ, zero, suc, ◌+◌, ◌-◌, ◌/◌, min, Bool, true, false, List, [], ◌∷◌, ◌++◌, length, drop, eqb, Option, Some, None, Result, Ok, Err}
use Rattle.std.proofs.Math.Option as math
use Rattle.record.specs.declared.Record.{Record}
use Rattle.record.specs.declared.Noted.{Noted}
use Rattle.record.specs.declared.Noted.TheVariants.{Zero, One, Two, Three, Four}
use Rattle.reader.specs.declared.Reader.{Reader}
use Rattle.reader.specs.declared.Answer.{Answer}
use Rattle.reader.specs.declared.Answer.TheVariants.{Record as a_record, More, WindowLimit, InvalidStart, InvalidSeparator, UnequalLengths, UnexpectedEnd, End}
use Rattle.reader.specs.declared.Refusal.{Refusal}
use Rattle.reader.specs.declared.Refusal.TheVariants.{Foreign, NothingToDo}
use Rattle.reader.specs.declared.Outcome.{Outcome}
use Rattle.reader.specs.State.{number_of, state_of, own}
use Rattle.reader.specs.Next.{next_of}
use Rattle.reader.specs.Numbers.{answer_number}
use Rattle.sets.specs.declared.Reply.{Reply}
use Rattle.sets.specs.declared.Reply.TheVariants.{Count, Other}

-- the record that an answer of next gives, if it gives one
abbrev pub record_in : Answer → Option Record
record_in (a_record r b) = Some r
record_in More = None
record_in (WindowLimit L b) = None
record_in (InvalidStart x L) = None
record_in (InvalidSeparator x L i) = None
record_in (UnequalLengths n m L i) = None
record_in (UnexpectedEnd L i) = None
record_in End = None

-- the same where next may be refused
abbrev pub row_in : Result Answer Refusal → Option Record
row_in (Ok a) = record_in a
row_in (Err r) = None

-- records that next gives one after the other, and the state after the last of them
pub record Collected : Type 0 where
  pub records : List Record
  pub state : Reader

abbrev pub collected_by : (Reader → Collected) → Reader → Reader → Option Record → Collected
collected_by go s t None = record { records = []; state = s }
collected_by go s t (Some r) = record { records = r ∷ (go t).records; state = (go t).state }

-- the records that next gives from the state s on, at most n: any answer that is no record ends them
unfoldable pub collected : ℕ → Reader → List ℕ → Collected
collected zero s w = record { records = []; state = s }
collected (suc n) s w = collected_by (λ t. collected n t w) s (next_of s w).state (row_in (next_of s w).answer)

-- where the record behind an answered one starts; behind one with no final LF, the end of the held bytes
abbrev pub next_start : ℕ → Noted → ℕ
next_start fill (Four a b c d) = d + 1
next_start fill Zero = fill
next_start fill (One a) = fill
next_start fill (Two a b) = fill
next_start fill (Three a b c) = fill

-- the state that seeks four lines on, from the place p of the window: not waiting, and nothing searched
abbrev pub placed : Reader → ℕ → Reader
placed s p = state_of s.window p s.fill Zero p (s.line.0 + 4) (s.byte.0 + (p - s.start)) s.ended false s.closed

-- the state after the last listed record: the position is the next record's; after one with no final LF the input's length, and the reading stays closed
abbrev pub after_of : Reader → Reader
after_of s = placed s (next_start s.fill s.noted)

abbrev pub listed : Reader → Result Reply Refusal → Outcome Reply
listed s a = record { state = s; answer = a }

-- document 01's number of what a set call answers: that of next's answer, a count has none; refused with 2 or 6
abbrev pub set_number : Result Reply Refusal → math.Option ℕ
set_number (Ok (Count k)) = math.none
set_number (Ok (Other a)) = answer_number a
set_number (Err r) = math.some (number_of r)

-- what next answers, as a set call hands it on
abbrev pub other_of : Result Answer Refusal → Result Reply Refusal
other_of (Ok a) = Ok (Other a)
other_of (Err r) = Err r

-- by the count of listed records: with none, answer and state are next's
abbrev pub listed_by : ℕ → Outcome Answer → Reader → Outcome Reply
listed_by zero x t = listed x.state (other_of x.answer)
listed_by (suc k) x t = listed (after_of t) (Ok (Count (suc k)))

abbrev pub listed_of : ℕ → Reader → List ℕ → Outcome Reply
listed_of n s w = listed_by (length (collected n s w).records) (next_of s w) (collected n s w).state

-- by the tests: the state is own; no record is wanted or the table has no room for one
abbrev pub set_by : ℕ → Reader → List ℕ → Bool → Bool → Outcome Reply
set_by n s w false empty = listed s (Err Foreign)
set_by n s w true true = listed s (Err NothingToDo)
set_by n s w true false = listed_of n s w

-- what a set call answers, for a table with room for so many entries
unfoldable pub set_of : Reader → List ℕ → ℕ → ℕ → Outcome Reply
set_of s w room wanted = set_by (min wanted room) s w (own s (length w)) (eqb (min wanted room) 0)

-- the five numbers of an entry
abbrev pub numbers_of : Record → List ℕ
numbers_of r = r.start ∷ r.seq ∷ r.sep ∷ r.qual ∷ r.end ∷ []

-- the numbers of entries, one behind the other
unfoldable pub rows_of : List Record → List ℕ
rows_of [] = []
rows_of (r ∷ rs) = r.start ∷ r.seq ∷ r.sep ∷ r.qual ∷ r.end ∷ rows_of rs

-- xs over the front of a table; behind them what was there
abbrev pub over : {A : Type 0} → List A → List A → List A
over xs t = xs ++ drop (length xs) t

-- the records that a set call lists in a table with room for so many entries: a refused call lists none
abbrev pub records_of : Reader → List ℕ → ℕ → ℕ → List Record
records_of s w room wanted = (collected (min wanted room) s w).records

-- a table of numbers, five to an entry, after a set call
unfoldable pub table_of : Reader → List ℕ → ℕ → List ℕ → List ℕ
table_of s w wanted t = over (rows_of (records_of s w (length t / 5) wanted)) t

-- a table of entries after a set call
unfoldable pub entries_of : Reader → List ℕ → ℕ → List Record → List Record
entries_of s w wanted t = over (records_of s w (length t) wanted) t
