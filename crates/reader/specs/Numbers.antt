-- Document 01's number for each case of what the calls answer; what is neither a refusal nor an error has none.
-- Assumes nothing.
use Rattle.std.specs.Prelude.{ℕ, Result, Ok, Err}
use Rattle.std.proofs.Math.Option.{Option, none, some}
use Rattle.reader.specs.declared.Refusal.{Refusal}
use Rattle.reader.specs.declared.Answer.{Answer}
use Rattle.reader.specs.declared.Answer.TheVariants.{Record, More, WindowLimit, InvalidStart, InvalidSeparator, UnequalLengths, UnexpectedEnd, End}
use Rattle.reader.specs.State.{number_of}

-- of a call that answers or is refused: open with 1; feed with 2, 4, 3, 5; finish with 2, 4, 3; seek with 2, 5
abbrev pub refusal_number : {A : Type 0} → Result A Refusal → Option ℕ
refusal_number (Ok a) = none
refusal_number (Err r) = some (number_of r)

-- of what next answers: 7 to 11
abbrev pub answer_number : Answer → Option ℕ
answer_number (Record r b) = none
answer_number More = none
answer_number (WindowLimit L b) = some 7
answer_number (InvalidStart x L) = some 8
answer_number (InvalidSeparator x L i) = some 9
answer_number (UnequalLengths n m L i) = some 10
answer_number (UnexpectedEnd L i) = some 11
answer_number End = none

-- next: 2, and the answers 7 to 11
abbrev pub next_number : Result Answer Refusal → Option ℕ
next_number (Ok a) = answer_number a
next_number (Err r) = some (number_of r)
