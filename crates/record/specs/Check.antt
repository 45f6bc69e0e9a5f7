-- The reading's five numbers, id ranges and verdicts as this crate's types.
-- Assumes nothing.
use Rattle.std.specs.Prelude.{ℕ, Option, Some, None, Result, Ok, Err}
use Rattle.reading.specs.Answer.{Five, five, Id, absent, range}
use Rattle.reading.specs.Reading.{Verdict, good, bad_start, bad_separator, bad_lengths}
use Rattle.record.specs.declared.Record.{Record}
use Rattle.record.specs.declared.Span.{Span}
use Rattle.record.specs.declared.Invalid.{Invalid}
use Rattle.record.specs.declared.Invalid.TheVariants.{Start, Separator, Lengths}

abbrev pub five_of : Record → Five
five_of r = five r.start r.seq r.sep r.qual r.end

abbrev pub record_at : Five → Record
record_at r = record { start = r.start; seq = r.seq; sep = r.sep; qual = r.qual; end = r.end }

abbrev pub span : ℕ → ℕ → Span
span a b = record { from = a; to = b }

abbrev pub span_of : Id → Option Span
span_of absent = None
span_of (range a b) = Some (span a b)

-- the values of errors 8, 9 and 10 of document 01's table, but for the line
abbrev pub check_of : Verdict → Result Unit Invalid
check_of good = Ok tt
check_of (bad_start b) = Err (Start b)
check_of (bad_separator b i) = Err (Separator b (span_of i))
check_of (bad_lengths n m i) = Err (Lengths n m (span_of i))
