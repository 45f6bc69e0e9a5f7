-- What a reading answers: records, errors and End, with the numbers of document 01's table. Offsets are absolute.
-- Assumes nothing.
use Rattle.std.specs.Prelude.{ℕ}
use Rattle.std.proofs.Math.Option.{Option, none, some}

-- the five numbers of a record: its start, the offsets after its first, second and third LF, and its end
pub record Five : Type 0 where
  pub start : ℕ
  pub seq : ℕ
  pub sep : ℕ
  pub qual : ℕ
  pub end : ℕ

abbrev pub five : ℕ → ℕ → ℕ → ℕ → ℕ → Five
five start seq sep qual end = record { start = start; seq = seq; sep = sep; qual = qual; end = end }

-- the id of an error is a byte range, or absent
pub data Id : Type 0 where
  absent : Id
  range : ℕ → ℕ → Id

pub data Answer : Type 0 where
  -- a record
  found : Five → Answer
  -- window limit: line, byte
  window_limit : ℕ → ℕ → Answer
  -- invalid start: byte found, line
  invalid_start : ℕ → ℕ → Answer
  -- invalid separator: byte found, line, id
  invalid_separator : ℕ → ℕ → Id → Answer
  -- unequal lengths: both lengths, line, id
  unequal_lengths : ℕ → ℕ → ℕ → Id → Answer
  -- unexpected end: line, id
  unexpected_end : ℕ → Id → Answer
  -- End
  ended : Answer

-- the table's number of an answer; a record and End have none
abbrev pub number_of : Answer → Option ℕ
number_of (found r) = none
number_of (window_limit L p) = some 7
number_of (invalid_start b L) = some 8
number_of (invalid_separator b L i) = some 9
number_of (unequal_lengths n m L i) = some 10
number_of (unexpected_end L i) = some 11
number_of ended = none

-- an answer, and the position after it
pub record Told : Type 0 where
  pub line : ℕ
  pub byte : ℕ
  pub answer : Answer

abbrev pub told : ℕ → ℕ → Answer → Told
told L p a = record { line = L; byte = p; answer = a }
