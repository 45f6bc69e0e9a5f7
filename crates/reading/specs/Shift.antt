-- The same answer with its offsets counted from k bytes earlier: from offsets in a part of the input to absolute ones.
-- Assumes nothing.
use Rattle.std.specs.Prelude.{ℕ, ◌+◌}
use Rattle.reading.specs.Answer.{Five, five, Id, absent, range, Answer, found, window_limit, invalid_start, invalid_separator, unequal_lengths, unexpected_end, ended, Told, told}

abbrev pub shift_five : ℕ → Five → Five
shift_five k r = five (k + r.start) (k + r.seq) (k + r.sep) (k + r.qual) (k + r.end)

abbrev pub shift_id : ℕ → Id → Id
shift_id k absent = absent
shift_id k (range a b) = range (k + a) (k + b)

abbrev pub shift : ℕ → Answer → Answer
shift k (found r) = found (shift_five k r)
shift k (window_limit L p) = window_limit L (k + p)
shift k (invalid_start b L) = invalid_start b L
shift k (invalid_separator b L i) = invalid_separator b L (shift_id k i)
shift k (unequal_lengths n m L i) = unequal_lengths n m L (shift_id k i)
shift k (unexpected_end L i) = unexpected_end L (shift_id k i)
shift k ended = ended

abbrev pub shift_told : ℕ → Told → Told
shift_told k t = told t.line (k + t.byte) (shift k t.answer)
