-- The marked examples hold.
-- Assumes nothing.
use mathlib.Core.Path.{◌≡◌, refl}
use mathlib.Core.List.{map}
use Rattle.reading.specs.Bytes.{line_ends, trim_cr, pieces, all_blank, id_length}
use Rattle.reading.specs.Reading.{head_of, seq_of, qual_of, error_id, lengths_agree, validate, complete, tail_rule, step_at, read_for, reading}
use Rattle.reading.specs.Marked.{marked, by_rules}

-- THE TABLE M1 TO M14: the answers, values, ids and positions that document 01 marks, and the records' trimmed lengths, are those of the reading
pub marked_hold : map by_rules marked ≡ marked
unfolding reading read_for step_at complete tail_rule validate lengths_agree error_id qual_of seq_of head_of line_ends trim_cr pieces all_blank id_length
marked_hold = refl
