-- Outcomes of small inputs, by computation.
-- Assumes nothing.
use mathlib.Core.Path.{◌≡◌, refl}
use mathlib.Core.Option.{some}
use Rattle.std.specs.Prelude.{Ok, Err}
use Rattle.reader.specs.declared.Refusal.TheVariants.{WindowSize, NothingToDo}
use Rattle.reading.specs.Answer.{told, ended, window_limit}
use Rattle.reading.specs.Bytes.{line_ends, trim_cr, pieces, all_blank, id_length}
use Rattle.reading.specs.Reading.{head_of, seq_of, qual_of, error_id, lengths_agree, validate, complete, tail_rule, step_at, read_for, reading}
use Rattle.reading.specs.Marked.{bytes}
use Rattle.record.specs.Noted.{sought_of}
use Rattle.reader.specs.State.{open_of, own, notes_fit}
use Rattle.reader.specs.Feed.{feed_of, taking_of, fed_window, landed, finish_of}
use Rattle.reader.specs.Next.{next_of, seeking_of, decided_of}
use Rattle.protocol.specs.Tallies.{tally_of}
use Rattle.protocol.specs.Turns.{supplied_of, supplied_window, window_for, window_after}
use Rattle.protocol.specs.Outcome.{outcome}

-- two records and End; the first alone fits the smaller window
pub counted_example : (outcome (bytes "@a\nAC\n+\nII\n@b\nACG\n+\nIII\n") 64 1 ≡ Ok (record { records = 2; closing = some (told 9 24 ended) }))
    × (outcome (bytes "@a\nAC\n+\nII\n@b\nACG\n+\nIII\n") 11 7 ≡ Ok (record { records = 1; closing = some (told 5 11 (window_limit 5 11)) }))
unfolding outcome open_of tally_of reading read_for step_at complete tail_rule validate lengths_agree error_id qual_of seq_of head_of line_ends trim_cr pieces all_blank id_length
counted_example = (refl, refl)

-- a window of 2 bytes is refused before a chunk size of 0
pub refused_example : (outcome (bytes "@a\n") 2 0 ≡ Err WindowSize) × (outcome (bytes "@a\n") 3 0 ≡ Err NothingToDo)
unfolding outcome open_of
refused_example = (refl, refl)

-- the second record lies over the first; behind it stays what was there
pub window_example : window_after (bytes "@a\nA\n+\nI\n@b\nC\n+\nI\n") (bytes "............") 5 ≡ bytes "@b\nC\n+\nI\n@.."
unfolding window_after window_for supplied_of supplied_window feed_of taking_of fed_window landed finish_of next_of seeking_of decided_of own notes_fit sought_of complete tail_rule validate lengths_agree error_id qual_of seq_of head_of line_ends trim_cr pieces all_blank id_length
window_example = refl
