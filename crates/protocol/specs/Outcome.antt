-- What `count` answers, by the reading of the input alone.
-- Assumes nothing.
use Rattle.std.specs.Prelude.{ℕ, ◌≡◌, Bool, true, false, List, length, leb, eqb, Result, Ok, Err}
use Rattle.std.proofs.Math.Option.{Option, none, some}
use Rattle.reading.specs.Answer.{Told}
use Rattle.reading.specs.Answer as read
use Rattle.reading.specs.Reading.{reading}
use Rattle.reader.specs.declared.Reader.{Reader}
use Rattle.reader.specs.declared.Refusal.{Refusal}
use Rattle.reader.specs.declared.Refusal.TheVariants.{PastLimit, NothingToDo}
use Rattle.reader.specs.State.{most_bytes, open_of}
use Rattle.reader.specs.Seek.{base}
use Rattle.demands.specs.Runs.{heard_of, placed}
use Rattle.protocol.specs.declared.Tally.{Tally}
use Rattle.protocol.specs.Tallies.{Tallied, tally_of}
use Rattle.protocol.specs.Turns.{window_after}

-- an answer that was heard, with the position that the reader then tells
abbrev pub heard_at : Reader → Option read.Answer → Option Told
heard_at s none = none
heard_at s (some a) = some (placed s a)

-- a tally in absolute offsets: its records, and its closing answer with the position
abbrev pub tallied_of : Tally → Tallied
tallied_of t = record { records = t.records; closing = heard_at t.state (heard_of (base t.state) t.closing) }

-- what a count answers, as a tally in absolute offsets
abbrev pub outcome_of : Result Tally Refusal → Result Tallied Refusal
outcome_of (Ok t) = Ok (tallied_of t)
outcome_of (Err r) = Err r

-- by what open answers and the tests: the chunk size is 0; the input has at most 2^48 bytes
abbrev pub outcome_by : List ℕ → ℕ → Result Reader Refusal → Bool → Bool → Result Tallied Refusal
outcome_by B W (Err r) empty small = Err r
outcome_by B W (Ok s) true small = Err NothingToDo
outcome_by B W (Ok s) false false = Err PastLimit
outcome_by B W (Ok s) false true = Ok (tally_of (reading B W 0 1))

-- refused: a window that open refuses with 1, a chunk size of 0 with 6, an input that is too long with 5; otherwise the tally of the reading
unfoldable pub outcome : List ℕ → ℕ → ℕ → Result Tallied Refusal
outcome B W chunk = outcome_by B W (open_of W) (eqb chunk 0) (leb (length B) most_bytes)

-- the window w afterwards, w': a refusal leaves its bytes as they were, a count those of its run
abbrev pub Leaves : List ℕ → List ℕ → ℕ → List ℕ → Result Tally Refusal → Type 0
Leaves B w chunk w' (Ok t) = (w' ≡ window_after B w chunk) × (length w' ≡ length w)
Leaves B w chunk w' (Err r) = w' ≡ w
