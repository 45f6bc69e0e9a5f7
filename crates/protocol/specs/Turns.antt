-- What a turn of the protocol does: the answers told apart, and how a request is answered.
-- Assumes nothing.
use Rattle.std.specs.Prelude.{ℕ, zero, suc, ◌+◌, ◌*◌, Bool, true, false, List, length, take, drop, leb, Result, Ok, Err}
use Rattle.reader.specs.declared.Reader.{Reader}
use Rattle.reader.specs.declared.Answer.{Answer}
use Rattle.reader.specs.declared.Answer.TheVariants.{Record, More, WindowLimit, InvalidStart, InvalidSeparator, UnequalLengths, UnexpectedEnd, End}
use Rattle.reader.specs.declared.Refusal.{Refusal}
use Rattle.reader.specs.State.{fresh_of}
use Rattle.reader.specs.Feed.{feed_of, fed_window, finish_of}
use Rattle.reader.specs.Next.{next_of}
use Rattle.demands.specs.Runs.{took_of}
use Rattle.protocol.specs.declared.Kind.{Kind}
use Rattle.protocol.specs.declared.Kind.TheVariants as kind
use Rattle.protocol.specs.declared.Supplied.{Supplied}

-- a record is counted, a request is answered, anything else closes
abbrev pub kind_in : Answer → Kind
kind_in (Record r b) = kind.Record
kind_in More = kind.Request
kind_in (WindowLimit L b) = kind.Closing
kind_in (InvalidStart x L) = kind.Closing
kind_in (InvalidSeparator x L i) = kind.Closing
kind_in (UnequalLengths n m L i) = kind.Closing
kind_in (UnexpectedEnd L i) = kind.Closing
kind_in End = kind.Closing

abbrev pub kind_of : Result Answer Refusal → Kind
kind_of (Ok a) = kind_in a
kind_of (Err r) = kind.Closing

-- the input's next bytes, a chunk at most
abbrev pub offered : List ℕ → ℕ → ℕ → List ℕ
offered B at chunk = take chunk (drop at B)

-- by the test: all of the input is taken
abbrev pub supplied_by : Reader → List ℕ → List ℕ → ℕ → ℕ → Bool → Supplied
supplied_by s w B at chunk true = record { state = (finish_of s (length w)).state; at = at }
supplied_by s w B at chunk false =
    record {
      state = (feed_of s (length w) (length (offered B at chunk))).state;
      at = at + took_of (feed_of s (length w) (length (offered B at chunk))).answer;
    }

-- a request is answered: the input's next bytes are fed or, where all are taken, the end is noted
unfoldable pub supplied_of : Reader → List ℕ → List ℕ → ℕ → ℕ → Supplied
supplied_of s w B at chunk = supplied_by s w B at chunk (leb (length B) at)

abbrev pub supplied_window_by : Reader → List ℕ → List ℕ → ℕ → ℕ → Bool → List ℕ
supplied_window_by s w B at chunk true = w
supplied_window_by s w B at chunk false = fed_window s w (offered B at chunk)

-- the window's bytes then
unfoldable pub supplied_window : Reader → List ℕ → List ℕ → ℕ → ℕ → List ℕ
supplied_window s w B at chunk = supplied_window_by s w B at chunk (leb (length B) at)

-- one turn on the window w, where next answered with the state s: a record leaves the window, a request is answered, any other answer ends the run
abbrev pub window_by : (Reader → List ℕ → ℕ → List ℕ) → List ℕ → ℕ → List ℕ → ℕ → Reader → Kind → List ℕ
window_by on B chunk w at s kind.Record = on s w at
window_by on B chunk w at s kind.Request = on (supplied_of s w B at chunk).state (supplied_window s w B at chunk) (supplied_of s w B at chunk).at
window_by on B chunk w at s kind.Closing = w

-- the window's bytes after at most n turns
unfoldable pub window_for : ℕ → List ℕ → ℕ → Reader → List ℕ → ℕ → List ℕ
window_for zero B chunk s w at = w
window_for (suc n) B chunk s w at = window_by (λ u v t. window_for n B chunk u v t) B chunk w at (next_of s w).state (kind_of (next_of s w).answer)

-- the window's bytes after a run over B: each turn but the last counts a record, takes a byte or notes the end, so these turns are enough
unfoldable pub window_after : List ℕ → List ℕ → ℕ → List ℕ
window_after B w chunk = window_for (2 * length B + 2) B chunk (fresh_of (length w)) w 0
