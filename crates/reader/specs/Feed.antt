-- Feed and finish: "Feeding the window" of document 01.
-- Assumes nothing.
use Rattle.std.specs.Prelude.{ℕ, ◌+◌, ◌-◌, min, Bool, true, false, List, ◌++◌, length, take, drop, leb, ltb, Result, Ok, Err}
use Rattle.std.proofs.Math.Seq.{slice}
use Rattle.record.specs.declared.Noted.{Noted}
use Rattle.record.specs.declared.Noted.TheVariants.{Zero, One, Two, Three, Four}
use Rattle.reader.specs.declared.Reader.{Reader}
use Rattle.reader.specs.declared.Refusal.{Refusal}
use Rattle.reader.specs.declared.Refusal.TheVariants.{Foreign, NotWaiting, EndNoted, PastLimit}
use Rattle.reader.specs.declared.Outcome.{Outcome}
use Rattle.reader.specs.State.{most_bytes, state_of, own}

-- the held bytes from the sought record's start
abbrev pub held_of : Reader → ℕ
held_of s = s.fill - s.start

-- feed takes min(chunk length, W - held): n is the chunk's length
abbrev pub taken_of : Reader → ℕ → ℕ
taken_of s n = min n (s.window - held_of s)

-- the noted line ends, counted from `start`
abbrev pub notes_from : ℕ → Noted → Noted
notes_from k Zero = Zero
notes_from k (One a) = One (a - k)
notes_from k (Two a b) = Two (a - k) (b - k)
notes_from k (Three a b c) = Three (a - k) (b - k) (c - k)
notes_from k (Four a b c d) = Four (a - k) (b - k) (c - k) (d - k)

-- t bytes more are held
abbrev pub filled : Reader → ℕ → Reader
filled s t = state_of s.window s.start (s.fill + t) s.noted s.mark s.line.0 s.byte.0 s.ended s.waiting s.closed

-- the kept bytes are at the window's front
abbrev pub front_of : Reader → Reader
front_of s =
    state_of s.window 0 (held_of s) (notes_from s.start s.noted) (s.mark - s.start) s.line.0 s.byte.0 s.ended s.waiting s.closed

-- the kept bytes move first if the chunk is longer than the free room at the window's end
abbrev pub moves : Reader → ℕ → Bool
moves s n = ltb (s.window - s.fill) n

abbrev pub front_if : Bool → Reader → Reader
front_if true s = front_of s
front_if false s = s

-- a refusal: the state is as it was
abbrev pub refused : {A : Type 0} → Reader → Refusal → Outcome A
refused s r = record { state = s; answer = Err r }

-- by the test: what feed would take does not end past byte 2^48
abbrev pub taking_by : Reader → ℕ → Bool → Outcome ℕ
taking_by s n true = record { state = filled (front_if (moves s n) s) (taken_of s n); answer = Ok (taken_of s n) }
taking_by s n false = refused s PastLimit

unfoldable pub taking_of : Reader → ℕ → Outcome ℕ
taking_of s n = taking_by s n (leb (s.byte.0 + held_of s + taken_of s n) most_bytes)

-- by the tests: the state is own, the end is noted, the state is waiting. Refusals in the order 2, 4, 3
abbrev pub ready_by : Bool → Bool → Bool → Result Unit Refusal
ready_by false ended waiting = Err Foreign
ready_by true true waiting = Err EndNoted
ready_by true false false = Err NotWaiting
ready_by true false true = Ok tt

-- the state may be fed, or told the end, with a window of w bytes
abbrev pub ready_of : Reader → ℕ → Result Unit Refusal
ready_of s w = ready_by (own s w) s.ended s.waiting

-- refusals in the order 2, 4, 3, 5
abbrev pub feed_by : Reader → ℕ → Result Unit Refusal → Outcome ℕ
feed_by s n (Ok u) = taking_of s n
feed_by s n (Err r) = refused s r

-- feed's state and answer, for a window of w bytes and a chunk of n
unfoldable pub feed_of : Reader → ℕ → ℕ → Outcome ℕ
feed_of s w n = feed_by s n (ready_of s w)

-- the window's bytes with the kept ones at its front, or as they are
abbrev pub kept_by : Bool → Reader → List ℕ → List ℕ
kept_by true s w = slice s.start s.fill w
kept_by false s w = take s.fill w

-- the chunk's bytes behind the kept ones; bytes past the new fill point keep their values
abbrev pub landed_on : List ℕ → List ℕ → List ℕ → List ℕ
landed_on front chunk w = front ++ (chunk ++ drop (length front + length chunk) w)

unfoldable pub landed : Reader → List ℕ → List ℕ → List ℕ
landed s w chunk = landed_on (kept_by (moves s (length chunk)) s w) (take (taken_of s (length chunk)) chunk) w

abbrev pub fed_by : Reader → List ℕ → List ℕ → Result ℕ Refusal → List ℕ
fed_by s w chunk (Ok t) = landed s w chunk
fed_by s w chunk (Err r) = w

-- the window after feed: a refused call leaves it as it was
unfoldable pub fed_window : Reader → List ℕ → List ℕ → List ℕ
fed_window s w chunk = fed_by s w chunk (feed_of s (length w) (length chunk)).answer

-- the end is noted
abbrev pub ended_of : Reader → Reader
ended_of s = state_of s.window s.start s.fill s.noted s.mark s.line.0 s.byte.0 true s.waiting s.closed

abbrev pub finish_by : Reader → Result Unit Refusal → Outcome Unit
finish_by s (Ok u) = record { state = ended_of s; answer = Ok tt }
finish_by s (Err r) = record { state = s; answer = Err r }

-- finish, for a window of w bytes. Refusals in the order 2, 4, 3
unfoldable pub finish_of : Reader → ℕ → Outcome Unit
finish_of s w = finish_by s (ready_of s w)
