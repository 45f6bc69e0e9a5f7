-- Runs that mix next and set calls.
-- Assumes nothing.
use Rattle.std.specs.Prelude.{ℕ, ◌+◌, ◌-◌, ◌*◌, ◌≡◌, false, List, [], ◌∷◌, ◌++◌, map, length, Result, Ok, Err}
use Rattle.reading.specs.Answer.{found, Told, told}
use Rattle.reading.specs.Answer as read
use Rattle.reading.specs.Shift.{shift_five}
use Rattle.record.specs.declared.Record.{Record}
use Rattle.record.specs.Check.{five_of}
use Rattle.reader.specs.declared.Reader.{Reader}
use Rattle.reader.specs.declared.Position.{Position}
use Rattle.reader.specs.declared.Refusal.{Refusal}
use Rattle.reader.specs.Seek.{base, seek_of}
use Rattle.sets.specs.declared.Reply.{Reply}
use Rattle.sets.specs.declared.Reply.TheVariants.{Count, Other}
use Rattle.sets.specs.Sets.{set_of, records_of}
use Rattle.demands.specs.Runs.{heard_of, add_to, Bench, Call, is_refused, sought}

-- the records that a set call listed, as answers in absolute offsets: the first at line L; k is the absolute offset of the window's first byte
unfoldable pub listed_as : ℕ → ℕ → List Record → List Told
listed_as k L [] = []
listed_as k L (r ∷ rs) = told L (k + r.start) (found (shift_five k (five_of r))) ∷ listed_as k (L + 4) rs

-- what a set call adds to the answers heard: the records listed, four lines each before the position's; or, with none, next's answer
abbrev pub heard_by : List Told → Reader → List Record → Result Reply Refusal → List Told
heard_by ts s rs (Ok (Count k)) = ts ++ listed_as (base s) (s.line.0 - 4 * k) rs
heard_by ts s rs (Ok (Other a)) = add_to ts s (heard_of (base s) (Ok a))
heard_by ts s rs (Err r) = ts

-- a set call, with a table that has room for so many entries
abbrev pub listing : Bench → ℕ → ℕ → Bench
listing b room wanted =
    let r = set_of b.reader b.window room wanted in
    record {
      reader = r.state;
      window = b.window;
      taken = b.taken;
      heard = heard_by b.heard r.state (records_of b.reader b.window room wanted) r.answer;
    }

-- calls of next, feed, finish and set calls one after the other
pub data Mixed (B : List ℕ) (a : Bench) : Bench → Type 0 where
  start : Mixed B a a
  call : {b c : Bench} → Mixed B a b → Call B b c → Mixed B a c
  list : {b : Bench} → Mixed B a b → (room wanted : ℕ) → Mixed B a (listing b room wanted)

-- and seeks among them that are not refused
pub data Wanders (B : List ℕ) (a : Bench) : Bench → Type 0 where
  rests : Wanders B a a
  calls : {b c : Bench} → Wanders B a b → Call B b c → Wanders B a c
  lists : {b : Bench} → Wanders B a b → (room wanted : ℕ) → Wanders B a (listing b room wanted)
  moves : {b : Bench} → Wanders B a b → (p : Position) → is_refused (seek_of b.reader (length b.window) p).answer ≡ false → Wanders B a (sought b p)

-- the answers without their positions
abbrev pub answers : List Told → List read.Answer
answers ts = map (λ t. t.answer) ts
