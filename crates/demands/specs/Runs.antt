-- What a user's run is: a sequence of the public calls on one reader and one window, and the answers that it hears.
-- Assumes nothing.
use Rattle.std.specs.Prelude.{ℕ, suc, ◌+◌, ◌≤◌, ◌<◌, ◌≡◌, Bool, true, false, List, [], ◌∷◌, ◌++◌, length, take, drop, Option, Some, None, Result, Ok, Err}
use Rattle.std.proofs.Math.Option as math
use Rattle.std.proofs.Math.Option.{none, some}
use Rattle.reading.specs.Answer.{Id, absent, range, found, window_limit, invalid_start, invalid_separator, unequal_lengths, unexpected_end, ended, Told, told}
use Rattle.reading.specs.Answer as read
use Rattle.reading.specs.Reading.{first as first_answers, reading}
use Rattle.reading.specs.Lists.{kept, SameOrOn}
use Rattle.reading.specs.Shift.{shift_five, shift_id}
use Rattle.record.specs.declared.Span.{Span}
use Rattle.record.specs.Check.{five_of}
use Rattle.reader.specs.declared.Reader.{Reader}
use Rattle.reader.specs.declared.Refusal.{Refusal}
use Rattle.reader.specs.declared.Refusal.TheVariants.{NotWaiting, EndNoted}
use Rattle.reader.specs.declared.Position.{Position}
use Rattle.reader.specs.declared.Place.{Place}
use Rattle.reader.specs.declared.Place.TheVariants as place
use Rattle.reader.specs.declared.Answer.{Answer}
use Rattle.reader.specs.declared.Answer.TheVariants.{Record, More, WindowLimit, InvalidStart, InvalidSeparator, UnequalLengths, UnexpectedEnd, End}
use Rattle.reader.specs.State.{open_of, position_of}
use Rattle.reader.specs.Feed.{taken_of, feed_of, fed_window, finish_of}
use Rattle.reader.specs.Next.{next_of}
use Rattle.reader.specs.Seek.{base, seek_of}

-- ---- what is heard

abbrev pub id_of : Option Span → Id
id_of None = absent
id_of (Some i) = range i.from i.to

-- what next answered, in absolute offsets: k is the absolute offset of the window's first byte. A request and a refusal are no answers
abbrev pub heard_of : ℕ → Result Answer Refusal → math.Option read.Answer
heard_of k (Ok (Record r b)) = some (found (shift_five k (five_of r)))
heard_of k (Ok More) = none
heard_of k (Ok (WindowLimit L b)) = some (window_limit L.0 b.0)
heard_of k (Ok (InvalidStart x L)) = some (invalid_start x L.0)
heard_of k (Ok (InvalidSeparator x L i)) = some (invalid_separator x L.0 (shift_id k (id_of i)))
heard_of k (Ok (UnequalLengths n m L i)) = some (unequal_lengths n m L.0 (shift_id k (id_of i)))
heard_of k (Ok (UnexpectedEnd L i)) = some (unexpected_end L.0 (shift_id k (id_of i)))
heard_of k (Ok End) = some ended
heard_of k (Err r) = none

-- an answer, with the position that the reader then tells
abbrev pub placed : Reader → read.Answer → Told
placed s a = told (position_of s).line.0 (position_of s).byte.0 a

abbrev pub add_to : List Told → Reader → math.Option read.Answer → List Told
add_to ts s none = ts
add_to ts s (some a) = ts ++ (placed s a ∷ [])

-- ---- calls

-- how many bytes a feed says that it took
abbrev pub took_of : Result ℕ Refusal → ℕ
took_of (Ok n) = n
took_of (Err r) = 0

-- one bench: its reader and window, how many bytes of the input were taken, and the answers heard so far
pub record Bench : Type 0 where
  pub reader : Reader
  pub window : List ℕ
  pub taken : ℕ
  pub heard : List Told

-- a chunk is offered: what was taken of it is counted
abbrev pub fed : Bench → List ℕ → Bench
fed b chunk =
    record {
      reader = (feed_of b.reader (length b.window) (length chunk)).state;
      window = fed_window b.reader b.window chunk;
      taken = b.taken + took_of (feed_of b.reader (length b.window) (length chunk)).answer;
      heard = b.heard;
    }

-- the end is announced
abbrev pub finished : Bench → Bench
finished b = record { reader = (finish_of b.reader (length b.window)).state; window = b.window; taken = b.taken; heard = b.heard }

-- next is asked: an answer is heard, with the position after it
abbrev pub asked : Bench → Bench
asked b =
    let r = next_of b.reader b.window in
    record { reader = r.state; window = b.window; taken = b.taken; heard = add_to b.heard r.state (heard_of (base r.state) r.answer) }

-- A call of a user who reads the input B: a chunk of the input's next bytes, of any size, is offered at any time, refused or not; the end is announced
-- only when the input is all taken; next is asked at any time; the window is handed back as it was returned. There is no seek.
pub data Call (B : List ℕ) : Bench → Bench → Type 0 where
  feed : {b : Bench} (chunk : List ℕ) → chunk ≡ take (length chunk) (drop b.taken B) → Call B b (fed b chunk)
  finish : {b : Bench} → length B ≤ b.taken → Call B b (finished b)
  next : {b : Bench} → Call B b (asked b)

-- calls one after the other, from one bench's state to another
pub data Calls (B : List ℕ) (a : Bench) : Bench → Type 0 where
  here : Calls B a a
  then : {b c : Bench} → Calls B a b → Call B b c → Calls B a c

-- a fresh bench: a reader that open gave for W, a window of W bytes, whatever they are, nothing taken and nothing heard
pub record Opened (W : ℕ) (b : Bench) : Type 0 where
  pub fresh : open_of W ≡ Ok b.reader
  pub wide : length b.window ≡ W
  pub none : b.taken ≡ 0
  pub silent : b.heard ≡ []

-- A USER'S RUN over the input B with a window of W bytes, which has come to the bench b
pub record Run (B : List ℕ) (W : ℕ) (b : Bench) : Type 0 where
  pub start : Bench
  pub opened : Opened W start
  pub calls : Calls B start b

-- TWO BENCHES over one input B: each has its own reader and window; their calls are interleaved in any order
pub data Benches (B : List ℕ) (a₀ b₀ : Bench) : Bench → Bench → Type 0 where
  both : Benches B a₀ b₀ a₀ b₀
  first : {a b c : Bench} → Benches B a₀ b₀ a b → Call B a c → Benches B a₀ b₀ c b
  second : {a b c : Bench} → Benches B a₀ b₀ a b → Call B b c → Benches B a₀ b₀ a c

-- what two benches hear
pub record Agree (B : List ℕ) (W U : ℕ) (a b : Bench) : Type 0 where
  -- each hears the answers of its own window's reading
  pub first_reads : a.heard ≡ first_answers (length a.heard) B W 0 1
  pub second_reads : b.heard ≡ first_answers (length b.heard) B U 0 1
  -- and as long as the one with the smaller window has heard no window limit, both have heard the same
  pub agree : (n : ℕ) → n ≤ length a.heard → n ≤ length b.heard → kept (take n a.heard) ≡ take n a.heard → take n a.heard ≡ take n b.heard
  -- their whole readings are equal, or the smaller one's closes with a window limit where the larger one's goes on
  pub wholly : SameOrOn (reading B W 0 1) (reading B U 0 1)

-- ---- refusals in a run

-- what feed answers in a run, offered the input's next bytes: 4 exactly if the end is noted, 3 exactly if it is not and the state is not waiting
pub record FeedIs (s : Reader) (w n : ℕ) : Type 0 where
  pub ended : s.ended ≡ true → (feed_of s w n).answer ≡ Err EndNoted
  pub unasked : s.ended ≡ false → s.waiting ≡ false → (feed_of s w n).answer ≡ Err NotWaiting
  pub taken : s.ended ≡ false → s.waiting ≡ true → (feed_of s w n).answer ≡ Ok (taken_of s n)

-- what finish answers in a run
pub record FinishIs (s : Reader) (w : ℕ) : Type 0 where
  pub ended : s.ended ≡ true → (finish_of s w).answer ≡ Err EndNoted
  pub unasked : s.ended ≡ false → s.waiting ≡ false → (finish_of s w).answer ≡ Err NotWaiting
  pub noted : s.ended ≡ false → s.waiting ≡ true → (finish_of s w).answer ≡ Ok tt

-- ---- requests

-- calls that answer each request straight away: by a nonempty chunk of the input's next bytes, or, when all is taken, by announcing the end; k requests so far
pub data Attended (B : List ℕ) (a : Bench) : Bench → ℕ → Type 0 where
  begins : Attended B a a 0
  hears : {b : Bench} {k : ℕ} → Attended B a b k → ((next_of b.reader b.window).answer ≡ Ok More → ⊥) → Attended B a (asked b) k
  serves : {b : Bench} {k : ℕ} → Attended B a b k → (next_of b.reader b.window).answer ≡ Ok More → (chunk : List ℕ) → 0 < length chunk
      → chunk ≡ take (length chunk) (drop b.taken B) → Attended B a (fed (asked b) chunk) (suc k)
  closes : {b : Bench} {k : ℕ} → Attended B a b k → (next_of b.reader b.window).answer ≡ Ok More → length B ≤ b.taken → Attended B a (finished (asked b)) (suc k)

-- ---- seeks

-- up to where the input is taken after a seek: inside, as before; outside, the byte to feed from
abbrev pub reached_by : Result Place Refusal → ℕ → ℕ
reached_by (Ok place.Inside) t = t
reached_by (Ok (place.FeedFrom q)) t = q.0
reached_by (Err r) t = t

abbrev pub is_refused : Result Place Refusal → Bool
is_refused (Ok p) = false
is_refused (Err r) = true

-- a seek: what is heard is counted anew
abbrev pub sought : Bench → Position → Bench
sought b p =
    let r = seek_of b.reader (length b.window) p in
    record { reader = r.state; window = b.window; taken = reached_by r.answer b.taken; heard = [] }

-- calls and seeks one after the other: after a seek the input's bytes are fed from the answered byte on, or, inside, from the reached place on
pub data Roams (B : List ℕ) (a : Bench) : Bench → Type 0 where
  stays : Roams B a a
  calls : {b c : Bench} → Roams B a b → Call B b c → Roams B a c
  seeks : {b : Bench} → Roams B a b → (p : Position) → is_refused (seek_of b.reader (length b.window) p).answer ≡ false → Roams B a (sought b p)
