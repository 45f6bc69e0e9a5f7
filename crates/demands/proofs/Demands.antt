-- THE DEMANDS, over a user's run: what document 00 asks, with the definitions of specs/ alone. (`answers_are_the_readings`, `chunks_do_not_matter`, `answers_stand`,
-- `two_benches`, `larger_window`, `every_answer_is_reached`, `requests_are_few`, `feed_refusals`, `finish_refusals`, `next_is_answered` and
-- `mixed_answers_are_the_readings` are such statements already.) Assumes nothing.
use Prim.Native.Nat.{ℕ, ◌+◌, ◌<◌, ◌≤◌}
use mathlib.Core.Path.{◌≡◌}
use mathlib.Core.Bool.{true, false}
use mathlib.Core.Logic.{◌↔◌}
use mathlib.Core.Option.{some}
use mathlib.Core.List.{List}
use lib.ListN.{length}
use lib.Seq.{slice}
use Rattle.std.specs.Prelude.{Ok}
use Rattle.reading.specs.Answer as read
use Rattle.reading.specs.Lists.{is_limit}
use Rattle.reading.specs.Shift.{shift_five}
use Rattle.reading.specs.Size.{TooLarge}
use Rattle.record.specs.declared.Record.{Record as Rec}
use Rattle.record.specs.Check.{five_of}
use Rattle.reader.specs.declared.Byte.{Byte}
use Rattle.reader.specs.declared.Answer.TheVariants.{Record, More}
use Rattle.reader.specs.State.{most_bytes}
use Rattle.reader.specs.Feed.{held_of, taken_of, feed_of}
use Rattle.reader.specs.Next.{onward_of, next_of}
use Rattle.reader.specs.Seek.{base}
use Rattle.demands.specs.Runs.{heard_of, Bench, asked, Run}
use Rattle.demands.specs.Fields.{Shown}
use Rattle.demands.proofs.Refused.{run_stands}
use Rattle.demands.proofs.Fields.{fields_are_the_readings, record_bytes_are_the_inputs}
use Rattle.demands.proofs.Limit.{limit_comes_exactly}
use Rattle.demands.proofs.Lively.{no_request_after_the_end, a_byte_is_taken}

module _ (B : List ℕ) (W : ℕ) (b : Bench) (r : Run B W b) where
  -- DEMAND 2, fields: what each view shows through the window at an answered record are the reading's fields in the input.
  pub run_fields : (x : Rec) (y : Byte) → (next_of b.reader b.window).answer ≡ Ok (Record x y)
      → Shown B b.window (five_of x) (shift_five (base (next_of b.reader b.window).state) (five_of x))
  run_fields x y e = fields_are_the_readings B b (run_stands B W b r) x y e

  -- and what `write_unchanged` copies of it are the record's own bytes of the input.
  pub run_bytes : (x : Rec) (y : Byte) → (next_of b.reader b.window).answer ≡ Ok (Record x y)
      → slice x.start x.end b.window ≡ slice (base (next_of b.reader b.window).state + x.start) (base (next_of b.reader b.window).state + x.end) B
  run_bytes x y e = record_bytes_are_the_inputs B b (run_stands B W b r) x y e

  -- DEMAND 3, window limit: it comes exactly when what starts at the sought place is too large for the window.
  pub run_limit : b.reader.closed ≡ false → (a : read.Answer)
      → heard_of (base (next_of b.reader b.window).state) (next_of b.reader b.window).answer ≡ some a
      → (is_limit a ≡ true) ↔ TooLarge B (length b.window) (onward_of b.reader).byte.0
  run_limit c a e = limit_comes_exactly B b (run_stands B W b r) c a e

  -- DEMAND 3, nothing is held back: after the end is announced next never asks for input.
  pub run_answers : b.reader.ended ≡ true → (next_of b.reader b.window).answer ≡ Ok More → ⊥
  run_answers e f = no_request_after_the_end B b (run_stands B W b r) e f

  -- DEMAND 3: straight after a request, a nonempty chunk short of the size limit loses at least one byte.
  pub run_takes : (next_of b.reader b.window).answer ≡ Ok More → (chunk : List ℕ) → 0 < length chunk
      → (asked b).reader.byte.0 + held_of (asked b).reader + taken_of (asked b).reader (length chunk) ≤ most_bytes
      → (n : ℕ) × ((feed_of (asked b).reader (length b.window) (length chunk)).answer ≡ Ok n) × (0 < n)
  run_takes e chunk nonempty near = a_byte_is_taken B b (run_stands B W b r) e chunk nonempty near
