-- TWO BENCHES, and the larger window: what the user switches on first.
-- Assumes nothing.
use Prim.Native.Nat.{ℕ, ◌+◌, ◌-◌, ◌≤◌}
use native.Mathlib.Omega.{arith}
use mathlib.Core.Path.{◌≡◌, sym, ap, ◌∙◌}
use mathlib.Core.List.{List}
use lib.ListN.{length, take}
use Rattle.reading.specs.Reading.{first as first_of}
use Rattle.reading.specs.Lists.{kept}
use Rattle.reading.proofs.Readings.{first_front}
use Rattle.reading.proofs.Limits.{first_wider, reading_wider}
use Rattle.demands.specs.Runs.{Bench, Calls, here, then, Opened, Run, Benches, both, first, second, Agree}
use Rattle.demands.proofs.Chunks.{answers_are_the_readings}

first_calls : {B : List ℕ} {a₀ b₀ a b : Bench} → Benches B a₀ b₀ a b → Calls B a₀ a
first_calls both = here
first_calls (first x c) = then (first_calls x) c
first_calls (second x c) = first_calls x

second_calls : {B : List ℕ} {a₀ b₀ a b : Bench} → Benches B a₀ b₀ a b → Calls B b₀ b
second_calls both = here
second_calls (first x c) = second_calls x
second_calls (second x c) = then (second_calls x) c

-- the first n answers of a run that has heard as many
front_heard : (B : List ℕ) (W : ℕ) (b : Bench) (n : ℕ) → Run B W b → n ≤ length b.heard → take n b.heard ≡ first_of n B W 0 1
front_heard B W b n r h =
    let k : ℕ = length b.heard - n in
    let e : length b.heard ≡ n + k = omega arith in
    ap (take n) (answers_are_the_readings B W b r) ∙ ap (λ (j : ℕ). take n (first_of j B W 0 1)) e ∙ first_front n k B W 0 1

-- LARGER WINDOW. "A larger window keeps every answer of a smaller one, in place and order, save that a closing "window limit", with the Ends after it, may
-- become further answers": as long as the smaller window's run has heard no window limit, the larger window's run has heard the same.
pub larger_window : (B : List ℕ) (W U : ℕ) → W ≤ U → (b c : Bench) → Run B W b → Run B U c
    → (n : ℕ) → n ≤ length b.heard → n ≤ length c.heard → kept (take n b.heard) ≡ take n b.heard → take n b.heard ≡ take n c.heard
larger_window B W U w b c r q n h k e =
    let f = front_heard B W b n r h in
    let k' : kept (first_of n B W 0 1) ≡ first_of n B W 0 1 = rw f at e in
    f ∙ first_wider n B W U w 0 1 k' ∙ sym (front_heard B U c n q k)

-- TWO BENCHES read the same run at once, each through its own window, of W and U bytes, W at most U, chunked differently, their calls interleaved in any order:
-- each one's answers are those of its own reading, and they agree with each other.
pub two_benches : (B : List ℕ) (W U : ℕ) → W ≤ U → (a₀ b₀ a b : Bench) → Opened W a₀ → Opened U b₀ → Benches B a₀ b₀ a b → Agree B W U a b
two_benches B W U w a₀ b₀ a b oa ob x =
    let r : Run B W a = record { start = a₀; opened = oa; calls = first_calls x } in
    let q : Run B U b = record { start = b₀; opened = ob; calls = second_calls x } in
    record {
      first_reads = answers_are_the_readings B W a r;
      second_reads = answers_are_the_readings B U b q;
      agree = larger_window B W U w a b r q;
      wholly = reading_wider B W U w 0 1;
    }
