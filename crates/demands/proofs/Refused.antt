-- Which calls of a run are refused.
-- Assumes nothing.
use Prim.Native.Nat.{ℕ, ◌+◌, ◌-◌, ◌≤◌}
use native.Mathlib.Omega.{arith}
use mathlib.Core.Path.{◌≡◌, ap}
use mathlib.Core.List.{List}
use lib.ListN.{length, take, drop, length-take, length-drop}
use borrow.Author.Tests.{le-leb}
use Rattle.std.specs.Prelude.{Err}
use Rattle.reader.specs.declared.Refusal.{Refusal}
use Rattle.reader.specs.State.{most_bytes}
use Rattle.reader.specs.Feed.{held_of, taken_of, feed_of, taking_of, finish_of}
use Rattle.reader.specs.Next.{next_of}
use Rattle.reader.proofs.Refusals.{next_refused}
use Rattle.demands.specs.Runs.{Bench, Run, FeedIs, FinishIs}
use Rattle.demands.proofs.Standing.{good_owned}
use Rattle.demands.proofs.Chunks.{Stands, calls_steps, steps_stand, opened_stands}

pub run_stands : (B : List ℕ) (W : ℕ) (b : Bench) → Run B W b → Stands B b
run_stands B W b r = steps_stand (calls_steps r.calls) (opened_stands B W r.start r.opened)

-- NEXT is never refused in a run.
pub next_is_answered : (B : List ℕ) (W : ℕ) (b : Bench) → Run B W b → (k : Refusal) → (next_of b.reader b.window).answer ≡ Err k → ⊥
next_is_answered B W b r k e =
    let o = good_owned B b.reader b.window b.taken (run_stands B W b r) in
    let f = (next_refused b.reader b.window k e).0 in
    let z : ◌≡◌ {A = ℕ} 0 1 = cc in
    omega arith

-- (over plain numbers)
near_by : (t n c b x m : ℕ) → n ≤ c → c ≤ x → x ≡ b - t → t ≤ m → b ≤ m → t + n ≤ m
near_by t n c b x m h k e f g = omega arith

-- the input's next bytes do not pass the size limit
pub next_near : (B : List ℕ) (b : Bench) → Stands B b → length B ≤ most_bytes → (chunk : List ℕ) → chunk ≡ take (length chunk) (drop b.taken B)
    → b.reader.byte.0 + held_of b.reader + taken_of b.reader (length chunk) ≤ most_bytes
next_near B b g small chunk c =
    let h = g.holds in
    let more : length chunk ≤ length (drop b.taken B) = omega (arith, ap length c, length-take (length chunk) (drop b.taken B)) in
    let reached : b.reader.byte.0 + held_of b.reader ≡ b.taken = omega (arith, h.reached, h.start_byte, h.start_fill) in
    rw reached (near_by b.taken (taken_of b.reader (length chunk)) (length chunk) (length B) (length (drop b.taken B)) most_bytes (omega arith) more (length-drop b.taken B) h.near small)

-- FEED is refused in a run by neither 2 nor 5: any input of at most 2^48 bytes.
pub feed_refusals : (B : List ℕ) (W : ℕ) (b : Bench) → Run B W b → length B ≤ most_bytes → (chunk : List ℕ) → chunk ≡ take (length chunk) (drop b.taken B)
    → FeedIs b.reader (length b.window) (length chunk)
unfolding feed_of taking_of
feed_refusals B W b r small chunk c =
    let s = b.reader in
    let g = run_stands B W b r in
    let o = good_owned B s b.window b.taken g in
    record {
      ended = λ e. rw (o, e);
      unasked = λ e f. rw (o, e, f);
      taken = λ e f. simp (o, e, f, le-leb (s.byte.0 + held_of s + taken_of s (length chunk)) most_bytes (next_near B b g small chunk c));
    }

-- FINISH is never refused in a run by 2.
pub finish_refusals : (B : List ℕ) (W : ℕ) (b : Bench) → Run B W b → FinishIs b.reader (length b.window)
unfolding finish_of
finish_refusals B W b r =
    let o = good_owned B b.reader b.window b.taken (run_stands B W b r) in
    record { ended = λ e. rw (o, e); unasked = λ e f. rw (o, e, f); noted = λ e f. rw (o, e, f) }
