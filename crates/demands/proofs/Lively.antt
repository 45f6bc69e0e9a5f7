-- NOTHING IS HELD BACK: every answer of the reading is reached, and a request is answered by at least one byte taken.
-- Assumes nothing.
use Prim.Native.Nat.{ℕ, zero, suc, ◌+◌, ◌-◌, ◌≤◌, ◌<◌}
use native.Mathlib.Omega.{arith}
use native.Mathlib.Decide.{dec_le}
use native.Mathlib.Nat.{add-zero, zero-add}
use mathlib.Core.Path.{◌≡◌, refl, sym, ap, ◌∙◌}
use mathlib.Core.Bool.{true, false}
use mathlib.Core.Logic.{◌⊎◌, inl, inr}
use mathlib.Core.Option.{Option, some}
use mathlib.Core.List.{List, [], ◌∷◌}
use lib.ListN.{length, take, drop, length-append, length-drop}
use lib.Seq.{take-length}
use Rattle.std.specs.Prelude.{Result, Ok, Err}
use Rattle.reading.specs.Answer.{Told}
use Rattle.reading.specs.Answer as read
use Rattle.reading.specs.Reading.{first}
use Rattle.reader.specs.declared.Reader.{Reader}
use Rattle.reader.specs.declared.Refusal.{Refusal}
use Rattle.reader.specs.declared.Answer.{Answer}
use Rattle.reader.specs.declared.Answer.TheVariants.{More}
use Rattle.reader.specs.State.{most_bytes, open_of, fresh_of}
use Rattle.reader.specs.Feed.{held_of, taken_of, feed_of, taking_of, finish_of}
use Rattle.reader.specs.Next.{next_of}
use Rattle.reader.specs.Seek.{base}
use Rattle.reader.proofs.Refusals.{next_refused}
use Rattle.reader.specs.Waiting.{Wants}
use Rattle.reader.proofs.Waiting.{next_wants, ended_answers}
use borrow.Author.Tests.{le-leb}
use Rattle.demands.specs.Runs.{heard_of, placed, add_to, took_of, Bench, fed, finished, asked, feed, finish, next, Calls, here, then, Opened, Run, Attended, begins, hears, serves, closes}
use Rattle.demands.proofs.Standing.{good_own, good_owned}
use Rattle.demands.proofs.Chunks.{Stands, front_of_lem, call_step, step_stands, calls_steps, steps_stand, opened_stands, answers_are_the_readings}
use Rattle.demands.proofs.Feeds.{took_some}
use Rattle.demands.proofs.Refused.{next_near}
use Rattle.demands.proofs.Early.{next_ended}

-- ---- after the end is announced

-- After the end is announced next never asks for input.
pub no_request_after_the_end : (B : List ℕ) (b : Bench) → Stands B b → b.reader.ended ≡ true → (next_of b.reader b.window).answer ≡ Ok More → ⊥
no_request_after_the_end B b g e f = ended_answers b.reader b.window (good_own B b.reader b.window b.taken g) e f

-- ---- straight after a request

-- (over plain numbers)
falls_below : (b t n m : ℕ) → 0 < n → (b ≤ t → ⊥) → b - t < suc m → b - (t + n) < m
falls_below b t n m h k l = omega arith

-- the bench after a request
module _ (B : List ℕ) (b : Bench) (g : Stands B b) (more : (next_of b.reader b.window).answer ≡ Ok More) where
  pub after : Stands B (asked b)
  after = step_stands (call_step (next {b = b})) g

  pub wants : Wants (asked b).reader
  wants = next_wants b.reader b.window (good_own B b.reader b.window b.taken g) more

  -- DEMAND 3. "Straight after a request for input, a nonempty chunk short of the size limit loses at least one byte to us."
  pub a_byte_is_taken : (chunk : List ℕ) → 0 < length chunk → (asked b).reader.byte.0 + held_of (asked b).reader + taken_of (asked b).reader (length chunk) ≤ most_bytes
      → (n : ℕ) × ((feed_of (asked b).reader (length b.window) (length chunk)).answer ≡ Ok n) × (0 < n)
  unfolding feed_of taking_of
  a_byte_is_taken chunk nonempty near =
      let o = good_owned B (asked b).reader b.window b.taken after in (
        taken_of (asked b).reader (length chunk),
        simp (o, wants.goes_on, wants.waits, le-leb ((asked b).reader.byte.0 + held_of (asked b).reader + taken_of (asked b).reader (length chunk)) most_bytes near),
        omega (arith, wants.room),
      )

  -- so of a nonempty chunk of the input's next bytes at least one is taken
  pub takes : (chunk : List ℕ) → 0 < length chunk → chunk ≡ take (length chunk) (drop b.taken B) → length B ≤ most_bytes
      → 0 < took_of (feed_of (asked b).reader (length b.window) (length chunk)).answer
  takes chunk nonempty q small = let t = a_byte_is_taken chunk nonempty (next_near B (asked b) after small chunk q) in rw t.1 t.2

  -- and finish is accepted
  pub finish_accepted : (finish_of (asked b).reader (length b.window)).state.ended ≡ true
  unfolding finish_of
  finish_accepted = let o = good_owned B (asked b).reader b.window b.taken after in simp (o, wants.goes_on, wants.waits)

-- ---- every answer is reached

pub calls_join : {B : List ℕ} {a b c : Bench} → Calls B a b → Calls B b c → Calls B a c
calls_join x here = x
calls_join x (then y c) = then (calls_join x y) c

-- an answer that is neither a request nor a refusal is heard
heard_else : (k : ℕ) (a : Result Answer Refusal) → (a ≡ Ok More) ⊎ (((r : Refusal) × (a ≡ Err r)) ⊎ ((x : read.Answer) × (heard_of k a ≡ some x)))
heard_else k (Ok More) = inl refl
heard_else k (Err r) = inr (inl (r, refl))
heard_else k a = inr (inr (_, refl))

-- from here a bench can be brought to its next answer
record Leads (B : List ℕ) (b : Bench) : Type 0 where
  to : Bench
  calls : Calls B b to
  one : length to.heard ≡ suc (length b.heard)

one_more : (ts : List Told) (s : Reader) (a : Option read.Answer) (x : read.Answer) → a ≡ some x → length (add_to ts s a) ≡ suc (length ts)
one_more ts s a x e = rw e (length-append ts (placed s x ∷ []) ∙ omega arith)

module _ (B : List ℕ) (small : length B ≤ most_bytes) where
  -- next answers, or asks
  asks_or_leads : (b : Bench) → Stands B b → ((next_of b.reader b.window).answer ≡ Ok More) ⊎ Leads B b
  asks_or_leads b g = go (heard_else (base (next_of b.reader b.window).state) (next_of b.reader b.window).answer)
    where
      go : ((next_of b.reader b.window).answer ≡ Ok More)
          ⊎ (((r : Refusal) × ((next_of b.reader b.window).answer ≡ Err r)) ⊎ ((x : read.Answer) × (heard_of (base (next_of b.reader b.window).state) (next_of b.reader b.window).answer ≡ some x)))
          → ((next_of b.reader b.window).answer ≡ Ok More) ⊎ Leads B b
      go (inl e) = inl e
      go (inr (inl (n, e))) =
          let o = good_owned B b.reader b.window b.taken g in
          let f = (next_refused b.reader b.window n e).0 in
          let z : ◌≡◌ {A = ℕ} 0 1 = cc in
          absurd (omega arith)
      go (inr (inr (x, e))) = inr (record { to = asked b; calls = then here next; one = one_more b.heard (next_of b.reader b.window).state _ x e })

  -- after the end is announced, next answers
  ended_leads : (b : Bench) → Stands B b → b.reader.ended ≡ true → Leads B b
  ended_leads b g e = go (asks_or_leads b g)
    where
      go : ((next_of b.reader b.window).answer ≡ Ok More) ⊎ Leads B b → Leads B b
      go (inl f) = absurd (no_request_after_the_end B b g e f)
      go (inr l) = l

  leads : (m : ℕ) (b : Bench) → Stands B b → length B - b.taken < m → Leads B b
  leads zero b g h = absurd (omega arith)
  leads (suc m) b g h = go (asks_or_leads b g) (λ c g' l. leads m c g' l)
    where
      on : (c : Bench) → Calls B b c → length c.heard ≡ length b.heard → Leads B c → Leads B b
      on c x q l = record { to = l.to; calls = calls_join x l.calls; one = l.one ∙ ap suc q }

      -- nothing is heard by a request
      silent : (next_of b.reader b.window).answer ≡ Ok More → length (asked b).heard ≡ length b.heard
      silent f = rw f

      rest : (next_of b.reader b.window).answer ≡ Ok More → Dec (length B ≤ b.taken) → ((c : Bench) → Stands B c → length B - c.taken < m → Leads B c) → Leads B b
      rest f (yes k) again =
          let c : Bench = finished (asked b) in
          let x : Calls B b c = then (then here next) (finish k) in
          on c x (silent f) (ended_leads c (step_stands (call_step (finish {b = asked b} k)) (after B b g f)) (finish_accepted B b g f))
      rest f (no k) again =
          let chunk : List ℕ = drop b.taken B in
          let q : chunk ≡ take (length chunk) (drop b.taken B) = sym (take-length chunk) in
          let nonempty : 0 < length chunk = omega (arith, length-drop b.taken B) in
          let c : Bench = fed (asked b) chunk in
          on c (then (then here next) (feed chunk q)) (silent f)
          (again c (step_stands (call_step (feed {b = asked b} chunk q)) (after B b g f)) (falls_below (length B) b.taken _ m (takes B b g f chunk nonempty q small) k h))

      go : ((next_of b.reader b.window).answer ≡ Ok More) ⊎ Leads B b → ((c : Bench) → Stands B c → length B - c.taken < m → Leads B c) → Leads B b
      go (inl f) again = rest f (dec_le (length B) b.taken) again
      go (inr l) again = l

  -- as many answers as are asked for
  reaches : (n : ℕ) (b : Bench) → Stands B b → (c : Bench) × Calls B b c × (length c.heard ≡ length b.heard + n)
  reaches zero b g = (b, here, sym (add-zero (length b.heard)))
  reaches (suc n) b g =
      let l = leads (suc (length B - b.taken)) b g (omega arith) in
      let (c, x, e) = reaches n l.to (steps_stand (calls_steps l.calls) g) in
      (c, calls_join l.calls x, e ∙ omega (arith, l.one))

-- a bench that open gives, with any window of W bytes
pub fresh_bench : ℕ → List ℕ → Bench
fresh_bench W w = record { reader = fresh_of W; window = w; taken = 0; heard = [] }

-- NOTHING IS HELD BACK: for every n there is a run whose answers are the first n of the reading.
pub every_answer_is_reached : (B : List ℕ) (W : ℕ) (w : List ℕ) → length B ≤ most_bytes → open_of W ≡ Ok (fresh_of W) → length w ≡ W → (n : ℕ)
    → (b : Bench) × Run B W b × (b.heard ≡ first n B W 0 1)
unfolding fresh_bench
every_answer_is_reached B W w small o e n =
    let a : Bench = fresh_bench W w in
    let opened : Opened W a = record { fresh = o; wide = e; none = refl; silent = refl } in
    let (b, x, l) = reaches B small n a (opened_stands B W a opened) in
    let r : Run B W b = record { start = a; opened = opened; calls = x } in
    let q : length b.heard ≡ n = l ∙ zero-add n in
    (b, r, answers_are_the_readings B W b r ∙ ap (λ (k : ℕ). first k B W 0 1) q)

-- ---- how many requests there are

-- the requests so far: one for each byte taken at most, and one for the end
record Counted (B : List ℕ) (b : Bench) (k : ℕ) : Type 0 where
  stands : Stands B b
  within : b.taken ≤ length B
  few : k ≤ suc b.taken
  fewer : b.reader.ended ≡ false → k ≤ b.taken

module _ (B : List ℕ) (small : length B ≤ most_bytes) (b : Bench) (k : ℕ) (c : Counted B b k) where
  heard_counted : Counted B (asked b) k
  heard_counted =
      record {
        stands = step_stands (call_step (next {b = b})) c.stands;
        within = c.within;
        few = c.few;
        fewer = λ e. c.fewer (sym (next_ended b.reader b.window) ∙ e);
      }

  -- a request comes before the end is noted
  open_count : (next_of b.reader b.window).answer ≡ Ok More → k ≤ b.taken
  open_count f = c.fewer (sym (next_ended b.reader b.window) ∙ (wants B b c.stands f).goes_on)

  served_counted : (next_of b.reader b.window).answer ≡ Ok More → (chunk : List ℕ) → 0 < length chunk → chunk ≡ take (length chunk) (drop b.taken B) → Counted B (fed (asked b) chunk) (suc k)
  served_counted f chunk nonempty q =
      let t = takes B b c.stands f chunk nonempty q small in
      let s = (front_of_lem B chunk b.taken (took_of (feed_of (asked b).reader (length b.window) (length chunk)).answer) (took_some (asked b).reader (length b.window) (length chunk)) q).1 in
      let n = open_count f in
      record {
        stands = step_stands (call_step (feed {b = asked b} chunk q)) (after B b c.stands f);
        within = omega (arith, s, length-drop b.taken B, c.within);
        few = omega (arith, t, n);
        fewer = λ e. omega (arith, t, n);
      }

  closed_counted : (next_of b.reader b.window).answer ≡ Ok More → length B ≤ b.taken → Counted B (finished (asked b)) (suc k)
  closed_counted f q =
      let n = open_count f in
      record {
        stands = step_stands (call_step (finish {b = asked b} q)) (after B b c.stands f);
        within = c.within;
        few = omega (arith, n);
        fewer = λ e. let h = finish_accepted B b c.stands f in let z : ◌≡◌ {A = ℕ} 0 1 = cc in absurd (omega arith);
      }

attended_counted : {B : List ℕ} {a b : Bench} {k : ℕ} → length B ≤ most_bytes → Attended B a b k → Counted B a 0 → Counted B b k
attended_counted small begins g = g
attended_counted {B = B} small (hears {b = b} {k = k} x f) g = heard_counted B small b k (attended_counted small x g)
attended_counted {B = B} small (serves {b = b} {k = k} x f chunk nonempty q) g = served_counted B small b k (attended_counted small x g) f chunk nonempty q
attended_counted {B = B} small (closes {b = b} {k = k} x f q) g = closed_counted B small b k (attended_counted small x g) f q

-- A BOUND ON REQUESTS: where every request is answered, there are at most as many as the input has bytes, and one.
pub requests_are_few : (B : List ℕ) (W : ℕ) (a b : Bench) (k : ℕ) → length B ≤ most_bytes → Opened W a → Attended B a b k → k ≤ length B + 1
requests_are_few B W a b k small o x =
    let c = attended_counted small x (record { stands = opened_stands B W a o; within = rw o.none (omega arith); few = omega arith; fewer = λ e. omega arith }) in
    omega (arith, c.few, c.within)
