-- CHUNKS DON'T MATTER: the answers of a user's run are the first answers of the whole-file reading.
-- Assumes nothing.
use Prim.Native.Nat.{ℕ, zero, suc, ◌+◌, ◌-◌, ◌≤◌}
use native.Mathlib.Omega.{arith}
use native.Mathlib.Nat.{add-zero, zero-add}
use mathlib.Core.Path.{◌≡◌, sym, ap, ◌∙◌}
use mathlib.Core.Bool.{Bool, true, false, ◌&&◌}
use mathlib.Core.Option.{Option, none, some}
use mathlib.Core.List.{List, [], ◌∷◌, ◌++◌, append_assoc, append-nil}
use lib.ListN.{length, take, drop, length-append, length-take}
use lib.Seq.{take-take}
use lib.Dec.{leb}
use Rattle.std.specs.Prelude.{Ok}
use Rattle.reading.specs.Answer.{Told}
use Rattle.reading.specs.Answer as read
use Rattle.reading.specs.Reading.{first}
use Rattle.reading.proofs.Readings.{first_front}
use Rattle.reader.specs.declared.Reader.{Reader}
use Rattle.reader.specs.State.{smallest, largest, fresh_of, open_by, open_of}
use Rattle.reader.specs.Feed.{feed_of}
use Rattle.reader.specs.Next.{next_of}
use Rattle.reader.specs.Seek.{base}
use Rattle.demands.specs.Runs.{heard_of, placed, add_to, took_of, Bench, fed, finished, asked, Call, feed, finish, next, Calls, here, then, Opened, Run}
use Rattle.demands.proofs.Standing.{Good, due, due_zero, fresh_good}
use Rattle.demands.proofs.Nexts.{Gives, next_served}
use Rattle.demands.proofs.Feeds.{finish_kept, feed_kept, took_some}

-- ---- calls by what was taken: a chunk may go on with any bytes past those

pub data Step (B : List ℕ) : Bench → Bench → Type 0 where
  feeds : {b : Bench} (chunk : List ℕ)
      → take (took_of (feed_of b.reader (length b.window) (length chunk)).answer) chunk ≡ take (took_of (feed_of b.reader (length b.window) (length chunk)).answer) (drop b.taken B)
      → took_of (feed_of b.reader (length b.window) (length chunk)).answer ≤ length (drop b.taken B)
      → Step B b (fed b chunk)
  finishes : {b : Bench} → length B ≤ b.taken → Step B b (finished b)
  asks : {b : Bench} → Step B b (asked b)

pub data Steps (B : List ℕ) (a : Bench) : Bench → Type 0 where
  still : Steps B a a
  more : {b c : Bench} → Steps B a b → Step B b c → Steps B a c

-- bytes of B's next chunk are B's next bytes
pub front_of_lem : (B chunk : List ℕ) (t n : ℕ) → n ≤ length chunk → chunk ≡ take (length chunk) (drop t B) → (take n chunk ≡ take n (drop t B)) × (n ≤ length (drop t B))
front_of_lem B chunk t n h e = (
  ap (take n) e ∙ take-take n (length chunk) (drop t B) h,
  omega (arith, ap length e, length-take (length chunk) (drop t B)),
)

pub call_step : {B : List ℕ} {b c : Bench} → Call B b c → Step B b c
call_step {B = B} (feed {b = b} chunk e) =
    let q = front_of_lem B chunk b.taken (took_of (feed_of b.reader (length b.window) (length chunk)).answer) (took_some b.reader (length b.window) (length chunk)) e in
    feeds chunk q.0 q.1
call_step (finish e) = finishes e
call_step next = asks

pub calls_steps : {B : List ℕ} {a b : Bench} → Calls B a b → Steps B a b
calls_steps here = still
calls_steps (then cs c) = more (calls_steps cs) (call_step c)

-- ---- each call leaves a bench that stands for the reading, and hears the answers that were due

abbrev pub Stands : List ℕ → Bench → Type 0
Stands B b = Good B b.reader b.window b.taken

-- what a bench heard, and then is due, is what was due at the start
abbrev pub Tells : List ℕ → Reader → Bench → Type 0
Tells B s b = (n : ℕ) → b.heard ++ due n B b.reader ≡ due (length b.heard + n) B s

ask_tells : (B : List ℕ) (s u u' : Reader) (ts : List Told) (a : Option read.Answer) → ((n : ℕ) → Gives n B u u' a) → ((n : ℕ) → ts ++ due n B u ≡ due (length ts + n) B s)
    → (n : ℕ) → add_to ts u' a ++ due n B u' ≡ due (length (add_to ts u' a) + n) B s
ask_tells B s u u' ts none g h n = ap (λ (l : List Told). ts ++ l) (sym (g n)) ∙ h n
ask_tells B s u u' ts (some a) g h n =
    let q : length ts + suc n ≡ length (ts ++ (placed u' a ∷ [])) + n = omega (arith, length-append ts (placed u' a ∷ [])) in
    append_assoc ts (placed u' a ∷ []) (due n B u') ∙ ap (λ (l : List Told). ts ++ l) (sym (g n)) ∙ h (suc n) ∙ ap (λ (k : ℕ). due k B s) q

pub step_stands : {B : List ℕ} {b c : Bench} → Step B b c → Stands B b → Stands B c
step_stands {B = B} (feeds {b = b} chunk e m) g = (feed_kept B b.reader b.window chunk b.taken g e m).good
step_stands {B = B} (finishes {b = b} e) g = (finish_kept B b.reader b.window b.taken g e).good
step_stands {B = B} (asks {b = b}) g = (next_served B b.reader b.window b.taken g).good

step_tells : {B : List ℕ} {b c : Bench} (s : Reader) → Step B b c → Stands B b → Tells B s b → Tells B s c
step_tells {B = B} s (feeds {b = b} chunk e m) g h n = ap (λ (l : List Told). b.heard ++ l) (sym ((feed_kept B b.reader b.window chunk b.taken g e m).same n)) ∙ h n
step_tells {B = B} s (finishes {b = b} e) g h n = ap (λ (l : List Told). b.heard ++ l) (sym ((finish_kept B b.reader b.window b.taken g e).same n)) ∙ h n
step_tells {B = B} s (asks {b = b}) g h n =
    let r = next_of b.reader b.window in
    ask_tells B s b.reader r.state b.heard (heard_of (base r.state) r.answer) (next_served B b.reader b.window b.taken g).gives h n

pub steps_stand : {B : List ℕ} {a b : Bench} → Steps B a b → Stands B a → Stands B b
steps_stand still g = g
steps_stand (more cs c) g = step_stands c (steps_stand cs g)

pub steps_tell : {B : List ℕ} {a b : Bench} → Steps B a b → Stands B a → a.heard ≡ [] → Tells B a.reader b
steps_tell {B = B} {a = a} still g e n = rw (e, zero-add)
steps_tell {a = a} (more cs c) g e n = step_tells a.reader c (steps_stand cs g) (steps_tell cs g e) n

-- the answers heard are the first that were due
pub heard_due : {B : List ℕ} {a b : Bench} → Steps B a b → Stands B a → a.heard ≡ [] → b.heard ≡ due (length b.heard) B a.reader
heard_due {B = B} {a = a} {b = b} cs g e =
    sym (append-nil b.heard) ∙ ap (λ (l : List Told). b.heard ++ l) (sym (due_zero B b.reader)) ∙ steps_tell cs g e zero ∙ ap (λ (k : ℕ). due k B a.reader) (add-zero (length b.heard))

-- ---- from a fresh bench

-- what open gave is a fresh state
pub open_is : (W : ℕ) (s : Reader) → open_of W ≡ Ok s → s ≡ fresh_of W
unfolding open_of
open_is W s = go (leb smallest W && leb W largest)
  where
    go : (t : Bool) → open_by W t ≡ Ok s → s ≡ fresh_of W
    go true e = cc
    go false e = let z : ◌≡◌ {A = ℕ} 0 1 = cc in absurd (omega arith)

pub opened_stands : (B : List ℕ) (W : ℕ) (b : Bench) → Opened W b → Stands B b
opened_stands B W b o = rw (open_is W b.reader o.fresh, o.none) (fresh_good B b.window W o.wide)

pub opened_due : (B : List ℕ) (W : ℕ) (b : Bench) → Opened W b → (n : ℕ) → due n B b.reader ≡ first n B W 0 1
opened_due B W b o n = ap (due n B) (open_is W b.reader o.fresh)

-- DEMAND 3. "To a fresh reader, feed a whole input in order while the reading is open, then announce its end, never seek, return the window untouched.
-- Leaving out requests for input, the answers are those of the whole-file reading, however it was chunked."
-- DEMAND 2. The records, positions and first error of a reader, in absolute offsets, are those of the whole-file reading.
pub answers_are_the_readings : (B : List ℕ) (W : ℕ) (b : Bench) → Run B W b → b.heard ≡ first (length b.heard) B W 0 1
answers_are_the_readings B W b r =
    heard_due (calls_steps r.calls) (opened_stands B W r.start r.opened) r.opened.silent ∙ opened_due B W r.start r.opened (length b.heard)

-- Two runs over the same input with different chunks give the same answers as far as both go.
pub chunks_do_not_matter : (B : List ℕ) (W : ℕ) (b c : Bench) → Run B W b → Run B W c → length b.heard ≤ length c.heard → b.heard ≡ take (length b.heard) c.heard
chunks_do_not_matter B W b c r q h =
    let n : ℕ = length b.heard in
    let k : ℕ = length c.heard - n in
    let e : length c.heard ≡ n + k = omega arith in
    answers_are_the_readings B W b r
    ∙ sym (first_front n k B W 0 1)
    ∙ ap (λ (j : ℕ). take n (first j B W 0 1)) (sym e)
    ∙ ap (take n) (sym (answers_are_the_readings B W c q))
