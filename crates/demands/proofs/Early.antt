-- ANSWERS STAND: what was answered before the end is announced stands whatever bytes follow.
-- Assumes nothing.
use Prim.Native.Nat.{ℕ, ◌+◌, ◌-◌, ◌≤◌, min}
use native.Mathlib.Omega.{arith}
use mathlib.Core.Path.{◌≡◌, refl, sym, ap, ◌∙◌, subst}
use mathlib.Core.Bool.{Bool, true, false}
use mathlib.Core.List.{List, ◌++◌}
use lib.ListN.{length, take, drop, length-take, length-drop}
use lib.Seq.{take-take, take_at, length-take-le}
use lib.Dec.{leb}
use Rattle.std.specs.Prelude.{Result, Ok, Err}
use Rattle.reading.specs.Reading.{first}
use Rattle.reading.proofs.Shifted.{drop-take}
use Rattle.record.specs.declared.Noted.{Noted}
use Rattle.record.specs.declared.Noted.TheVariants.{Zero, One, Two, Three, Four}
use Rattle.reader.specs.declared.Reader.{Reader}
use Rattle.reader.specs.declared.Refusal.{Refusal}
use Rattle.reader.specs.State.{most_bytes, own}
use Rattle.reader.specs.Feed.{held_of, taken_of, moves, front_if, taking_by, taking_of, ready_of, feed_by, feed_of, finish_by, finish_of}
use Rattle.reader.specs.Next.{onward_by, seeking_of, next_by, next_of}
use Rattle.demands.specs.Runs.{took_of, Bench, feed, finish, next, Calls, here, then, Run}
use Rattle.demands.proofs.Chunks.{feeds, asks, Steps, still, more, front_of_lem, heard_due, opened_stands, opened_due}
use Rattle.demands.proofs.Feeds.{took_some}

-- ---- the calls and the noted end

feed_ended : (s : Reader) (w n : ℕ) → (feed_of s w n).state.ended ≡ s.ended
unfolding feed_of taking_of
feed_ended s w n = go (ready_of s w)
  where
    front : (b : Bool) → (front_if b s).ended ≡ s.ended
    front true = refl
    front false = refl

    by : (b : Bool) → (taking_by s n b).state.ended ≡ s.ended
    by true = front (moves s n)
    by false = refl

    go : (a : Result Unit Refusal) → (feed_by s n a).state.ended ≡ s.ended
    go (Err r) = refl
    go (Ok u) = by (leb (s.byte.0 + held_of s + taken_of s n) most_bytes)

pub next_ended : (s : Reader) (w : List ℕ) → (next_of s w).state.ended ≡ s.ended
unfolding next_of seeking_of
next_ended s w = go (own s (length w)) s.closed
  where
    on : (e : Noted) → (onward_by s e).ended ≡ s.ended
    on Zero = refl
    on (One a) = refl
    on (Two a b) = refl
    on (Three a b c) = refl
    on (Four a b c d) = refl

    go : (a b : Bool) → (next_by s w a b).state.ended ≡ s.ended
    go false b = refl
    go true true = refl
    go true false = on s.noted

-- a finish that leaves the end unnoted was refused, and left all as it was
finish_open : (s : Reader) (w : ℕ) → (finish_of s w).state.ended ≡ false → (finish_of s w).state ≡ s
unfolding finish_of
finish_open s w = go (ready_of s w)
  where
    go : (a : Result Unit Refusal) → (finish_by s a).state.ended ≡ false → (finish_by s a).state ≡ s
    go (Err r) e = refl
    go (Ok u) e = let z : ◌≡◌ {A = ℕ} 0 1 = cc in absurd (omega arith)

-- ---- a run over B is one over any bytes that begin with those taken

-- bytes that two inputs share
same_part : (B D : List ℕ) (t p n : ℕ) → take t D ≡ take t B → p + n ≤ t → take n (drop p B) ≡ take n (drop p D)
same_part B D t p n e h =
    let q : take (p + n) B ≡ take (p + n) D = sym (take-take (p + n) t B h) ∙ ap (take (p + n)) (sym e) ∙ take-take (p + n) t D h in
    sym (drop-take p n B) ∙ ap (drop p) q ∙ drop-take p n D

-- (over plain numbers)
part_within : (b d t p n x y : ℕ) → min t d ≡ min t b → p + n ≤ t → n ≤ x → x ≡ b - p → y ≡ d - p → n ≤ y
part_within b d t p n x y e h k f g = omega arith

calls_over : {B : List ℕ} {a c : Bench} (D : List ℕ) (t : ℕ) → take t D ≡ take t B → Calls B a c → c.taken ≤ t → c.reader.ended ≡ false → Steps D a c
calls_over D t e here h o = still
calls_over {B = B} D t e (then cs (feed {b = b} chunk q)) h o =
    let n : ℕ = took_of (feed_of b.reader (length b.window) (length chunk)).answer in
    let f = front_of_lem B chunk b.taken n (took_some b.reader (length b.window) (length chunk)) q in
    let l : min t (length D) ≡ min t (length B) = sym (length-take t D) ∙ ap length e ∙ length-take t B in
    more (calls_over D t e cs (omega arith) (sym (feed_ended b.reader (length b.window) (length chunk)) ∙ o))
    (feeds chunk (f.0 ∙ same_part B D t b.taken n e h)
    (part_within (length B) (length D) t b.taken n (length (drop b.taken B)) (length (drop b.taken D)) l h f.1 (length-drop b.taken B) (length-drop b.taken D)))
calls_over {a = a} D t e (then cs (finish {b = b} q)) h o =
    let f = finish_open b.reader (length b.window) o in
    subst (λ (s : Reader). Steps D a (record { reader = s; window = b.window; taken = b.taken; heard = b.heard })) (sym f) (calls_over D t e cs h (ap (λ (s : Reader). s.ended) (sym f) ∙ o))
calls_over D t e (then cs (next {b = b})) h o = more (calls_over D t e cs h (sym (next_ended b.reader b.window) ∙ o)) asks

-- no more is taken than there is
pub taken_within : {B : List ℕ} {a b : Bench} → Calls B a b → a.taken ≤ length B → b.taken ≤ length B
taken_within here h = h
taken_within {B = B} (then cs (feed {b = b} chunk q)) h =
    let f = front_of_lem B chunk b.taken (took_of (feed_of b.reader (length b.window) (length chunk)).answer) (took_some b.reader (length b.window) (length chunk)) q in
    omega (arith, taken_within cs h, f.1, length-drop b.taken B)
taken_within (then cs (finish q)) h = taken_within cs h
taken_within (then cs next) h = taken_within cs h

-- DEMAND 3. "Answers given before the end is announced stand whatever bytes follow": while the end is not announced, the answers heard are the first of the
-- reading of the bytes taken so far followed by any bytes X.
pub answers_stand : (B : List ℕ) (W : ℕ) (b : Bench) → Run B W b → b.reader.ended ≡ false → (X : List ℕ) → b.heard ≡ first (length b.heard) (take b.taken B ++ X) W 0 1
answers_stand B W b r o X =
    let D : List ℕ = take b.taken B ++ X in
    let l : b.taken ≤ length B = taken_within r.calls (rw r.opened.none (omega arith)) in
    let e : take b.taken D ≡ take b.taken B = take_at (take b.taken B) X b.taken (length-take-le b.taken B l) in
    heard_due (calls_over D b.taken e r.calls (omega arith) o) (opened_stands D W r.start r.opened) r.opened.silent
    ∙ opened_due D W r.start r.opened (length b.heard)
