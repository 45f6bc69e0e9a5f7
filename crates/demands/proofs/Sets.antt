-- SETS: a set call gives exactly the records that as many calls of next give, and runs that mix next and set calls hear the reading's answers.
-- Assumes nothing.
use Prim.Native.Nat.{ℕ, zero, suc, ◌+◌, ◌-◌, ◌*◌, ◌≤◌, ◌<◌, min}
use native.Mathlib.Omega.{arith}
use native.Mathlib.Nat.{zero-add, suc-add, add-zero, le_refl}
use mathlib.Core.Path.{◌≡◌, refl, sym, ap, ◌∙◌, subst}
use mathlib.Core.Bool.{Bool, true, false}
use mathlib.Core.Option as math
use mathlib.Core.Option.{none, some}
use mathlib.Core.List.{List, [], ◌∷◌, ◌++◌, append_assoc, append-nil}
use lib.ListN.{length, drop, length-append, length-drop, length-map}
use lib.Seq.{slice_empty}
use lib.Dec.{eqb}
use Rattle.std.specs.Prelude.{Option, Some, None, Result, Ok, Err}
use Rattle.reading.specs.Bytes.{line_ends}
use Rattle.reading.specs.Answer.{found, ended, Told, told}
use Rattle.reading.specs.Answer as read
use Rattle.reading.specs.Reading.{first, ends}
use Rattle.reading.specs.Shift.{shift_five}
use Rattle.record.specs.declared.Noted.{Noted}
use Rattle.record.specs.declared.Noted.TheVariants.{Zero, One, Two, Three, Four}
use Rattle.record.specs.declared.Record.{Record as Rec}
use Rattle.record.specs.Noted.{listed}
use Rattle.record.specs.Check.{five_of}
use Rattle.record.proofs.Views.{fits_facts}
use Rattle.reader.specs.declared.Reader.{Reader}
use Rattle.reader.specs.declared.Answer.{Answer}
use Rattle.reader.specs.declared.Answer.TheVariants.{Record}
use Rattle.reader.specs.declared.Refusal.{Refusal}
use Rattle.reader.specs.State.{own, Notes}
use Rattle.reader.specs.Next.{next_of}
use Rattle.reader.specs.declared.Position.{Position}
use Rattle.reader.specs.Seek.{base, seek_of}
use Rattle.reader.specs.declared.Outcome.{Outcome}
use Rattle.sets.specs.declared.Reply.{Reply}
use Rattle.sets.specs.declared.Reply.TheVariants.{Count}
use Rattle.sets.specs.Sets.{row_in, other_of, Collected, collected_by, collected, next_start, after_of, listed_by, listed_of, set_by, set_of, records_of}
use Rattle.demands.specs.Runs.{heard_of, placed, add_to, Bench, fed, finished, asked, Call, Calls, Opened, is_refused, sought}
use Rattle.demands.specs.Sets.{listed_as, heard_by, listing, Mixed, start, call, list, Wanders, rests, calls, lists, moves, answers}
use Rattle.demands.proofs.Standing.{Good, due_by, due, due_zero}
use Rattle.demands.proofs.Nexts.{Gives, next_served, Hand, next_hand}
use Rattle.demands.proofs.Fields.{Viewed, next_viewed, next_fill}
use Rattle.demands.proofs.Chunks.{Step, feeds, finishes, asks, call_step, step_stands, Stands, opened_stands, opened_due}
use Rattle.demands.proofs.Seeks.{seek_stands, seek_from}
use Rattle.demands.proofs.Feeds.{feed_kept, finish_kept}

-- ---- the state after a record

-- a reader that answered a record last: it has all four line ends noted, or is closed, with the end noted, behind a record with no final LF
record InHand (s : Reader) : Type 0 where
  whole : s.closed ≡ false → 4 ≤ length (listed s.noted)
  over : s.closed ≡ true → (s.ended ≡ true) × (length (listed s.noted) < 4)
  long : s.start + 4 ≤ s.fill

hand_of : (B : List ℕ) (s : Reader) (w : List ℕ) (t : ℕ) → Good B s w t → (r : Rec) → row_in (next_of s w).answer ≡ Some r → InHand (next_of s w).state
hand_of B s w t g r = go (next_of s w).answer (next_hand B s w t g) (next_viewed B s w t g)
  where
    go : (a : Result Answer Refusal) → Hand (next_of s w).state a → Viewed s w a → row_in a ≡ Some r → InHand (next_of s w).state
    go (Ok (Record x b)) h v e =
        let f = fits_facts (five_of x) (length w) v.0 in
        record { whole = h.1; over = h.2; long = omega (arith, f, h.0, v.1, next_fill s w) }
    go a h v e = let z : ◌≡◌ {A = ℕ} 0 1 = cc in absurd (omega arith)

-- n Ends are n Ends, wherever
ends_answers : (n L p M q : ℕ) → answers (ends n L p) ≡ answers (ends n M q)
ends_answers zero L p M q = refl
ends_answers (suc n) L p M q = ap (λ (l : List read.Answer). ended ∷ l) (ends_answers n L p M q)

-- four line ends noted are the last variant
four_noted : (e : Noted) → 4 ≤ length (listed e) → (a : ℕ) × (b : ℕ) × (c : ℕ) × (d : ℕ) × (e ≡ Four a b c d)
four_noted Zero h = absurd (omega arith)
four_noted (One a) h = absurd (omega arith)
four_noted (Two a b) h = absurd (omega arith)
four_noted (Three a b c) h = absurd (omega arith)
four_noted (Four a b c d) h = (a, b, c, d, refl)

-- the next start lies behind the record, by the fill point
start_within : (s : Reader) (e : Noted) → Notes s.start s.fill s.mark (listed e) → s.start + 4 ≤ s.fill → (s.start + 4 ≤ next_start s.fill e) × (next_start s.fill e ≤ s.fill)
start_within s Zero n l = (l, le_refl s.fill)
start_within s (One a) n l = (l, le_refl s.fill)
start_within s (Two a b) n l = (l, le_refl s.fill)
start_within s (Three a b c) n l = (l, le_refl s.fill)
start_within s (Four a b c d) n l = (omega (arith, n), omega (arith, n))

-- the state behind a set stands for the reading, and the same answers are due
after_good : (B : List ℕ) (s : Reader) (w : List ℕ) (t : ℕ) → Good B s w t → InHand s → Good B (after_of s) w t × ((n : ℕ) → answers (due n B (after_of s)) ≡ answers (due n B s))
unfolding line_ends
after_good B s w t g i =
    let h = g.holds in
    let p : ℕ = next_start s.fill s.noted in
    let n = start_within s s.noted g.notes i.long in
    let e : s.byte.0 + (p - s.start) - p ≡ s.byte.0 - s.start = omega (arith, n, h.start_byte) in (
      record {
        holds =
            record {
              wide = h.wide;
              start_fill = n.1;
              fill_wide = h.fill_wide;
              start_byte = omega (arith, n, h.start_byte);
              same = rw e h.same;
              within = rw e h.within;
              reached = rw e h.reached;
              near = h.near;
              at_end = h.at_end;
            };
        notes = (le_refl p, n.1);
        lines = omega (arith, g.lines, n.0);
        noted = λ x y. ap (line_ends p) (sym (slice_empty p w));
        seeks = λ x. let z : ◌≡◌ {A = ℕ} 0 1 = cc in absurd (omega arith);
      },
      λ m. same m s.closed refl,
    )
  where
    same : (m : ℕ) (c : Bool) → s.closed ≡ c → answers (due_by m B (after_of s) s.closed Zero) ≡ answers (due_by m B s s.closed s.noted)
    same m true c =
        ap (λ (b : Bool). answers (due_by m B (after_of s) b Zero)) c
        ∙ ends_answers m (s.line.0 + 4) (s.byte.0 + (next_start s.fill s.noted - s.start)) s.line.0 s.byte.0
        ∙ sym (ap (λ (b : Bool). answers (due_by m B s b s.noted)) c)
    same m false c =
        let q = four_noted s.noted (i.whole c) in
        ap (λ (b : Bool). answers (due_by m B (after_of s) b Zero)) c
        ∙ ap (λ (f : Noted). answers (first m B s.window (s.byte.0 + (next_start s.fill f - s.start)) (s.line.0 + 4))) q.4
        ∙ sym (ap (λ (f : Noted). answers (due_by m B s false f)) q.4)
        ∙ sym (ap (λ (b : Bool). answers (due_by m B s b s.noted)) c)

-- ---- the records of a set

-- the window's first byte stays where it is
base_is : (B : List ℕ) (s : Reader) (w : List ℕ) (t : ℕ) → Good B s w t → base (next_of s w).state ≡ base s
base_is B s w t g = omega (arith, (next_served B s w t g).good.holds.reached, g.holds.reached, next_fill s w)

-- records as answers
abbrev as_found : ℕ → List Rec → List read.Answer
as_found k [] = []
as_found k (r ∷ rs) = found (shift_five k (five_of r)) ∷ as_found k rs

listed_answers : (k L : ℕ) (rs : List Rec) → answers (listed_as k L rs) ≡ as_found k rs
unfolding listed_as
listed_answers k L [] = refl
listed_answers k L (r ∷ rs) = ap (λ (l : List read.Answer). found (shift_five k (five_of r)) ∷ l) (listed_answers k (L + 4) rs)

found_length : (k : ℕ) (rs : List Rec) → length (as_found k rs) ≡ length rs
found_length k [] = refl
found_length k (r ∷ rs) = ap suc (found_length k rs)

-- what a collection of records leaves
record Gathered (B : List ℕ) (s : Reader) (w : List ℕ) (t : ℕ) (c : Collected) : Type 0 where
  good : Good B c.state w t
  here : base c.state ≡ base s
  due_then : (m : ℕ) → answers (due (length c.records + m) B s) ≡ as_found (base s) c.records ++ answers (due m B c.state)
  stays : length c.records ≡ 0 → c.state ≡ s
  hand : 0 < length c.records → InHand c.state

heard_row : (k : ℕ) (a : Result Answer Refusal) (r : Rec) → row_in a ≡ Some r → heard_of k a ≡ some (found (shift_five k (five_of r)))
heard_row k (Ok (Record x b)) r e = let f : x ≡ r = cc in rw f
heard_row k a r e = let z : ◌≡◌ {A = ℕ} 0 1 = cc in absurd (omega arith)

none_gathered : (B : List ℕ) (s : Reader) (w : List ℕ) (t : ℕ) → Good B s w t → Gathered B s w t (record { records = []; state = s })
none_gathered B s w t g = record { good = g; here = refl; due_then = λ m. rw zero-add; stays = λ x. refl; hand = λ x. absurd (omega arith) }

-- behind a record, and whatever others were gathered, a record is in hand
hand_behind : (rs : List Rec) (s u : Reader) → InHand s → (length rs ≡ 0 → u ≡ s) → (0 < length rs → InHand u) → InHand u
hand_behind [] s u i e h = subst (λ (x : Reader). InHand x) (sym (e refl)) i
hand_behind (r ∷ rs) s u i e h = h (omega arith)

one_gathered : (B : List ℕ) (s : Reader) (w : List ℕ) (t : ℕ) → Good B s w t → (r : Rec) → row_in (next_of s w).answer ≡ Some r → (c : Collected) → Gathered B (next_of s w).state w t c
    → Gathered B s w t (record { records = r ∷ c.records; state = c.state })
one_gathered B s w t g r e c d =
    let u : Reader = (next_of s w).state in
    let b = base_is B s w t g in
    let q : heard_of (base u) (next_of s w).answer ≡ some (found (shift_five (base u) (five_of r))) = heard_row (base u) (next_of s w).answer r e in
    record {
      good = d.good;
      here = d.here ∙ b;
      due_then = λ m.
          let v : due (suc (length c.records + m)) B s ≡ placed u (found (shift_five (base u) (five_of r))) ∷ due (length c.records + m) B u =
          subst (λ (x : math.Option read.Answer). Gives (length c.records + m) B s u x) q ((next_served B s w t g).gives (length c.records + m)) in
          ap (λ (k : ℕ). answers (due k B s)) (suc-add (length c.records) m)
          ∙ ap answers v
          ∙ ap (λ (l : List read.Answer). found (shift_five (base u) (five_of r)) ∷ l) (d.due_then m)
          ∙ ap (λ (k : ℕ). found (shift_five k (five_of r)) ∷ (as_found k c.records ++ answers (due m B c.state))) b;
      stays = λ x. absurd (omega arith);
      hand = λ x. hand_behind c.records u c.state (hand_of B s w t g r e) d.stays d.hand;
    }

-- A SET CALL GIVES exactly the records that as many calls of next give: they are the next answers that are due
gathered : (n : ℕ) (B : List ℕ) (s : Reader) (w : List ℕ) (t : ℕ) → Good B s w t → Gathered B s w t (collected n s w)
unfolding collected
gathered zero B s w t g = none_gathered B s w t g
gathered (suc n) B s w t g = go (row_in (next_of s w).answer) refl (gathered n B (next_of s w).state w t (next_served B s w t g).good)
  where
    go : (x : Option Rec) → row_in (next_of s w).answer ≡ x → Gathered B (next_of s w).state w t (collected n (next_of s w).state w)
        → Gathered B s w t (collected_by (λ u. collected n u w) s (next_of s w).state x)
    go None e d = none_gathered B s w t g
    go (Some r) e d = one_gathered B s w t g r e (collected n (next_of s w).state w) d

-- ---- a set call in a run

-- what a call leaves: a bench that stands for the reading, and hears the answers that were due
record Hears (B : List ℕ) (b c : Bench) : Type 0 where
  stands : Stands B c
  tells : (n : ℕ) → (k : ℕ) × (length c.heard ≡ length b.heard + k) × (answers (c.heard ++ due n B c.reader) ≡ answers b.heard ++ answers (due (k + n) B b.reader))

map-append : (xs ys : List Told) → answers (xs ++ ys) ≡ answers xs ++ answers ys
map-append [] ys = refl
map-append (x ∷ xs) ys = ap (λ (l : List read.Answer). x.answer ∷ l) (map-append xs ys)

-- calls that leave what is due as it was
kept_hears : (B : List ℕ) (b c : Bench) → c.heard ≡ b.heard → Stands B c → ((n : ℕ) → due n B b.reader ≡ due n B c.reader) → Hears B b c
kept_hears B b c e g f =
    record {
      stands = g;
      tells = λ n. (
        0,
        ap length e ∙ sym (add-zero (length b.heard)),
        ap (λ (l : List Told). answers (l ++ due n B c.reader)) e ∙ map-append b.heard (due n B c.reader) ∙ ap (λ (l : List Told). answers b.heard ++ answers l) (sym (f n))
            ∙ ap (λ (k : ℕ). answers b.heard ++ answers (due k B b.reader)) (sym (zero-add n)),
      );
    }

same_hears : (B : List ℕ) (b : Bench) → Stands B b → Hears B b b
same_hears B b g = kept_hears B b b refl g (λ n. refl)

-- next's answer, heard
asked_hears : (B : List ℕ) (b : Bench) → Stands B b → Hears B b (asked b)
asked_hears B b g =
    let r = next_of b.reader b.window in
    let v = next_served B b.reader b.window b.taken g in
    record { stands = v.good; tells = λ n. go n (heard_of (base r.state) r.answer) v.gives }
  where
    go : (n : ℕ) (a : math.Option read.Answer) → ((m : ℕ) → Gives m B b.reader (next_of b.reader b.window).state a)
        → (k : ℕ) × (length (add_to b.heard (next_of b.reader b.window).state a) ≡ length b.heard + k)
        × (answers (add_to b.heard (next_of b.reader b.window).state a ++ due n B (next_of b.reader b.window).state) ≡ answers b.heard ++ answers (due (k + n) B b.reader))
    go n none f = (
      0,
      sym (add-zero (length b.heard)),
      map-append b.heard (due n B (next_of b.reader b.window).state) ∙ ap (λ (l : List Told). answers b.heard ++ answers l) (sym (f n)) ∙ ap (λ (k : ℕ). answers b.heard ++ answers (due k B b.reader)) (sym (zero-add n)),
    )
    go n (some a) f =
        let s' = (next_of b.reader b.window).state in
        let q : suc n ≡ 1 + n = omega arith in (
          1,
          length-append b.heard (placed s' a ∷ []),
          ap answers (append_assoc b.heard (placed s' a ∷ []) (due n B s'))
              ∙ map-append b.heard (placed s' a ∷ due n B s')
              ∙ ap (λ (l : List Told). answers b.heard ++ answers l) (sym (f n))
              ∙ ap (λ (k : ℕ). answers b.heard ++ answers (due k B b.reader)) q,
        )

-- records listed, heard
listed_hears : (B : List ℕ) (b : Bench) → Stands B b → (c : Collected) → Gathered B b.reader b.window b.taken c → 0 < length c.records → (L : ℕ)
    → Hears B b (record { reader = after_of c.state; window = b.window; taken = b.taken; heard = b.heard ++ listed_as (base (after_of c.state)) L c.records })
listed_hears B b g c d some' L =
    let a = after_good B c.state b.window b.taken d.good (d.hand some') in
    let k : base (after_of c.state) ≡ base b.reader = omega (arith, a.0.holds.reached, d.good.holds.reached, d.here) in
    let rs : List Rec = c.records in
    record {
      stands = a.0;
      tells = λ n. (
        length rs,
        length-append b.heard (listed_as (base (after_of c.state)) L rs) ∙ ap (λ (j : ℕ). length b.heard + j) (sym (length-map (listed_as (base (after_of c.state)) L rs) (λ t. t.answer)) ∙ ap length (listed_answers (base (after_of c.state)) L rs) ∙ found_length (base (after_of c.state)) rs),
        ap answers (append_assoc b.heard (listed_as (base (after_of c.state)) L rs) (due n B (after_of c.state)))
            ∙ map-append b.heard (listed_as (base (after_of c.state)) L rs ++ due n B (after_of c.state))
            ∙ ap (λ (l : List read.Answer). answers b.heard ++ l)
            (map-append (listed_as (base (after_of c.state)) L rs) (due n B (after_of c.state))
            ∙ ap (λ (l : List read.Answer). l ++ answers (due n B (after_of c.state))) (listed_answers (base (after_of c.state)) L rs ∙ ap (λ (j : ℕ). as_found j rs) k)
            ∙ ap (λ (l : List read.Answer). as_found (base b.reader) rs ++ l) (a.1 n)
            ∙ sym (d.due_then n)),
      );
    }

-- next's answer, heard of a set call that lists no record
other_heard : (ts : List Told) (s : Reader) (a : Result Answer Refusal) → heard_by ts s [] (other_of a) ≡ add_to ts s (heard_of (base s) a)
other_heard ts s (Ok a) = refl
other_heard ts s (Err r) = refl

-- by the records that were collected
collected_hears : (B : List ℕ) (b : Bench) → Stands B b → (c : Collected) → Gathered B b.reader b.window b.taken c → (rs : List Rec) → c.records ≡ rs
    → (l : Outcome Reply) → l ≡ listed_by (length rs) (next_of b.reader b.window) c.state
    → Hears B b (record { reader = l.state; window = b.window; taken = b.taken; heard = heard_by b.heard l.state rs l.answer })
collected_hears B b g c d [] e l q = rw (q, other_heard) (asked_hears B b g)
collected_hears B b g c d (r ∷ rs) e l q =
    rw (q, ← e)
    (listed_hears B b g c d (rw e (omega arith)) ((after_of c.state).line.0 - 4 * suc (length rs)))

list_hears : (B : List ℕ) (b : Bench) (room wanted : ℕ) → Stands B b → Hears B b (listing b room wanted)
unfolding set_of
list_hears B b room wanted g = go (own b.reader (length b.window)) (eqb (min wanted room) 0)
  where
    go : (x y : Bool) → Hears B b (record {
      reader = (set_by (min wanted room) b.reader b.window x y).state;
      window = b.window;
      taken = b.taken;
      heard = heard_by b.heard (set_by (min wanted room) b.reader b.window x y).state (records_of b.reader b.window room wanted) (set_by (min wanted room) b.reader b.window x y).answer;
    })
    go false y = same_hears B b g
    go true true = same_hears B b g
    go true false =
        collected_hears B b g (collected (min wanted room) b.reader b.window) (gathered (min wanted room) B b.reader b.window b.taken g)
        (collected (min wanted room) b.reader b.window).records refl (listed_of (min wanted room) b.reader b.window) refl

-- ---- runs that mix next and set calls

-- a call of next, feed or finish
call_hears : {B : List ℕ} {b c : Bench} → Call B b c → Stands B b → Hears B b c
call_hears x g = step_hears (call_step x) g
  where
    step_hears : {B : List ℕ} {b c : Bench} → Step B b c → Stands B b → Hears B b c
    step_hears {B = B} (feeds {b = b} chunk e m) g = kept_hears B b (fed b chunk) refl (feed_kept B b.reader b.window chunk b.taken g e m).good (feed_kept B b.reader b.window chunk b.taken g e m).same
    step_hears {B = B} (finishes {b = b} e) g = kept_hears B b (finished b) refl (finish_kept B b.reader b.window b.taken g e).good (finish_kept B b.reader b.window b.taken g e).same
    step_hears {B = B} (asks {b = b}) g = asked_hears B b g

-- what the bench heard, and then is due, are the answers that were due at the start
record Follows (B : List ℕ) (s : Reader) (b : Bench) : Type 0 where
  stands : Stands B b
  tells : (n : ℕ) → answers (b.heard ++ due n B b.reader) ≡ answers (due (length b.heard + n) B s)

hears_follows : (B : List ℕ) (s : Reader) (b c : Bench) → Hears B b c → Follows B s b → Follows B s c
hears_follows B s b c h f =
    record {
      stands = h.stands;
      tells = λ n.
          let (k, e, q) = h.tells n in
          let j : length b.heard + (k + n) ≡ length c.heard + n = omega (arith, e) in
          q ∙ sym (map-append b.heard (due (k + n) B b.reader)) ∙ f.tells (k + n) ∙ ap (λ (i : ℕ). answers (due i B s)) j;
    }

mixed_follows : {B : List ℕ} {a b : Bench} → Mixed B a b → Stands B a → a.heard ≡ [] → Follows B a.reader b
mixed_follows {B = B} {a = a} start g e = record { stands = g; tells = λ n. rw (e, zero-add) }
mixed_follows {B = B} {a = a} (call {b = b} {c = c} x y) g e = let f = mixed_follows x g e in hears_follows B a.reader b c (call_hears y f.stands) f
mixed_follows {B = B} {a = a} (list {b = b} x room wanted) g e = let f = mixed_follows x g e in hears_follows B a.reader b (listing b room wanted) (list_hears B b room wanted f.stands) f

-- RUNS THAT MIX NEXT AND SET CALLS hear the answers of the whole-file reading, records listed by a set among them.
pub mixed_answers_are_the_readings : (B : List ℕ) (W : ℕ) (a b : Bench) → Opened W a → Mixed B a b → answers b.heard ≡ answers (first (length b.heard) B W 0 1)
mixed_answers_are_the_readings B W a b o x =
    let f = mixed_follows x (opened_stands B W a o) o.silent in
    ap answers (sym (append-nil b.heard) ∙ ap (λ (l : List Told). b.heard ++ l) (sym (due_zero B b.reader)))
    ∙ f.tells zero
    ∙ ap (λ (k : ℕ). answers (due k B a.reader)) (add-zero (length b.heard))
    ∙ ap answers (opened_due B W a o (length b.heard))

-- ---- the position after a set call

-- a set call that answers a count leaves the state behind the last record that it collected
set_state : (s : Reader) (w : List ℕ) (room wanted k : ℕ) → (set_of s w room wanted).answer ≡ Ok (Count k)
    → (0 < length (collected (min wanted room) s w).records) × ((set_of s w room wanted).state ≡ after_of (collected (min wanted room) s w).state)
unfolding set_of
set_state s w room wanted k = go (own s (length w)) (eqb (min wanted room) 0)
  where
    uncounted : (a : Result Answer Refusal) → other_of a ≡ Ok (Count k) → ⊥
    uncounted (Ok a) e = let z : ◌≡◌ {A = ℕ} 0 1 = cc in omega arith
    uncounted (Err r) e = let z : ◌≡◌ {A = ℕ} 0 1 = cc in omega arith

    by : (n : ℕ) → (listed_by n (next_of s w) (collected (min wanted room) s w).state).answer ≡ Ok (Count k)
        → (0 < n) × ((listed_by n (next_of s w) (collected (min wanted room) s w).state).state ≡ after_of (collected (min wanted room) s w).state)
    by zero e = absurd (uncounted (next_of s w).answer e)
    by (suc n) e = (omega arith, refl)

    go : (x y : Bool) → (set_by (min wanted room) s w x y).answer ≡ Ok (Count k)
        → (0 < length (collected (min wanted room) s w).records) × ((set_by (min wanted room) s w x y).state ≡ after_of (collected (min wanted room) s w).state)
    go false y e = let z : ◌≡◌ {A = ℕ} 0 1 = cc in absurd (omega arith)
    go true true e = let z : ◌≡◌ {A = ℕ} 0 1 = cc in absurd (omega arith)
    go true false e = by (length (collected (min wanted room) s w).records) e

-- where a record with no final LF was last, the next start is the fill point
start_few : (fill : ℕ) (e : Noted) → length (listed e) < 4 → next_start fill e ≡ fill
start_few fill Zero h = refl
start_few fill (One a) h = refl
start_few fill (Two a b) h = refl
start_few fill (Three a b c) h = refl
start_few fill (Four a b c d) h = absurd (omega arith)

-- what the position is after a set call that lists a record: where the reading goes on; or, behind a record with no final LF, the input's length, and the reading is closed
pub record Follow (B : List ℕ) (s : Reader) : Type 0 where
  pub goes_on : s.closed ≡ false → (n : ℕ) → due n B s ≡ first n B s.window s.byte.0 s.line.0
  pub at_the_end : s.closed ≡ true → s.byte.0 ≡ length B

after_position : (B : List ℕ) (s : Reader) (w : List ℕ) (t : ℕ) → Good B s w t → InHand s → Follow B (after_of s)
after_position B s w t g i =
    record {
      goes_on = λ c n. ap (λ (b : Bool). due_by n B (after_of s) b Zero) c;
      at_the_end = λ c.
          let o = i.over c in
          let h = g.holds in
          let q = start_few s.fill s.noted o.1 in
          let e : s.byte.0 + (s.fill - s.start) ≡ length B = end_is s.byte.0 s.start s.fill t (length B) (length (drop (s.byte.0 - s.start) B)) h.start_byte i.long h.reached (h.at_end o.0) h.within (length-drop (s.byte.0 - s.start) B) in
          ap (λ (p : ℕ). s.byte.0 + (p - s.start)) q ∙ e;
    }
  where
    -- (over plain numbers)
    end_is : (b st f t n x : ℕ) → st ≤ b → st + 4 ≤ f → b - st + f ≡ t → n ≤ t → f ≤ x → x ≡ n - (b - st) → b + (f - st) ≡ n
    end_is b st f t n x a l r e w y = omega arith

-- THE POSITION AFTER A SET CALL that lists records is where the reading goes on; after one with no final LF it is the input's length.
pub set_position : (B : List ℕ) (b : Bench) (room wanted k : ℕ) → Stands B b → (set_of b.reader b.window room wanted).answer ≡ Ok (Count k)
    → Follow B (set_of b.reader b.window room wanted).state
set_position B b room wanted k g e =
    let q = set_state b.reader b.window room wanted k e in
    let d = gathered (min wanted room) B b.reader b.window b.taken g in
    subst (λ (s : Reader). Follow B s) (sym q.1) (after_position B (collected (min wanted room) b.reader b.window).state b.window b.taken d.good (d.hand q.0))

-- a bench that next and set calls have brought somewhere stands for the reading
pub mixed_stands : {B : List ℕ} {a b : Bench} → Mixed B a b → Stands B a → a.heard ≡ [] → Stands B b
mixed_stands x g e = (mixed_follows x g e).stands

-- and so does one that calls, set calls and seeks have led anywhere
wanders_stand : {B : List ℕ} {a b : Bench} → Wanders B a b → Stands B a → Stands B b
wanders_stand rests g = g
wanders_stand (calls x c) g = step_stands (call_step c) (wanders_stand x g)
wanders_stand {B = B} (lists {b = b} x room wanted) g = (list_hears B b room wanted (wanders_stand x g)).stands
wanders_stand {B = B} (moves {b = b} x p e) g = seek_stands B b p (wanders_stand x g) e

-- SEEK, where set calls are mixed in: after a seek that is not refused the answers are the whole-file reading from that line and byte.
pub seek_reads_anywhere : (B : List ℕ) (W : ℕ) (a b c : Bench) (p : Position) → Opened W a → Wanders B a b
    → is_refused (seek_of b.reader (length b.window) p).answer ≡ false → Calls B (sought b p) c
    → c.heard ≡ first (length c.heard) B b.reader.window p.byte.0 p.line.0
seek_reads_anywhere B W a b c p o x e y = seek_from B b c p (wanders_stand x (opened_stands B W a o)) e y
