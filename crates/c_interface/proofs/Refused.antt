-- A refused call through the interface leaves the lent state as it was; so does a refused feed the window, and a set call without a set the table.
-- Assumes nothing.
use mathlib.Core.Path.{◌≡◌, refl, sym, ap, ◌∙◌}
use mathlib.Core.List.{List}
use Prim.Native.Nat.{ℕ, ◌<◌, ◌/◌}
use native.Mathlib.Omega.{arith}
use lib.ListN.{length}
use Rattle.std.specs.Prelude.{Option, Some, None, Result, Ok, Err}
use Rattle.reader.specs.declared.Reader.{Reader}
use Rattle.reader.specs.declared.Refusal.{Refusal}
use Rattle.reader.specs.declared.Answer.{Answer}
use Rattle.reader.specs.declared.Answer.TheVariants.{Record, More, WindowLimit, InvalidStart, InvalidSeparator, UnequalLengths, UnexpectedEnd, End}
use Rattle.reader.specs.declared.Place.{Place}
use Rattle.reader.specs.declared.Place.TheVariants.{Inside, FeedFrom}
use Rattle.reader.specs.Feed.{feed_of, fed_window, finish_of}
use Rattle.reader.specs.Next.{next_of}
use Rattle.reader.specs.Seek.{seek_of}
use Rattle.sets.specs.declared.Reply.{Reply}
use Rattle.sets.specs.declared.Reply.TheVariants.{Count, Other}
use Rattle.sets.specs.Sets.{set_of, table_of}
use Rattle.sets.proofs.Calls.{refusal_keeps, refusal_table, none_table}
use Rattle.reader.proofs.Refusals.{feed_refused_state, feed_refused_window, finish_refused_state, next_refused, seek_refused_state}
use Rattle.c_interface.specs.declared.Told.{Told}
use Rattle.c_interface.specs.Packed.{unpacked_of}
use Rattle.c_interface.specs.Told.{answer_told, count_told, ending_told, place_told, reply_told, told_of}
use Rattle.c_interface.specs.Calls.{Left, called, memory_by, memory, feed_call, feed_window, finish_call, next_call, seek_call, set_call, set_table, to}
use Rattle.c_interface.proofs.Packing.{called_keeps}

-- the code of a call on a state that is lent is what it tells
code_is : (st v : List ℕ) (after : Reader → Reader) (tell : Reader → Told) (s : Reader) → unpacked_of st (length v) ≡ Some s → (called st v after tell).code ≡ (tell s).code
unfolding called
code_is st v after tell s e = rw e

module _ (st v : List ℕ) {A : Type 0} (after : Reader → Reader) (tell : A → Told) (answer : Reader → Result A Refusal) where
  the_call : Left
  the_call = called st v after (λ s. told_of tell (answer s))

  -- a call keeps what is lent if it keeps it both where it is refused and where an answer is told by the call's code
  by_answer : (P : Reader → Type 0) → ((s : Reader) (a : A) → answer s ≡ Ok a → the_call.code ≡ (tell a).code → P s) → ((s : Reader) (r : Refusal) → answer s ≡ Err r → P s)
      → (s : Reader) → unpacked_of st (length v) ≡ Some s → P s
  unfolding the_call
  by_answer P answered refused s e = go (answer s) refl
    where
      go : (a : Result A Refusal) → answer s ≡ a → P s
      go (Ok a) p = answered s a p (code_is st v _ _ s e ∙ ap (λ x. (told_of tell x).code) p)
      go (Err r) p = refused s r p

-- the code of an answer of next is that of no refusal
not_refused : (a : Answer) → 0 < (answer_told a).code → (answer_told a).code < 7 → ⊥
not_refused (Record r b) h i = omega arith
not_refused More h i = omega arith
not_refused (WindowLimit L b) h i = omega arith
not_refused (InvalidStart x L) h i = omega arith
not_refused (InvalidSeparator x L j) h i = omega arith
not_refused (UnequalLengths m n L j) h i = omega arith
not_refused (UnexpectedEnd L j) h i = omega arith
not_refused End h i = omega arith

-- FEED: any code but 0
pub feed_keeps : (st v : List ℕ) (n k : ℕ) → ((feed_call st v n k).code ≡ 0 → ⊥) → (feed_call st v n k).state ≡ st
unfolding the_call
feed_keeps st v n k bad =
    called_keeps st v _ _ (by_answer st v _ count_told (λ s. (feed_of s n k).answer) (λ s. (feed_of s n k).state ≡ s) (λ s a p q. absurd (bad q)) (λ s r p. feed_refused_state s n k r p))

pub feed_keeps_window : (st v w chunk : List ℕ) → ((feed_call st v (length w) (length chunk)).code ≡ 0 → ⊥) → feed_window st v w chunk ≡ w
unfolding memory the_call
feed_keeps_window st v w chunk bad = go (unpacked_of st (length v)) refl
  where
    go : (u : Option Reader) → unpacked_of st (length v) ≡ u → memory_by (λ s. fed_window s w chunk) w u ≡ w
    go None e = refl
    go (Some s) e =
        by_answer st v (λ s. (feed_of s (length w) (length chunk)).state) count_told (λ s. (feed_of s (length w) (length chunk)).answer) (λ s. fed_window s w chunk ≡ w)
        (λ s a p q. absurd (bad q)) (λ s r p. feed_refused_window s w chunk r p) s e

-- FINISH: any code but 0
pub finish_keeps : (st v : List ℕ) (n : ℕ) → ((finish_call st v n).code ≡ 0 → ⊥) → (finish_call st v n).state ≡ st
unfolding the_call
finish_keeps st v n bad =
    called_keeps st v _ _ (by_answer st v _ ending_told (λ s. (finish_of s n).answer) (λ s. (finish_of s n).state ≡ s) (λ s a p q. absurd (bad q)) (λ s r p. finish_refused_state s n r p))

-- SEEK: any code but 0 and 17
pub seek_keeps : (st v : List ℕ) (n L b : ℕ) → ((seek_call st v n L b).code ≡ 0 → ⊥) → ((seek_call st v n L b).code ≡ 17 → ⊥) → (seek_call st v n L b).state ≡ st
unfolding the_call
seek_keeps st v n L b bad worse =
    called_keeps st v _ _
    (by_answer st v _ place_told (λ s. (seek_of s n (to L b)).answer) (λ s. (seek_of s n (to L b)).state ≡ s) (λ s a p q. absurd (go a q)) (λ s r p. seek_refused_state s n (to L b) r p))
  where
    go : (a : Place) → (seek_call st v n L b).code ≡ (place_told a).code → ⊥
    go Inside q = bad q
    go (FeedFrom c) q = worse q

-- NEXT: the code 2
pub next_keeps : (st v w : List ℕ) → (next_call st v w).code ≡ 2 → (next_call st v w).state ≡ st
unfolding the_call
next_keeps st v w two =
    called_keeps st v _ _
    (by_answer st v _ answer_told (λ s. (next_of s w).answer) (λ s. (next_of s w).state ≡ s)
    (λ s a p q. let e : (answer_told a).code ≡ 2 = sym q ∙ two in absurd (not_refused a (omega arith) (omega arith))) (λ s r p. (next_refused s w r p).2))

-- SETS: the codes 1 to 6, of which a set call gives 2 and 6
pub set_keeps : (st v w : List ℕ) (room wanted : ℕ) → 0 < (set_call st v w room wanted).code → (set_call st v w room wanted).code < 7 → (set_call st v w room wanted).state ≡ st
unfolding the_call
set_keeps st v w room wanted low high =
    called_keeps st v _ _
    (by_answer st v (λ s. (set_of s w room wanted).state) reply_told (λ s. (set_of s w room wanted).answer) (λ s. (set_of s w room wanted).state ≡ s) (λ s a p q. absurd (go a (rw q at low) (rw q at high)))
    (λ s r p. (refusal_keeps s w room wanted r p).0))
  where
    go : (a : Reply) → 0 < (reply_told a).code → (reply_told a).code < 7 → ⊥
    go (Count n) h i = omega arith
    go (Other a) h i = not_refused a h i

-- with any code but 0 a set call leaves the table
pub set_keeps_table : (st v w : List ℕ) (wanted : ℕ) (t : List ℕ) → 0 < (set_call st v w (length t / 5) wanted).code → set_table st v w wanted t ≡ t
unfolding memory the_call
set_keeps_table st v w wanted t low = go (unpacked_of st (length v)) refl
  where
    of : (s : Reader) (a : Reply) → (set_of s w (length t / 5) wanted).answer ≡ Ok a → 0 < (reply_told a).code → table_of s w wanted t ≡ t
    of s (Count n) p h = absurd (omega arith)
    of s (Other a) p h = none_table s w wanted t a p

    go : (u : Option Reader) → unpacked_of st (length v) ≡ u → memory_by (λ s. table_of s w wanted t) t u ≡ t
    go None e = refl
    go (Some s) e =
        by_answer st v (λ s. (set_of s w (length t / 5) wanted).state) reply_told (λ s. (set_of s w (length t / 5) wanted).answer) (λ s. table_of s w wanted t ≡ t)
        (λ s a p q. of s a p (rw q at low)) (λ s r p. refusal_table s w wanted t r p) s e
