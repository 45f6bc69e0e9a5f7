-- A set call against the calls of next that it stands for, and its refusals.
-- Assumes nothing.
use mathlib.Core.Path.{◌≡◌, refl, sym, ap, ◌∙◌, subst}
use mathlib.Core.Bool.{Bool, true, false, true≢false}
use mathlib.Core.List.{List, [], ◌∷◌}
use Prim.Native.Nat.{ℕ, zero, suc, ◌*◌, ◌/◌, ◌<◌, min}
use native.Mathlib.Omega.{arith}
use lib.ListN.{length, take, drop}
use lib.Seq.{take_at, drop_at}
use lib.Dec.{eqb}
use borrow.Author.Tests.{eqb-true}
use Rattle.record.specs.declared.Record.{Record}
use Rattle.reader.specs.declared.Reader.{Reader}
use Rattle.reader.specs.declared.Answer.{Answer}
use Rattle.reader.specs.declared.Outcome.{Outcome}
use Rattle.sets.specs.declared.Reply.{Reply}
use Rattle.reader.specs.State.{own}
use Rattle.reader.specs.Next.{next_of}
use Rattle.std.specs.Prelude.{Option, Some, None, Result, Ok, Err}
use Rattle.reader.specs.declared.Refusal.{Refusal}
use Rattle.sets.specs.declared.Reply.TheVariants.{Count, Other}
use Rattle.sets.specs.Sets.{row_in, other_of, Collected, collected_by, collected, after_of, listed_by, set_by, set_of, rows_of, over, records_of, table_of, entries_of}
use Rattle.sets.specs.Calls.{answers_of, state_after, Gives}
use Rattle.reader.proofs.Refusals.{next_refused}
use Rattle.sets.proofs.Runs.{foreign_none}
use Rattle.sets.proofs.Tables.{rows_length}

-- what is collected is what as many calls of next give
pub collected_gives : (n : ℕ) (s : Reader) (w : List ℕ) → Gives n (length (collected n s w).records) s w (collected n s w).records
unfolding collected answers_of state_after
collected_gives zero s w = record { many = refl; most = omega arith; given = refl; stops = λ h. absurd (omega arith) }
collected_gives (suc n) s w = go (row_in (next_of s w).answer) refl (collected_gives n (next_of s w).state w)
  where
    rest : Reader → Collected
    rest t = collected n t w

    go : (o : Option Record) → row_in (next_of s w).answer ≡ o → Gives n (length (rest (next_of s w).state).records) (next_of s w).state w (rest (next_of s w).state).records
        → Gives (suc n) (length (collected_by rest s (next_of s w).state o).records) s w (collected_by rest s (next_of s w).state o).records
    go None e g = record { many = refl; most = omega arith; given = refl; stops = λ h. e }
    go (Some r) e g = record { many = refl; most = omega (arith, g.most); given = rw (e, g.given); stops = λ h. g.stops (omega arith) }

-- and the state is the one that they leave
pub collected_state : (n : ℕ) (s : Reader) (w : List ℕ) → (collected n s w).state ≡ state_after (length (collected n s w).records) s w
unfolding collected state_after
collected_state zero s w = refl
collected_state (suc n) s w = go (row_in (next_of s w).answer) (collected_state n (next_of s w).state w)
  where
    rest : Reader → Collected
    rest t = collected n t w

    go : (o : Option Record) → (rest (next_of s w).state).state ≡ state_after (length (rest (next_of s w).state).records) (next_of s w).state w
        → (collected_by rest s (next_of s w).state o).state ≡ state_after (length (collected_by rest s (next_of s w).state o).records) s w
    go None e = refl
    go (Some r) e = e

-- what next answers is handed on as it is: refused where next is, never as a count
other_refused : (a : Result Answer Refusal) (r : Refusal) → other_of a ≡ Err r → a ≡ Err r
other_refused (Ok a) r e = let z : ◌≡◌ {A = ℕ} 0 1 = cc in absurd (omega arith)
other_refused (Err q) r e = cc

other_answered : (a : Result Answer Refusal) (b : Answer) → other_of a ≡ Ok (Other b) → Ok b ≡ a
other_answered (Ok a) b e = cc
other_answered (Err q) b e = let z : ◌≡◌ {A = ℕ} 0 1 = cc in absurd (omega arith)

other_uncounted : (a : Result Answer Refusal) (k : ℕ) → other_of a ≡ Ok (Count k) → ⊥
other_uncounted (Ok a) k e = let z : ◌≡◌ {A = ℕ} 0 1 = cc in omega arith
other_uncounted (Err q) k e = let z : ◌≡◌ {A = ℕ} 0 1 = cc in omega arith

-- with room for a record that is wanted, only next can refuse
pub listed_refused : (k : ℕ) (x : Outcome Answer) (t : Reader) (c : Refusal) → (listed_by k x t).answer ≡ Err c → x.answer ≡ Err c
listed_refused zero x t c e = other_refused x.answer c e
listed_refused (suc k) x t c e = let z : ◌≡◌ {A = ℕ} 0 1 = cc in absurd (omega arith)

-- how a set call answers: refused, with none, or with a count
module _ (s : Reader) (w : List ℕ) (room wanted : ℕ) where
  abbrev rs : List Record
  rs = records_of s w room wanted

  -- a refusal changes nothing: the state is the one that was handed in, and no record is listed
  pub refusal_keeps : (c : Refusal) → (set_of s w room wanted).answer ≡ Err c → ((set_of s w room wanted).state ≡ s) × (rs ≡ [])
  unfolding set_of collected
  refusal_keeps c = go (own s (length w)) refl (eqb (min wanted room) 0) refl
    where
      go : (o : Bool) → own s (length w) ≡ o → (z : Bool) → eqb (min wanted room) 0 ≡ z → (set_by (min wanted room) s w o z).answer ≡ Err c
          → ((set_by (min wanted room) s w o z).state ≡ s) × (rs ≡ [])
      go false o z q e = (refl, foreign_none (min wanted room) s w o)
      go true o true q e = let z = eqb-true (min wanted room) 0 q in (refl, ap (λ (j : ℕ). (collected j s w).records) z)
      go true o false q e = absurd (true≢false (sym o ∙ (next_refused s w c (listed_refused (length rs) (next_of s w) (collected (min wanted room) s w).state c e)).0))

  -- with none, answer and state are next's, and no record is listed
  pub none_next : (a : Answer) → (set_of s w room wanted).answer ≡ Ok (Other a) → (Ok a ≡ (next_of s w).answer) × ((set_of s w room wanted).state ≡ (next_of s w).state) × (rs ≡ [])
  unfolding set_of
  none_next a = go (own s (length w)) (eqb (min wanted room) 0)
    where
      by : (l : List Record) (x : Outcome Answer) (t : Reader) → (listed_by (length l) x t).answer ≡ Ok (Other a) → (Ok a ≡ x.answer) × ((listed_by (length l) x t).state ≡ x.state) × (l ≡ [])
      by [] x t e = (other_answered x.answer a e, refl, refl)
      by (r ∷ l) x t e = let z : ◌≡◌ {A = ℕ} 0 1 = cc in absurd (omega arith)

      go : (o z : Bool) → (set_by (min wanted room) s w o z).answer ≡ Ok (Other a) → (Ok a ≡ (next_of s w).answer) × ((set_by (min wanted room) s w o z).state ≡ (next_of s w).state) × (rs ≡ [])
      go false z e = let z : ◌≡◌ {A = ℕ} 0 1 = cc in absurd (omega arith)
      go true true e = let z : ◌≡◌ {A = ℕ} 0 1 = cc in absurd (omega arith)
      go true false e = by rs (next_of s w) _ e

  -- with a count k of 1 or more: k calls of next give the records that are listed, and the state is the one behind the last of them
  pub count_gives : (k : ℕ) → (set_of s w room wanted).answer ≡ Ok (Count k) → (0 < k) × Gives (min wanted room) k s w rs × ((set_of s w room wanted).state ≡ after_of (state_after k s w))
  unfolding set_of
  count_gives k = go (own s (length w)) (eqb (min wanted room) 0)
    where
      n : ℕ
      n = min wanted room

      by : (l : List Record) (x : Outcome Answer) (t : Reader) → Gives n (length l) s w l → t ≡ state_after (length l) s w → (listed_by (length l) x t).answer ≡ Ok (Count k)
          → (0 < k) × Gives n k s w l × ((listed_by (length l) x t).state ≡ after_of (state_after k s w))
      by [] x t g f e = absurd (other_uncounted x.answer k e)
      by (r ∷ l) x t g f e =
          let q : suc (length l) ≡ k = cc in
          subst (λ (j : ℕ). (0 < j) × Gives n j s w (r ∷ l) × (after_of t ≡ after_of (state_after j s w))) q (omega arith, g, ap after_of f)

      go : (o z : Bool) → (set_by n s w o z).answer ≡ Ok (Count k) → (0 < k) × Gives n k s w rs × ((set_by n s w o z).state ≡ after_of (state_after k s w))
      go false z e = let z : ◌≡◌ {A = ℕ} 0 1 = cc in absurd (omega arith)
      go true true e = let z : ◌≡◌ {A = ℕ} 0 1 = cc in absurd (omega arith)
      go true false e = by rs (next_of s w) (collected n s w).state (collected_gives n s w) (collected_state n s w) e

-- the table of numbers, by the answer
module _ (s : Reader) (w : List ℕ) (wanted : ℕ) (t : List ℕ) where
  abbrev entries : List Record
  entries = records_of s w (length t / 5) wanted

  -- the numbers of the listed records stand at its front
  pub table_lists : take (length entries * 5) (table_of s w wanted t) ≡ rows_of entries
  unfolding table_of
  table_lists = take_at (rows_of entries) (drop (length (rows_of entries)) t) (length entries * 5) (rows_length entries)

  -- the entries behind them, and the numbers past the last whole entry, keep their values
  pub table_keeps : drop (length entries * 5) (table_of s w wanted t) ≡ drop (length entries * 5) t
  unfolding table_of
  table_keeps = drop_at (rows_of entries) (drop (length (rows_of entries)) t) (length entries * 5) (rows_length entries) ∙ ap (λ (i : ℕ). drop i t) (rows_length entries)

  -- where no record is listed it stays as it is
  none_listed : entries ≡ [] → table_of s w wanted t ≡ t
  unfolding table_of rows_of
  none_listed e = ap (λ (l : List Record). over (rows_of l) t) e

  -- a refused call leaves it
  pub refusal_table : (c : Refusal) → (set_of s w (length t / 5) wanted).answer ≡ Err c → table_of s w wanted t ≡ t
  refusal_table c e = none_listed (refusal_keeps s w (length t / 5) wanted c e).1

  -- and so does one that answers as next
  pub none_table : (a : Answer) → (set_of s w (length t / 5) wanted).answer ≡ Ok (Other a) → table_of s w wanted t ≡ t
  none_table a e = none_listed (none_next s w (length t / 5) wanted a e).2

-- the table of entries, by the answer
module _ (s : Reader) (w : List ℕ) (wanted : ℕ) (t : List Record) where
  -- the listed records stand at its front
  pub entries_list : take (length (records_of s w (length t) wanted)) (entries_of s w wanted t) ≡ records_of s w (length t) wanted
  unfolding entries_of
  entries_list = let rs = records_of s w (length t) wanted in take_at rs (drop (length rs) t) (length rs) refl

  -- the entries behind them keep their values
  pub entries_keep : drop (length (records_of s w (length t) wanted)) (entries_of s w wanted t) ≡ drop (length (records_of s w (length t) wanted)) t
  unfolding entries_of
  entries_keep = let rs = records_of s w (length t) wanted in drop_at rs (drop (length rs) t) (length rs) refl

  -- a refused call leaves it
  pub refusal_entries : (c : Refusal) → (set_of s w (length t) wanted).answer ≡ Err c → entries_of s w wanted t ≡ t
  unfolding entries_of
  refusal_entries c e = ap (λ (l : List Record). over l t) (refusal_keeps s w (length t) wanted c e).1

  -- and so does one that answers as next
  pub none_entries : (a : Answer) → (set_of s w (length t) wanted).answer ≡ Ok (Other a) → entries_of s w wanted t ≡ t
  unfolding entries_of
  none_entries a e = ap (λ (l : List Record). over l t) (none_next s w (length t) wanted a e).2

-- two answers that one promise allows are equal, with the tables that they leave
pub one_answer : (s : Reader) (w : List ℕ) (wanted : ℕ) (t : List ℕ) (a b : Outcome Reply) (u v : List ℕ)
    → a ≡ set_of s w (length t / 5) wanted → u ≡ table_of s w wanted t → b ≡ set_of s w (length t / 5) wanted → v ≡ table_of s w wanted t → (a ≡ b) × (u ≡ v)
one_answer s w wanted t a b u v p q p' q' = (p ∙ sym p', q ∙ sym q')

pub one_answer_entries : (s : Reader) (w : List ℕ) (wanted : ℕ) (t : List Record) (a b : Outcome Reply) (u v : List Record)
    → a ≡ set_of s w (length t) wanted → u ≡ entries_of s w wanted t → b ≡ set_of s w (length t) wanted → v ≡ entries_of s w wanted t → (a ≡ b) × (u ≡ v)
one_answer_entries s w wanted t a b u v p q p' q' = (p ∙ sym p', q ∙ sym q')
