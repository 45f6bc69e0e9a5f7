-- The state behind a set: next goes on from it as it would behind the last record.
-- Assumes nothing.
use mathlib.Core.Path.{◌≡◌, refl, sym, ap, ◌∙◌}
use mathlib.Core.Bool.{Bool, true, false, ◌||◌, true≢false}
use mathlib.Core.List.{List, [], ◌∷◌, map}
use Prim.Native.Nat.{ℕ, zero, suc, ◌+◌, ◌≤◌, min}
use native.Mathlib.Omega.{arith}
use lib.ListN.{length, take}
use lib.Dec.{leb, eqb}
use Rattle.reading.specs.Bytes.{pieces, all_blank}
use Rattle.reading.specs.Reading.{Verdict, good, bad_start, bad_separator, bad_lengths, Step, onward, unended, judged, validate, rest, record_of, complete, tail_by, tail_rule}
use Rattle.record.specs.declared.Noted.{Noted}
use Rattle.record.specs.declared.Noted.TheVariants.{Zero, One, Two, Three, Four}
use Rattle.record.specs.declared.Record.{Record}
use Rattle.reader.specs.declared.Byte.{Byte}
use Rattle.reader.specs.declared.Reader.{Reader}
use Rattle.reader.specs.declared.Answer.{Answer}
use Rattle.reader.specs.declared.Decided.{Decided}
use Rattle.reader.specs.declared.Answer.TheVariants.{End}
use Rattle.reader.specs.State.{most_lines, position_of, own}
use Rattle.reader.specs.Next.{settled_by, decided_by, decided_of, onward_by, onward_of, searched_of, seeking_of, next_by, next_of}
use Rattle.reader.specs.declared.Outcome.{Outcome}
use Rattle.reader.proofs.Owning.{own_facts}
use Rattle.reader.proofs.Nexting.{next_closed}
use Rattle.reader.proofs.Refusals.{next_refused}
use Rattle.std.specs.Prelude.{Some, None, Ok, Err}
use Rattle.reader.specs.declared.Refusal.{Refusal}
use Rattle.sets.specs.declared.Reply.TheVariants.{Count, Other}
use Rattle.sets.specs.Sets.{record_in, row_in, collected, next_start, placed, after_of, listed_by, set_of, records_of}
use Rattle.sets.specs.Calls.{answers_of, state_after}
use Rattle.sets.proofs.Sounds.{next_sound, record_own}
use Rattle.sets.proofs.Owned.{next_window, next_own, after_own}
use Rattle.sets.proofs.Calls.{listed_refused, none_next, count_gives}

never : {A : Type 0} (r : Record) → None ≡ Some r → A
never r e = let z : ◌≡◌ {A = ℕ} 0 1 = cc in absurd (omega arith)

-- ---- how next leaves the state whose record it gave

-- four line ends noted and the reading open, or three and the reading closed
abbrev Left : Bool → Noted → Type 0
Left closed (Four a b c d) = closed ≡ false
Left closed (Three a b c) = closed ≡ true
Left closed Zero = ⊥
Left closed (One a) = ⊥
Left closed (Two a b) = ⊥

module _ (H : List ℕ) (W p L : ℕ) (b : Byte) (end : Bool) (r : Record) where
  -- a good verdict leaves the step as it is
  whole : (s : Step) (v : Verdict) → record_in (settled_by b (judged L s v)).answer ≡ Some r → (settled_by b (judged L s v)).closed ≡ (settled_by b s).closed
  whole s good e = refl
  whole s (bad_start c) e = never r e
  whole s (bad_separator c i) e = never r e
  whole s (bad_lengths n m i) e = never r e

  -- with fewer than three line ends there is no record
  few : (es : List ℕ) (blank : Bool) → record_in (settled_by b (tail_by H p L es false blank)).answer ≡ Some r → ⊥
  few es true e = never r e
  few es false e = never r e

  -- with fewer than four line ends a record comes by the tail rule
  short : (es : List ℕ) → leb 4 (length es) ≡ false → record_in (decided_by H W p L b es (leb W (length (rest H p)) || end)).answer ≡ Some r
      → decided_by H W p L b es (leb W (length (rest H p)) || end) ≡ settled_by b (tail_rule H p L es)
  short es l = go (leb W (length (rest H p))) refl end
    where
      go : (full : Bool) → leb W (length (rest H p)) ≡ full → (f : Bool) → record_in (decided_by H W p L b es (full || f)).answer ≡ Some r → decided_by H W p L b es (full || f) ≡ settled_by b (tail_rule H p L es)
      go true q f e = never r (rw (l, q) at e)
      go false q true e = rw (l, q)
      go false q false e = never r e

  decided_left : (e : Noted) → record_in (decided_of H W p L b end e).answer ≡ Some r → Left (decided_of H W p L b end e).closed e
  unfolding decided_of complete tail_rule
  decided_left (Four a c d x) e = let y = record_of p (a ∷ c ∷ d ∷ x ∷ []) x in whole (onward y) (validate H y) e
  decided_left (Three a c d) e =
      let es : List ℕ = a ∷ c ∷ d ∷ [] in
      let y = record_of p es (length H) in
      let q = short es refl e in
      ap (λ (k : Decided). k.closed) q ∙ whole (unended y) (validate H y) (sym (ap (λ (k : Decided). record_in k.answer) q) ∙ e)
  decided_left Zero e = few [] (all_blank (pieces H p [])) (sym (ap (λ (k : Decided). record_in k.answer) (short [] refl e)) ∙ e)
  decided_left (One a) e = few (a ∷ []) (all_blank (pieces H p (a ∷ []))) (sym (ap (λ (k : Decided). record_in k.answer) (short (a ∷ []) refl e)) ∙ e)
  decided_left (Two a c) e = few (a ∷ c ∷ []) (all_blank (pieces H p (a ∷ c ∷ []))) (sym (ap (λ (k : Decided). record_in k.answer) (short (a ∷ c ∷ []) refl e)) ∙ e)

next_left : (s : Reader) (w : List ℕ) (r : Record) → row_in (next_of s w).answer ≡ Some r → Left (next_of s w).state.closed (next_of s w).state.noted
unfolding next_of seeking_of
next_left s w r = go (own s (length w)) s.closed
  where
    go : (o closed : Bool) → row_in (next_by s w o closed).answer ≡ Some r → Left (next_by s w o closed).state.closed (next_by s w o closed).state.noted
    go false closed e = never r e
    go true true e = never r e
    go true false e =
        let u = onward_of s in
        decided_left (take u.fill w) u.window u.start u.line.0 u.byte u.ended r (searched_of u w).noted e

-- ---- next behind a set

-- behind a record, next answers the same from the state that a set leaves
then_next : (t : Reader) (w : List ℕ) → own t (length w) ≡ true → own (after_of t) (length w) ≡ true → Left t.closed t.noted → (next_of (after_of t) w).answer ≡ (next_of t w).answer
unfolding next_of seeking_of
then_next t w o a l = rw (o, a) (go t.closed l)
  where
    by : (e : Noted) → Left false e → (seeking_of (placed t (next_start t.fill e)) w).answer ≡ (seeking_of (onward_by t e) w).answer
    by (Four a b c d) l = refl
    by (Three a b c) l = absurd (true≢false (sym l))
    by Zero l = absurd l
    by (One a) l = absurd l
    by (Two a b) l = absurd l

    go : (closed : Bool) → Left closed t.noted → (next_by (after_of t) w true closed).answer ≡ (next_by t w true closed).answer
    go true l = refl
    go false l = by t.noted l

-- behind a record that closed the reading is the end of the held bytes
at_fill : (fill : ℕ) (closed : Bool) (e : Noted) → closed ≡ true → Left closed e → next_start fill e ≡ fill
at_fill fill closed (Four a b c d) q l = absurd (true≢false (sym q ∙ l))
at_fill fill closed (Three a b c) q l = refl
at_fill fill closed Zero q l = absurd l
at_fill fill closed (One a) q l = absurd l
at_fill fill closed (Two a b) q l = absurd l

-- what holds behind every record holds after calls of next that all gave records
after_records : (w : List ℕ) (P : Reader → Type 0) → ((u : Reader) (r : Record) → row_in (next_of u w).answer ≡ Some r → P (next_of u w).state)
    → (k : ℕ) (s : Reader) (rs : List Record) → map row_in (answers_of (suc k) s w) ≡ map Some rs → P (state_after (suc k) s w)
unfolding answers_of state_after
after_records w P f k s [] e = let z : ◌≡◌ {A = ℕ} 0 1 = cc in absurd (omega arith)
after_records w P f zero s (r ∷ rs) e = f s r (cc)
after_records w P f (suc k) s (r ∷ rs) e = after_records w P f k (next_of s w).state rs (cc)

-- behind a record, with a line that is low enough: the state is own, and next answers as it would have
record Follows (w : List ℕ) (t : Reader) : Type 0 where
  pub own : own (after_of t) (length w) ≡ true
  pub next : (next_of (after_of t) w).answer ≡ (next_of t w).answer

follows : (w : List ℕ) (u : Reader) (r : Record) → row_in (next_of u w).answer ≡ Some r → (next_of u w).state.line.0 + 4 ≤ most_lines → Follows w (next_of u w).state
follows w u r e h =
    let o = record_own u w r e in
    let a = after_own (next_of u w).state (length w) (next_sound u w o) ((own_facts u (length w) o).opened ∙ sym (next_window u w)) h in
    record { own = a; next = then_next (next_of u w).state w (next_own u w o (omega arith)) a (next_left u w r e) }

module _ (s : Reader) (w : List ℕ) (room wanted : ℕ) where
  -- the state that a set call leaves is own, unless its line passes the highest, and next answers from it what it would have answered behind the records
  pub set_follows : (k : ℕ) → (set_of s w room wanted).answer ≡ Ok (Count k) → (set_of s w room wanted).state.line.0 ≤ most_lines
      → (own (set_of s w room wanted).state (length w) ≡ true) × ((next_of (set_of s w room wanted).state w).answer ≡ (next_of (state_after k s w) w).answer)
  set_follows zero e h = absurd (omega (arith, (count_gives s w room wanted 0 e).0))
  set_follows (suc k) e h =
      let g = count_gives s w room wanted (suc k) e in
      let q = g.2 in
      let f = after_records w (λ t. t.line.0 + 4 ≤ most_lines → Follows w t) (follows w) k s (records_of s w room wanted) g.1.given (rw q at h) in
      (rw q f.own, rw q f.next)

  -- the state that a set call leaves is not waiting, and nothing of the following record counts as searched
  pub count_unsearched : (k : ℕ) → (set_of s w room wanted).answer ≡ Ok (Count k)
      → ((set_of s w room wanted).state.waiting ≡ false) × ((set_of s w room wanted).state.noted ≡ Zero) × ((set_of s w room wanted).state.mark ≡ (set_of s w room wanted).state.start)
  count_unsearched k e = rw (count_gives s w room wanted k e).2 (refl, refl, refl)

  -- after a record with no final LF: the position is four lines on and at the end of the held bytes, and a following End keeps it
  pub unended_keeps : (k : ℕ) → (set_of s w room wanted).answer ≡ Ok (Count k) → (set_of s w room wanted).state.closed ≡ true → (set_of s w room wanted).state.line.0 ≤ most_lines
      → (let t = state_after k s w in (set_of s w room wanted).state ≡ placed t t.fill)
      × ((next_of (set_of s w room wanted).state w).answer ≡ Ok End)
      × (position_of (next_of (set_of s w room wanted).state w).state ≡ position_of (set_of s w room wanted).state)
  unended_keeps zero e c h = absurd (omega (arith, (count_gives s w room wanted 0 e).0))
  unended_keeps (suc k) e c h =
      let g = count_gives s w room wanted (suc k) e in
      let l = after_records w (λ t. Left t.closed t.noted) (λ u r q. next_left u w r q) k s (records_of s w room wanted) g.1.given in
      let n = next_closed (set_of s w room wanted).state w (set_follows (suc k) e h).0 c in
      let t = state_after (suc k) s w in
      (g.2 ∙ ap (placed t) (at_fill t.fill t.closed t.noted (sym (ap (λ (r : Reader). r.closed) g.2) ∙ c) l), ap (λ (x : Outcome Answer). x.answer) (sym n), ap (λ (x : Outcome Answer). position_of x.state) (sym n))

  -- an own state, with a record wanted and room for one, is never refused: no refusal of next is handed on, and none stands behind an answer that is
  pub none_unrefused : (c : Refusal)
      → (own s (length w) ≡ true → eqb (min wanted room) 0 ≡ false → (set_of s w room wanted).answer ≡ Err c → ⊥)
      × ((a : Answer) → (set_of s w room wanted).answer ≡ Ok (Other a) → (next_of s w).answer ≡ Err c → ⊥)
  unfolding set_of
  none_unrefused c = (refused, answered)
    where
      refused : own s (length w) ≡ true → eqb (min wanted room) 0 ≡ false → (set_of s w room wanted).answer ≡ Err c → ⊥
      refused o z e =
          let n = min wanted room in
          let f : (listed_by (length (collected n s w).records) (next_of s w) (collected n s w).state).answer ≡ Err c = rw (o, z) at e in
          true≢false (sym o ∙ (next_refused s w c (listed_refused (length (collected n s w).records) (next_of s w) (collected n s w).state c f)).0)

      answered : (a : Answer) → (set_of s w room wanted).answer ≡ Ok (Other a) → (next_of s w).answer ≡ Err c → ⊥
      answered a e f = let h : Ok a ≡ Err c = (none_next s w room wanted a e).0 ∙ f in let z : ◌≡◌ {A = ℕ} 0 1 = cc in omega arith
