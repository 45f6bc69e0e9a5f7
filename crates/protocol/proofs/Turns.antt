-- The protocol's turns: each ends with a record counted, with a request answered, or with the closing answer.
-- Assumes nothing.
use Prim.Native.Nat.{ℕ, suc, ◌+◌, ◌-◌, ◌≤◌, ◌<◌}
use native.Mathlib.Omega.{arith}
use native.Mathlib.Nat.{add-zero, zero-add}
use mathlib.Core.Path.{◌≡◌, refl, sym, ap, ◌∙◌, subst}
use mathlib.Core.Bool.{Bool, true, false}
use mathlib.Core.Logic.{◌⊎◌, inl, inr}
use mathlib.Core.Option.{some}
use mathlib.Core.List.{List, [], ◌∷◌}
use lib.ListN.{length, drop, length-take, length-drop}
use lib.Dec.{leb}
use borrow.Author.Tests.{leb-true, leb-false}
use Rattle.reading.specs.Answer.{Told}
use Rattle.reading.specs.Answer as read
use Rattle.reading.specs.Reading.{reading}
use Rattle.reading.specs.Lists.{is_found}
use Rattle.reader.specs.declared.Reader.{Reader}
use Rattle.reader.specs.declared.Answer.{Answer}
use Rattle.reader.specs.declared.Answer.TheVariants.{Record, More, WindowLimit, InvalidStart, InvalidSeparator, UnequalLengths, UnexpectedEnd, End}
use Rattle.std.specs.Prelude.{Result, Ok, Err}
use Rattle.reader.specs.declared.Refusal.{Refusal}
use Rattle.reader.specs.State.{most_bytes, fresh_of}
use Rattle.reader.specs.Feed.{feed_of, fed_window}
use Rattle.reader.specs.Next.{next_of}
use Rattle.reader.specs.Seek.{base}
use Rattle.reader.proofs.Refusals.{next_refused}
use Rattle.demands.specs.Runs.{heard_of, placed, took_of, Bench}
use Rattle.demands.proofs.Standing.{Good, good_owned, due, fresh_good}
use Rattle.demands.proofs.Nexts.{Gives, Served, next_served}
use Rattle.demands.proofs.Feeds.{Kept, finish_kept, feed_kept, took_some}
use Rattle.demands.proofs.Chunks.{front_of_lem}
use Rattle.demands.proofs.Early.{next_ended}
use Rattle.demands.proofs.Lively.{wants, takes, finish_accepted}
use Rattle.protocol.specs.declared.Kind.{Kind}
use Rattle.protocol.specs.declared.Kind.TheVariants as kind
use Rattle.protocol.specs.declared.Supplied.{Supplied}
use Rattle.protocol.specs.Tallies.{Tallied, tally_of}
use Rattle.protocol.specs.Turns.{kind_of, offered, supplied_by, supplied_of, supplied_window_by, supplied_window}
use Rattle.protocol.specs.Outcome.{tallied_of}
use Rattle.protocol.proofs.Supplies.{offered_next}
use Rattle.protocol.proofs.Tallies.{plus, plus_one, tally_record, tally_closing, records_few, tally_first}

-- ---- what an answer is heard as

-- of each kind: a record, a request, or an answer that closes, if it is no refusal; k is the absolute offset of the window's first byte
abbrev HeardAs : ℕ → Result Answer Refusal → Kind → Type 0
HeardAs k a kind.Record = (x : read.Answer) × (heard_of k a ≡ some x) × (is_found x ≡ true)
HeardAs k a kind.Request = a ≡ Ok More
HeardAs k a kind.Closing = ((r : Refusal) × (a ≡ Err r)) ⊎ ((x : read.Answer) × (heard_of k a ≡ some x) × (is_found x ≡ false))

heard_as : (k : ℕ) (a : Result Answer Refusal) → HeardAs k a (kind_of a)
heard_as k (Ok (Record r b)) = (_, refl, refl)
heard_as k (Ok More) = refl
heard_as k (Ok (WindowLimit L b)) = inr (_, refl, refl)
heard_as k (Ok (InvalidStart x L)) = inr (_, refl, refl)
heard_as k (Ok (InvalidSeparator x L i)) = inr (_, refl, refl)
heard_as k (Ok (UnequalLengths n m L i)) = inr (_, refl, refl)
heard_as k (Ok (UnexpectedEnd L i)) = inr (_, refl, refl)
heard_as k (Ok End) = inr (_, refl, refl)
heard_as k (Err r) = inl (r, refl)

-- ---- between two turns

-- the end is still to be noted
abbrev pub to_note : Bool → ℕ
to_note true = 0
to_note false = 1

-- what is left to do: records to count, bytes to take, and the end to note
unfoldable pub left_of : List ℕ → Reader → ℕ → ℕ → ℕ
left_of B s at k = length B - k + (length B - at) + to_note s.ended

-- k records are counted, and `at` bytes of B taken: these records and those that are due make up the tally T
pub record Going (B : List ℕ) (T : Tallied) (s : Reader) (w : List ℕ) (at k : ℕ) : Type 0 where
  pub good : Good B s w at
  pub within : at ≤ length B
  pub few : T.records ≤ length B
  pub tallies : (n : ℕ) → length B < k + n → plus k (tally_of (due n B s)) ≡ T

-- a fresh reader is due the whole reading
pub fresh_going : (B w : List ℕ) (s : Reader) → s ≡ fresh_of (length w) → Going B (tally_of (reading B (length w) 0 1)) s w 0 0
fresh_going B w s e =
    rw e
    (record {
      good = fresh_good B w (length w) refl;
      within = omega arith;
      few = records_few B (length w);
      tallies = λ n h. rw zero-add (tally_first n B (length w) (omega arith));
    })

-- no more records are counted than there are bytes
pub going_few : (B : List ℕ) (T : Tallied) (s : Reader) (w : List ℕ) (at k : ℕ) → Going B T s w at k → k ≤ length B
going_few B T s w at k g =
    omega (arith, g.few, ap (λ (r : Tallied). r.records) (g.tallies (suc (length B)) (omega arith)))

note_most : (e : Bool) → to_note e ≤ 1
note_most true = omega arith
note_most false = omega arith

-- (over plain numbers)
falls : (a b at t e f : ℕ) → at < b → 0 < t → e ≤ 1 → f ≡ 1 → a + (b - (at + t)) + e < a + (b - at) + f
falls a b at t e f h k l m = omega arith

module _ (B : List ℕ) (T : Tallied) (s : Reader) (w : List ℕ) (at k : ℕ) (g : Going B T s w at k) where
  -- the state after next
  abbrev s' : Reader
  s' = (next_of s w).state

  served : Served B s w at (next_of s w)
  served = next_served B s w at g.good

  heard : (x : Kind) → kind_of (next_of s w).answer ≡ x → HeardAs (base s') (next_of s w).answer x
  heard x e = subst (HeardAs (base s') (next_of s w).answer) e (heard_as (base s') (next_of s w).answer)

  -- an answer that is heard is the first that was due
  first_due : (n : ℕ) (x : read.Answer) → heard_of (base s') (next_of s w).answer ≡ some x → due (suc n) B s ≡ placed s' x ∷ due n B s'
  first_due n x e = subst (Gives n B s s') e (served.gives n)

  -- A RECORD: it is counted
  pub counts : kind_of (next_of s w).answer ≡ kind.Record → Going B T s' w at (k + 1)
  counts e =
      let (x, h, f) = heard kind.Record e in
      record {
        good = served.good;
        within = g.within;
        few = g.few;
        tallies = λ n l.
            plus_one k (tally_of (due n B s')) ∙ ap (plus k) (sym (ap tally_of (first_due n x h) ∙ tally_record (placed s' x) (due n B s') f)) ∙ g.tallies (suc n) (omega arith);
      }

  -- and less is left to do
  pub counts_less : kind_of (next_of s w).answer ≡ kind.Record → left_of B s' at (k + 1) < left_of B s at k
  unfolding left_of
  counts_less e = let h = going_few B T s' w at (k + 1) (counts e) in rw (next_ended s w) (omega arith)

  -- THE CLOSING ANSWER: the tally is complete
  pub closes : kind_of (next_of s w).answer ≡ kind.Closing → tallied_of (record { records = k; closing = (next_of s w).answer; state = s' }) ≡ T
  closes e = go (heard kind.Closing e)
    where
      go : HeardAs (base s') (next_of s w).answer kind.Closing → tallied_of (record { records = k; closing = (next_of s w).answer; state = s' }) ≡ T
      go (inl (n, h)) =
          let o = good_owned B s w at g.good in
          let f = (next_refused s w n h).0 in
          let z : ◌≡◌ {A = ℕ} 0 1 = cc in
          absurd (omega arith)
      go (inr (x, h, f)) =
          let n : ℕ = length B in
          let d : tally_of (due (suc n) B s) ≡ record { records = 0; closing = some (placed s' x) } = ap tally_of (first_due n x h) ∙ tally_closing (placed s' x) (due n B s') f in
          rw h (rw (add-zero k) at (ap (plus k) (sym d)) ∙ g.tallies (suc n) (omega arith))

  -- A REQUEST is answered by bytes or by the end
  module _ (asks : kind_of (next_of s w).answer ≡ kind.Request) (chunk : ℕ) (some' : 0 < chunk) (small : length B ≤ most_bytes) where
    abbrev b : Bench
    b = record { reader = s; window = w; taken = at; heard = [] }

    more : (next_of s w).answer ≡ Ok More
    more = heard kind.Request asks

    -- nothing is heard by it
    silent : (n : ℕ) → due n B s ≡ due n B s'
    silent n = subst (Gives n B s s') (ap (heard_of (base s')) more) (served.gives n)

    open' : s.ended ≡ false
    open' = sym (next_ended s w) ∙ (wants B b g.good more).goes_on

    goes : (u : Reader) (w' : List ℕ) (t : ℕ) → Kept B s' u w' t → t ≤ length B → Going B T u w' t k
    goes u w' t q h =
        record {
          good = q.good;
          within = h;
          few = g.few;
          tallies = λ n l. ap (λ (ts : List Told). plus k (tally_of ts)) (sym (silent n ∙ q.same n)) ∙ g.tallies n l;
        }

    abbrev C : List ℕ
    C = offered B at chunk

    abbrev t : ℕ
    t = took_of (feed_of s' (length w) (length C)).answer

    -- the run goes on, with less left to do
    abbrev pub Answers : Supplied → List ℕ → Type 0
    Answers u w' = Going B T u.state w' u.at k × (left_of B u.state u.at k < left_of B s at k)

    -- all is taken: the end is noted
    by_end : length B ≤ at → Answers (supplied_by s' w B at chunk true) w
    unfolding left_of
    by_end h = (
      goes _ w at (finish_kept B s' w at served.good h) g.within,
      rw (finish_accepted B b g.good more, open') (omega arith),
    )

    -- otherwise at least one byte is taken
    by_bytes : at < length B → Answers (supplied_by s' w B at chunk false) (fed_window s' w C)
    unfolding left_of
    by_bytes h =
        let f = front_of_lem B C at t (took_some s' (length w) (length C)) (offered_next B at chunk) in
        let nonempty : 0 < length C = omega (arith, length-take chunk (drop at B), length-drop at B) in
        let q = takes B b g.good more C nonempty (offered_next B at chunk) small in (
          goes _ _ (at + t) (feed_kept B s' w C at served.good f.0 f.1) (omega (arith, f.1, length-drop at B)),
          falls (length B - k) (length B) at t _ _ h q (note_most (feed_of s' (length w) (length C)).state.ended) (ap to_note open'),
        )

    -- the run goes on
    pub answers : Answers (supplied_of s' w B at chunk) (supplied_window s' w B at chunk)
    unfolding supplied_of supplied_window
    answers = go (leb (length B) at) refl
      where
        go : (d : Bool) → leb (length B) at ≡ d → Answers (supplied_by s' w B at chunk d) (supplied_window_by s' w B at chunk d)
        go true h = by_end (leb-true (length B) at h)
        go false h = by_bytes (leb-false (length B) at h)
