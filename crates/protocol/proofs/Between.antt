-- What holds between two turns of the protocol, and the three ways that a turn ends.
-- Assumes nothing.
use Prim.Native.Nat.{ℕ, ◌+◌, ◌≤◌, ◌<◌}
use mathlib.Core.Path.{◌≡◌, refl, sym, ap, ◌∙◌}
use mathlib.Core.List.{List}
use lib.ListN.{length}
use Rattle.reading.specs.Reading.{reading}
use Rattle.reader.specs.declared.Reader.{Reader}
use Rattle.reader.specs.declared.Outcome.{Outcome}
use Rattle.reader.specs.declared.Answer.{Answer}
use Rattle.reader.specs.State.{most_bytes, fresh_of}
use Rattle.reader.specs.Next.{next_of}
use Rattle.protocol.specs.declared.Kind.{Kind}
use Rattle.protocol.specs.declared.Kind.TheVariants as kind
use Rattle.protocol.specs.declared.Supplied.{Supplied}
use Rattle.protocol.specs.Tallies.{tally_of}
use Rattle.protocol.specs.Turns.{kind_of, supplied_of, supplied_window, window_after}
use Rattle.protocol.specs.Outcome.{tallied_of}
use Rattle.protocol.proofs.Turns.{left_of, Going, fresh_going, going_few, counts, counts_less, answers, closes}
use Rattle.protocol.proofs.Windows.{Leaving, fresh_leaving, record_leaving, request_leaving, closing_leaving}

-- a run over B on the window w₀ has come to the state s and the window w: `at` bytes are taken, k records counted
pub record Between (B w₀ : List ℕ) (chunk : ℕ) (s : Reader) (w : List ℕ) (at k : ℕ) : Type 0 where
  pub going : Going B (tally_of (reading B (length w₀) 0 1)) s w at k
  pub leaving : Leaving B chunk (window_after B w₀ chunk) s w at k
  pub wide : length w ≡ length w₀

-- before the first turn
pub between_first : (B w : List ℕ) (chunk : ℕ) (s : Reader) → s ≡ fresh_of (length w) → Between B w chunk s w 0 0
between_first B w chunk s e = record { going = fresh_going B w s e; leaving = fresh_leaving B w chunk s e; wide = refl }

-- a turn: next answered r, which is of the kind q
module _ (B w₀ : List ℕ) (chunk : ℕ) (s : Reader) (w : List ℕ) (at k : ℕ) (b : Between B w₀ chunk s w at k) where
  -- no more records are counted than there are bytes
  pub between_few : k ≤ length B
  between_few = going_few B _ s w at k b.going

  module _ (r : Outcome Answer) (q : Kind) (e : r ≡ next_of s w) (f : q ≡ kind_of r.answer) where
    is : (x : Kind) → q ≡ x → kind_of (next_of s w).answer ≡ x
    is x h = ap (λ (n : Outcome Answer). kind_of n.answer) (sym e) ∙ sym f ∙ h

    -- A RECORD is counted, and less is left to do.
    pub record_turn : q ≡ kind.Record → Between B w₀ chunk r.state w at (k + 1) × (left_of B r.state at (k + 1) < left_of B s at k)
    record_turn h =
        let i = is kind.Record h in
        let less = counts_less B _ s w at k b.going i in
        rw e (record { going = counts B _ s w at k b.going i; leaving = record_leaving B chunk _ s w at k b.leaving i less; wide = b.wide }, less)

    -- A REQUEST is answered, and less is left to do.
    pub request_turn : q ≡ kind.Request → 0 < chunk → length B ≤ most_bytes → (u : Supplied) (w' : List ℕ)
        → u ≡ supplied_of r.state w B at chunk → w' ≡ supplied_window r.state w B at chunk → length w' ≡ length w₀
        → Between B w₀ chunk u.state w' u.at k × (left_of B u.state u.at k < left_of B s at k)
    request_turn h some small u w' a c l =
        let i = is kind.Request h in
        let a' = rw e at a in
        let c' = rw e at c in
        let (g, less) = rw (← a', ← c') at (answers B _ s w at k b.going i chunk some small) in
        (record { going = g; leaving = request_leaving B chunk _ s w at k b.leaving i u w' a' c' less; wide = l }, less)

    -- ANYTHING ELSE closes: the tally is complete, and the window is the run's.
    pub closing_turn : q ≡ kind.Closing
        → (tallied_of (record { records = k; closing = r.answer; state = r.state }) ≡ tally_of (reading B (length w₀) 0 1)) × ((w ≡ window_after B w₀ chunk) × (length w ≡ length w₀))
    closing_turn h =
        let i = is kind.Closing h in
        (rw e (closes B _ s w at k b.going i), (closing_leaving B chunk _ s w at k b.leaving i, b.wide))
