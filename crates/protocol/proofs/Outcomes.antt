-- The outcome of a count, by what open answers, the chunk size and the input's length.
-- Assumes nothing.
use Prim.Native.Nat.{ℕ, ◌≤◌, ◌<◌}
use mathlib.Core.Path.{◌≡◌}
use mathlib.Core.List.{List}
use lib.ListN.{length}
use borrow.Author.Tests.{eq-eqb, ne_eqb, le-leb, lt-leb}
use Rattle.reading.specs.Reading.{reading}
use Rattle.reader.specs.declared.Reader.{Reader}
use Rattle.std.specs.Prelude.{Result, Ok, Err}
use Rattle.reader.specs.declared.Refusal.{Refusal}
use Rattle.reader.specs.declared.Refusal.TheVariants.{PastLimit, NothingToDo}
use Rattle.reader.specs.State.{most_bytes, open_of}
use Rattle.protocol.specs.Tallies.{tally_of}
use Rattle.protocol.specs.Outcome.{outcome}

module _ (B : List ℕ) (W chunk : ℕ) (o : Result Reader Refusal) (e : o ≡ open_of W) where
  -- a window that open refuses gives its number
  pub outcome_unopened : (r : Refusal) → o ≡ Err r → Err r ≡ outcome B W chunk
  unfolding outcome
  outcome_unopened r h = rw (← e, h)

  module _ (s : Reader) (h : o ≡ Ok s) where
    -- a chunk size of 0 gives 6
    pub outcome_empty : chunk ≡ 0 → Err NothingToDo ≡ outcome B W chunk
    unfolding outcome
    outcome_empty z = rw (← e, h, eq-eqb chunk 0 z)

    module _ (some : chunk ≡ 0 → ⊥) where
      -- an input of more than 2^48 bytes gives 5
      pub outcome_long : most_bytes < length B → Err PastLimit ≡ outcome B W chunk
      unfolding outcome
      outcome_long l = rw (← e, h, ne_eqb chunk 0 some, lt-leb (length B) most_bytes l)

      -- otherwise the tally of the reading
      pub outcome_counted : length B ≤ most_bytes → Ok (tally_of (reading B W 0 1)) ≡ outcome B W chunk
      unfolding outcome
      outcome_counted l = rw (← e, h, ne_eqb chunk 0 some, le-leb (length B) most_bytes l)

-- CHUNKS DON'T MATTER: any two chunk sizes but 0 have the same outcome
pub outcome_same : (B : List ℕ) (W c d : ℕ) → (c ≡ 0 → ⊥) → (d ≡ 0 → ⊥) → outcome B W c ≡ outcome B W d
unfolding outcome
outcome_same B W c d h k = rw (ne_eqb c 0 h, ne_eqb d 0 k)
