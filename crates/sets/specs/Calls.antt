-- The calls of next that a set call stands for.
-- Assumes nothing.
use Rattle.std.specs.Prelude.{ℕ, zero, suc, ◌≤◌, ◌<◌, ◌≡◌, List, [], ◌∷◌, map, length, Some, None, Result}
use Rattle.record.specs.declared.Record.{Record}
use Rattle.reader.specs.declared.Reader.{Reader}
use Rattle.reader.specs.declared.Answer.{Answer}
use Rattle.reader.specs.Next.{next_of}
use Rattle.reader.specs.declared.Refusal.{Refusal}
use Rattle.sets.specs.Sets.{row_in}

-- the answers of n calls of next, one after the other
unfoldable pub answers_of : ℕ → Reader → List ℕ → List (Result Answer Refusal)
answers_of zero s w = []
answers_of (suc n) s w = (next_of s w).answer ∷ answers_of n (next_of s w).state w

-- the state after n calls of next
unfoldable pub state_after : ℕ → Reader → List ℕ → Reader
state_after zero s w = s
state_after (suc n) s w = state_after n (next_of s w).state w

-- k calls of next, at most n, give the records rs; where k is below n, one more call would give no record
pub record Gives (n k : ℕ) (s : Reader) (w : List ℕ) (rs : List Record) : Type 0 where
  pub many : length rs ≡ k
  pub most : k ≤ n
  pub given : map row_in (answers_of k s w) ≡ map Some rs
  pub stops : k < n → row_in (next_of (state_after k s w) w).answer ≡ None
