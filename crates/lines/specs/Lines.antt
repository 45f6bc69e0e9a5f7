-- What the leaves answer and leave behind.
-- Assumes nothing.
use Rattle.std.specs.Prelude.{ℕ, Option, Some, None, List, [], ◌∷◌, ◌++◌, length, take, drop}
use Rattle.std.proofs.Math.Seq.{slice}
use Rattle.reading.specs.Bytes.{line_ends}

abbrev pub first_of : List ℕ → Option ℕ
first_of [] = None
first_of (e ∷ es) = Some e

-- the first LF of s at or after `from`
unfoldable pub line_from : List ℕ → ℕ → Option ℕ
line_from s from = first_of (line_ends from (drop from s))

-- as many bytes of `src` as `dst` has room for, and behind them what `dst` held there
unfoldable pub copied : List ℕ → List ℕ → List ℕ
copied dst src = take (length dst) src ++ drop (length src) dst

-- the bytes of w from `start` up to `fill`, and behind them what w held there
unfoldable pub moved_front : List ℕ → ℕ → ℕ → List ℕ
moved_front w start fill = slice start fill w ++ drop (length (slice start fill w)) w
