-- What is counted in a list of answers.
-- Assumes nothing.
use Rattle.std.specs.Prelude.{ℕ, suc, Bool, true, false, List, [], ◌∷◌}
use Rattle.std.proofs.Math.Option.{Option, none, some}
use Rattle.reading.specs.Answer.{Told}
use Rattle.reading.specs.Lists.{is_found}

-- how many records come before the first answer that is none, and that answer with its position
pub record Tallied : Type 0 where
  pub records : ℕ
  pub closing : Option Told

-- by the test: the answer is a record
abbrev pub tally_by : Bool → Told → Tallied → Tallied
tally_by true t r = record { records = suc r.records; closing = r.closing }
tally_by false t r = record { records = 0; closing = some t }

unfoldable pub tally_of : List Told → Tallied
tally_of [] = record { records = 0; closing = none }
tally_of (t ∷ ts) = tally_by (is_found t.answer) t (tally_of ts)
