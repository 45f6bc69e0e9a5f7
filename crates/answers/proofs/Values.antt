-- Absolute offsets.
-- Assumes nothing.
use Rattle.std.proofs.Common.{◌≡◌, ℕ, ◌+◌, ◌≤◌, mod-eq_of_lt, arith}
use Rattle.reader.specs.declared.Reader.{Reader}
use Rattle.reader.specs.State.{Own}
use Rattle.reader.specs.Seek.{base}
use Rattle.answers.specs.Told.{offset}

-- of a state that is not foreign, a place among the held bytes has its plain offset: nothing wraps
pub offset_plain : (s : Reader) (n place : ℕ) → Own s n → place ≤ s.fill → offset (base s) place ≡ base s + place
offset_plain s n place o h = mod-eq_of_lt (omega (arith, o.behind, o.near, o.forward))
