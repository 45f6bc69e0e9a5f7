-- Before, behind or among the held bytes: one law for each (Seeking).
-- Assumes nothing.
use native.Mathlib.Omega.{arith}
use mathlib.Core.Path.{ap, ◌∙◌}
use Rattle.reader.specs.Seek.{moved_by}
use Rattle.reader.proofs.Seeking.{held_before, held_behind, held_inside}
use Rattle.reader.proofs.Reader.moved.Goals as goal

pub returns-then-byte-base : goal.returns-then-byte-base
returns-then-byte-base c = let a = c.args in c.outside.ensures ∙ ap (moved_by a.self a.to) (held_before a.self a.to.byte.0 (omega arith))

pub returns-then-self-place : goal.returns-then-self-place
returns-then-self-place c = let a = c.args in c.outside-then-self-place.ensures ∙ ap (moved_by a.self a.to) (held_behind a.self a.to.byte.0 (omega arith) (omega arith))

pub returns : goal.returns
returns c = let a = c.args in rw c.saturating_sub-base.ensures (ap (moved_by a.self a.to) (held_inside a.self a.to.byte.0 (omega arith) (omega arith)))
