-- The id is a front of the head that is shown, so it starts where the head does.
-- Assumes nothing.
use mathlib.Core.Path.{refl}
use Rattle.record.proofs.Laws.{id_counted}
use Rattle.record.proofs.Views.{id_shown}
use Rattle.record.specs.Views.{id_view}
use Rattle.record.proofs.Record.id_bytes.Goals as goal

pub slice_bounds-result-end : goal.slice_bounds-result-end
slice_bounds-result-end c = id_counted c.head-h.result.now _ c.id_length-n.ensures

pub returns : goal.returns
unfolding id_view
returns c = id_shown _ _ _ _ c.head-h.ensures _ c.id_length-n.ensures refl refl
