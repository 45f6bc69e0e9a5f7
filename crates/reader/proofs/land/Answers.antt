-- The two ways that a chunk lands (Feeding).
-- Assumes nothing.
use mathlib.Core.Path.{◌∙◌}
use Rattle.reader.proofs.Feeding.{land_move, land_stay}
use Rattle.reader.proofs.land.Goals as goal

pub returns-then-window-fill : goal.returns-then-window-fill
returns-then-window-fill c = c.put.ensures ∙ land_move _ _ _ _ _ c.if-window-fill.true c.move_front.ensures

pub returns-else-window-fill : goal.returns-else-window-fill
returns-else-window-fill c = c.put-else-window-fill.ensures ∙ land_stay _ _ _ _ c.if-window-fill.false
