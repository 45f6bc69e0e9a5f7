-- The description that there is, or the empty part at the window's front.
-- Assumes nothing.
use mathlib.Core.Path.{refl}
use Rattle.record.proofs.Views.{desc_or_front}
use Rattle.record.proofs.Record.desc_bytes.Goals as goal

pub returns : goal.returns
returns c = desc_or_front _ _ c.desc.ensures.given c.desc.ensures.shown refl refl c.unwrap_or.ensures
