-- The view test makes the line's bounds those of a part of the window; where it fails, the front is shown.
-- Assumes nothing.
use mathlib.Core.Path.{refl}
use native.Mathlib.Omega.{arith}
use Rattle.reading.specs.Reading.{seq_of}
use Rattle.record.proofs.Views.{fits_asked, shown, hidden}
use Rattle.record.specs.Views.{seq_view}
use Rattle.record.proofs.Record.seq.Goals as goal

pub returns-then-not-fits : goal.returns-then-not-fits
unfolding seq_view
returns-then-not-fits c = hidden _ _ c.fits.ensures c.if-not-fits.true refl refl

pub overflow_sub-self : goal.overflow_sub-self
overflow_sub-self c = let f = fits_asked _ _ c.fits.ensures c.if-not-fits.false in omega arith

pub returns : goal.returns
unfolding seq_view seq_of
returns c = let f = fits_asked _ _ c.fits.ensures c.if-not-fits.false in shown _ _ c.fits.ensures c.if-not-fits.false (record { bytes = c.line.ensures.bytes; place = c.line.ensures.place (omega arith) (omega arith) })
