-- `copy_at` meets its contract: the part that takes the bytes is written with them. Assumes nothing.
use mathlib.Core.Path.{refl, sym, ◌∙◌}
use Rattle.octets.proofs.Writes.{put_part, put_not}
use Rattle.octets.proofs.copy_at.Goals as goal

pub returns-then-fits : goal.returns-then-fits
returns-then-fits c = put_part _ _ _ (sym c.fits.ensures ∙ c.if-fits.true) refl c.copy_from_slice.ensures.after

pub returns-else-fits : goal.returns-else-fits
returns-else-fits c = put_not _ _ _ (sym c.fits.ensures ∙ c.if-fits.false)
