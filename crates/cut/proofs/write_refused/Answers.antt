-- `write_refused` meets its contract: what was put is within the text. Assumes nothing.
use mathlib.Core.Path.{sym}
use native.Mathlib.Omega.{arith}
use lib.ListN.{replicate}
use lib.Seq.{length-take-le}
use Rattle.lists.specs.Answer.{refused}
use Rattle.texts.specs.Lines.{listing}
use Rattle.texts.proofs.Puts.{puts_within}
use Rattle.cut.proofs.write_refused.Goals as goal

-- the line is within its room
pub slice_bounds-text-end : goal.slice_bounds-text-end
slice_bounds-text-end g c = puts_within 0 (listing (refused _)) (replicate 64 0) (omega arith) c.put_refused-at.ensures

pub slice_bounds-write_all-end : goal.slice_bounds-write_all-end
slice_bounds-write_all-end g c = sym (length-take-le _ c.put_refused-at.new.text (puts_within 0 (listing (refused _)) (replicate 64 0) (omega arith) c.put_refused-at.ensures))
