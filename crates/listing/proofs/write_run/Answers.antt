-- `write_run` meets its contract: what was put is within the text. Assumes nothing.
use mathlib.Core.Path.{sym}
use Prim.Native.Nat.{◌≤◌}
use native.Mathlib.Omega.{arith}
use lib.ListN.{length}
use lib.Seq.{length-take-le}
use Rattle.replay.specs.Replay.{holders_at}
use Rattle.texts.specs.Lines.{end_lines}
use Rattle.texts.proofs.Puts.{puts_within}
use Rattle.listing.proofs.write_run.Given.{Over}
use Rattle.listing.proofs.write_run.Goals as goal
use Rattle.listing.proofs.write_run.Goals.{After-put_end-at}

-- the lines after the steps are within the text
module _ (g : Over) (c : After-put_end-at g) where
  within : c.put_end-at.result ≤ length c.put_end-at.new.text
  within = puts_within 0 (end_lines (holders_at c.write_steps-written.result.0.desk) c.write_steps-written.result.0.desk.waiting c.write_steps-written.result.0.desk.grants) c.write_steps-written.new.text (omega arith) c.put_end-at.ensures

pub slice_bounds-write_all-end : goal.slice_bounds-write_all-end
slice_bounds-write_all-end g c = within g (goal.at.slice_bounds-write_all-end g c).After-put_end-at

pub slice_bounds-write_all-end-2 : goal.slice_bounds-write_all-end-2
slice_bounds-write_all-end-2 g c = sym (length-take-le _ c.put_end-at.new.text (within g (goal.at.slice_bounds-write_all-end-2 g c).After-put_end-at))
