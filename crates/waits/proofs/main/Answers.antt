-- `main` meets its contract: what was put is within the text. Assumes nothing.
use mathlib.Core.Path.{sym}
use Prim.Native.Nat.{◌≤◌}
use native.Mathlib.Omega.{arith}
use lib.ListN.{length, replicate}
use lib.Seq.{length-take-le}
use Rattle.texts.specs.Lines.{report_line}
use Rattle.texts.proofs.Puts.{puts_within}
use Rattle.needless.specs.Waits.{waits_of}
use Rattle.waits.proofs.main.Goals as goal
use Rattle.waits.proofs.main.Goals.{After-put_line-at}

-- the line is within its room
module _ (c : After-put_line-at) where
  within : c.put_line-at.result ≤ length c.put_line-at.new.text
  within = puts_within 0 (report_line (waits_of _).all (waits_of _).needless) (replicate 64 0) (omega arith) c.put_line-at.ensures

pub slice_bounds-text-end : goal.slice_bounds-text-end
slice_bounds-text-end c = within (goal.at.slice_bounds-text-end c).After-put_line-at

pub slice_bounds-write_all-end : goal.slice_bounds-write_all-end
slice_bounds-write_all-end c = sym (length-take-le _ c.put_line-at.new.text (within (goal.at.slice_bounds-write_all-end c).After-put_line-at))
