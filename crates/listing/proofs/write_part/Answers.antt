-- `write_part` meets its contract: the lines of the part stand from the text's first byte on, and what was put is within the text. Assumes nothing.
use mathlib.Core.Path.{sym}
use Prim.Native.Nat.{◌≤◌}
use native.Mathlib.Omega.{arith}
use lib.ListN.{length}
use lib.Seq.{length-take-le}
use Rattle.locks.specs.Lent.{lent_in}
use Rattle.replay.specs.Replay.{record_list}
use Rattle.lines.proofs.Runs.{steps_within}
use Rattle.listing.proofs.write_part.Goals as goal

pub slice_bounds-write_all-end : goal.slice_bounds-write_all-end
slice_bounds-write_all-end g c = let h : c.put_steps-next.result.at ≤ length c.put_steps-next.new.text =
    steps_within (lent_in c.args.tables.now) (record_list c.args.records.now) _ c.args.values.now c.args.text.now (omega arith) c.put_steps-next.ensures in h

pub slice_bounds-write_all-end-2 : goal.slice_bounds-write_all-end-2
slice_bounds-write_all-end-2 g c = let h : c.put_steps-next.result.at ≤ length c.put_steps-next.new.text =
    steps_within (lent_in c.args.tables.now) (record_list c.args.records.now) _ c.args.values.now c.args.text.now (omega arith)
    c.put_steps-next.ensures in sym (length-take-le _ _ h)
