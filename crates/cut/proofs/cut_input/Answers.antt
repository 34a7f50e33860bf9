-- `cut_input` meets its contract: the shorter file is within the room. Assumes nothing.
use mathlib.Core.Path.{sym, ap, ◌∙◌}
use Prim.Native.Nat.{◌*◌, ◌≤◌}
use native.Mathlib.Omega.{arith}
use lib.ListN.{length}
use lib.Seq.{length-take-le}
use Rattle.refusals.specs.Refusals.{meaning}
use Rattle.cutting.proofs.Writing.{cut_fits}
use Rattle.cut.proofs.cut_input.Goals as goal
use Rattle.cut.proofs.cut_input.Goals.{In-Ok}

-- what is written is within the room
module _ (c : In-Ok) where
  within : 512 * c.in-Ok.m ≤ length c.cut.new.room
  within = omega (arith, c.cut.auto.room, cut_fits _ _ _ c.in-Ok.m (sym c.cut.ensures.0 ∙ ap meaning c.in-Ok.is))

pub overflow_mul-room : goal.overflow_mul-room
overflow_mul-room c = omega (arith, within (goal.at.overflow_mul-room c).In-Ok, c.cut.auto.room)

pub slice_bounds-room-end : goal.slice_bounds-room-end
slice_bounds-room-end c = within (goal.at.slice_bounds-room-end c).In-Ok

pub slice_bounds-write_all-end : goal.slice_bounds-write_all-end
slice_bounds-write_all-end c = sym (length-take-le _ c.cut.new.room (within (goal.at.slice_bounds-write_all-end c).In-Ok))
