-- `Desk::get` meets its contract: the node has a value. Assumes nothing.
use Rattle.std.proofs.Common.{◌<◌, length, arith}
use Rattle.locks.specs.Lent.{lent_in}
use Rattle.desk.proofs.Judging.{value_lent}
use Rattle.desk.proofs.Desk.get.Goals as goal
use Rattle.desk.proofs.Desk.get.Goals.{In-Ok}

within : (c : In-Ok) → c.args.node < length c.args.values.now
within c = value_lent (lent_in c.args.tables.now) c.args.self c.args.party c.args.node c.args.values.now c.args.scratch.now _ c.in-Ok.ensures.judged

pub offset_bounds-values-node : goal.offset_bounds-values-node
offset_bounds-values-node c = omega (arith, within (goal.at.offset_bounds-values-node c).In-Ok)

pub bounds-values-node : goal.bounds-values-node
bounds-values-node c = within (goal.at.bounds-values-node c).In-Ok
