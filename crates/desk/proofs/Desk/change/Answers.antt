-- `Desk::change` meets its contract: the node has a value. Assumes nothing.
use Rattle.std.proofs.Common.{◌<◌, length, arith}
use Rattle.locks.specs.Lent.{lent_in}
use Rattle.desk.proofs.Judging.{value_lent}
use Rattle.desk.proofs.Desk.change.Goals as goal
use Rattle.desk.proofs.Desk.change.Goals.{In_default}

within : (c : In_default) → c.args.node < length c.args.values.now
within c = value_lent (lent_in c.args.tables.now) c.args.self c.args.party c.args.node c.args.values.now c.args.scratch.now _ c.in_default.ensures.judged

pub offset_bounds-values-node : goal.offset_bounds-values-node
offset_bounds-values-node c = omega (arith, within (goal.at.offset_bounds-values-node c).In_default)

pub bounds-values-node : goal.bounds-values-node
bounds-values-node c = within (goal.at.bounds-values-node c).In_default

pub offset_bounds-values-node-2 : goal.offset_bounds-values-node-2
offset_bounds-values-node-2 c = omega (arith, within (goal.at.offset_bounds-values-node-2 c).In_default)

pub bounds-values-node-2 : goal.bounds-values-node-2
bounds-values-node-2 c = within (goal.at.bounds-values-node-2 c).In_default
