-- `start` meets its contract: each node in turn has its own set. Assumes nothing.
use Rattle.reach_sets.proofs.Stores.{Starting}
use Rattle.reach_sets.proofs.start.Given as goal

abbrev pub invariant-loop-node : goal.invariant-loop-node
invariant-loop-node l = Starting l.initial.table l.node l.table
