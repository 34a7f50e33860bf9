-- `interleave` meets its contract: from the last node down, each number is written twice. Assumes nothing.
use Rattle.intervals.proofs.Doubles.{doubling_start, doubling_more}
use Rattle.intervals.proofs.interleave.Goals as goal

pub loop-node-init : goal.loop-node-init
loop-node-init c = doubling_start _ _ _ c.requires.n_in_bounds c.requires.table_len

pub loop-node-preserved : goal.loop-node-preserved
loop-node-preserved c = doubling_more _ _ _ c.requires.n_in_bounds c.requires.table_len _ _
    c.loop-node.invariant c.or_most.result c.loop-node-test.true c.or_most.ensures
