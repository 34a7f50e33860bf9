-- `join_once` meets its contract: each edge keeps what a pass keeps, and where no set grew, none has anything left to do. Assumes nothing.
use Rattle.reach_sets.proofs.Joinings.{joining_start, in_table, joining_more, joining_end}
use Rattle.reach_sets.proofs.join_once.Goals as goal

pub loop-e-init : goal.loop-e-init
loop-e-init c = joining_start _ _ _

pub join_at-grown-requires : goal.join_at-grown-requires
join_at-grown-requires c = in_table _ _ _ c.requires _ _ _ c.loop-e.invariant c.loop-e-test.true c.edge_at-ends.result c.edge_at-ends.ensures

pub loop-e-preserved : goal.loop-e-preserved
loop-e-preserved c = joining_more _ _ _ c.requires _ _ _ c.loop-e.invariant c.loop-e-test.true c.edge_at-ends.result c.edge_at-ends.ensures
    c.join_at-grown.new.table c.join_at-grown.result c.join_at-grown.ensures.joins c.join_at-grown.ensures.went

pub returns-clause-settled : goal.returns-clause-settled
returns-clause-settled c = joining_end _ _ _ c.requires _ _ _ c.loop-e.invariant c.loop-e-test.false
