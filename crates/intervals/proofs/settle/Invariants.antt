-- `settle` meets its contract: passes go on until no edge has anything left to do. Assumes nothing.
use Rattle.hierarchy.specs.Hierarchy.{edges_of}
use Rattle.lists.specs.Lists.{one_if}
use Rattle.intervals.specs.Inner.{table_weight}
use Rattle.intervals.proofs.Tables.{Settling}
use Rattle.intervals.proofs.settle.Given as goal

abbrev pub invariant-loop-on : goal.invariant-loop-on
invariant-loop-on l = Settling (edges_of l.edges.numbers.now l.edges.count) l.initial.table l.on l.table

abbrev pub decreases-loop-on : goal.decreases-loop-on
decreases-loop-on l = one_if l.on (table_weight l.table)
