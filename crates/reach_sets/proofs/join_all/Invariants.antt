-- `join_all` meets its contract: passes go on until no edge has anything left to do. Assumes nothing.
use Rattle.lists.specs.Lists.{one_if}
use Rattle.hierarchy.specs.Hierarchy.{edges_of}
use Rattle.reach_sets.specs.Inner.{room}
use Rattle.reach_sets.proofs.Joinings.{Settling}
use Rattle.reach_sets.proofs.join_all.Given as goal

abbrev pub invariant-loop-on : goal.invariant-loop-on
invariant-loop-on l = Settling (edges_of l.edges.numbers.now l.edges.count) l.initial.table l.on l.table

abbrev pub decreases-loop-on : goal.decreases-loop-on
decreases-loop-on l = one_if l.on (room l.table)
