-- `spread_all` meets its contract: passes back and on keep what all stable flags have, until one on changes nothing. Assumes nothing.
use Rattle.hierarchy.specs.Hierarchy.{edges_in}
use Rattle.lists.specs.Lists.{one_if, zeros}
use Rattle.hierarchy.proofs.Spreads.{Reaching}
use Rattle.hierarchy.proofs.spread_all.Given as goal

abbrev pub invariant-loop-on : goal.invariant-loop-on
invariant-loop-on l = Reaching (edges_in l.edges) l.initial.flags l.on l.flags

abbrev pub decreases-loop-on : goal.decreases-loop-on
decreases-loop-on l = one_if l.on (zeros l.flags)
