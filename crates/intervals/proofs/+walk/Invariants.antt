-- The measure is the count of unseen nodes. The loop's invariant: the children that are left, met from the walk as it stands, give what all of them give
-- from where the node was opened. Assumes nothing.
use Rattle.intervals.specs.Numbering.{at as walk_at}
use Rattle.lists.specs.Lists.{zeros}
use Rattle.intervals.proofs.Walks.{Left}
use Rattle.intervals.proofs.+walk.Given as goal

abbrev pub decreases-walk : goal.decreases-walk
decreases-walk l = zeros l.marks.now

abbrev pub invariant-loop-e : goal.invariant-loop-e
invariant-loop-e l = Left l.edges.numbers.now l.edges.count l.node (walk_at l.initial.at l.initial.marks l.initial.numbers) l.e l.leaf (walk_at l.at l.marks l.numbers)
