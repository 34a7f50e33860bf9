-- `edge_twice` meets its contract: what is left of the edges decides. Assumes nothing.
use mathlib.Core.Path.{◌≡◌}
use lib.ListN.{length}
use Rattle.hierarchy.specs.Hierarchy.{edges_in, edge_twice}
use Rattle.hierarchy.proofs.Pairs.{twice}
use Rattle.hierarchy.proofs.edge_twice.Given as goal

abbrev pub invariant-loop-left : goal.invariant-loop-left
invariant-loop-left l = twice l.left ≡ edge_twice (edges_in l.edges)

abbrev pub decreases-loop-left : goal.decreases-loop-left
decreases-loop-left l = length l.left
