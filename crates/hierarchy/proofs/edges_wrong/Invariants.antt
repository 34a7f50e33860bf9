-- `edges_wrong` meets its contract: what was found is what the edges so far have. Assumes nothing.
use mathlib.Core.Path.{◌≡◌}
use lib.ListN.{take}
use Rattle.hierarchy.specs.Hierarchy.{edge_wrong}
use Rattle.hierarchy.specs.Inner.{some_pair}
use Rattle.hierarchy.proofs.edges_wrong.Given as goal

abbrev pub invariant-loop-parent : goal.invariant-loop-parent
invariant-loop-parent l = l.wrong ≡ some_pair (edge_wrong l.n) (take l.parent-index l.pairs)
