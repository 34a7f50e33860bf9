-- `edges_wrong` meets its contract: what was found is what all edges have. Assumes nothing.
use mathlib.Core.Path.{ap, ◌∙◌}
use native.Mathlib.Omega.{arith}
use lib.Seq.{take_all}
use Rattle.hierarchy.specs.Hierarchy.{edges_in, edge_wrong}
use Rattle.hierarchy.specs.Inner.{some_pair}
use Rattle.hierarchy.proofs.Pairs.{some_pairs, no_node}
use Rattle.hierarchy.proofs.edges_wrong.Goals as goal

pub returns-then-n-gt65535 : goal.returns-then-n-gt65535
returns-then-n-gt65535 c = c.some_wrong.ensures
    ∙ ap (some_pair (edge_wrong c.args.n)) c.pairs-pairs.ensures
    ∙ some_pairs (edge_wrong c.args.n) (edges_in c.args.edges.now)

pub returns-in_default : goal.returns-in_default
returns-in_default c = grind (arith, no_node)

pub returns : goal.returns
returns c = c.loop-parent.invariant
    ∙ ap (some_pair (edge_wrong c.args.n)) (take_all c.loop-parent.parent-index c.pairs-pairs.result.now (omega arith) ∙ c.pairs-pairs.ensures)
    ∙ some_pairs (edge_wrong c.args.n) (edges_in c.args.edges.now)
