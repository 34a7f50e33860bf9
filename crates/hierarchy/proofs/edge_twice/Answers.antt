-- `edge_twice` meets its contract: what is left of the edges decides. Assumes nothing.
use mathlib.Core.Path.{ap, ◌∙◌}
use Rattle.hierarchy.specs.Hierarchy.{edges_in}
use Rattle.hierarchy.proofs.Pairs.{twice, twice_pairs, twice_turn, twice_end}
use Rattle.hierarchy.proofs.edge_twice.Goals as goal

pub loop-left-init : goal.loop-left-init
loop-left-init c = ap twice c.pairs-left.ensures ∙ twice_pairs (edges_in c.args.edges.now)

pub returns-then-stands : goal.returns-then-stands
returns-then-stands c = rw c.if-stands.true at (twice_turn _ c.in-len1-up.len_at_least c.loop-left.invariant c.stands.ensures)

pub loop-left-preserved : goal.loop-left-preserved
loop-left-preserved c = rw c.if-stands.false at (twice_turn _ c.in-len1-up.len_at_least c.loop-left.invariant c.stands.ensures)

pub returns : goal.returns
returns c = twice_end _ c.in_default.len_below c.loop-left.invariant
