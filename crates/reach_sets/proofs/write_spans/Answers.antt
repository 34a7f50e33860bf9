-- `write_spans` meets its contract: from the last node down, low and high are written in turn. Assumes nothing.
use mathlib.Core.Path.{ap, ◌∙◌}
use Rattle.reach_sets.specs.declared.NodeSet.{NodeSet}
use Rattle.reach_sets.specs.Sets.{has}
use Rattle.reach_sets.proofs.Spans.{writing_start, writing_more, writing_end}
use Rattle.reach_sets.proofs.write_spans.Goals as goal

pub loop-node-init : goal.loop-node-init
loop-node-init c = writing_start _ _ _ c.requires

pub loop-node-preserved : goal.loop-node-preserved
loop-node-preserved c = writing_more _ _ _ c.requires _ _ c.loop-node.invariant c.loop-node-test.true c.span-at.result
    (λ flags e f. c.span-at.ensures flags e (λ y h. ap (λ (s : NodeSet). has s y) c.set_at.ensures ∙ f y h))

pub returns : goal.returns
returns c = writing_end _ _ _ c.requires _ _ c.loop-node.invariant c.loop-node-test.false
