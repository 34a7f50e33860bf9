-- `spread_once` meets its contract: the edges left, spread over the flags as they are, give the pass. Assumes nothing.
use mathlib.Core.List.{List}
use mathlib.Core.Path.{ap, ◌∙◌}
use Prim.Native.Nat.{ℕ}
use native.Mathlib.Omega.{arith}
use Rattle.hierarchy.specs.Hierarchy.{edges_in}
use Rattle.hierarchy.proofs.Pairs.{pass, pass_pairs}
use Rattle.hierarchy.proofs.Spreads.{spreading_on, spreading_end}
use Rattle.hierarchy.proofs.spread_once.Goals as goal

pub loop-edge-preserved : goal.loop-edge-preserved
loop-edge-preserved c = rw (c.follow-changed.ensures.flags_after, c.follow-changed.ensures.new) (spreading_on _ _ _ _ _ c.loop-edge.invariant c.loop-edge-test.true)

pub returns-clause-flags_after : goal.returns-clause-flags_after
returns-clause-flags_after c = spreading_end _ _ _ _ _ c.loop-edge.invariant (omega arith)
    ∙ ap (λ (es : List (List ℕ)). pass es c.args.flags.now) c.pairs-edge-items.ensures ∙ pass_pairs (edges_in c.args.edges.now) c.args.flags.now
