-- `closest` meets its contract: it has the closest of the nodes that it has looked at, and the interval of that. Assumes nothing.
use mathlib.Core.Path.{◌≡◌, sym, ap, ◌∙◌}
use Prim.Native.Nat.{ℕ, ◌+◌, ◌/◌, min}
use native.Mathlib.Omega.{arith}
use lib.ListN.{length}
use Rattle.covers.specs.Cover.{closest as closest_of}
use Rattle.covers.proofs.Covers.{looking_start, looking_closer, looking_past, looked}
use Rattle.covers.proofs.closest.Goals as goal
use Rattle.covers.proofs.closest.Goals.{then-closer, else-closer}

pub loop-node-init : goal.loop-node-init
loop-node-init c = looking_start c.args.intervals.now c.args.call c.interval_at-around.ensures

pub loop-node-preserved : goal.loop-node-preserved
loop-node-preserved c =
    let k = c.loop-node.node in
    elim c.if-closer.branch [
      | then-closer w ↦ rw (w.best-is, w.around-is) (looking_closer c.args.intervals.now c.args.call k c.loop-node.best c.loop-node.around c.interval_at-here.result
          c.loop-node.invariant c.interval_at-here.ensures (sym c.closer.ensures ∙ w.if-closer.true))
      | else-closer w ↦ rw (w.best-is, w.around-is) (looking_past c.args.intervals.now c.args.call k c.loop-node.best c.loop-node.around c.interval_at-here.result
          c.loop-node.invariant c.interval_at-here.ensures (sym c.closer.ensures ∙ w.if-closer.false))
    ]

pub returns : goal.returns
returns c = let e : c.loop-node.node ≡ min c.args.n (length c.args.intervals.now / 2 + 2) = omega arith in
    c.loop-node.invariant.found ∙ ap (λ (k : ℕ). closest_of k c.args.intervals.now c.args.call) e ∙ looked c.args.intervals.now c.args.call c.args.n
