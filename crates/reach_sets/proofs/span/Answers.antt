-- `span` meets its contract: the numbers of the set's nodes are taken in one by one. Assumes nothing.
use mathlib.Core.Path.{sym, ◌∙◌}
use lib.ListN.{get_or}
use Rattle.reach_sets.proofs.Spans.{max_law, spanning_more, spanning_past, spanning_end}
use Rattle.reach_sets.proofs.span.Goals as goal
use Rattle.reach_sets.proofs.span.Goals.{then-has, else-has}

pub loop-y-preserved : goal.loop-y-preserved
loop-y-preserved c flags f =
    let so_far = c.loop-y.invariant flags f in
    elim c.if-has.branch [
      | then-has w ↦
          rw (w.low-is, w.high-is, w.less_of-low.ensures, w.max-high.ensures, max_law c.loop-y.high (get_or c.args.numbers.now c.loop-y.y 0))
          (spanning_more c.args.set _ flags f _ _ _ so_far c.loop-y-test.true (sym w.if-has.true ∙ c.has.ensures))
      | else-has w ↦ rw (w.low-is, w.high-is) (spanning_past c.args.set _ flags f _ _ _ so_far c.loop-y-test.true (sym w.if-has.false ∙ c.has.ensures))
    ]

pub returns : goal.returns
returns c flags l f = spanning_end c.args.set _ flags (record { long = l; each = f }) _ _ _ (c.loop-y.invariant flags (record { long = l; each = f })) c.loop-y-test.false
