-- `some_interval_wrong` meets its contract: what was found so far is whether an interval passed is wrong. Assumes nothing.
use mathlib.Core.Path.{refl, ap, ◌∙◌}
use Prim.Native.Nat.{◌+◌, ◌*◌}
use lib.ListN.{get_or}
use Rattle.lists.specs.Lists.{any_below}
use Rattle.covers.specs.declared.Interval.{Interval}
use Rattle.lists.proofs.Bounded.{any_one_more}
use Rattle.locks.specs.Lent.{lent_in, interval_wrong}
use Rattle.locks.specs.Inner.{outside}
use Rattle.locks.proofs.some_interval_wrong.Goals as goal

pub loop-i-init : goal.loop-i-init
unfolding any_below
loop-i-init c = refl

pub loop-i-preserved : goal.loop-i-preserved
loop-i-preserved c = any_one_more (interval_wrong (lent_in c.args.tables.now)) c.loop-i.i _ _ c.loop-i.invariant (c.interval_wrong-wrong.ensures
    ∙ ap (λ (x : Interval). outside (get_or c.args.tables.now.intervals.now (2 * c.loop-i.i) 0) (get_or c.args.tables.now.intervals.now (2 * c.loop-i.i + 1) 0) x.low x.high) c.interval_at-root.ensures)
