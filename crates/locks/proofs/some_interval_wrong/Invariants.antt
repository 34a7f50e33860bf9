-- `some_interval_wrong` meets its contract: what was found so far is whether an interval passed is wrong. Assumes nothing.
use mathlib.Core.Path.{◌≡◌}
use Rattle.lists.specs.Lists.{any_below}
use Rattle.locks.specs.Lent.{lent_in, interval_wrong}
use Rattle.locks.proofs.some_interval_wrong.Given as goal

abbrev pub invariant-loop-i : goal.invariant-loop-i
invariant-loop-i l = l.wrong ≡ any_below l.i (interval_wrong (lent_in l.tables))
