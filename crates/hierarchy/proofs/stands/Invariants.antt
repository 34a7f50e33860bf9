-- `stands` meets its contract: what was found is what the edges so far have. Assumes nothing.
use mathlib.Core.Path.{◌≡◌}
use lib.ListN.{take}
use Rattle.hierarchy.specs.Hierarchy.{same_edge}
use Rattle.hierarchy.specs.Inner.{some_pair}
use Rattle.hierarchy.proofs.stands.Given as goal

abbrev pub invariant-loop-p : goal.invariant-loop-p
invariant-loop-p l = l.found ≡ some_pair (same_edge l.parent l.child) (take l.p-index l.others)
