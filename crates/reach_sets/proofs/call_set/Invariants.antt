-- `call_set` meets its contract: the names' sets are joined one after the other. Assumes nothing.
use mathlib.Core.Path.{◌≡◌}
use lib.ListN.{drop}
use Rattle.reach_sets.specs.Sets.{no_nodes, joined_with}
use Rattle.reach_sets.proofs.call_set.Given as goal

abbrev pub invariant-loop-name : goal.invariant-loop-name
invariant-loop-name l = joined_with l.set l.table (drop l.name-index l.names) ≡ joined_with no_nodes l.table l.names
