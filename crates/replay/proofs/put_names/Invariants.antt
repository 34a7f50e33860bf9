-- `put_names` meets its contract: the names left, written over the places as they are now, give the places with all of them. Assumes nothing.
use mathlib.Core.Path.{◌≡◌}
use lib.ListN.{drop}
use Rattle.lists.specs.Lists.{over}
use Rattle.blocks.specs.Record.{names_in}
use Rattle.octets.specs.Writes.{over_at}
use Rattle.replay.proofs.put_names.Given as goal

abbrev pub invariant-loop-i : goal.invariant-loop-i
invariant-loop-i l = (over_at l.i (drop l.i (names_in l.bytes)) l.names ≡ over (names_in l.bytes) l.initial.names)
