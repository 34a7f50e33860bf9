-- `write_blocks` meets its contract: the blocks left, written over the room as it is now, give the room with all of them. Assumes nothing.
use Prim.Native.Nat.{◌*◌, ◌-◌}
use mathlib.Core.Path.{◌≡◌}
use lib.ListN.{drop}
use Rattle.octets.specs.Writes.{over_at}
use Rattle.lists.specs.Lists.{over}
use Rattle.blocks.specs.File.{blocks_of}
use Rattle.blocks.proofs.write_blocks.Given as goal

abbrev pub invariant-loop-i : goal.invariant-loop-i
invariant-loop-i l =
    over_at (512 * l.i) (blocks_of (l.k - l.i) l.i (drop (496 * l.i) l.records)) l.room ≡ over (blocks_of l.k 0 l.records) l.initial.room
