-- `copy_records` meets its contract: the records left, written over the room as it is now, give the room with all of them. Each count is at most 31, since the file is accepted. Assumes nothing.
use Prim.Native.Nat.{◌≤◌, ◌+◌, ◌*◌, ◌-◌}
use mathlib.Core.Path.{◌≡◌}
use lib.ListN.{length, drop}
use Rattle.octets.specs.Writes.{over_at}
use Rattle.lists.specs.Lists.{over}
use Rattle.blocks.specs.File.{records_of}
use Rattle.blocks.proofs.copy_records.Given as goal

abbrev pub invariant-loop-i : goal.invariant-loop-i
invariant-loop-i l = (l.to ≤ 496 * l.i)
    × (over_at l.to (records_of (l.k - l.i) (drop (512 * l.i) l.file)) l.room ≡ over (records_of l.k l.file) l.initial.room)
    × (l.to + length (records_of (l.k - l.i) (drop (512 * l.i) l.file)) ≡ length (records_of l.k l.file))
