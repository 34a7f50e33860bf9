-- `put_values` meets its contract: the value records left, written over the room as it is now, give the room with all of them. Assumes nothing.
use mathlib.Core.Path.{◌≡◌}
use Prim.Native.Nat.{◌+◌, ◌*◌, ◌-◌, ◌≤◌}
use lib.ListN.{length}
use Rattle.octets.specs.Writes.{over_at}
use Rattle.shorter.specs.Inner.{values_bytes}
use Rattle.shorter.proofs.Puts.{left}
use Rattle.shorter.proofs.put_values.Given as goal

abbrev pub invariant-loop-node : goal.invariant-loop-node
invariant-loop-node l = (l.to + 16 * (length l.values - l.node) ≤ length l.room) × (l.to + length (left l.values l.node) ≡ l.at + length (values_bytes l.values))
    × (over_at l.to (left l.values l.node) l.room ≡ over_at l.at (values_bytes l.values) l.initial.room)
