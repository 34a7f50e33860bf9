-- `put_edges` meets its contract: the edges left, written over the table as it is now, give the table with all of them. Assumes nothing.
use mathlib.Core.Path.{◌≡◌}
use Prim.Native.Nat.{◌+◌, ◌≤◌}
use lib.ListN.{length}
use Rattle.std.specs.Slice.Iter.{chunks_exact_rest, chunks_exact_size}
use Rattle.lists.specs.Lists.{over}
use Rattle.octets.specs.Writes.{over_at}
use Rattle.replay.specs.Replay.{record_list, edge_table}
use Rattle.replay.proofs.put_edges.Given as goal

abbrev pub invariant-loop-bytes : goal.invariant-loop-bytes
invariant-loop-bytes l = let left = edge_table (record_list (chunks_exact_rest l.bytes-iterator)) in
    (chunks_exact_size l.bytes-iterator ≡ 16) × (length l.table ≡ length l.initial.table) × (l.at + length left ≤ length l.table)
    × (over_at l.at left l.table ≡ over (edge_table (record_list l.records)) l.initial.table)
