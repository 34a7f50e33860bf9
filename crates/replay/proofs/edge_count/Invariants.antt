-- `edge_count` meets its contract: the edges counted, and those left, are all. Assumes nothing.
use mathlib.Core.Path.{◌≡◌}
use Prim.Native.Nat.{◌+◌}
use Rattle.std.specs.Slice.Iter.{chunks_exact_rest, chunks_exact_size}
use Rattle.replay.specs.Replay.{record_list, edge_count_of}
use Rattle.replay.proofs.edge_count.Given as goal

abbrev pub invariant-loop-bytes : goal.invariant-loop-bytes
invariant-loop-bytes l = (chunks_exact_size l.bytes-iterator ≡ 16) × (l.count + edge_count_of (record_list (chunks_exact_rest l.bytes-iterator)) ≡ edge_count_of (record_list l.records))
