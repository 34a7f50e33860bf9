-- `values` meets its contract: the values after the records left, from those now, are the values after all records from zeros. Assumes nothing.
use mathlib.Core.Path.{◌≡◌}
use lib.ListN.{length}
use Rattle.std.specs.Slice.Iter.{chunks_exact_rest, chunks_exact_size}
use Rattle.replay.specs.Replay.{record_list, values_from, values_in}
use Rattle.replay.proofs.values.Given as goal

abbrev pub invariant-loop-bytes : goal.invariant-loop-bytes
invariant-loop-bytes l = (chunks_exact_size l.bytes-iterator ≡ 16) × (length l.places ≡ length l.initial.places)
    × (values_from l.places (record_list (chunks_exact_rest l.bytes-iterator)) ≡ values_in (length l.initial.places) (record_list l.records))
