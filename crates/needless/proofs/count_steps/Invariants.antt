-- `count_steps` meets its contract: the waits so far and those of the records left come to the same, from the fresh desk to the end. Assumes nothing.
use Rattle.std.proofs.Common.{◌≡◌}
use Rattle.std.specs.Slice.Iter.{chunks_exact_rest, chunks_exact_size}
use Rattle.locks.specs.Lent.{lent_in}
use Rattle.needless.proofs.Tallies.{Counting}
use Rattle.needless.proofs.count_steps.Given as goal

abbrev pub invariant-loop-bytes : goal.invariant-loop-bytes
invariant-loop-bytes l = (chunks_exact_size l.bytes-iterator ≡ 16) × Counting (lent_in l.tables) l.sets l.records (chunks_exact_rest l.bytes-iterator) l.progress l.values l.called
