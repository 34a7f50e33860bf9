-- `after_records` meets its contract: the stage after the records left, from the stage reached, is that of all. Assumes nothing.
use Prim.Native.Nat.{◌/◌}
use mathlib.Core.Path.{◌≡◌}
use lib.ListN.{length}
use Rattle.std.specs.Slice.Iter.{chunks_exact_rest, chunks_exact_size}
use Rattle.blocks.specs.Block.{after_records}
use Rattle.blocks.specs.Inner.{stage_of}
use Rattle.blocks.proofs.after_records.Given as goal

abbrev pub invariant-loop-record : goal.invariant-loop-record
invariant-loop-record l = (chunks_exact_size l.record-iterator ≡ 16)
    × (after_records (stage_of l.reached) (length (chunks_exact_rest l.record-iterator) / 16) (chunks_exact_rest l.record-iterator) ≡ after_records (stage_of l.fn.t) l.n l.s)
