-- `put_steps` meets its contract: the records left come to the same as all of them. Assumes nothing.
use Rattle.std.proofs.Common.{◌≡◌}
use Rattle.std.specs.Slice.Iter.{chunks_exact_rest, chunks_exact_size}
use Rattle.locks.specs.Lent.{lent_in}
use Rattle.replay.specs.Replay.{record_list}
use Rattle.lines.specs.Pieces.{written_of, records_written}
use Rattle.lines.proofs.put_steps.Given as goal

abbrev pub invariant-loop-bytes : goal.invariant-loop-bytes
invariant-loop-bytes l = (chunks_exact_size l.bytes-iterator ≡ 16)
    × (records_written (written_of (lent_in l.tables) l.progress l.values l.text) (record_list (chunks_exact_rest l.bytes-iterator))
    ≡ records_written (written_of (lent_in l.tables) l.initial.progress l.initial.values l.initial.text) (record_list l.records))
