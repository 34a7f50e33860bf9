-- `write_steps` meets its contract: the parts left come to the same as all of them. Assumes nothing.
use Rattle.std.proofs.Common.{◌≡◌}
use Rattle.std.specs.Slice.Iter.{chunks_rest, chunks_size}
use Rattle.locks.specs.Lent.{lent_in}
use Rattle.desk.specs.Desks.{fresh_desk}
use Rattle.lines.specs.Pieces.{written_of, parts_written, parts_in}
use Rattle.listing.proofs.write_steps.Given as goal

abbrev pub invariant-loop-part : goal.invariant-loop-part
invariant-loop-part g l = (chunks_size l.part-iterator ≡ 1600)
    × (parts_written (written_of (lent_in l.tables) l.progress l.values l.text) (parts_in (chunks_rest l.part-iterator))
    ≡ parts_written (written_of (lent_in l.tables) (record { desk = fresh_desk; number = 1; at = 0 }) l.initial.values l.initial.text) (parts_in l.records))
