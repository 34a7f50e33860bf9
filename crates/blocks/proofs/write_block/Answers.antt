-- `write_block` meets its contract: its five writes, one behind the other, are the block. Assumes nothing.
use mathlib.Core.Path.{sym}
use native.Mathlib.Omega.{arith}
use lib.Seq.{length-take-le}
use Rattle.blocks.proofs.Making.{written_block}
use Rattle.blocks.proofs.write_block.Goals as goal

pub slice_bounds-block_check-end-2 : goal.slice_bounds-block_check-end-2
slice_bounds-block_check-end-2 c = sym (length-take-le _ c.put_zeros.new.room (omega arith))

pub returns : goal.returns
returns c = written_block c.args.block.now c.args.number c.args.records.now c.requires.0 c.requires.1
    c.put4.ensures c.put4-2.ensures c.copy_at.ensures c.put_zeros.ensures c.block_check-check.ensures c.put4-3.ensures
