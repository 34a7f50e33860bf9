-- `write_blocks` meets its contract: the blocks left, written over the room as it is now, give the room with all of them. Assumes nothing.
use Prim.Native.Nat.{◌≤◌, ◌*◌}
use mathlib.Core.Path.{◌∙◌}
use native.Mathlib.Omega.{arith}
use lib.ListN.{length, length-take, length-drop}
use Rattle.blocks.proofs.Making.{make_start, make_turn, make_end}
use Rattle.blocks.proofs.write_blocks.Goals as goal

pub loop-i-init : goal.loop-i-init
loop-i-init c = make_start _ _ _

pub write_block-requires : goal.write_block-requires
write_block-requires c = (simp (length-take, length-drop) (omega arith), simp (length-take, length-drop) (omega arith))

pub loop-i-preserved : goal.loop-i-preserved
loop-i-preserved c = let room : 512 * c.args.k ≤ length c.loop-i.room = omega arith in
    let some : 496 * c.loop-i.i ≤ length c.args.records.now = omega arith in
    make_turn _ _ _ _ c.loop-i-test.true room some c.min-to.ensures c.write_block.ensures ∙ c.loop-i.invariant

pub returns : goal.returns
returns c = make_end _ _ _ _ c.loop-i-test.false ∙ c.loop-i.invariant
