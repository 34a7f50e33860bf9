-- `copy_records` meets its contract: the records left, written over the room as it is now, give the room with all of them. Each count is at most 31, since the file is accepted. Assumes nothing.
use Prim.Native.Nat.{◌≤◌, ◌+◌}
use mathlib.Core.Path.{◌∙◌}
use native.Mathlib.Omega.{arith}
use lib.ListN.{length, length-take, length-drop}
use Rattle.blocks.proofs.Stages.{counts_part}
use Rattle.blocks.proofs.Copies.{copy_start, copy_start_length, copy_step, copy_length, copy_end, copy_end_length}
use Rattle.blocks.proofs.copy_records.Goals as goal

pub loop-i-init : goal.loop-i-init
loop-i-init c = (omega arith, copy_start _ _ _, copy_start_length _ _)

pub copy_block-to-requires : goal.copy_block-to-requires
copy_block-to-requires c = let few = counts_part _ _ c.requires.3 _ c.loop-i-test.true in
    (simp (length-take, length-drop) (omega arith), few, omega arith)

pub loop-i-preserved : goal.loop-i-preserved
loop-i-preserved c = let room : c.loop-i.to + 496 ≤ length c.loop-i.room = omega arith in (
  omega arith,
  copy_step _ _ _ c.loop-i-test.true _ _ _ _ room c.copy_block-to.ensures.1 c.copy_block-to.ensures.0 c.copy_block-to.ensures.2 ∙ c.loop-i.invariant.1,
  copy_length _ _ _ c.loop-i-test.true _ _ _ _ room c.copy_block-to.ensures.1 c.copy_block-to.ensures.0 c.copy_block-to.ensures.2 ∙ c.loop-i.invariant.2,
)

pub returns : goal.returns
returns c = (copy_end_length _ _ _ _ c.loop-i-test.false ∙ c.loop-i.invariant.2, copy_end _ _ _ _ _ c.loop-i-test.false ∙ c.loop-i.invariant.1)
