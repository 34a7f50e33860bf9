-- `copy_block` meets its contract: the part that it copies is the records of the block. Assumes nothing.
use Prim.Native.Nat.{ℕ}
use mathlib.Core.Path.{ap, ◌∙◌}
use native.Mathlib.Omega.{arith}
use Rattle.octets.specs.Writes.{put_at}
use Rattle.octets.proofs.Writes.{put_fits}
use mathlib.Core.List.{List}
use Rattle.blocks.proofs.Copies.{in_block, in_length}
use Rattle.blocks.proofs.copy_block.Goals as goal

pub returns : goal.returns
returns c = let l = in_length c.args.block.now c.number2.ensures.0 (omega arith) (omega arith) in
    (l, omega arith, c.copy_at.ensures ∙ ap (λ (t : List ℕ). put_at c.args.at t c.args.room.now) (in_block c.args.block.now c.number2.ensures.0) ∙ put_fits c.args.room.now c.args.at _ (omega arith))
