-- `after_blocks` meets its contract: the stage after the blocks left, from the stage reached, is that of the file. Assumes nothing.
use Prim.Native.Nat.{◌*◌, ◌-◌}
use mathlib.Core.Path.{◌≡◌}
use lib.ListN.{drop}
use Rattle.blocks.specs.Record.{begun}
use Rattle.blocks.specs.File.{after_blocks}
use Rattle.blocks.specs.Inner.{stage_of}
use Rattle.blocks.proofs.after_blocks.Given as goal

abbrev pub invariant-loop-i : goal.invariant-loop-i
invariant-loop-i l = after_blocks (l.k - l.i) l.i (stage_of l.reached) (drop (512 * l.i) l.file) ≡ after_blocks l.k 0 begun l.file
