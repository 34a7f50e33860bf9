-- `after_blocks` meets its contract: the stage after the blocks left, from the stage reached, is that of the file. Assumes nothing.
use Rattle.std.proofs.lemmas.Result.{err_from_is_err_and}
use mathlib.Core.Path.{◌∙◌}
use Rattle.blocks.specs.Inner.{stage_of}
use Rattle.blocks.proofs.Stages.{step_blocks, stop_blocks, end_blocks}
use Rattle.blocks.proofs.after_blocks.Goals as goal

pub loop-i-preserved : goal.loop-i-preserved
loop-i-preserved c = step_blocks _ _ _ _ c.loop-i-test.true c.in_ok-reached.ensures ∙ c.loop-i.invariant

pub returns-in_err-reached : goal.returns-in_err-reached
returns-in_err-reached c = let p = err_from_is_err_and c.from_residual.result c.from_residual.ensures.1 in
    rw (p.1, p.2) (stop_blocks c.args.file.now (stage_of c.loop-i.reached) _ _ _ c.loop-i-test.true c.in_err-reached.ensures c.loop-i.invariant)

pub returns : goal.returns
returns c = end_blocks _ _ _ _ c.loop-i-test.false ∙ c.loop-i.invariant
