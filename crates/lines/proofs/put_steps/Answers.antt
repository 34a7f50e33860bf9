-- `put_steps` meets its contract: the records left come to the same as all of them. Assumes nothing.
use mathlib.Core.Path.{◌∙◌}
use native.Mathlib.Omega.{arith}
use Rattle.locks.specs.Lent.{lent_in}
use Rattle.lines.specs.Pieces.{written_of}
use Rattle.lines.proofs.Runs.{records_turn, records_end}
use Rattle.lines.proofs.put_steps.Goals as goal

pub loop-bytes-preserved : goal.loop-bytes-preserved
loop-bytes-preserved c = let size = c.loop-bytes.invariant.0 in let steps = c.in-Some.ensures.steps in (
  steps.0 ∙ size,
  records_turn (written_of (lent_in c.args.tables.now) c.loop-bytes.progress c.loop-bytes.values c.loop-bytes.text) _ c.loop-bytes.invariant.1 _ _ steps.1.0 (steps.1.1 ∙ size) c.put_step-progress.ensures,
)

pub returns : goal.returns
returns c = records_end (written_of (lent_in c.args.tables.now) c.loop-bytes.progress c.loop-bytes.values c.loop-bytes.text) _ c.loop-bytes.invariant.1 (omega (arith, c.in-None.ensures.steps.1.0, c.loop-bytes.invariant.0))
