-- `block_check` meets its contract: the sums over the words left, from those reached, are the check of the string. Assumes nothing.
use Prim.Native.Nat.{◌+◌, ◌*◌, ◌/◌, min}
use mathlib.Core.Path.{◌∙◌}
use native.Mathlib.Omega.{arith}
use lib.ListN.{length}
use Rattle.octets.specs.Fletcher.{fletcher}
use Rattle.octets.proofs.Words.{ended_at}
use Rattle.octets.proofs.block_check.Goals as goal

pub loop-run-init : goal.loop-run-init
unfolding fletcher
loop-run-init c = (omega arith, omega arith, ended_at c.args.bytes.now 0 0 0 _ (omega arith))

pub loop-run-preserved : goal.loop-run-preserved
loop-run-preserved c = (
  omega arith,
  omega arith,
  ended_at c.args.bytes.now _ _ (2 * (4096 * c.loop-run.run) + 2 * c.min.result) _ (omega arith)
      ∙ c.add_words-reached.ensures
      ∙ ended_at c.args.bytes.now _ _ (2 * min (4096 * c.loop-run.run) (length c.args.bytes.now / 2)) _ (omega arith)
      ∙ c.loop-run.invariant.2,
)

pub returns : goal.returns
returns c = c.end_check.ensures ∙ ended_at c.args.bytes.now _ _ (2 * min (4096 * c.loop-run.run) (length c.args.bytes.now / 2)) _ (omega arith) ∙ c.loop-run.invariant.2
