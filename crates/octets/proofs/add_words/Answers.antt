-- `add_words` meets its contract: the sums go on without remainders, and the bounds on them grow with the words taken in. Assumes nothing.
use Rattle.octets.specs.Bytes.{number2}
use Prim.Native.Nat.{◌+◌, ◌*◌}
use mathlib.Core.Path.{◌≡◌, ◌∙◌}
use native.Mathlib.Omega.{arith}
use Rattle.octets.proofs.Words.{turn_late, ended_at}
use Rattle.octets.proofs.add_words.Goals as goal

pub loop-k-preserved : goal.loop-k-preserved
loop-k-preserved c = let w : c.from.result + 256 * c.from-in-loop-k.result ≡ number2 (c.args.at + 2 * c.loop-k.k) c.args.bytes.now = omega arith in (
  omega arith,
  omega arith,
  ended_at c.args.bytes.now _ _ (c.args.at + 2 * c.loop-k.k + 2) _ (omega arith)
      ∙ turn_late c.args.bytes.now c.loop-k.low c.loop-k.high (c.args.at + 2 * c.loop-k.k) (omega arith) w ∙ c.loop-k.invariant.2,
)
