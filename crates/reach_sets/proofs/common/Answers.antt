-- `common` meets its contract: two words of 64 bits have as many in common at most. Assumes nothing.
use mathlib.Core.Path.{refl}
use native.Mathlib.Omega.{arith}
use lib.Bits.{and_le_l}
use Rattle.reach_sets.proofs.common.Goals as goal

pub returns : goal.returns
returns c = (refl, omega (arith, and_le_l c.args.a c.args.b, c.ranges))
