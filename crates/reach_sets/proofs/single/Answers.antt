-- `single` meets its contract: one bit of one word. Assumes nothing.
use mathlib.Core.Path.{ap}
use Prim.Native.Nat.{ℕ, ◌/◌, ◌%◌}
use native.Mathlib.Omega.{arith}
use lib.ListN.{set, replicate}
use Rattle.reach_sets.proofs.Bits.{one_shl}
use Rattle.reach_sets.proofs.single.Goals as goal

pub returns : goal.returns
returns c = rw c.none-set.ensures (ap (λ (w : ℕ). record { words = set (replicate 4 0) (c.args.node / 64) w }) (one_shl (c.args.node % 64) (omega arith)))
