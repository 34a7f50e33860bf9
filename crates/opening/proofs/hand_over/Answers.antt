-- `hand_over` meets its contract: both are written from the first place on. Assumes nothing.
use mathlib.Core.Path.{ap}
use mathlib.Core.List.{List, ◌++◌}
use Prim.Native.Nat.{ℕ}
use lib.ListN.{length, drop}
use Rattle.lists.specs.Lists.{over}
use Rattle.opening.proofs.hand_over.Goals as goal

pub returns : goal.returns
unfolding over
returns c = (
  ap (λ (l : List ℕ). l ++ drop (length c.args.read.now) c.args.records.now) c.copy_from_slice.ensures.after,
  ap (λ (l : List ℕ). l ++ drop (length c.args.table.now) c.args.edges.now) c.copy_from_slice-2.ensures.after,
)
