-- `put_set` meets its contract: a node's words are copied where the table has four for it. Assumes nothing.
use mathlib.Core.Path.{◌≡◌, refl}
use Prim.Native.Nat.{◌+◌, ◌-◌, ◌*◌, ◌/◌}
use native.Mathlib.Omega.{arith}
use lib.ListN.{length}
use borrow.Author.Tests.{lt-ltb, le-ltb}
use borrow.Author.Rules.{rules}
use Rattle.reach_sets.proofs.Stores.{words_copied}
use Rattle.reach_sets.proofs.put_set.Goals as goal

pub returns-then-node-table : goal.returns-then-node-table
returns-then-node-table c =
    let l : length c.args.set.words ≡ 4 = search rules in
    let four : 4 * c.args.node + 4 - 4 * c.args.node ≡ 4 = omega arith in
    rw (lt-ltb c.args.node (length c.args.table.now / 4) c.if-node-table.true, words_copied c.args.table.now c.args.node c.args.set l (omega arith), four, c.copy_from_slice.ensures.after) refl

pub returns-else-node-table : goal.returns-else-node-table
returns-else-node-table c = rw (le-ltb c.args.node (length c.args.table.now / 4) c.if-node-table.false) refl
