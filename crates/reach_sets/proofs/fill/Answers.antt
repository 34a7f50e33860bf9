-- `fill` meets its contract: sets that begin with each node's own, and have all that an edge leads to, are the reaches. Assumes nothing.
use mathlib.Core.Path.{◌≡◌, ◌∙◌}
use Prim.Native.Nat.{◌/◌}
use native.Mathlib.Omega.{arith}
use lib.ListN.{length}
use Rattle.hierarchy.specs.Hierarchy.{edges_of}
use Rattle.hierarchy.proofs.Legals.{promised}
use Rattle.intervals.proofs.Writes.{legal_edges}
use Rattle.reach_sets.proofs.Fills.{set_is, table_is}
use Rattle.reach_sets.proofs.fill.Goals as goal

pub start-requires : goal.start-requires
start-requires c = ((promised c.args.n c.args.edges.now.numbers.now c.args.edges.now.count c.requires.legal).few, c.requires.long)

pub join_all-requires : goal.join_all-requires
join_all-requires c = let l : length c.start.new.table / 4 ≡ c.args.n = omega (arith, c.start.auto.table, c.requires.long) in
    rw l (legal_edges c.args.n c.args.edges.now.numbers.now c.args.edges.now.count c.requires.legal c.requires.whole)

pub returns : goal.returns
returns c = let es = edges_of c.args.edges.now.numbers.now c.args.edges.now.count in
    table_is c.args.n es c.join_all.new.table
    (set_is c.args.n es (promised c.args.n c.args.edges.now.numbers.now c.args.edges.now.count c.requires.legal) c.start.new.table c.join_all.new.table c.start.ensures
    c.join_all.ensures.kept c.join_all.ensures.settled (λ i. omega (arith, c.slice_known-3-1.given i)))
    (c.join_all.auto.table ∙ c.start.auto.table ∙ c.requires.long)
