-- `open_records` meets its contract: the edges always have room, and the hierarchy is that of the records. Assumes nothing.
use mathlib.Core.Path.{◌≡◌, sym}
use Prim.Native.Nat.{◌*◌, ◌≤◌}
use native.Mathlib.Omega.{arith}
use lib.ListN.{length, take}
use Rattle.opening.proofs.Opens.{edges_never, edges_few, edges_all, records_opened}
use Rattle.opening.proofs.open_records.Goals as goal
use Rattle.opening.proofs.open_records.Goals.{In_ok-count}

-- the table that was written
module _ (c : In_ok-count) where
  few : 2 * c.in_ok-count.count ≤ 7936
  few = edges_few c.args.records.now c.args.edges.now c.requires.0 c.requires.1 c.edges.result c.edges.ensures c.in_ok-count.count c.in_ok-count.was

  all : length (take (2 * c.in_ok-count.count) c.edges.new.table) ≡ 2 * c.in_ok-count.count
  all = edges_all c.args.records.now c.args.edges.now c.requires.0 c.requires.1 c.edges.result c.edges.ensures c.in_ok-count.count c.in_ok-count.was

pub returns-in_err-count : goal.returns-in_err-count
returns-in_err-count c = absurd (edges_never c.args.records.now c.args.edges.now c.requires.0 c.requires.1 c.edges.result c.edges.ensures _ c.in_err-count.was)

pub overflow_mul-end : goal.overflow_mul-end
overflow_mul-end c = omega (arith, few (goal.at.overflow_mul-end c).In_ok-count)

pub slice_bounds-numbers-end : goal.slice_bounds-numbers-end
slice_bounds-numbers-end c = omega (arith, c.requires.1, c.edges.auto.table, few (goal.at.slice_bounds-numbers-end c).In_ok-count)

pub slice_bounds-numbers-end-2 : goal.slice_bounds-numbers-end-2
slice_bounds-numbers-end-2 c = sym (all (goal.at.slice_bounds-numbers-end-2 c).In_ok-count)

pub open_hierarchy-requires : goal.open_hierarchy-requires
open_hierarchy-requires c = (all (goal.at.open_hierarchy-requires c).In_ok-count, c.requires.2)

pub returns : goal.returns
returns c = records_opened c.args.records.now c.args.edges.now c.requires.0 c.requires.1 c.edges.result c.edges.ensures c.in_ok-count.count c.in_ok-count.was
    c.args.total c.args.places.now c.open_hierarchy.result c.size-n.ensures c.open_hierarchy.ensures
