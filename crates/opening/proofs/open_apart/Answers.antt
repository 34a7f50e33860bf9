-- `open_apart` meets its contract: what was refused is left, and what was opened is handed over. Assumes nothing.
use mathlib.Core.Path.{◌≡◌, sym}
use Prim.Native.Nat.{◌*◌, ◌≤◌}
use native.Mathlib.Omega.{arith}
use lib.ListN.{length, take}
use lib.Seq.{length-take-le}
use Rattle.std.proofs.lemmas.Result.{err_from_is_err_and}
use Rattle.opening.proofs.Opens.{few_records, few_edges, apart_refused, apart_done}
use Rattle.opening.proofs.open_apart.Goals as goal
use Rattle.opening.proofs.open_apart.Goals.{In_ok-opened}

-- what was read of an opened file is within its places
module _ (c : In_ok-opened) where
  read_few : 16 * c.in_ok-opened.opened.total ≤ 63488
  read_few = few_records c.args.file.now c.open_file.result c.open_file.ensures.answer c.in_ok-opened.opened c.in_ok-opened.was

  table-few : 2 * c.in_ok-opened.opened.edge_count ≤ 7936
  table-few = few_edges c.args.file.now c.open_file.result c.open_file.ensures.answer c.in_ok-opened.opened c.in_ok-opened.was

  read-in : 16 * c.in_ok-opened.opened.total ≤ length c.open_file.new.records
  read-in = omega (arith, read_few)

  table-in : 2 * c.in_ok-opened.opened.edge_count ≤ length c.open_file.new.edges
  table-in = omega (arith, table-few)

  read-long : length (take (16 * c.in_ok-opened.opened.total) c.open_file.new.records) ≡ 16 * c.in_ok-opened.opened.total
  read-long = length-take-le _ _ read-in

  table_long : length (take (2 * c.in_ok-opened.opened.edge_count) c.open_file.new.edges) ≡ 2 * c.in_ok-opened.opened.edge_count
  table_long = length-take-le _ _ table-in

pub returns-in_err-opened : goal.returns-in_err-opened
returns-in_err-opened c = let p = err_from_is_err_and c.from_residual.result c.from_residual.ensures.1 in rw (p.1, p.2)
    (apart_refused c.args.file.now c.args.records.now c.args.edges.now c.args.places.now c.requires.1 c.requires.2 c.requires.3 c.open_file.result c.open_file.ensures _ c.in_err-opened.was)

pub overflow_mul-bytes : goal.overflow_mul-bytes
overflow_mul-bytes c = omega (arith, read_few (goal.at.overflow_mul-bytes c).In_ok-opened)

pub overflow_mul-numbers : goal.overflow_mul-numbers
overflow_mul-numbers c = omega (arith, table-few (goal.at.overflow_mul-numbers c).In_ok-opened)

pub slice_bounds-read-end : goal.slice_bounds-read-end
slice_bounds-read-end c = read-in (goal.at.slice_bounds-read-end c).In_ok-opened

pub slice_bounds-hand_over-end : goal.slice_bounds-hand_over-end
slice_bounds-hand_over-end c = sym (read-long (goal.at.slice_bounds-hand_over-end c).In_ok-opened)

pub slice_bounds-table-end : goal.slice_bounds-table-end
slice_bounds-table-end c = table-in (goal.at.slice_bounds-table-end c).In_ok-opened

pub slice_bounds-hand_over-end-2 : goal.slice_bounds-hand_over-end-2
slice_bounds-hand_over-end-2 c = sym (table_long (goal.at.slice_bounds-hand_over-end-2 c).In_ok-opened)

pub hand_over-requires : goal.hand_over-requires
hand_over-requires c = (omega (arith, c.requires.1, read_few (goal.at.hand_over-requires c).In_ok-opened, read-long (goal.at.hand_over-requires c).In_ok-opened), omega (arith, c.requires.2, table-few (goal.at.hand_over-requires c).In_ok-opened, table_long (goal.at.hand_over-requires c).In_ok-opened))

pub returns : goal.returns
returns c = apart_done c.args.file.now c.args.records.now c.args.edges.now c.args.places.now c.requires.1 c.requires.2 c.requires.3 c.open_file.result c.open_file.ensures
    c.in_ok-opened.opened c.in_ok-opened.was c.hand_over.ensures.0 c.hand_over.ensures.1
