-- `open_file` meets its contract: the file is refused as reading refuses it, or its records are opened. Assumes nothing.
use mathlib.Core.Path.{◌≡◌, sym}
use Prim.Native.Nat.{◌*◌, ◌≤◌}
use native.Mathlib.Omega.{arith}
use lib.ListN.{length, take}
use lib.Seq.{length-take-le}
use Rattle.std.proofs.lemmas.Result.{err_from_is_err_and}
use Rattle.opening.proofs.Opens.{read_room, read_refused, read_done, read_few, read_front, file_refused, file_opened}
use Rattle.opening.proofs.open_file.Goals as goal
use Rattle.opening.proofs.open_file.Goals.{In_ok-total}

-- the records that were read
module _ (c : In_ok-total) where
  few : 16 * c.in_ok-total.total ≤ 63488
  few = read_few c.args.file.now c.args.records.now c.requires.0 c.requires.1 c.read.result c.read.ensures.0 c.in_ok-total.total c.in_ok-total.was

  within : 16 * c.in_ok-total.total ≤ length c.read.new.room
  within = omega (arith, c.requires.1, c.read.auto.room, few)

  long : length (take (16 * c.in_ok-total.total) c.read.new.room) ≡ 16 * c.in_ok-total.total
  long = length-take-le _ _ within

pub returns-in_err-total : goal.returns-in_err-total
returns-in_err-total c = let p = err_from_is_err_and c.from_residual.result c.from_residual.ensures.1 in rw (p.1, p.2)
    (file_refused c.args.file.now c.args.records.now c.args.edges.now c.args.places.now _
    (read_refused c.args.file.now c.args.records.now c.requires.0 c.requires.1 c.read.result c.read.ensures.0 _ c.in_err-total.was)
    (read_room c.args.file.now c.args.records.now c.requires.0 c.requires.1 c.read.result c.read.ensures.0 c.read.ensures.1))

pub overflow_mul-end : goal.overflow_mul-end
overflow_mul-end c = omega (arith, few (goal.at.overflow_mul-end c).In_ok-total)

pub slice_bounds-open_records-end : goal.slice_bounds-open_records-end
slice_bounds-open_records-end c = within (goal.at.slice_bounds-open_records-end c).In_ok-total

pub slice_bounds-open_records-end-2 : goal.slice_bounds-open_records-end-2
slice_bounds-open_records-end-2 c = sym (long (goal.at.slice_bounds-open_records-end-2 c).In_ok-total)

pub open_records-requires : goal.open_records-requires
open_records-requires c = (omega (arith, long (goal.at.open_records-requires c).In_ok-total, few (goal.at.open_records-requires c).In_ok-total), c.requires.2, c.requires.3)

pub returns : goal.returns
returns c = let d = read_done c.args.file.now c.args.records.now c.requires.0 c.requires.1 c.read.result c.read.ensures.0 c.in_ok-total.total c.in_ok-total.was in
    file_opened c.args.file.now c.args.records.now c.args.edges.now c.args.places.now c.open_records.result d.0 d.1
    (read_room c.args.file.now c.args.records.now c.requires.0 c.requires.1 c.read.result c.read.ensures.0 c.read.ensures.1)
    (read_front c.args.file.now c.args.records.now c.requires.0 c.requires.1 c.read.result c.read.ensures.0 c.in_ok-total.total c.in_ok-total.was c.read.ensures.1) c.open_records.ensures
