-- `write_opened` meets its contract: the parts of the places that are the file's are within them. Assumes nothing.
use mathlib.Core.Path.{sym}
use Prim.Native.Nat.{◌*◌, ◌≤◌}
use native.Mathlib.Omega.{arith}
use lib.ListN.{length}
use lib.Seq.{length-take-le}
use Rattle.listing.proofs.write_opened.Goals as goal

pub slice_bounds-write_run-end : goal.slice_bounds-write_run-end
slice_bounds-write_run-end g c = let h : 16 * c.args.total ≤ length c.args.records.now = omega (arith, c.requires) in sym (length-take-le _ _ h)

pub slice_bounds-write_run-end-2 : goal.slice_bounds-write_run-end-2
slice_bounds-write_run-end-2 g c = omega (arith, c.requires)

pub slice_bounds-write_run-end-3 : goal.slice_bounds-write_run-end-3
slice_bounds-write_run-end-3 g c = let h : c.args.n ≤ length c.args.values.now = omega (arith, c.requires) in sym (length-take-le _ _ h)
