-- `list_opened` meets its contract: the parts of the places that are the file's are within them. Assumes nothing.
use mathlib.Core.Path.{◌≡◌, refl, sym}
use mathlib.Core.List.{List}
use Prim.Native.Nat.{ℕ, ◌*◌, ◌≤◌}
use native.Mathlib.Omega.{arith}
use lib.ListN.{length, take}
use lib.Seq.{length-take-le}
use Rattle.locks.specs.Lent.{lent}
use Rattle.replay.specs.Replay.{record_list, step_records}
use Rattle.lines.proofs.Files.{ready_shown}
use Rattle.lines.proofs.list_opened.Goals as goal

pub slice_bounds-list_built-end : goal.slice_bounds-list_built-end
slice_bounds-list_built-end c = let h : 16 * c.args.total ≤ length c.args.records.now = omega (arith, c.requires) in sym (length-take-le _ _ h)

pub slice_bounds-list_built-end-2 : goal.slice_bounds-list_built-end-2
slice_bounds-list_built-end-2 c = omega (arith, c.requires)

pub slice_bounds-list_built-end-3 : goal.slice_bounds-list_built-end-3
slice_bounds-list_built-end-3 c = let h : c.args.n ≤ length c.args.values.now = omega (arith, c.requires) in sym (length-take-le _ _ h)

pub list_built-requires : goal.list_built-requires
list_built-requires c = record { records_value = c.requires.records_value; values_len = length-take-le c.args.n c.args.values.now (omega (arith, c.requires)) }

pub returns : goal.returns
returns c = let long : length (take c.args.n c.args.values.now) ≡ c.args.n = length-take-le c.args.n c.args.values.now (omega (arith, c.requires)) in
    let rs : List (List ℕ) = record_list (take (16 * c.args.total) c.args.records.now) in
    ready_shown (lent c.args.n (take (2 * c.args.n) c.args.places.now) (take (2 * c.args.edge_count) c.args.edges.now) c.args.edge_count) rs (step_records rs)
    c.args.values.now c.args.text.now c.list_built.new.values refl (omega (arith, long, c.list_built.auto.values)) c.list_built.ensures
