-- `build` meets its contract: what each of its ends leaves is what the definition says, for the answer, the places and the scratch. Assumes nothing.
use mathlib.Core.Path.{◌≡◌, sym, ap, ◌∙◌}
use mathlib.Core.Bool.{false}
use mathlib.Core.List.{List, ◌++◌}
use Prim.Native.Nat.{ℕ, ◌*◌, ◌≤◌}
use native.Mathlib.Omega.{arith}
use lib.ListN.{length, take, drop, replicate}
use lib.Seq.{length-take-le, length_front}
use Rattle.lists.specs.Lists.{over}
use Rattle.hierarchy.specs.Hierarchy.{edges_of, Legal}
use Rattle.intervals.specs.Intervals.{interval_table}
use Rattle.intervals.specs.Numbering.{numbering}
use Rattle.intervals.specs.Build.{build_short}
use Rattle.lists.proofs.Loops.{lent}
use Rattle.lists.proofs.Parts.{behind, laid, zeroed, enough_cleared}
use Rattle.hierarchy.proofs.Legals.{Promise, promised}
use Rattle.intervals.proofs.Writes.{legal_edges}
use Rattle.intervals.proofs.Builds.{legal_of, long_enough, left_built}
use Rattle.intervals.proofs.build.Goals as goal
use Rattle.intervals.proofs.build.Goals.{After-number, After-judge, In_default}

-- what is known once the hierarchy is judged
enough : (c : After-judge) → build_short c.args.n c.args.edges.now.numbers.now c.args.edges.now.count c.args.places.now c.args.scratch.now ≡ false
enough c = long_enough c.args.n c.args.edges.now.numbers.now c.args.edges.now.count c.args.places.now c.args.scratch.now c.if-places-n.false c.if-edges.false (omega arith)

-- what is known where it is legal
module _ (c : In_default) where
  legal : Legal c.args.n c.args.edges.now.numbers.now c.args.edges.now.count
  legal = legal_of c.args.n c.args.edges.now.numbers.now c.args.edges.now.count c.in_default.ensures

  promise : Promise c.args.n (edges_of c.args.edges.now.numbers.now c.args.edges.now.count)
  promise = promised c.args.n c.args.edges.now.numbers.now c.args.edges.now.count legal

  whole : 2 * c.args.edges.now.count ≤ length c.args.edges.now.numbers.now
  whole = omega (arith, c.if-edges.false)

  marks_long : length (take c.args.n c.args.scratch.now) ≡ c.args.n
  marks_long = length-take-le c.args.n c.args.scratch.now (omega (arith, promise.few))

  numbers_long : length {A = ℕ} (take c.args.n (replicate 256 0)) ≡ c.args.n
  numbers_long = length-take-le {A = ℕ} c.args.n (replicate 256 0) promise.few

  table_long : length (take (2 * c.args.n) c.args.places.now) ≡ 2 * c.args.n
  table_long = length-take-le (2 * c.args.n) c.args.places.now (omega (arith, c.if-places-n.false))

-- and once the nodes are numbered
module _ (c : After-number) (right : Promise c.args.n (edges_of c.args.edges.now.numbers.now c.args.edges.now.count)) where
  abbrev numbers : List ℕ
  numbers = c.number.new.numbers ++ drop c.args.n (replicate 256 0)

  abbrev marked : List ℕ
  marked = c.number.new.marks ++ drop c.args.n c.args.scratch.now

  few : c.args.n ≤ length numbers
  few = omega (arith, length_front {A = ℕ} (replicate 256 0) c.number.new.numbers c.args.n c.number.auto.numbers, right.few)

  numbered : length (take c.args.n c.args.scratch.now) ≡ c.args.n → take c.args.n numbers ≡ numbering c.args.n (edges_of c.args.edges.now.numbers.now c.args.edges.now.count)
  numbered long =
      lent c.args.n c.number.new.numbers (replicate 256 0) right.few c.number.auto.numbers
      ∙ c.number.ensures
      ∙ ap (λ (m : ℕ). numbering m (edges_of c.args.edges.now.numbers.now c.args.edges.now.count)) long

  room : 512 ≤ length marked
  room = omega (arith, length_front c.args.scratch.now c.number.new.marks c.args.n c.number.auto.marks)

  wiped : over (replicate 512 0) marked ≡ over (replicate 512 0) c.args.scratch.now
  wiped =
      zeroed 512 marked c.args.scratch.now
      (behind 512 c.args.n c.number.new.marks c.args.scratch.now (omega (arith, right.few)) (omega (arith, right.few)) c.number.auto.marks)

pub slice_bounds-number-end : goal.slice_bounds-number-end
slice_bounds-number-end c = omega (arith, (promise (goal.at.slice_bounds-number-end c).In_default).few)

pub slice_bounds-number-end-2 : goal.slice_bounds-number-end-2
slice_bounds-number-end-2 c = sym (marks_long (goal.at.slice_bounds-number-end-2 c).In_default)

pub slice_bounds-numbers-end : goal.slice_bounds-numbers-end
slice_bounds-numbers-end c = (promise (goal.at.slice_bounds-numbers-end c).In_default).few

pub slice_bounds-number-end-3 : goal.slice_bounds-number-end-3
slice_bounds-number-end-3 c = sym (numbers_long (goal.at.slice_bounds-number-end-3 c).In_default)

pub number-requires : goal.number-requires
number-requires c =
    let r = (goal.at.number-requires c).In_default in
    rw (marks_long r)
    (record { some = (promise r).some; few = (promise r).few; alike = numbers_long r; ends = legal_edges c.args.n c.args.edges.now.numbers.now c.args.edges.now.count (legal r) (whole r) })

pub slice_bounds-write_intervals-end : goal.slice_bounds-write_intervals-end
slice_bounds-write_intervals-end c = sym (length_front {A = ℕ} (replicate 256 0) c.number.new.numbers c.args.n c.number.auto.numbers)

pub slice_bounds-write_intervals-end-3 : goal.slice_bounds-write_intervals-end-3
slice_bounds-write_intervals-end-3 c = sym (table_long (goal.at.slice_bounds-write_intervals-end-3 c).In_default)

pub write_intervals-requires : goal.write_intervals-requires
write_intervals-requires c =
    let r = (goal.at.write_intervals-requires c).In_default in
    let m = (goal.at.write_intervals-requires c).After-number in
    record { legal = legal r; whole = whole r; enough = few m (promise r); numbered = numbered m (promise r) (marks_long r); long = table_long r }

pub returns : goal.returns
returns c =
    let r = (goal.at.returns c).In_default in
    let m = (goal.at.returns c).After-number in
    let e = left_built c.args.n c.args.edges.now.numbers.now c.args.edges.now.count c.args.places.now c.args.scratch.now (enough (goal.at.returns c).After-judge) c.clear_first-2.new.bytes
    (enough_cleared 512 (marked m (promise r)) c.clear_first-2.new.bytes (room m (promise r)) c.clear_first-2.ensures ∙ wiped m (promise r))
    (legal r) _
    (laid (2 * c.args.n) (interval_table c.args.n (edges_of c.args.edges.now.numbers.now c.args.edges.now.count)) c.write_intervals.new.table c.args.places.now c.write_intervals.ensures
    (omega (arith, c.if-places-n.false)) c.write_intervals.auto.table) in
    record { result_value = e.0; places_after = e.1.0; scratch_after = e.1.1 }
