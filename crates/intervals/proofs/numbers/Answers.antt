-- `numbers` meets its contract: what each of its ends leaves is what the definition says. Assumes nothing.
use mathlib.Core.Path.{◌≡◌, sym, ap, ◌∙◌}
use Prim.Native.Nat.{ℕ, ◌*◌, ◌≤◌}
use native.Mathlib.Omega.{arith}
use lib.ListN.{length, take, replicate}
use lib.Seq.{length-take-le}
use Rattle.hierarchy.specs.Hierarchy.{edges_of, Legal}
use Rattle.intervals.specs.Numbering.{numbering}
use Rattle.lists.proofs.Parts.{laid}
use Rattle.hierarchy.proofs.Legals.{Promise, promised}
use Rattle.intervals.proofs.Writes.{legal_edges}
use Rattle.intervals.proofs.Builds.{legal_of, many_enough, numbers_done}
use Rattle.intervals.proofs.numbers.Goals as goal
use Rattle.intervals.proofs.numbers.Goals.{In_ok-judge}

-- what is known where the hierarchy is legal
module _ (c : In_ok-judge) where
  legal : Legal c.args.n c.args.edges.now.numbers.now c.args.edges.now.count
  legal = legal_of c.args.n c.args.edges.now.numbers.now c.args.edges.now.count c.in_ok-judge.ensures

  promise : Promise c.args.n (edges_of c.args.edges.now.numbers.now c.args.edges.now.count)
  promise = promised c.args.n c.args.edges.now.numbers.now c.args.edges.now.count legal

  whole : 2 * c.args.edges.now.count ≤ length c.args.edges.now.numbers.now
  whole = omega (arith, c.if-edges.false)

  marks_long : length {A = ℕ} (take c.args.n (replicate 256 0)) ≡ c.args.n
  marks_long = length-take-le {A = ℕ} c.args.n (replicate 256 0) promise.few

  places_long : length (take c.args.n c.args.places.now) ≡ c.args.n
  places_long = length-take-le c.args.n c.args.places.now c.if-places-n.false

pub slice_bounds-marks-end : goal.slice_bounds-marks-end
slice_bounds-marks-end c = (promise (goal.at.slice_bounds-marks-end c).In_ok-judge).few

pub slice_bounds-number-end : goal.slice_bounds-number-end
slice_bounds-number-end c = sym (marks_long (goal.at.slice_bounds-number-end c).In_ok-judge)

pub number-requires : goal.number-requires
number-requires c =
    let r = (goal.at.number-requires c).In_ok-judge in
    rw (marks_long r)
    (record { some = (promise r).some; few = (promise r).few; alike = places_long r; ends = legal_edges c.args.n c.args.edges.now.numbers.now c.args.edges.now.count (legal r) (whole r) })

pub returns : goal.returns
returns c =
    let r = (goal.at.returns c).In_ok-judge in
    let e = numbers_done c.args.n c.args.edges.now.numbers.now c.args.edges.now.count c.args.places.now
    (many_enough c.args.n c.args.edges.now.numbers.now c.args.edges.now.count c.args.places.now c.if-places-n.false c.if-edges.false)
    (legal r) _
    (laid c.args.n (numbering c.args.n (edges_of c.args.edges.now.numbers.now c.args.edges.now.count)) c.number.new.numbers c.args.places.now
    (c.number.ensures ∙ ap (λ (k : ℕ). numbering k (edges_of c.args.edges.now.numbers.now c.args.edges.now.count)) (marks_long r)) c.if-places-n.false c.number.auto.numbers) in
    record { result_value = e.0; places_after = e.1 }
