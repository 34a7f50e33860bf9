-- `build_plain` meets its contract: over 256 nodes are refused, numbering judges the others, and what is legal is written. Assumes nothing.
use mathlib.Core.Path.{◌≡◌, sym, ◌∙◌}
use mathlib.Core.List.{List, ◌++◌}
use Prim.Native.Nat.{ℕ, ◌*◌, ◌≤◌}
use native.Mathlib.Omega.{arith}
use lib.ListN.{length, take, drop, replicate}
use lib.Seq.{length-take-le, length_front}
use Rattle.lists.proofs.Loops.{lent}
use Rattle.hierarchy.specs.Hierarchy.{edges_of, Legal}
use Rattle.intervals.specs.Numbering.{numbering}
use Rattle.reach_sets.proofs.Plains.{long_of, numbers_legal, numbers_are, room_built}
use Rattle.reach_sets.proofs.build_plain.Goals as goal
use Rattle.reach_sets.proofs.build_plain.Goals.{In_ok-numbers, Else-n-gt-NODES}

-- what is known of at most 256 nodes
module _ (c : Else-n-gt-NODES) where
  fresh_long : length {A = ℕ} (take c.args.n (replicate 256 0)) ≡ c.args.n
  fresh_long = length-take-le {A = ℕ} c.args.n (replicate 256 0) c.if-n-gt-NODES.false

  enough : (2 * c.args.n ≤ length c.args.places.now) × (2 * c.args.edges.now.count ≤ length c.args.edges.now.numbers.now) × (1024 ≤ length c.args.words.now)
  enough = long_of c.args.n c.args.edges.now.numbers.now c.args.edges.now.count c.args.places.now c.args.words.now c.requires

-- and once they are numbered
module _ (c : In_ok-numbers) where
  abbrev numbers : List ℕ
  numbers = c.numbers.new.places ++ drop c.args.n (replicate 256 0)

  numbers_room : c.args.n ≤ length numbers
  numbers_room = omega (arith, length_front {A = ℕ} (replicate 256 0) c.numbers.new.places c.args.n c.numbers.auto.places, c.if-n-gt-NODES.false)

  module _ (long : length {A = ℕ} (take c.args.n (replicate 256 0)) ≡ c.args.n) (whole : 2 * c.args.edges.now.count ≤ length c.args.edges.now.numbers.now) where
    legal : Legal c.args.n c.args.edges.now.numbers.now c.args.edges.now.count
    legal = numbers_legal c.args.n c.args.edges.now.numbers.now c.args.edges.now.count c.args.places.now (take c.args.n (replicate 256 0)) long whole c.in_ok-numbers.ensures.result_value

    numbered : take c.args.n numbers ≡ numbering c.args.n (edges_of c.args.edges.now.numbers.now c.args.edges.now.count)
    numbered =
        lent c.args.n c.numbers.new.places (replicate 256 0) c.if-n-gt-NODES.false c.numbers.auto.places
        ∙ c.numbers.ensures.places_after
        ∙ numbers_are c.args.n c.args.edges.now.numbers.now c.args.edges.now.count c.args.places.now (take c.args.n (replicate 256 0)) long whole legal

pub slice_bounds-numbers-end-2 : goal.slice_bounds-numbers-end-2
slice_bounds-numbers-end-2 c = sym (fresh_long (goal.at.slice_bounds-numbers-end-2 c).Else-n-gt-NODES)

pub slice_bounds-numbers-end-3 : goal.slice_bounds-numbers-end-3
slice_bounds-numbers-end-3 c = numbers_room (goal.at.slice_bounds-numbers-end-3 c).In_ok-numbers

pub slice_bounds-write_intervals-end : goal.slice_bounds-write_intervals-end
slice_bounds-write_intervals-end c =
    let k = (goal.at.slice_bounds-write_intervals-end c).In_ok-numbers in
    sym (length-take-le c.args.n (numbers k) (numbers_room k))

pub write_intervals-requires : goal.write_intervals-requires
write_intervals-requires c =
    let k = (goal.at.write_intervals-requires c).In_ok-numbers in
    let f = (goal.at.write_intervals-requires c).Else-n-gt-NODES in
    record {
      legal = legal k (fresh_long f) (enough f).1;
      whole = (enough f).1;
      numbered = numbered k (fresh_long f) (enough f).1;
      enough = (enough f).0;
      room = (enough f).2;
    }

pub returns : goal.returns
returns c =
    let k = (goal.at.returns c).In_ok-numbers in
    let f = (goal.at.returns c).Else-n-gt-NODES in
    let t = room_built c.args.n c.args.edges.now.numbers.now c.args.edges.now.count c.args.places.now (legal k (fresh_long f) (enough f).1) c.write_intervals.new.places c.write_intervals.ensures.places_after in
    record { result_value = t.0; places_after = t.1; words_unchanged = c.write_intervals.ensures.words_unchanged }
