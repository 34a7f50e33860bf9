-- `sets` meets its contract: what each of its ends leaves is what the definition says. Assumes nothing.
use mathlib.Core.Path.{◌≡◌, sym}
use Prim.Native.Nat.{◌*◌}
use native.Mathlib.Omega.{arith}
use lib.ListN.{length, take}
use lib.Seq.{length-take-le}
use Rattle.hierarchy.specs.Hierarchy.{edges_of, Legal}
use Rattle.lists.proofs.Parts.{laid}
use Rattle.intervals.proofs.Builds.{legal_of}
use Rattle.reach_sets.specs.Sets.{set_table}
use Rattle.reach_sets.proofs.Plains.{many_enough, sets_done}
use Rattle.reach_sets.proofs.sets.Goals as goal
use Rattle.reach_sets.proofs.sets.Goals.{In_ok-judge}

-- what is known where the hierarchy is legal
module _ (c : In_ok-judge) where
  legal : Legal c.args.n c.args.edges.now.numbers.now c.args.edges.now.count
  legal = legal_of c.args.n c.args.edges.now.numbers.now c.args.edges.now.count c.in_ok-judge.ensures

  words_long : length (take (4 * c.args.n) c.args.words.now) ≡ 4 * c.args.n
  words_long = length-take-le (4 * c.args.n) c.args.words.now (omega (arith, c.if-words-n.false))

pub slice_bounds-fill-end-2 : goal.slice_bounds-fill-end-2
slice_bounds-fill-end-2 c = sym (words_long (goal.at.slice_bounds-fill-end-2 c).In_ok-judge)

pub fill-requires : goal.fill-requires
fill-requires c =
    let r = (goal.at.fill-requires c).In_ok-judge in
    record { legal = legal r; whole = omega (arith, c.if-edges.false); long = words_long r }

pub returns : goal.returns
returns c =
    let r = (goal.at.returns c).In_ok-judge in
    let e = sets_done c.args.n c.args.edges.now.numbers.now c.args.edges.now.count c.args.words.now (many_enough c.args.n c.args.edges.now.numbers.now c.args.edges.now.count c.args.words.now c.if-words-n.false c.if-edges.false) (legal r) _
    (laid (4 * c.args.n) (set_table c.args.n (edges_of c.args.edges.now.numbers.now c.args.edges.now.count)) c.fill.new.table c.args.words.now c.fill.ensures (omega (arith, c.if-words-n.false)) c.fill.auto.table) in
    record { result_value = e.0; words_after = e.1 }
