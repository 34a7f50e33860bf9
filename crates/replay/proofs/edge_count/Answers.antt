-- `edge_count` meets its contract: the edges counted, and those left, are all. Assumes nothing.
use mathlib.Core.Path.{◌≡◌, refl, ap, ◌∙◌}
use mathlib.Core.Bool.{Bool, true, false}
use mathlib.Core.List.{List}
use Prim.Native.Nat.{ℕ, ◌+◌, ◌≤◌}
use native.Mathlib.Nat.{zero-add}
use native.Mathlib.Omega.{arith}
use lib.Dec.{eqb}
use lib.ListN.{length}
use mir.Val.{bool_byte}
use Rattle.std.specs.Slice.Iter.{chunks_exact_rest, chunks_exact_size}
use Rattle.lists.specs.Lists.{one, count}
use Rattle.lists.proofs.Loops.{count_most}
use Rattle.blocks.specs.Record.{kind_of}
use Rattle.replay.specs.Replay.{record_list, edge_count_of}
use Rattle.replay.proofs.Records.{records_length}
use Rattle.replay.proofs.Chunks.{records_cons, records_none}
use Rattle.replay.proofs.edge_count.Goals as goal
use Rattle.replay.proofs.edge_count.Goals.{After-from-count}

-- the record of a turn counts as one, if it is an edge
module _ (c : After-from-count) where
  one_more : c.from-count.result ≡ one (eqb (kind_of c.in-Some.bytes.now) 2)
  one_more = c.from-count.ensures ∙ by c.is_edge.result ∙ ap one c.is_edge.ensures
    where
      by : (b : Bool) → bool_byte b ≡ one b
      by true = refl
      by false = refl

  turn : c.loop-bytes.count + c.from-count.result + edge_count_of (record_list (chunks_exact_rest c.next.new.self)) ≡ edge_count_of (record_list c.args.records.now)
  unfolding count
  turn =
      let step = c.in-Some.ensures.steps in
      let rows = ap edge_count_of (records_cons c.in-Some.bytes.now _ step.1.0 (step.1.1 ∙ c.loop-bytes.invariant.0)) in
      omega (arith, one_more, rows, c.loop-bytes.invariant.1)

pub loop-bytes-init : goal.loop-bytes-init
loop-bytes-init c = let items = c.chunks_exact-bytes-items.ensures in
    let given = c.into_iter-bytes-iterator.ensures.into_iter_gives in
    (ap chunks_exact_size given ∙ items.size, zero-add _ ∙ ap (λ (bytes : List ℕ). edge_count_of (record_list bytes)) (ap chunks_exact_rest given ∙ items.rest))

pub overflow_add-count : goal.overflow_add-count
overflow_add-count c = let all : edge_count_of (record_list c.args.records.now) ≤ length (record_list c.args.records.now) = count_most (λ (r : List ℕ). eqb (kind_of r) 2) (record_list c.args.records.now) in
    omega (arith, turn (goal.at.overflow_add-count c).After-from-count, all, records_length c.args.records.now, c.well_formed)

pub loop-bytes-preserved : goal.loop-bytes-preserved
loop-bytes-preserved c = (c.in-Some.ensures.steps.0 ∙ c.loop-bytes.invariant.0, turn (goal.at.loop-bytes-preserved c).After-from-count)

pub returns : goal.returns
unfolding count
returns c = let none = ap edge_count_of (records_none (chunks_exact_rest c.loop-bytes.bytes-iterator) (omega (arith, c.in-None.ensures.steps.1.0, c.loop-bytes.invariant.0))) in
    omega (arith, none, c.loop-bytes.invariant.1)
