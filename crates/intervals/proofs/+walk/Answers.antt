-- `walk` meets its contract. Assumes nothing.
use mathlib.Core.Path.{◌≡◌, sym, ap, ◌∙◌}
use mathlib.Core.Bool.{Bool, false}
use mathlib.Core.List.{List}
use Prim.Native.Nat.{ℕ, ◌+◌, ◌<◌, ◌≤◌}
use native.Mathlib.Omega.{arith}
use lib.ListN.{length, set, length-set}
use Rattle.hierarchy.specs.Hierarchy.{edges_of}
use Rattle.intervals.specs.Numbering.{Walk, at as walk_at, walk as walked, meet, marked}
use Rattle.lists.specs.Lists.{zeros}
use Rattle.intervals.specs.Inner.{Ready}
use Rattle.hierarchy.specs.Inner.{ends_at}
use Rattle.hierarchy.specs.declared.Ends.{Ends}
use Rattle.lists.proofs.Marks.{opened}
use Rattle.lists.proofs.Loops.{get_d_any}
use Rattle.intervals.proofs.Walks.{Left, left_start, left_within, left_other, left_child, left_end, walk_end, meet_unseen, meet_other, meet_open, meet_numbered, last_if}
use Rattle.intervals.proofs.+walk.Goals as goal
use Rattle.intervals.proofs.+walk.Goals.{Joined-ends-node, then-ends-node+then-unseen, then-ends-node+else-unseen+then-open+then-unnumbered, then-ends-node+else-unseen+else-open, else-open-via-then-open+else-unnumbered, else-open-via-else-open, else-ends-node}

-- what is known in the loop
module _ {node next count : ℕ} {edges marks numbers : List ℕ} (ready : Ready node next count edges marks numbers) where
  one_less : zeros (set marks node 1) + 1 ≡ zeros marks
  one_less = opened marks node ready.here ready.unseen

  module _ {e at : ℕ} {leaf : Bool} {ms ns : List ℕ} (so_far : Left edges count node (walk_at next (set marks node 1) numbers) e leaf (walk_at at ms ns)) where
    marks_long : length ms ≡ length marks
    marks_long = so_far.after.marks_long ∙ length-set marks node 1

    numbers_long : length ns ≡ length marks
    numbers_long = so_far.after.numbers_long ∙ ready.alike

    few : at + 1 < 65536
    few = omega (arith, ready.room, one_less, so_far.after.room)

    -- the loop is done
    done : count ≤ e → (k : ℕ) → zeros marks ≤ k
        → marked node 2 (last_if leaf node (walk_at at ms ns)) ≡ walked k (edges_of edges count) node (walk_at next marks numbers)
    done h =
        walk_end (edges_of edges count) node (walk_at next marks numbers) (last_if leaf node (walk_at at ms ns))
        (get_d_any marks node 2 0 ready.here ∙ ready.unseen)
        (left_end (length marks) count edges ready.ends node _ e leaf (walk_at at ms ns) so_far h)

    -- and at the edge that a turn reads
    module _ (more : e < count) {ends : Ends} (read : ends ≡ ends_at edges e) where
      in_marks : ends.child < length ms
      in_marks = omega (arith, marks_long, left_within (length marks) count edges ready.ends node _ e leaf (walk_at at ms ns) so_far more ends read)

      in_numbers : ends.child < length ns
      in_numbers = omega (arith, in_marks, marks_long, numbers_long)

      -- what is left after the turn
      abbrev Next : Bool → Walk → Type 0
      Next leaf' s = Left edges count node (walk_at next (set marks node 1) numbers) (e + 1) leaf' s

      other : (ends.parent ≡ node → ⊥) → Next leaf (walk_at at ms ns)
      other = left_other (length marks) count edges ready.ends node _ e leaf (walk_at at ms ns) so_far more ends read

      met : ends.parent ≡ node → (s : Walk)
          → ((k : ℕ) → zeros (set marks node 1) ≤ k → s ≡ meet (walked k (edges_of edges count)) ends.child (walk_at at ms ns))
          → Next false s
      met p s q = left_child (length marks) count edges ready.ends node _ e leaf (walk_at at ms ns) so_far more ends read p ready.first s q

pub loop-e-init : goal.loop-e-init
loop-e-init t c = left_start (length c.args.marks.now) _ _ c.requires.ends _ _

pub bounds-marks-child : goal.bounds-marks-child
bounds-marks-child t c = in_marks c.requires c.loop-e.invariant c.loop-e-test.true c.edge_at-ends.ensures

pub bounds-marks-child-then-ends-node : goal.bounds-marks-child-then-ends-node
bounds-marks-child-then-ends-node t c = in_marks c.requires c.loop-e.invariant c.loop-e-test.true c.edge_at-ends.ensures

pub offset_bounds-numbers-child : goal.offset_bounds-numbers-child
offset_bounds-numbers-child t c = let h = in_numbers c.requires c.loop-e.invariant c.loop-e-test.true c.edge_at-ends.ensures in omega (arith, h, c.well_formed)

pub bounds-numbers-child : goal.bounds-numbers-child
bounds-numbers-child t c = in_numbers c.requires c.loop-e.invariant c.loop-e-test.true c.edge_at-ends.ensures

pub walk-at-requires : goal.walk-at-requires
walk-at-requires t c =
    let inv = c.loop-e.invariant in (
      omega (arith, c.decreases, one_less c.requires, inv.after.seen),
      record {
        here = in_marks c.requires inv c.loop-e-test.true c.edge_at-ends.ensures;
        unseen = c.if-unseen.true;
        alike = numbers_long c.requires inv ∙ sym (marks_long c.requires inv);
        ends = rw (marks_long c.requires inv) c.requires.ends;
        first = omega (arith, c.requires.first, inv.after.up);
        room = omega (arith, c.requires.room, one_less c.requires, inv.after.room);
      },
    )

pub overflow_add-at : goal.overflow_add-at
overflow_add-at t c = omega (arith, few c.requires c.loop-e.invariant)

-- at each end of the turn
module _ (t : ℕ) (c : Joined-ends-node t) where
  abbrev now : Walk
  now = walk_at c.loop-e.at c.loop-e.marks c.loop-e.numbers

  in_table : c.edge_at-ends.result.child < length c.loop-e.marks
  in_table = in_marks c.requires c.loop-e.invariant c.loop-e-test.true c.edge_at-ends.ensures

  numbered_too : c.edge_at-ends.result.child < length c.loop-e.numbers
  numbered_too = in_numbers c.requires c.loop-e.invariant c.loop-e-test.true c.edge_at-ends.ensures

  met_as : c.edge_at-ends.result.parent ≡ c.args.node → (s : Walk)
      → ((k : ℕ) → zeros (set c.args.marks.now c.args.node 1) ≤ k → meet (walked k (edges_of c.args.edges.now.numbers.now c.args.edges.now.count)) c.edge_at-ends.result.child now ≡ s)
      → Next c.requires c.loop-e.invariant c.loop-e-test.true c.edge_at-ends.ensures false s
  met_as p s q = met c.requires c.loop-e.invariant c.loop-e-test.true c.edge_at-ends.ensures p s (λ k h. sym (q k h))

pub loop-e-preserved : goal.loop-e-preserved
loop-e-preserved t c =
    let inv = c.loop-e.invariant in
    elim c.if-ends-node.branch [
      | then-ends-node+then-unseen w ↦
          rw (w.leaf-is, w.at-is, w.marks-is, w.numbers-is)
          (met_as t c w.if-ends-node.true _
          (λ k le. meet_unseen _ c.edge_at-ends.result.child (now t c) (in_table t c) w.if-unseen.true ∙ sym (w.walk-at.ensures k (omega (arith, inv.after.seen)))))
      | then-ends-node+else-unseen+then-open+then-unnumbered w ↦
          rw (w.leaf-is, w.at-is, w.marks-is, w.numbers-is)
          (met_as t c w.if-ends-node.true _
          (λ k le. meet_open _ c.edge_at-ends.result.child (now t c) (in_table t c) (numbered_too t c) w.if-open.true w.if-unnumbered.true))
      | then-ends-node+else-unseen+else-open w ↦
          rw (w.leaf-is, w.at-is, w.marks-is, w.numbers-is)
          (met_as t c w.if-ends-node.true _
          (λ k le. elim w.else-open.branch [
            | else-open-via-then-open+else-unnumbered v ↦
                meet_numbered _ c.edge_at-ends.result.child (now t c) (in_table t c) (numbered_too t c) v.if-open.true v.if-unnumbered.false
            | else-open-via-else-open v ↦ meet_other _ c.edge_at-ends.result.child (now t c) (in_table t c) w.if-unseen.false v.if-open.false
          ]))
      | else-ends-node w ↦ rw (w.leaf-is, w.at-is, w.marks-is, w.numbers-is) (other c.requires inv c.loop-e-test.true c.edge_at-ends.ensures w.if-ends-node.false)
    ]

pub overflow_add-result : goal.overflow_add-result
overflow_add-result t c = omega (arith, few c.requires c.loop-e.invariant)

pub returns-then-leaf : goal.returns-then-leaf
returns-then-leaf t c = λ k h.
    ap (λ (b : Bool). marked c.args.node 2 (last_if b c.args.node (walk_at c.loop-e.at c.loop-e.marks c.loop-e.numbers))) (sym c.if-leaf.true)
    ∙ done c.requires c.loop-e.invariant c.loop-e-test.false k h

pub returns-else-leaf : goal.returns-else-leaf
returns-else-leaf t c = λ k h.
    ap (λ (b : Bool). marked c.args.node 2 (last_if b c.args.node (walk_at c.loop-e.at c.loop-e.marks c.loop-e.numbers))) (sym c.if-leaf.false)
    ∙ done c.requires c.loop-e.invariant c.loop-e-test.false k h
