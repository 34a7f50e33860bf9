-- `relax_once` meets its contract: each edge keeps what a pass keeps, and where none changed anything, none has anything left to do. Assumes nothing.
use Prim.Native.Nat.{◌+◌, ◌*◌, ◌<◌}
use native.Mathlib.Omega.{arith}
use lib.ListN.{length}
use Rattle.intervals.proofs.Tables.{relaxing_start, in_table, relaxing_more, relaxing_end}
use Rattle.intervals.proofs.relax_once.Goals as goal
use Rattle.intervals.proofs.relax_once.Goals.{After-edge_at-ends}

-- the places of both ends are in the table, and a usize holds them
within : (c : After-edge_at-ends)
    → (2 * c.edge_at-ends.result.parent + 1 < length c.loop-turn.table) ×
    (2 * c.edge_at-ends.result.child + 1 < length c.loop-turn.table) × (length c.loop-turn.table < 18446744073709551616)
within c = let w = in_table _ _ _ _ c.requires _ _ _ c.loop-turn.invariant c.loop-turn-test.true c.turn_at.result c.turn_at.ensures
    c.edge_at-ends.result c.edge_at-ends.ensures in
    (w.0, w.1, omega (arith, c.loop-turn.invariant.long, c.well_formed))

pub loop-turn-init : goal.loop-turn-init
loop-turn-init c = relaxing_start _ _ _ _ (λ i. omega (arith, c.slice_known-1.given i))

pub overflow_mul-to : goal.overflow_mul-to
overflow_mul-to c = omega (arith, within (goal.at.overflow_mul-to c).After-edge_at-ends)

pub overflow_mul-from : goal.overflow_mul-from
overflow_mul-from c = omega (arith, within (goal.at.overflow_mul-from c).After-edge_at-ends)

pub improve-low-requires : goal.improve-low-requires
improve-low-requires c = let w = within (goal.at.improve-low-requires c).After-edge_at-ends in record { to_in_bounds = omega arith; from_in_bounds = omega arith }

pub overflow_add-to : goal.overflow_add-to
overflow_add-to c = omega (arith, within (goal.at.overflow_add-to c).After-edge_at-ends)

pub overflow_add-from : goal.overflow_add-from
overflow_add-from c = omega (arith, within (goal.at.overflow_add-from c).After-edge_at-ends)

pub improve-high-requires : goal.improve-high-requires
improve-high-requires c = let w = within (goal.at.improve-high-requires c).After-edge_at-ends in
    let n = c.improve-low.auto.table in record { to_in_bounds = omega arith; from_in_bounds = omega arith }

pub loop-turn-preserved : goal.loop-turn-preserved
loop-turn-preserved c = relaxing_more _ _ _ _ c.requires _ _ _ c.loop-turn.invariant c.loop-turn-test.true c.turn_at.result c.turn_at.ensures
    c.edge_at-ends.result c.edge_at-ends.ensures
    c.improve-low.new.table c.improve-high.new.table c.improve-low.result c.improve-high.result
    c.improve-low.ensures.value c.improve-low.ensures.table_after c.improve-high.ensures.value c.improve-high.ensures.table_after
    (λ k. omega (arith, c.slice_known-in-loop-turn-1.given k)) (λ k. omega (arith, c.slice_known-in-loop-turn-2-1.given k))
    c.improve-low.auto.table c.improve-high.auto.table

pub shape_of-table : goal.shape_of-table
shape_of-table c = c.loop-turn.invariant.long

pub returns : goal.returns
returns c = record {
  kept = c.loop-turn.invariant.lower;
  kept_2 = c.loop-turn.invariant.higher;
  went = c.loop-turn.invariant.went;
  settled = relaxing_end _ _ _ _ c.requires _ _ _ c.loop-turn.invariant c.loop-turn-test.false;
}
