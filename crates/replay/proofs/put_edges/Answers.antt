-- `put_edges` meets its contract: the edges left, written over the table as it is now, give the table with all of them. Assumes nothing.
use mathlib.Core.Path.{◌≡◌, refl, sym, ap, ◌∙◌}
use mathlib.Core.List.{List, ◌∷◌}
use Prim.Native.Nat.{ℕ, ◌+◌}
use native.Mathlib.Omega.{arith}
use lib.ListN.{length}
use Rattle.std.specs.Slice.Iter.{chunks_exact_rest, chunks_exact_size}
use Rattle.lists.specs.Lists.{over}
use Rattle.octets.specs.Writes.{over_at}
use Rattle.octets.proofs.Writes.{over_first, length_over}
use Rattle.replay.specs.Replay.{record_list, edge_table}
use Rattle.replay.specs.Inner.{edge_of}
use Rattle.replay.proofs.Records.{edge_table_length, table_length_step, table_turn, table_end}
use Rattle.replay.proofs.Chunks.{records_cons, records_none}
use Rattle.replay.proofs.put_edges.Goals as goal
use Rattle.replay.proofs.put_edges.Goals.{In-Some}

-- the record of a turn, and those behind it
module _ (c : In-Some) where
  abbrev r : List ℕ
  r = c.in-Some.bytes.now

  abbrev left : List (List ℕ)
  left = record_list (chunks_exact_rest c.next.new.self)

  rows : record_list (chunks_exact_rest c.loop-bytes.bytes-iterator) ≡ r ∷ left
  rows = let step = c.in-Some.ensures.steps in records_cons r _ step.1.0 (step.1.1 ∙ c.loop-bytes.invariant.0)

  more : length (edge_table (record_list (chunks_exact_rest c.loop-bytes.bytes-iterator))) ≡ length (edge_of r) + length (edge_table left)
  more = ap (λ (rs : List (List ℕ)). length (edge_table rs)) rows ∙ table_length_step r left

  turn : over_at (c.loop-bytes.at + length (edge_of r)) (edge_table left) (over_at c.loop-bytes.at (edge_of r) c.loop-bytes.table) ≡ over (edge_table (record_list c.args.records.now)) c.args.table.now
  turn =
      table_turn r left c.loop-bytes.at c.loop-bytes.table (omega (arith, table_length_step r left, more, c.loop-bytes.invariant.2))
      ∙ ap (λ (rs : List (List ℕ)). over_at c.loop-bytes.at (edge_table rs) c.loop-bytes.table) (sym rows)
      ∙ c.loop-bytes.invariant.3

pub loop-bytes-init : goal.loop-bytes-init
loop-bytes-init c = let items = c.chunks_exact-bytes-items.ensures in
    let given = c.into_iter-bytes-iterator.ensures.into_iter_gives in
    let whole = ap (λ (bytes : List ℕ). edge_table (record_list bytes)) (ap chunks_exact_rest given ∙ items.rest) in (
      ap chunks_exact_size given ∙ items.size,
      refl,
      omega (arith, ap length whole, edge_table_length (record_list c.args.records.now), c.requires),
      ap (λ (t : List ℕ). over_at 0 t c.args.table.now) whole ∙ over_first (edge_table (record_list c.args.records.now)) c.args.table.now,
    )

pub put_edge-at-requires : goal.put_edge-at-requires
put_edge-at-requires c = omega (arith, c.loop-bytes.invariant.2, more (goal.at.put_edge-at-requires c).In-Some)

pub loop-bytes-preserved : goal.loop-bytes-preserved
loop-bytes-preserved c = let i : In-Some = (goal.at.loop-bytes-preserved c).In-Some in
    let e : List ℕ = edge_of c.in-Some.bytes.now in
    let same : length c.put_edge-at.new.table ≡ length c.loop-bytes.table
    = ap length c.put_edge-at.ensures.1 ∙ length_over c.loop-bytes.table c.loop-bytes.at e (omega (arith, c.loop-bytes.invariant.2, more i)) in (
      c.in-Some.ensures.steps.0 ∙ c.loop-bytes.invariant.0,
      same ∙ c.loop-bytes.invariant.1,
      omega (arith, same, more i, c.loop-bytes.invariant.2, c.put_edge-at.ensures.0),
      ap (λ (k : ℕ). over_at k (edge_table (left i)) c.put_edge-at.new.table) c.put_edge-at.ensures.0
          ∙ ap (λ (t : List ℕ). over_at (c.loop-bytes.at + length e) (edge_table (left i)) t) c.put_edge-at.ensures.1
          ∙ turn i,
    )

pub returns : goal.returns
returns c = let none = records_none (chunks_exact_rest c.loop-bytes.bytes-iterator) (omega (arith, c.in-None.ensures.steps.1.0, c.loop-bytes.invariant.0)) in
    table_end c.loop-bytes.at c.loop-bytes.table ∙ ap (λ (rs : List (List ℕ)). over_at c.loop-bytes.at (edge_table rs) c.loop-bytes.table) (sym none) ∙ c.loop-bytes.invariant.3
