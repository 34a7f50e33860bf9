-- `put_edge` meets its contract: an edge's two ends are stored, and nothing of another record. Assumes nothing.
use mathlib.Core.Path.{◌≡◌, sym, ap, ◌∙◌}
use mathlib.Core.List.{List, []}
use Prim.Native.Nat.{ℕ, ◌+◌}
use native.Mathlib.Nat.{add-zero}
use native.Mathlib.Omega.{arith}
use lib.ListN.{length, set, length-set}
use Rattle.blocks.specs.Record.{parent_in}
use Rattle.octets.specs.Writes.{over_at}
use Rattle.octets.proofs.Writes.{over_none}
use Rattle.replay.specs.Inner.{edge_of}
use Rattle.replay.proofs.Records.{edge_none, edge_some, stores_pair}
use Rattle.replay.proofs.put_edge.Goals as goal

pub returns-then-not-is_edge : goal.returns-then-not-is_edge
returns-then-not-is_edge c = let e : edge_of c.args.bytes.now ≡ [] = edge_none c.args.bytes.now (sym c.is_edge.ensures ∙ c.if-not-is_edge.true) in
    (sym (ap (λ (t : List ℕ). c.args.at + length t) e ∙ add-zero c.args.at), sym (ap (λ (t : List ℕ). over_at c.args.at t c.args.table.now) e ∙ over_none c.args.table.now c.args.at))

pub bounds-table-at : goal.bounds-table-at
bounds-table-at c = let two = ap length (edge_some c.args.bytes.now (sym c.is_edge.ensures ∙ c.if-not-is_edge.false)) in omega (arith, c.requires, two)

pub bounds-table-at-2 : goal.bounds-table-at-2
bounds-table-at-2 c = let two = ap length (edge_some c.args.bytes.now (sym c.is_edge.ensures ∙ c.if-not-is_edge.false)) in simp length-set (omega (arith, c.requires, two))

pub returns : goal.returns
returns c = let r : List ℕ = c.args.bytes.now in
    let table : List ℕ = c.args.table.now in
    let e = edge_some r (sym c.is_edge.ensures ∙ c.if-not-is_edge.false) in
    let two : length (edge_of r) ≡ 2 = ap length e in (
      sym (ap (λ (k : ℕ). c.args.at + k) two),
      ap (λ (x : ℕ). set (set table c.args.at x) (c.args.at + 1) c.from-2.result) (c.from.ensures ∙ c.byte.ensures)
          ∙ ap (λ (x : ℕ). set (set table c.args.at (parent_in r)) (c.args.at + 1) x) (c.from-2.ensures ∙ c.byte-2.ensures)
          ∙ stores_pair table c.args.at _ _ (omega (arith, two, c.requires))
          ∙ ap (λ (t : List ℕ). over_at c.args.at t table) (sym e),
    )
