-- `edges` meets its contract: counted first, and written where they fit. Assumes nothing.
use mathlib.Core.Path.{◌≡◌, sym, ap, ◌∙◌}
use mathlib.Core.List.{List}
use Prim.Native.Nat.{ℕ, ◌/◌}
use lib.Dec.{ltb}
use lib.ListN.{length}
use borrow.Author.Tests.{lt-ltb, le-ltb}
use Rattle.lists.specs.Answer.{done}
use Rattle.replay.specs.Replay.{record_list, edge_count_of}
use Rattle.replay.proofs.Records.{edges_short, edges_done}
use Rattle.replay.proofs.edges.Goals as goal

pub returns-then-table-count : goal.returns-then-table-count
returns-then-table-count c = edges_short (record_list c.args.records.now) c.args.table.now (ap (ltb (length c.args.table.now / 2)) (sym c.edge_count-count.ensures) ∙ lt-ltb _ _ c.if-table-count.true)

pub returns : goal.returns
returns c = let l : List (List ℕ) = record_list c.args.records.now in
    let counted : c.edge_count-count.result ≡ edge_count_of l = c.edge_count-count.ensures in
    let both = edges_done l c.args.table.now c.put_edges.new.table
    (ap (ltb (length c.args.table.now / 2)) (sym counted) ∙ le-ltb _ _ c.if-table-count.false) c.put_edges.ensures in
    (ap done counted ∙ both.0, both.1)
