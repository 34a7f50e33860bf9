-- `write_intervals` meets its contract: the numbers are doubled and relaxed, and that is the table of the intervals. Assumes nothing.
use mathlib.Core.Path.{◌≡◌, ap, ◌∙◌}
use Prim.Native.Nat.{◌*◌}
use native.Mathlib.Omega.{arith}
use lib.ListN.{length}
use Rattle.hierarchy.specs.Hierarchy.{edges_of}
use Rattle.intervals.specs.Numbering.{numbering}
use Rattle.intervals.specs.Inner.{doubled, lows}
use Rattle.hierarchy.proofs.Legals.{promised}
use Rattle.intervals.proofs.Tables.{lows_long}
use Rattle.intervals.proofs.Writes.{legal_edges, written}
use Rattle.intervals.proofs.write_intervals.Goals as goal
use Rattle.intervals.proofs.write_intervals.Goals.{After-interleave}

module _ (c : After-interleave) where
  long : length c.interleave.new.table ≡ 2 * c.args.n
  long = c.interleave.auto.table ∙ c.requires.long

  doubles : c.interleave.new.table ≡ doubled (numbering c.args.n (edges_of c.args.edges.now.numbers.now c.args.edges.now.count))
  doubles = c.interleave.ensures ∙ ap doubled c.requires.numbered

pub interleave-requires : goal.interleave-requires
interleave-requires c = record { n_in_bounds = c.requires.enough; table_len = c.requires.long }

pub settle-requires : goal.settle-requires
settle-requires c =
    let e : length (lows c.interleave.new.table) ≡ c.args.n = omega (arith, lows_long c.interleave.new.table, long (goal.at.settle-requires c).After-interleave) in
    rw e (legal_edges c.args.n c.args.edges.now.numbers.now c.args.edges.now.count c.requires.legal c.requires.whole)

pub returns : goal.returns
returns c =
    let l = (goal.at.returns c).After-interleave in
    written c.args.n (edges_of c.args.edges.now.numbers.now c.args.edges.now.count) (promised c.args.n c.args.edges.now.numbers.now c.args.edges.now.count c.requires.legal) c.interleave.new.table c.settle.new.table
    (doubles l) (λ i. omega (arith, c.slice_known-2-1.given i)) (c.settle.auto.table ∙ long l) c.settle.ensures.best c.settle.ensures.best_2
