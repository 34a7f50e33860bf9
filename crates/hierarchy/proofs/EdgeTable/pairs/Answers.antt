-- `EdgeTable::pairs` meets its contract: it has the whole pairs of the table, as many as are counted. Assumes nothing.
use mathlib.Core.Path.{ap, ◌∙◌}
use native.Mathlib.Omega.{arith}
use lib.ListN.{take}
use Rattle.hierarchy.proofs.Pairs.{table_pairs}
use Rattle.hierarchy.proofs.EdgeTable.pairs.Goals as goal

pub returns : goal.returns
returns c = ap (take c.min.result) c.as_chunks.ensures.front ∙ table_pairs c.args.self.now.count c.min.result c.args.self.now.numbers.now (omega (arith, c.as_chunks.ensures.front_len))
