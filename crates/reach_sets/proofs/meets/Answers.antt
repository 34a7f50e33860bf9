-- `meets` meets its contract: it is enough to look at the four words. Assumes nothing.
use Prim.Native.Nat.{◌<◌}
use lib.Bits.{bit_and}
use lib.ListN.{get_or}
use Rattle.reach_sets.proofs.Nodes.{four, meets_words}
use Rattle.reach_sets.proofs.meets.Goals as goal

pub returns : goal.returns
returns c = rw (c.common.ensures.0, c.common-2.ensures.0, c.common-3.ensures.0, c.common-4.ensures.0)
    (meets_words c.args.a c.args.b
    (four (λ k. bit_and (get_or c.args.a.words k 0) (get_or c.args.b.words k 0) < 18446744073709551616) c.common.ensures.1 c.common-2.ensures.1 c.common-3.ensures.1 c.common-4.ensures.1))
