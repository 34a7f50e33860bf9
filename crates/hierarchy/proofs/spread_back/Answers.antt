-- `spread_back` meets its contract: each turn flags what its edge leads to. Assumes nothing.
use Rattle.std.proofs.Common.{◌≡◌}
use Rattle.hierarchy.specs.Hierarchy.{edges_in}
use Rattle.hierarchy.specs.Inner.{pairs}
use Rattle.hierarchy.proofs.Spreads.{grown_none, grown_follow}
use Rattle.hierarchy.proofs.Pairs.{whole, whole_last, whole_before}
use Rattle.hierarchy.proofs.spread_back.Goals as goal

pub loop-edge-init : goal.loop-edge-init
loop-edge-init c =
    let e : c.into_iter-edge-iterator.result.iter.rest.now ≡ pairs (edges_in c.args.edges.now) = cc in
    record { grown = grown_none _ _ c.requires; left = rw e (whole (edges_in c.args.edges.now)) }

pub loop-edge-preserved : goal.loop-edge-preserved
loop-edge-preserved c =
    let left = rw c.in-Some.ensures.steps at c.loop-edge.invariant.left in
    record {
      grown = rw c.follow.ensures.flags_after (grown_follow _ _ _ _ _ c.loop-edge.invariant.grown (whole_last _ _ _ left));
      left = whole_before _ _ _ left;
    }
