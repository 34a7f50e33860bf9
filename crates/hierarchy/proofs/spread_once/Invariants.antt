-- `spread_once` meets its contract: the edges left, spread over the flags as they are, give the pass. Assumes nothing.
use Rattle.hierarchy.proofs.Spreads.{Spreading}
use Rattle.hierarchy.proofs.spread_once.Given as goal

abbrev pub invariant-loop-edge : goal.invariant-loop-edge
invariant-loop-edge l = Spreading l.edge-items l.initial.flags l.edge-index l.changed l.flags
