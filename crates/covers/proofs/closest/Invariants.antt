-- `closest` meets its contract: it has the closest of the nodes that it has looked at, and the interval of that. Assumes nothing.
use Rattle.covers.proofs.Covers.{Looking}
use Rattle.covers.proofs.closest.Given as goal

abbrev pub invariant-loop-node : goal.invariant-loop-node
invariant-loop-node l = Looking l.intervals l.call l.node l.best l.around
