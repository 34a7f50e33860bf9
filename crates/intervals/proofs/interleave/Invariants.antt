-- `interleave` meets its contract: from the last node down, each number is written twice. Assumes nothing.
use Rattle.intervals.proofs.Doubles.{Doubling}
use Rattle.intervals.proofs.interleave.Given as goal

abbrev pub invariant-loop-node : goal.invariant-loop-node
invariant-loop-node l = Doubling l.n l.numbers l.initial.table l.node l.table
