-- `join_once` meets its contract: each edge keeps what a pass keeps, and where no set grew, none has anything left to do. Assumes nothing.
use Rattle.reach_sets.proofs.Joinings.{Joining}
use Rattle.reach_sets.proofs.join_once.Given as goal

abbrev pub invariant-loop-e : goal.invariant-loop-e
invariant-loop-e l = Joining l.edges.numbers.now l.edges.count l.initial.table l.e l.grown l.table
