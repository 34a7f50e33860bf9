-- `write_spans` meets its contract: from the last node down, low and high are written in turn. Assumes nothing.
use Rattle.reach_sets.proofs.Spans.{Writing}
use Rattle.reach_sets.proofs.write_spans.Given as goal

abbrev pub invariant-loop-node : goal.invariant-loop-node
invariant-loop-node l = Writing l.words l.numbers l.initial.places l.node l.places
