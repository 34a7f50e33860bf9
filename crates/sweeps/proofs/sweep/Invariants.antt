-- `sweep` meets its contract: the waiters taken so far have left what the pass over them leaves. Assumes nothing.
use Rattle.sweeps.proofs.Sweeps.{Passing}
use Rattle.sweeps.proofs.sweep.Given as goal

abbrev pub invariant-loop-party : goal.invariant-loop-party
invariant-loop-party l = Passing l.initial.next l.party-items l.next l.stay l.granted l.party-index
