-- `without` meets its contract: those kept so far stand in the rest. Assumes nothing.
use Rattle.std.specs.Prelude.{not, eqb, take}
use Rattle.lists.specs.Lists.{keep}
use Rattle.arrivals.specs.Arrivals.{Lists}
use Rattle.arrivals.proofs.Listed.without.Given as goal

abbrev pub invariant-loop-other : goal.invariant-loop-other
invariant-loop-other l = Lists l.rest (keep (λ other. not (eqb other l.party)) (take l.other-index l.other-items))
