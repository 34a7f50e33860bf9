-- `gather` meets its contract: the entries passed so far are right and apart, and the holds among them stand. Assumes nothing.
use Rattle.locks.specs.Lent.{lent_in}
use Rattle.parties.proofs.Holders.{Gathering}
use Rattle.parties.proofs.gather.Given as goal

abbrev pub invariant-loop-party : goal.invariant-loop-party
invariant-loop-party l = Gathering (lent_in l.tables) l.entries l.list l.party l.standing
