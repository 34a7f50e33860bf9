-- `count_grants` meets its contract: what is left, counted over the counts as they are now, gives the final counts. Assumes nothing.
use Rattle.std.specs.Prelude.{◌≡◌, drop}
use Rattle.grants.specs.Grants.{count_grants}
use Rattle.grants.proofs.count_grants.Given as goal

abbrev pub invariant-loop-party : goal.invariant-loop-party
invariant-loop-party l = count_grants l.grants (drop l.party-index l.party-items) ≡ count_grants l.initial.grants l.party-items
