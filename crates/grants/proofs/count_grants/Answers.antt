-- `count_grants` meets its contract: the grants left, counted from here on, give all of them. Assumes nothing.
use Rattle.std.proofs.Common.{ap, sym, ◌∙◌, take, ℕ}
use Rattle.std.proofs.lemmas.List.{take_min}
use Rattle.grants.specs.Grants.{count_grants}
use Rattle.grants.proofs.Counts.{grants_turn, grants_end}
use Rattle.grants.proofs.count_grants.Goals as goal

pub loop-party-preserved : goal.loop-party-preserved
loop-party-preserved c = grants_turn c.loop-party.grants (take c.min.result c.args.parties.now) c.loop-party.party-index c.loop-party.invariant (sym c.from.ensures) c.loop-party-test.true c.count_grant.ensures

pub returns : goal.returns
returns c = grants_end c.loop-party.grants (take c.min.result c.args.parties.now) c.loop-party.party-index c.loop-party.invariant c.loop-party-test.false ∙ ap (count_grants c.args.grants.now) (ap (λ (k : ℕ). take k c.args.parties.now) c.min.ensures ∙ take_min c.args.count c.args.parties.now)
