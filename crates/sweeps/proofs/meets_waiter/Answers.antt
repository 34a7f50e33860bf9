-- `meets_waiter` meets its contract: the waiters are those at the first places. Assumes nothing.
use Rattle.std.proofs.Common.{◌≡◌, ◌∙◌, ap, length, take, rules, ℕ, Bool}
use Rattle.std.proofs.lemmas.Iterator.{YieldsList-from_slice}
use Rattle.std.proofs.lemmas.Iterator.Search.{any_from_yields_List}
use borrow.Author.Tests.{tests}
use Rattle.lists.specs.Lists.{any}
use Rattle.lists.proofs.Loops.{field_length}
use Rattle.lists.proofs.Std.{any_std}
use Rattle.locks.specs.Stages.{against_waiter}
use Rattle.arrivals.proofs.Queues.{cut_take}
use Rattle.parties.specs.Parties.{stage_in}
use Rattle.sweeps.proofs.meets_waiter.Goals as goal
use Rattle.sweeps.proofs.meets_waiter.Goals.{Start}

long : (c : Start) → length c.args.list.now.places ≡ 32
long c = search (field_length, rules)

pub returns : goal.returns
returns c = let test : ℕ → Bool = λ party. against_waiter c.args.l (stage_in c.args.entries.now party) in
    let waiters = take c.min.result c.args.list.now.places in
    any_from_yields_List (λ party. against_waiter c.args.l (stage_in c.args.entries.now party)) _ _ _ c.any.ensures.ran (YieldsList-from_slice waiters cc) (λ x b q k. search (rules, tests))
    ∙ any_std (λ party. against_waiter c.args.l (stage_in c.args.entries.now party)) waiters
    ∙ ap (any (λ party. against_waiter c.args.l (stage_in c.args.entries.now party)))
    (cut_take c.args.list.now.places c.args.list.now.count c.min.result (long (goal.at.returns c).Start) c.min.ensures)
