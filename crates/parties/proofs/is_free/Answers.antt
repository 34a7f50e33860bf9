-- `is_free` meets its contract: the entries are those of the parties. Assumes nothing.
use Rattle.std.proofs.Common.{◌≡◌, not, ap, ◌||◌, length, rules}
use borrow.Author.Tests.{tests}
use Rattle.locks.specs.declared.Stage.{Stage}
use Rattle.locks.specs.Stages.{against_holder, against_waiter}
use Rattle.parties.proofs.Stages.{some_stage}
use Rattle.parties.proofs.is_free.Goals as goal
use Rattle.parties.proofs.is_free.Goals.{Start}

long : (c : Start) → length c.args.entries ≡ 32
long c = search rules

pub returns : goal.returns
returns c = ap not (some_stage (λ (s : Stage). against_holder c.args.l s || against_waiter c.args.l s) c.args.entries (long (goal.at.returns c).Start) (cc) c.any.ensures.ran (λ x b q k. search (rules, tests)))
