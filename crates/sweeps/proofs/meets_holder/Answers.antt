-- `meets_holder` meets its contract: the entries are those of the parties. Assumes nothing.
use Rattle.std.proofs.Common.{◌≡◌, length, rules}
use borrow.Author.Tests.{tests}
use Rattle.locks.specs.declared.Stage.{Stage}
use Rattle.locks.specs.Stages.{against_holder}
use Rattle.parties.proofs.Stages.{some_stage}
use Rattle.sweeps.proofs.meets_holder.Goals as goal
use Rattle.sweeps.proofs.meets_holder.Goals.{Start}

long : (c : Start) → length c.args.entries.now ≡ 32
long c = search rules

pub returns : goal.returns
returns c = some_stage (λ (s : Stage). against_holder c.args.l s) c.args.entries.now (long (goal.at.returns c).Start) (cc) c.any.ensures.ran (λ x b q k. search (rules, tests))
