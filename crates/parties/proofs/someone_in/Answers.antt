-- `someone_in` meets its contract: the entries are those of the parties. Assumes nothing.
use Rattle.std.proofs.Common.{◌≡◌, not, length, rules}
use borrow.Author.Tests.{tests}
use Rattle.locks.specs.declared.Stage.{Stage}
use Rattle.locks.specs.Stages.{is_out}
use Rattle.parties.proofs.Stages.{some_stage}
use Rattle.parties.proofs.someone_in.Goals as goal
use Rattle.parties.proofs.someone_in.Goals.{Start}

long : (c : Start) → length c.args.entries ≡ 32
long c = search rules

pub returns : goal.returns
returns c = some_stage (λ (s : Stage). not (is_out s)) c.args.entries (long (goal.at.returns c).Start) (cc) c.any.ensures.ran (λ x b q k. search (rules, tests))
