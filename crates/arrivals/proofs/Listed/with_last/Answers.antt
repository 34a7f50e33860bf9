-- `with_last` meets its contract: the party goes behind the list, or nowhere where the list is full. Assumes nothing.
use Rattle.std.proofs.Common.{◌≡◌, ◌∙◌, ap, rules, length}
use Rattle.lists.proofs.Loops.{field_length}
use Rattle.arrivals.specs.declared.Listed.{Listed}
use Rattle.arrivals.proofs.Queues.{last_pushed}
use Rattle.arrivals.proofs.Listed.with_last.Goals as goal
use Rattle.arrivals.proofs.Listed.with_last.Goals.{Start}

long : (c : Start) → length c.args.self.now.places ≡ 32
long c = search (field_length, rules)

pub returns : goal.returns
returns c = ap (λ (l : Listed). l.places) c.push.ensures ∙ rw c.tidy.ensures (last_pushed c.args.self.now c.args.party (long (goal.at.returns c).Start))
