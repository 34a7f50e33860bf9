-- `is_listed` meets its contract: what is tested of each place. Assumes nothing.
use Rattle.std.proofs.Common.{eqb, rules}
use borrow.Author.Tests.{tests}
use Rattle.lists.proofs.Chains.{any_numbers}
use Rattle.arrivals.specs.Arrivals.{listed_in}
use Rattle.arrivals.proofs.is_listed.Goals as goal

pub returns : goal.returns
returns c = any_numbers (λ i. eqb (listed_in c.args.queue.now i) c.args.party) _ c.any.ensures.ran (λ x b q k. search (rules, tests))
