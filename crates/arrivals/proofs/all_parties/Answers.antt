-- `all_parties` meets its contract: what is tested of each place. Assumes nothing.
use Rattle.std.proofs.Common.{ltb, rules}
use borrow.Author.Tests.{tests}
use Rattle.lists.proofs.Chains.{all_numbers}
use Rattle.arrivals.specs.Arrivals.{listed_in}
use Rattle.arrivals.proofs.all_parties.Goals as goal

pub returns : goal.returns
returns c = all_numbers (λ i. ltb (listed_in c.args.queue.now i) 32) _ c.all.ensures.ran (λ x b q k. search (rules, tests))
