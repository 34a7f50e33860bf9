-- `lists_once` meets its contract: what is tested of each place. Assumes nothing.
use Rattle.std.proofs.Common.{not, eqb, rules}
use borrow.Author.Tests.{tests}
use Rattle.lists.specs.Lists.{all_below}
use Rattle.lists.proofs.Chains.{all_numbers}
use Rattle.arrivals.specs.Arrivals.{listed_in}
use Rattle.arrivals.proofs.lists_once.Goals as goal

pub returns : goal.returns
returns c = all_numbers (λ i. all_below i (λ j. not (eqb (listed_in c.args.queue.now i) (listed_in c.args.queue.now j)))) _ c.all.ensures.ran (λ x b q k. search (rules, tests))
