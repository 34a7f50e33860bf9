-- `all_grants` meets its contract: 32 counts of 32 bits fit 64 bits together. Assumes nothing.
use Rattle.std.proofs.Common.{◌≡◌, refl, sym, ◌∙◌, rules}
use Rattle.std.proofs.iter.runs.Made.{chains}
use Rattle.std.proofs.iter.runs.Sources.{sums}
use Rattle.std.proofs.lemmas.List.Recursion.{is_sum_by}
use Rattle.std.specs.List.{sum_by}
use Rattle.lists.specs.Lists.{sum}
use Rattle.grants.proofs.all_grants.Goals as goal

pub sum-requires-clause-fits : goal.sum-requires-clause-fits
sum-requires-clause-fits c = search (rules, sums)

pub returns : goal.returns
unfolding sum
returns c = let chain : c.sum.result ≡ sum_by (λ x. x) c.args.grants = search (rules, chains) in
    chain ∙ sym (is_sum_by sum (λ x. x) refl (λ x xs. refl) c.args.grants)
