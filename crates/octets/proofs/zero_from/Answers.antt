-- `zero_from` meets its contract: the chain tests what is left behind `at`. Assumes nothing.
use Rattle.std.proofs.Common.{◌∙◌, eqb, drop, rules, tests}
use Rattle.std.proofs.lemmas.Iterator.{YieldsList-from_slice}
use Rattle.std.proofs.lemmas.Iterator.Adapters.{YieldsList-from_skip}
use Rattle.std.proofs.lemmas.Iterator.Search.{all_from_yields_List}
use Rattle.lists.proofs.Std.{every_std}
use Rattle.octets.proofs.zero_from.Goals as goal

pub returns : goal.returns
returns c =
    all_from_yields_List (eqb 0) _ _ _ c.all.ensures.ran (YieldsList-from_skip c.args.at (YieldsList-from_slice c.args.s.now cc) cc) (λ x b q k. search (rules, tests))
    ∙ every_std (eqb 0) (drop c.args.at c.args.s.now)
