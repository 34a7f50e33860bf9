-- `is_decimal` meets its contract: of a text that is not empty the chain tests each byte. Assumes nothing.
use Rattle.std.proofs.Common.{ap, ◌∙◌, Bool, not, ◌&&◌, rules, tests}
use Rattle.std.proofs.lemmas.Iterator.{YieldsList-from_slice}
use Rattle.std.proofs.lemmas.Iterator.Search.{all_from_yields_List}
use Rattle.lists.specs.Lists.{every}
use Rattle.lists.proofs.Std.{every_std}
use Rattle.numerals.specs.Numerals.{is_digit}
use Rattle.numerals.proofs.is_decimal.Goals as goal

pub returns-then-not-is_empty : goal.returns-then-not-is_empty
returns-then-not-is_empty c =
    all_from_yields_List is_digit _ _ _ c.all.ensures.ran (YieldsList-from_slice c.args.text.now cc) (λ x b q k. search (rules, tests))
    ∙ every_std is_digit c.args.text.now
    ∙ ap (λ (b : Bool). not b && every is_digit c.args.text.now) c.if-not-is_empty.ensures
