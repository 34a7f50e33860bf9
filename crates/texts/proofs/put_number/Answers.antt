-- `put_number` meets its contract: std's digits are those of the definition. Assumes nothing.
use Rattle.std.proofs.Common.{rules, ◌∙◌}
use Rattle.texts.proofs.Puts.{same_decimal, puts_as}
use Rattle.texts.proofs.put_number.Goals as goal

pub returns : goal.returns
returns c = puts_as c.args.at c.args.text.now (c.as_bytes.ensures.value ∙ c.format.ensures.text ∙ same_decimal c.args.n (search rules)) c.put_bytes.ensures
