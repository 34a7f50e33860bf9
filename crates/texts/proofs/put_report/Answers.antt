-- `put_report` meets its contract: the line has two parts. Assumes nothing.
use mathlib.Core.List.{◌++◌}
use Rattle.texts.specs.Text.{decimal, space, newline}
use Rattle.texts.proofs.Puts.{puts_two}
use Rattle.texts.proofs.put_report.Goals as goal

pub returns : goal.returns
returns c = puts_two 0 (decimal c.args.all ++ space) (decimal c.args.needless ++ newline) c.args.text.now c.put_number_word-behind.ensures c.put_number_word.ensures
