-- `put_number_word` meets its contract: two puts, one behind the other, are one. Assumes nothing.
use Rattle.texts.specs.Text.{decimal}
use Rattle.texts.proofs.Puts.{puts_two}
use Rattle.texts.proofs.put_number_word.Goals as goal

pub returns : goal.returns
returns c = puts_two c.args.at (decimal c.args.n) c.args.word.now c.args.text.now c.put_number-behind.ensures c.put_bytes.ensures
