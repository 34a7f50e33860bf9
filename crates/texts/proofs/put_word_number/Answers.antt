-- `put_word_number` meets its contract: two puts, one behind the other, are one. Assumes nothing.
use Rattle.texts.specs.Text.{decimal}
use Rattle.texts.proofs.Puts.{puts_two}
use Rattle.texts.proofs.put_word_number.Goals as goal

pub returns : goal.returns
returns c = puts_two c.args.at c.args.word.now (decimal c.args.n) c.args.text.now c.put_bytes-behind.ensures c.put_number.ensures
