-- `put_refused` meets its contract: the word, the number and the end of the line. Assumes nothing.
use mathlib.Core.List.{◌++◌}
use Rattle.texts.specs.Text.{decimal, newline, refused_word}
use Rattle.texts.proofs.Puts.{puts_two}
use Rattle.texts.proofs.put_refused.Goals as goal

pub returns : goal.returns
returns c = puts_two 0 (refused_word ++ decimal c.args.k) newline c.args.text.now (rw c.from.ensures at c.put_word_number-behind.ensures) c.put_bytes.ensures
