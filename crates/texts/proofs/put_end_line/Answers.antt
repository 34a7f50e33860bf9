-- `put_end_line` meets its contract: the line has four parts. Assumes nothing.
use mathlib.Core.List.{◌++◌}
use Rattle.texts.specs.Text.{decimal, space, newline, end_word}
use Rattle.texts.proofs.Puts.{puts_two}
use Rattle.texts.proofs.put_end_line.Goals as goal

pub returns : goal.returns
returns c = puts_two c.args.at ((end_word ++ decimal c.args.holders) ++ (space ++ decimal c.args.waiting)) ((space ++ decimal c.args.grants) ++ newline) c.args.text.now
    (puts_two c.args.at (end_word ++ decimal c.args.holders) (space ++ decimal c.args.waiting) c.args.text.now
    c.put_word_number-first.ensures
    c.put_word_number-second.ensures)
    (puts_two _ (space ++ decimal c.args.grants) newline _ c.put_word_number-third.ensures c.put_bytes.ensures)
