-- `put_line` meets its contract: a line has three parts. Assumes nothing.
use mathlib.Core.List.{List, ◌++◌}
use Prim.Native.Nat.{ℕ}
use Rattle.replay.specs.Answers.{step_meaning}
use Rattle.texts.specs.Text.{decimal, space, newline, answer_text}
use Rattle.texts.proofs.Puts.{puts_two}
use Rattle.texts.proofs.put_line.Goals as goal

pub returns : goal.returns
returns c = let answer : List ℕ = answer_text (step_meaning c.args.outcome c.args.parties.now) in let first : List ℕ = decimal c.args.number ++ space in
    puts_two c.args.at first (answer ++ newline) c.args.text.now c.put_number_word-first.ensures
    (puts_two _ answer newline _ c.put_answer-behind.ensures c.put_bytes.ensures)
