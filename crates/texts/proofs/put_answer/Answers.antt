-- `put_answer` meets its contract: case by case. Assumes nothing.
use mathlib.Core.Path.{◌≡◌}
use borrow.Author.Rules.{rules}
use Rattle.replay.specs.declared.Outcome.TheVariants.{Waits, Stored, Added}
use Rattle.texts.proofs.Puts.{told}
use Rattle.texts.proofs.put_answer.Goals as goal

pub returns-in-Granted : goal.returns-in-Granted
returns-in-Granted c = told c.args.parties.now c.args.at c.args.text.now
    c.in-Granted.is c.put_word_number.ensures

pub returns-in-Waits : goal.returns-in-Waits
returns-in-Waits c = let e : c.args.outcome ≡ Waits = search rules in
    told c.args.parties.now c.args.at c.args.text.now e c.put_bytes.ensures

pub returns-in-Value : goal.returns-in-Value
returns-in-Value c = told c.args.parties.now c.args.at c.args.text.now
    c.in-Value.is c.put_word_number-in-Value.ensures

pub returns-in-Stored : goal.returns-in-Stored
returns-in-Stored c = let e : c.args.outcome ≡ Stored = search rules in
    told c.args.parties.now c.args.at c.args.text.now e c.put_bytes-in-Stored.ensures

pub returns-in-Added : goal.returns-in-Added
returns-in-Added c = let e : c.args.outcome ≡ Added = search rules in
    told c.args.parties.now c.args.at c.args.text.now e c.put_bytes-in-Added.ensures

pub returns-in-Left : goal.returns-in-Left
returns-in-Left c = told c.args.parties.now c.args.at c.args.text.now
    c.in-Left.is c.put_left.ensures

pub returns-in-Refused : goal.returns-in-Refused
returns-in-Refused c = told c.args.parties.now c.args.at c.args.text.now
    c.in-Refused.is (rw c.from.ensures at c.put_word_number-in-Refused.ensures)
