-- `put_party_line` meets its contract: the line has three parts, and a party without grants has none. Assumes nothing.
use mathlib.Core.Path.{sym, ap}
use mathlib.Core.Bool.{Bool, cond}
use mathlib.Core.List.{[], ◌++◌}
use borrow.Author.Tests.{eq-eqb, ne_eqb}
use Rattle.texts.specs.Text.{decimal, space, newline, party_word}
use Rattle.texts.specs.Lines.{party_line}
use Rattle.texts.specs.Pages.{page_of, put}
use Rattle.texts.proofs.Puts.{puts_two, puts_as}
use Rattle.texts.proofs.put_party_line.Goals as goal

pub returns-then-count-eq0 : goal.returns-then-count-eq0
unfolding put
returns-then-count-eq0 c = ap (λ (b : Bool). put (cond b [] (party_line c.args.party c.args.count)) (page_of c.args.text.now c.args.at)) (sym (eq-eqb _ _ c.if-count-eq0.true))

pub returns : goal.returns
returns c = puts_as c.args.at c.args.text.now (ap (λ (b : Bool). cond b [] (party_line c.args.party c.args.count)) (sym (ne_eqb _ _ c.if-count-eq0.false)))
    (puts_two c.args.at (party_word ++ decimal c.args.party) ((space ++ decimal c.args.count) ++ newline) c.args.text.now c.put_word_number-first.ensures
    (puts_two _ (space ++ decimal c.args.count) newline _ (rw c.from.ensures at c.put_word_number-second.ensures) c.put_bytes.ensures))
