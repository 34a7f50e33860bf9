-- `put_left` meets its contract: the word, and the first parties. Assumes nothing.
use mathlib.Core.Path.{ap, ◌∙◌}
use mathlib.Core.List.{List}
use Prim.Native.Nat.{ℕ}
use lib.ListN.{take}
use Rattle.std.proofs.lemmas.List.{take_min}
use Rattle.texts.specs.Text.{left_word, spaced}
use Rattle.texts.proofs.Puts.{puts_two, puts_as}
use Rattle.texts.proofs.put_left.Goals as goal

pub returns : goal.returns
returns c = let l : List ℕ = c.args.parties.now in let same = ap (λ (k : ℕ). spaced (take k l)) c.min.ensures ∙ ap spaced (take_min c.args.count l) in
    puts_two c.args.at left_word (spaced (take c.args.count l)) c.args.text.now c.put_bytes-behind.ensures (puts_as _ _ same c.put_parties.ensures)
