-- `put_parties` meets its contract: the parties left, put from here on, give all of them. Assumes nothing.
use mathlib.Core.Path.{refl, sym, ap, ◌∙◌}
use mathlib.Core.List.{List, ◌++◌}
use Prim.Native.Nat.{ℕ, ◌+◌}
use lib.ListN.{drop, get_or}
use Rattle.texts.specs.Text.{decimal, space, spaced}
use Rattle.texts.specs.Pages.{page_of, put}
use Rattle.texts.proofs.Puts.{put_left, spaced_step, spaced_end}
use Rattle.texts.proofs.put_parties.Goals as goal

pub loop-party-preserved : goal.loop-party-preserved
loop-party-preserved c = let i : ℕ = c.loop-party.party-index in let l : List ℕ = c.args.parties.now in let step = spaced_step l i refl c.loop-party-test.true in
    put_left (space ++ decimal (get_or l i 0)) (spaced (drop (i + 1) l)) c.loop-party.here c.loop-party.text (rw c.from.ensures at c.put_word_number-here.ensures)
    (ap (λ (b : List ℕ). put b (page_of c.loop-party.text c.loop-party.here)) (sym step) ∙ c.loop-party.invariant)

pub returns : goal.returns
unfolding put
returns c = ap (λ (b : List ℕ). put b (page_of c.loop-party.text c.loop-party.here)) (sym (spaced_end c.args.parties.now c.loop-party.party-index c.loop-party-test.false)) ∙ c.loop-party.invariant
