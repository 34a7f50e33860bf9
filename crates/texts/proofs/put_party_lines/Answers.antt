-- `put_party_lines` meets its contract: the lines left, put from here on, give all of them. Assumes nothing.
use mathlib.Core.Path.{refl, sym, ap, ◌∙◌}
use mathlib.Core.List.{List}
use Prim.Native.Nat.{ℕ, ◌+◌}
use lib.ListN.{drop, get_or}
use Rattle.texts.specs.Lines.{line_if_granted, party_lines}
use Rattle.texts.specs.Pages.{page_of, put}
use Rattle.texts.proofs.Puts.{put_left, party_lines_step, party_lines_end}
use Rattle.texts.proofs.put_party_lines.Goals as goal

pub loop-party-preserved : goal.loop-party-preserved
loop-party-preserved c = let i : ℕ = c.loop-party.party in let l : List ℕ = c.args.grants.now in let step = party_lines_step l i refl c.loop-party-test.true in
    put_left (line_if_granted i (get_or l i 0)) (party_lines (i + 1) (drop (i + 1) l)) c.loop-party.here c.loop-party.text c.put_party_line-here.ensures
    (ap (λ (b : List ℕ). put b (page_of c.loop-party.text c.loop-party.here)) (sym step) ∙ c.loop-party.invariant)

pub returns : goal.returns
unfolding put
returns c = ap (λ (b : List ℕ). put b (page_of c.loop-party.text c.loop-party.here)) (sym (party_lines_end c.args.grants.now c.loop-party.party c.loop-party-test.false)) ∙ c.loop-party.invariant
