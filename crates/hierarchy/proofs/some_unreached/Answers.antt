-- `some_unreached` meets its contract: a node without a flag is not reached. Assumes nothing.
use Rattle.std.proofs.Common.{◌≡◌, List, [], ◌∷◌, ℕ, eqb, sym, ap, ◌∙◌, refl}
use borrow.Author.Tests.{eq-eqb, eqb-true}
use Rattle.std.specs.List.{list_any}
use Rattle.lists.specs.Lists.{any}
use Rattle.lists.proofs.Bools.{both_ways}
use Rattle.hierarchy.specs.Hierarchy.{flag_all, reach_all, reach, some_unreached}
use Rattle.hierarchy.proofs.some_unreached.Goals as goal

-- a flag is 0 either way round
turned : (x : ℕ) → eqb x 0 ≡ eqb 0 x
turned x = both_ways (eqb x 0) (eqb 0 x) (λ t. eq-eqb 0 x (sym (eqb-true x 0 t))) (λ t. eq-eqb x 0 (sym (eqb-true 0 x t)))

some_none : (flags : List ℕ) → list_any (λ flag. eqb flag 0) flags ≡ any (eqb 0) flags
unfolding any
some_none [] = refl
some_none (x ∷ flags) = rw (turned x, some_none flags) refl

pub returns : goal.returns
unfolding some_unreached reach reach_all flag_all
returns c = c.contains.ensures.value ∙ some_none c.flag_reach.new.flags ∙ ap (λ (flags : List ℕ). any (eqb 0) flags) c.flag_reach.ensures
