-- Counts of grants: their sum, and what several grants leave. Assumes nothing.
use mathlib.Core.Path.{◌≡◌, refl, ap, ◌∙◌}
use mathlib.Core.List.{List, [], ◌∷◌}
use Prim.Native.Nat.{ℕ, suc, ◌+◌, ◌*◌, ◌≤◌, ◌<◌}
use native.Mathlib.Omega.{arith}
use lib.ListN.{length, get_or, drop, drop_of_length-le, length-set}
use Rattle.lists.specs.Lists.{sum, Below}
use Rattle.lists.proofs.Loops.{drop_step}
use Rattle.lists.proofs.Marks.{set_get}
use Rattle.grants.specs.Grants.{count_grant, count_grants, one_grant_more}

-- THE SUM. Counts of 32 bits sum up to 4,294,967,295 for each of them at most: to 137,438,953,440 for 32, which 64 bits hold
pub sum_most : (l : List ℕ) → Below 4294967296 l → sum l ≤ 4294967295 * length l
unfolding sum
sum_most [] b = omega arith
sum_most (x ∷ xs) b = let first = b 0 in let rest = sum_most xs (λ i. b (suc i)) in omega (arith, first, rest)

-- GRANTS LEFT to be counted
module _ (grants : List ℕ) (parties : List ℕ) (i : ℕ) {r : List ℕ} (inv : count_grants grants (drop i parties) ≡ r) where
  pub grants_turn : {grants' : List ℕ} {x : ℕ} → get_or parties i 0 ≡ x → i < length parties → grants' ≡ count_grant grants x → count_grants grants' (drop (i + 1) parties) ≡ r
  unfolding count_grants
  grants_turn at h e =
      ap (λ (g : List ℕ). count_grants g (drop (i + 1) parties)) e ∙ (rw (drop_step parties i 0 at h) at inv)

  pub grants_end : length parties ≤ i → grants ≡ r
  unfolding count_grants
  grants_end h = rw (drop_of_length-le parties h) at inv

-- there are as many counts as before
pub grants_length : (parties grants : List ℕ) → length (count_grants grants parties) ≡ length grants
unfolding count_grants
grants_length [] grants = refl
grants_length (party ∷ parties) grants =
    grants_length parties (count_grant grants party) ∙ length-set grants party (one_grant_more (get_or grants party 0))

-- each of 32 bits, as before
pub grant_below : (party : ℕ) (grants : List ℕ) → Below 4294967296 grants → Below 4294967296 (count_grant grants party)
grant_below party grants b i = set_get (λ (count : ℕ). count < 4294967296) grants party (one_grant_more (get_or grants party 0)) i 0 (omega arith) (b i)

pub grants_below : (parties grants : List ℕ) → Below 4294967296 grants → Below 4294967296 (count_grants grants parties)
unfolding count_grants
grants_below [] grants b = b
grants_below (party ∷ parties) grants b = grants_below parties (count_grant grants party) (grant_below party grants b)
