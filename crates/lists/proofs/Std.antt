-- The tests over lists of this repository's definitions are those in which std says what its chains of iterators answer. Assumes nothing.
use Rattle.std.specs.Prelude.{◌≡◌, List, [], ◌∷◌, Bool, ◌&&◌, ◌||◌, ℕ, zero, suc, ◌+◌}
use Rattle.std.specs.List.{list_any, list_all, range_with_len}
use mathlib.Core.Path.{refl, sym, ap, ◌∙◌}
use mathlib.Core.Bool.{and-true, or-false, and_assoc, or_assoc}
use native.Mathlib.Omega.{arith}
use Rattle.lists.specs.Lists.{any, every, all_below, any_below}

module _ {A : Type 0} where
  -- some element passes
  pub any_std : (p : A → Bool) (xs : List A) → list_any p xs ≡ any p xs
  unfolding any
  any_std p [] = refl
  any_std p (x ∷ xs) = ap (λ b. p x || b) (any_std p xs)

  -- every element passes
  pub every_std : (p : A → Bool) (xs : List A) → list_all p xs ≡ every p xs
  unfolding every
  every_std p [] = refl
  every_std p (x ∷ xs) = ap (λ b. p x && b) (every_std p xs)

-- numbers in turn, the last of them apart
module _ (p : ℕ → Bool) where
  all_last : (n a k : ℕ) → a + n ≡ k → list_all p (range_with_len a (suc n)) ≡ list_all p (range_with_len a n) && p k
  all_last zero a k e = let same : a ≡ k = omega arith in and-true (p a) ∙ ap p same
  all_last (suc n) a k e =
      ap (p a &&◌) (all_last n (a + 1) k (omega arith)) ∙ sym (and_assoc (p a) (list_all p (range_with_len (a + 1) n)) (p k))

  any_last : (n a k : ℕ) → a + n ≡ k → list_any p (range_with_len a (suc n)) ≡ list_any p (range_with_len a n) || p k
  any_last zero a k e = let same : a ≡ k = omega arith in or-false (p a) ∙ ap p same
  any_last (suc n) a k e =
      ap (p a ||◌) (any_last n (a + 1) k (omega arith)) ∙ sym (or_assoc (p a) (list_any p (range_with_len (a + 1) n)) (p k))

  -- every number below n passes
  pub all_below_std : (n : ℕ) → list_all p (range_with_len 0 n) ≡ all_below n p
  unfolding all_below
  all_below_std zero = refl
  all_below_std (suc n) = all_last n 0 n (omega arith) ∙ ap (◌&& p n) (all_below_std n)

  -- some number below n passes
  pub any_below_std : (n : ℕ) → list_any p (range_with_len 0 n) ≡ any_below n p
  unfolding any_below
  any_below_std zero = refl
  any_below_std (suc n) = any_last n 0 n (omega arith) ∙ ap (◌|| p n) (any_below_std n)
