-- As many elements as pass, in the words of std. Assumes nothing.
use mathlib.Core.Path.{◌≡◌, refl, sym, ap₂, ◌∙◌}
use mathlib.Core.Bool.{Bool, true, false, cond}
use mathlib.Core.List.{List, [], ◌∷◌}
use Prim.Native.Nat.{ℕ, ◌+◌}
use Rattle.std.specs.List.{count_by}
use Rattle.std.proofs.lemmas.List.Sums.{sum_by-cons}
use Rattle.lists.specs.Lists.{one, count}

one_std : (b : Bool) → one b ≡ cond b 1 0
one_std true = refl
one_std false = refl

pub count_std : {A : Type 0} (p : A → Bool) (xs : List A) → count p xs ≡ count_by p xs
unfolding count
count_std p [] = refl
count_std p (x ∷ xs) = ap₂ (λ (a b : ℕ). a + b) (one_std (p x)) (count_std p xs) ∙ sym (sum_by-cons (λ y. cond (p y) 1 0) x xs)
