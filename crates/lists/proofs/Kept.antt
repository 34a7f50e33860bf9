-- What is kept of a list, and what holds of every element. Assumes nothing.
use mathlib.Core.Path.{◌≡◌, refl, ap}
use mathlib.Core.List.{List, [], ◌∷◌, ◌++◌}
use mathlib.Core.Bool.{Bool, true, false, ◌&&◌}
use Prim.Native.Nat.{ℕ, zero, suc}
use lib.ListN.{take, drop}
use Rattle.lists.specs.Lists.{every, any, keep, kept_if}
use Rattle.lists.proofs.Bools.{not_both, and_left, and_right, and_both, or_left, or_right}

-- a list with an element is not empty
pub nothing_there : {A P : Type 0} {x : A} {xs : List A} → x ∷ xs ≡ [] → P
nothing_there e = not_both true refl cc

module _ {A : Type 0} where
  -- P of every element
  abbrev pub All : (A → Type 0) → List A → Type 0
  All P [] = Unit {0}
  All P (x ∷ xs) = P x × All P xs

  pub all_map : {P Q : A → Type 0} → ((x : A) → P x → Q x) → (xs : List A) → All P xs → All Q xs
  all_map f [] h = tt
  all_map f (x ∷ xs) h = (f x h.0, all_map f xs h.1)

  pub all_snoc : (P : A → Type 0) (xs : List A) (x : A) → All P xs → P x → All P (xs ++ (x ∷ []))
  all_snoc P [] x h k = (k, tt)
  all_snoc P (y ∷ xs) x h k = (h.0, all_snoc P xs x h.1 k)

  pub all_front : (P : A → Type 0) (xs ys : List A) → All P (xs ++ ys) → All P xs
  all_front P [] ys h = tt
  all_front P (x ∷ xs) ys h = (h.0, all_front P xs ys h.1)

  pub all_insert : (P : A → Type 0) (xs ys : List A) (x : A) → P x → All P (xs ++ ys) → All P (xs ++ (x ∷ ys))
  all_insert P [] ys x k h = (k, h)
  all_insert P (y ∷ xs) ys x k h = (h.0, all_insert P xs ys x k h.1)

  pub all_every : (p : A → Bool) (xs : List A) → every p xs ≡ true → All (λ x. p x ≡ true) xs
  unfolding every
  all_every p [] h = tt
  all_every p (x ∷ xs) h = (and_left (p x) (every p xs) h, all_every p xs (and_right (p x) (every p xs) h))

  -- an element at which the test fails is not kept
  pub keep_past : (p : A → Bool) (x : A) (xs ys : List A) → p x ≡ false → keep p (xs ++ (x ∷ ys)) ≡ keep p (xs ++ ys)
  unfolding keep
  keep_past p x [] ys e = rw e
  keep_past p x (y ∷ xs) ys e = ap (kept_if (p y) y) (keep_past p x xs ys e)

  -- where it holds nowhere, none is
  pub keep_nowhere : (p : A → Bool) (xs : List A) → any p xs ≡ false → keep p xs ≡ []
  unfolding any keep
  keep_nowhere p [] e = refl
  keep_nowhere p (x ∷ xs) e = rw (or_left (p x) (any p xs) e) (keep_nowhere p xs (or_right (p x) (any p xs) e))

  pub keep_none : (p q : A → Bool) → ((x : A) → q x ≡ true → p x ≡ false) → (xs : List A) → every q xs ≡ true → keep p xs ≡ []
  unfolding keep every
  keep_none p q f [] h = refl
  keep_none p q f (x ∷ xs) h = rw (f x (and_left (q x) (every q xs) h)) (keep_none p q f xs (and_right (q x) (every q xs) h))

  pub every_keep : (p : A → Bool) (xs : List A) → every p (keep p xs) ≡ true
  unfolding keep every
  every_keep p [] = refl
  every_keep p (x ∷ xs) = by (p x) refl (every_keep p xs)
    where
      by : (b : Bool) → p x ≡ b → every p (keep p xs) ≡ true → every p (kept_if b x (keep p xs)) ≡ true
      by true e h = and_both (p x) (every p (keep p xs)) e h
      by false e h = h

  pub every_kept : (p q : A → Bool) (xs : List A) → every p xs ≡ true → every p (keep q xs) ≡ true
  unfolding every keep
  every_kept p q [] h = refl
  every_kept p q (x ∷ xs) h = by (q x) (every_kept p q xs (and_right (p x) (every p xs) h))
    where
      by : (b : Bool) → every p (keep q xs) ≡ true → every p (kept_if b x (keep q xs)) ≡ true
      by true e = and_both (p x) (every p (keep q xs)) (and_left (p x) (every p xs) h) e
      by false e = e

  pub every_drop : (p : A → Bool) (k : ℕ) (xs : List A) → every p xs ≡ true → every p (drop k xs) ≡ true
  unfolding every
  every_drop p zero xs h = h
  every_drop p (suc k) [] h = h
  every_drop p (suc k) (x ∷ xs) h = every_drop p k xs (and_right (p x) (every p xs) h)

  pub every_append : (p : A → Bool) (xs ys : List A) → every p xs ≡ true → every p ys ≡ true → every p (xs ++ ys) ≡ true
  unfolding every
  every_append p [] ys h g = g
  every_append p (x ∷ xs) ys h g = and_both (p x) (every p (xs ++ ys)) (and_left (p x) (every p xs) h) (every_append p xs ys (and_right (p x) (every p xs) h) g)

  pub every_imp : (p q : A → Bool) → ((x : A) → p x ≡ true → q x ≡ true) → (xs : List A) → every p xs ≡ true → every q xs ≡ true
  unfolding every
  every_imp p q f [] h = refl
  every_imp p q f (x ∷ xs) h = and_both (q x) (every q xs) (f x (and_left (p x) (every p xs) h)) (every_imp p q f xs (and_right (p x) (every p xs) h))

  pub keep_all : (p : A → Bool) (xs : List A) → every p xs ≡ true → keep p xs ≡ xs
  unfolding keep every
  keep_all p [] h = refl
  keep_all p (x ∷ xs) h = rw (and_left (p x) (every p xs) h) (ap (λ (l : List A). x ∷ l) (keep_all p xs (and_right (p x) (every p xs) h)))

  pub every_take : (p : A → Bool) (k : ℕ) (xs : List A) → every p xs ≡ true → every p (take k xs) ≡ true
  unfolding every
  every_take p zero xs h = refl
  every_take p (suc k) [] h = refl
  every_take p (suc k) (x ∷ xs) h = and_both (p x) (every p (take k xs)) (and_left (p x) (every p xs) h) (every_take p k xs (and_right (p x) (every p xs) h))

  pub every_both : (p q : A → Bool) (xs : List A) → every p xs ≡ true → every q xs ≡ true → every (λ x. p x && q x) xs ≡ true
  unfolding every
  every_both p q [] h g = refl
  every_both p q (x ∷ xs) h g =
      and_both (p x && q x) (every (λ y. p y && q y) xs) (and_both (p x) (q x) (and_left (p x) (every p xs) h) (and_left (q x) (every q xs) g))
      (every_both p q xs (and_right (p x) (every p xs) h) (and_right (q x) (every q xs) g))
