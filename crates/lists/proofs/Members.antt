-- Members of a list of numbers, the least and the greatest among them. Assumes nothing.
use mathlib.Core.Path.{◌≡◌, refl, subst}
use mathlib.Core.List.{List, [], ◌∷◌, ◌++◌}
use mathlib.Core.Bool.{Bool, true, false}
use Prim.Native.Nat.{ℕ, ◌≤◌, min, max}
use native.Mathlib.Omega.{arith}
use lib.Dec.{leb}
use lib.ListN.{length}
use borrow.Author.Tests.{leb-true, leb-false}
use Rattle.lists.specs.Lists.{kept_if, fold_from, least, greatest}
use Rattle.lists.proofs.Bools.{bool}

pub data In : ℕ → List ℕ → Type 0 where
  head : {c : ℕ} {cs : List ℕ} → In c (c ∷ cs)
  tail : {c d : ℕ} {cs : List ℕ} → In c cs → In c (d ∷ cs)

pub in_nil : {P : Type 0} {c : ℕ} → In c [] → P
in_nil = elim [ ]

pub in_cons : {P : Type 0} {c d : ℕ} {cs : List ℕ} → In c (d ∷ cs) → (d ≡ c → P) → (In c cs → P) → P
in_cons head f g = f refl
in_cons (tail i) f g = g i

pub kept_in : (b : Bool) (c d : ℕ) (cs : List ℕ) → In c cs → In c (kept_if b d cs)
kept_in true c d cs i = tail i
kept_in false c d cs i = i

-- a fold that picks one of two picks a member
fold_is : (P : ℕ → Type 0) (f : ℕ → ℕ → ℕ) → ((a b : ℕ) → P a → P b → P (f a b)) → (x : ℕ) (xs : List ℕ) → P x → ((y : ℕ) → In y xs → P y) → P (fold_from f x xs)
unfolding fold_from
fold_is P f k x [] p g = p
fold_is P f k x (y ∷ ys) p g = fold_is P f k (f x y) ys (k x y p (g y head)) (λ z i. g z (tail i))

-- a fold that picks what is before both, by an order R, picks what is before each
module _ (R : ℕ → ℕ → Type 0) (R-refl : (a : ℕ) → R a a) (R-trans : (a b c : ℕ) → R a b → R b c → R a c) (f : ℕ → ℕ → ℕ)
    (f-left : (a b : ℕ) → R (f a b) a) (f-right : (a b : ℕ) → R (f a b) b) where
  fold_first : (x : ℕ) (xs : List ℕ) → R (fold_from f x xs) x
  unfolding fold_from
  fold_first x [] = R-refl x
  fold_first x (y ∷ ys) = R-trans (fold_from f (f x y) ys) (f x y) x (fold_first (f x y) ys) (f-left x y)

  fold_rest : (x y : ℕ) (xs : List ℕ) → In y xs → R (fold_from f x xs) y
  unfolding fold_from
  fold_rest x y [] i = in_nil i
  fold_rest x y (z ∷ zs) i =
      in_cons i
      (λ e. R-trans (fold_from f (f x z) zs) (f x z) y (fold_first (f x z) zs) (subst (λ (k : ℕ). R (f x z) k) e (f-right x z)))
      (fold_rest (f x z) y zs)

  fold_all : (x y : ℕ) (xs : List ℕ) → In y (x ∷ xs) → R (fold_from f x xs) y
  fold_all x y xs i = in_cons i (λ e. subst (λ (k : ℕ). R (fold_from f x xs) k) e (fold_first x xs)) (fold_rest x y xs)

min_is : (P : ℕ → Type 0) (a b : ℕ) → P a → P b → P (min a b)
min_is P a b p q =
    bool (leb a b)
    (λ e. subst P (let h = leb-true a b e in let g : a ≡ min a b = omega arith in g) p)
    (λ e. subst P (let h = leb-false a b e in let g : b ≡ min a b = omega arith in g) q)

max_is : (P : ℕ → Type 0) (a b : ℕ) → P a → P b → P (max a b)
max_is P a b p q =
    bool (leb a b)
    (λ e. subst P (let h = leb-true a b e in let g : b ≡ max a b = omega arith in g) q)
    (λ e. subst P (let h = leb-false a b e in let g : a ≡ max a b = omega arith in g) p)

-- the least is at most each member, and one of them
pub least_most : (y : ℕ) (xs : List ℕ) → In y xs → least xs ≤ y
unfolding least
least_most y [] i = in_nil i
least_most y (x ∷ xs) i =
    fold_all (λ a b. a ≤ b) (λ a. omega arith) (λ a b c p q. omega arith) min (λ a b. omega arith) (λ a b. omega arith) x y xs i

pub least_is : (P : ℕ → Type 0) (z : ℕ) (xs : List ℕ) → In z xs → ((y : ℕ) → In y xs → P y) → P (least xs)
unfolding least
least_is P z [] i f = in_nil i
least_is P z (x ∷ xs) i f = fold_is P min (min_is P) x xs (f x head) (λ y j. f y (tail j))

-- the greatest is at least each member, and one of them
pub greatest_least : (y : ℕ) (xs : List ℕ) → In y xs → y ≤ greatest xs
unfolding greatest
greatest_least y [] i = in_nil i
greatest_least y (x ∷ xs) i =
    fold_all (λ a b. b ≤ a) (λ a. omega arith) (λ a b c p q. omega arith) max (λ a b. omega arith) (λ a b. omega arith) x y xs i

pub greatest_is : (P : ℕ → Type 0) (z : ℕ) (xs : List ℕ) → In z xs → ((y : ℕ) → In y xs → P y) → P (greatest xs)
unfolding greatest
greatest_is P z [] i f = in_nil i
greatest_is P z (x ∷ xs) i f = fold_is P max (max_is P) x xs (f x head) (λ y j. f y (tail j))

-- one more behind the list: a fold takes it last,
fold_snoc : (f : ℕ → ℕ → ℕ) (x : ℕ) (xs : List ℕ) (y : ℕ) → fold_from f x (xs ++ (y ∷ [])) ≡ f (fold_from f x xs) y
unfolding fold_from
fold_snoc f x [] y = refl
fold_snoc f x (z ∷ zs) y = fold_snoc f (f x z) zs y

-- so the least of some and one more is the less of two, and the greatest the greater
pub least_snoc : (xs : List ℕ) (y : ℕ) → 1 ≤ length xs → least (xs ++ (y ∷ [])) ≡ min (least xs) y
unfolding least
least_snoc [] y h = absurd (omega arith)
least_snoc (x ∷ xs) y h = fold_snoc min x xs y

pub greatest_snoc : (xs : List ℕ) (y : ℕ) → 1 ≤ length xs → greatest (xs ++ (y ∷ [])) ≡ max (greatest xs) y
unfolding greatest
greatest_snoc [] y h = absurd (omega arith)
greatest_snoc (x ∷ xs) y h = fold_snoc max x xs y
