-- Lists, tests over them, and what a lent buffer holds after a call: what the definitions of every layer are made of. Assumes nothing.
use Rattle.std.specs.Prelude.{◌≡◌, List, [], ◌∷◌, ◌++◌, Bool, true, false, ◌&&◌, ◌||◌, ℕ, zero, suc, ◌+◌, ◌<◌, min, max, eqb, length, drop, get_or, set}

-- 1 where the test holds, and 0 where it does not
abbrev pub one : Bool → ℕ
one true = 1
one false = 0

-- the test holds at every number below n
unfoldable pub all_below : ℕ → (ℕ → Bool) → Bool
all_below zero p = true
all_below (suc n) p = all_below n p && p n

-- the test holds at some number below n
unfoldable pub any_below : ℕ → (ℕ → Bool) → Bool
any_below zero p = false
any_below (suc n) p = any_below n p || p n

module _ {A : Type 0} where
  -- x before the list where the test holds
  abbrev pub kept_if : Bool → A → List A → List A
  kept_if true x xs = x ∷ xs
  kept_if false x xs = xs

  -- a store where the test holds
  abbrev pub set_if : Bool → List A → ℕ → A → List A
  set_if true l i x = set l i x
  set_if false l i x = l

  -- the test holds at every element
  unfoldable pub every : (A → Bool) → List A → Bool
  every p [] = true
  every p (x ∷ xs) = p x && every p xs

  -- the test holds at some element
  unfoldable pub any : (A → Bool) → List A → Bool
  any p [] = false
  any p (x ∷ xs) = p x || any p xs

  -- the elements at which the test holds, in order
  unfoldable pub keep : (A → Bool) → List A → List A
  keep p [] = []
  keep p (x ∷ xs) = kept_if (p x) x (keep p xs)

  -- how many elements the test holds at
  unfoldable pub count : (A → Bool) → List A → ℕ
  count p [] = 0
  count p (x ∷ xs) = one (p x) + count p xs

  -- a lent buffer with the list written from its first place on; places past what is written stay unchanged
  unfoldable pub over : List A → List A → List A
  over xs buffer = xs ++ drop (length xs) buffer

-- f over x and the elements of the list, from the front
unfoldable pub fold_from : (ℕ → ℕ → ℕ) → ℕ → List ℕ → ℕ
fold_from f x [] = x
fold_from f x (y ∷ ys) = fold_from f (f x y) ys

-- the least of a list (0 where it is empty)
unfoldable pub least : List ℕ → ℕ
least [] = 0
least (x ∷ xs) = fold_from min x xs

-- the greatest of a list (0 where it is empty)
unfoldable pub greatest : List ℕ → ℕ
greatest [] = 0
greatest (x ∷ xs) = fold_from max x xs

-- the sum of a list
unfoldable pub sum : List ℕ → ℕ
sum [] = 0
sum (x ∷ xs) = x + sum xs

-- each element is below the bound, and so is what stands past the end: of a slice of bytes the bound is 256
abbrev pub Below : ℕ → List ℕ → Type 0
Below k xs = (i : ℕ) → get_or xs i 0 < k

-- TERMS OF PRIVATE CONTRACTS, no definition of the paper among them. One more where the test holds
abbrev pub one_if : Bool → ℕ → ℕ
one_if true n = suc n
one_if false n = n

-- how many 0 there are: of flags and marks, the nodes without one
unfoldable pub zeros : List ℕ → ℕ
zeros [] = 0
zeros (x ∷ xs) = one_if (eqb x 0) (zeros xs)

-- what a pass says by its answer: something changed and the measure fell, or nothing changed
abbrev pub Went : (List ℕ → ℕ) → Bool → List ℕ → List ℕ → Type 0
Went measure true before after = measure after < measure before
Went measure false before after = after ≡ before
