-- Laws of marks and flags: lists of numbers in which 0 says that nothing was done yet. Assumes nothing.
use mathlib.Core.Path.{◌≡◌, refl, ap, ◌∙◌}
use mathlib.Core.List.{List, [], ◌∷◌}
use Prim.Native.Nat.{ℕ, zero, suc, ◌+◌, ◌≤◌, ◌<◌, suc-le-suc}
use native.Mathlib.Numerals.{add-one}
use native.Mathlib.Omega.{arith}
use lib.Dec.{eqb}
use lib.ListN.{length, get_or, take, set, replicate}
use borrow.Author.Tests.{eqb-true, eq-eqb, ne_eqb}
use Rattle.lists.specs.Lists.{zeros}
use Rattle.lists.proofs.Bools.{bool}
use Rattle.lists.proofs.Loops.{get_d_any}

pub zeros_cons : (x y : ℕ) (xs ys : List ℕ) → zeros xs ≤ zeros ys → (x ≡ 0 → y ≡ 0) → zeros (x ∷ xs) ≤ zeros (y ∷ ys)
unfolding zeros
zeros_cons x y xs ys h f =
    bool (eqb x 0)
    (λ a. rw (a, eq-eqb y 0 (f (eqb-true x 0 a))) (suc-le-suc h))
    (λ a. rw a (bool (eqb y 0) (λ b. rw b (omega arith)) (λ b. rw b h)))

-- a store of what is not 0 leaves no more zeros
pub zeros_set : (l : List ℕ) (i v : ℕ) → 1 ≤ v → zeros (set l i v) ≤ zeros l
zeros_set [] i v h = omega arith
zeros_set (x ∷ xs) zero v h = zeros_cons v x xs xs (omega arith) (λ e. absurd (omega arith))
zeros_set (x ∷ xs) (suc i) v h = zeros_cons x x (set xs i v) xs (zeros_set xs i v h) (λ e. e)

-- a store of what is not 0 where a 0 stood leaves one zero less
pub zeros_fall : (l : List ℕ) (i v d : ℕ) → get_or l i (suc d) ≡ 0 → 1 ≤ v → zeros (set l i v) + 1 ≡ zeros l
unfolding zeros
zeros_fall [] i v d e h = absurd (omega arith)
zeros_fall (x ∷ xs) zero v d e h = rw (eq-eqb x 0 e, ne_eqb v 0 (λ z. omega arith), add-one)
zeros_fall (x ∷ xs) (suc i) v d e h =
    let r = zeros_fall xs i v d e h in
    bool (eqb x 0) (λ a. rw a (omega arith)) (λ a. rw a r)

-- to open an unseen node leaves one unseen node less
pub opened : (ms : List ℕ) (r : ℕ) → r < length ms → get_or ms r 0 ≡ 0 → zeros (set ms r 1) + 1 ≡ zeros ms
opened ms r h e = zeros_fall ms r 1 1 (get_d_any ms r 2 0 h ∙ e) (omega arith)

pub zeros_replicate : (n : ℕ) → zeros (replicate n 0) ≡ n
unfolding zeros
zeros_replicate zero = refl
zeros_replicate (suc n) = ap suc (zeros_replicate n)

-- what holds of the value stored and of what stood there holds after the store
pub set_get : (P : ℕ → Type 0) (l : List ℕ) (i v j d : ℕ) → P v → P (get_or l j d) → P (get_or (set l i v) j d)
set_get P [] i v j d p q = q
set_get P (x ∷ xs) zero v zero d p q = p
set_get P (x ∷ xs) zero v (suc j) d p q = q
set_get P (x ∷ xs) (suc i) v zero d p q = q
set_get P (x ∷ xs) (suc i) v (suc j) d p q = set_get P xs i v j d p q

-- past its end a list has the default
pub within : (l : List ℕ) (i d : ℕ) → (get_or l i d ≡ d → ⊥) → i < length l
within [] i d h = absurd (h refl)
within (x ∷ xs) zero d h = omega arith
within (x ∷ xs) (suc i) d h = let r = within xs i d h in omega arith

-- fresh tables hold 0
pub zero_at : (m i : ℕ) → ◌≡◌ {A = ℕ} (get_or (replicate m 0) i 0) 0
zero_at zero i = refl
zero_at (suc m) zero = refl
zero_at (suc m) (suc i) = zero_at m i

-- and so do their first places
pub take_zeros : (n k : ℕ) → n ≤ k → take {A = ℕ} n (replicate k 0) ≡ replicate n 0
take_zeros zero k h = refl
take_zeros (suc n) zero h = absurd (omega arith)
take_zeros (suc n) (suc k) h = ap (λ (l : List ℕ). 0 ∷ l) (take_zeros n k (omega arith))
