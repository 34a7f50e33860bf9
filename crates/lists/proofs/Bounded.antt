-- Tests at every number below a bound, and at some: the turns of a loop that counts up, and what the whole says of each. Assumes nothing.
use mathlib.Core.Path.{◌≡◌, refl, sym, ap, ◌∙◌}
use mathlib.Core.List.{List, [], ◌∷◌, ◌++◌}
use mathlib.Core.Bool.{Bool, true, false, ◌&&◌, ◌||◌, and-false, or-true, or-false, or_assoc}
use Prim.Native.Nat.{ℕ, zero, suc, ◌+◌, ◌≤◌, ◌<◌}
use native.Mathlib.Numerals.{add-one}
use native.Mathlib.Omega.{arith}
use lib.Dec.{eqb}
use lib.ListN.{length, get_or, take}
use lib.Seq.{take-suc}
use borrow.Author.Tests.{eqb-true, eqb-false}
use Rattle.lists.specs.Lists.{all_below, any_below, any}
use Rattle.lists.proofs.Bools.{bool, and_left, and_right, and_both, or_left, or_right, or_neither}

-- below n + 1 is n, or below n
pub below_more : {P : Type 0} (i n : ℕ) → i < suc n → (i ≡ n → P) → (i < n → P) → P
below_more i n h f g = bool (eqb i n) (λ e. f (eqb-true i n e)) (λ e. let d = eqb-false i n e in g (omega (arith, d)))

module _ (p : ℕ → Bool) where
  -- a loop with the invariant `all_below i p ≡ true`
  pub all_next : (i : ℕ) → all_below i p ≡ true → p i ≡ true → all_below (i + 1) p ≡ true
  unfolding all_below
  all_next i a h = rw add-one (and_both (all_below i p) (p i) a h)

  pub all_stop : (n i : ℕ) → i < n → p i ≡ false → all_below n p ≡ false
  unfolding all_below
  all_stop zero i l h = absurd (omega arith)
  all_stop (suc n) i l h =
      below_more i n l
      (λ e. let q : p n ≡ false = ap p (sym e) ∙ h in rw q (and-false (all_below n p)))
      (λ m. rw (all_stop n i m h))

  -- each number below passes
  pub all_at : (n i : ℕ) → all_below n p ≡ true → i < n → p i ≡ true
  unfolding all_below
  all_at zero i a l = absurd (omega arith)
  all_at (suc n) i a l =
      below_more i n l
      (λ e. ap p e ∙ and_right (all_below n p) (p n) a)
      (λ m. all_at n i (and_left (all_below n p) (p n) a) m)

  -- where each passes, all do
  pub all_of : (n : ℕ) → ((i : ℕ) → i < n → p i ≡ true) → all_below n p ≡ true
  unfolding all_below
  all_of zero f = refl
  all_of (suc n) f = and_both (all_below n p) (p n) (all_of n (λ i l. f i (omega arith))) (f n (omega arith))

  -- a loop with the invariant `any_below i p ≡ false`
  pub any_next : (i : ℕ) → any_below i p ≡ false → p i ≡ false → any_below (i + 1) p ≡ false
  unfolding any_below
  any_next i a h = rw add-one (or_neither (any_below i p) (p i) a h)

  pub any_stop : (n i : ℕ) → i < n → p i ≡ true → any_below n p ≡ true
  unfolding any_below
  any_stop zero i l h = absurd (omega arith)
  any_stop (suc n) i l h =
      below_more i n l
      (λ e. let q : p n ≡ true = ap p (sym e) ∙ h in rw q (or-true (any_below n p)))
      (λ m. rw (any_stop n i m h))

  -- none below passes
  pub any_none : (n i : ℕ) → any_below n p ≡ false → i < n → p i ≡ false
  unfolding any_below
  any_none zero i a l = absurd (omega arith)
  any_none (suc n) i a l =
      below_more i n l
      (λ e. ap p e ∙ or_right (any_below n p) (p n) a)
      (λ m. any_none n i (or_left (any_below n p) (p n) a) m)

  pub none_of : (n : ℕ) → ((i : ℕ) → i < n → p i ≡ false) → any_below n p ≡ false
  unfolding any_below
  none_of zero f = refl
  none_of (suc n) f = or_neither (any_below n p) (p n) (none_of n (λ i l. f i (omega arith))) (f n (omega arith))

  -- one number more in a loop that looks at all
  pub any_one_more : (i : ℕ) (so_far here : Bool) → so_far ≡ any_below i p → here ≡ p i → (so_far || here) ≡ any_below (i + 1) p
  unfolding any_below
  any_one_more i so_far here e f = rw add-one (ap (◌|| here) e ∙ ap (any_below i p ||◌) f)

  -- the loop's end: what is counted is all
  pub all_end : (n i : ℕ) → all_below i p ≡ true → i ≤ n → n ≤ i → true ≡ all_below n p
  all_end n i a h g = sym (ap (λ (k : ℕ). all_below k p) (let e : n ≡ i = omega arith in e) ∙ a)

  pub any_end : (n i : ℕ) → any_below i p ≡ false → i ≤ n → n ≤ i → false ≡ any_below n p
  any_end n i a h g = sym (ap (λ (k : ℕ). any_below k p) (let e : n ≡ i = omega arith in e) ∙ a)

-- tests that are the same at each number below n
pub same_any : (p q : ℕ → Bool) (n : ℕ) → ((i : ℕ) → i < n → p i ≡ q i) → any_below n p ≡ any_below n q
unfolding any_below
same_any p q zero e = refl
same_any p q (suc n) e = ap (◌|| p n) (same_any p q n (λ i h. e i (omega arith))) ∙ ap (any_below n q ||◌) (e n (omega arith))

pub same_all : (p q : ℕ → Bool) (n : ℕ) → ((i : ℕ) → i < n → p i ≡ q i) → all_below n p ≡ all_below n q
unfolding all_below
same_all p q zero e = refl
same_all p q (suc n) e = ap (◌&& p n) (same_all p q n (λ i h. e i (omega arith))) ∙ ap (all_below n q &&◌) (e n (omega arith))

-- one that holds from no m on holds below n where it does below m
pub any_further : (p : ℕ → Bool) (m k : ℕ) → ((i : ℕ) → m ≤ i → p i ≡ false) → any_below (k + m) p ≡ any_below m p
unfolding any_below
any_further p m zero f = ap (λ (n : ℕ). any_below n p) (let e : 0 + m ≡ m = omega arith in e)
any_further p m (suc k) f =
    let e : suc k + m ≡ suc (k + m) = omega arith in
    rw e (ap (any_below (k + m) p ||◌) (f (k + m) (omega arith)) ∙ or-false (any_below (k + m) p) ∙ any_further p m k f)

-- a test at some element of two lists, one behind the other
pub any_append : {A : Type 0} (f : A → Bool) (xs ys : List A) → any f (xs ++ ys) ≡ any f xs || any f ys
unfolding any
any_append f [] ys = refl
any_append f (x ∷ xs) ys = ap (f x ||◌) (any_append f xs ys) ∙ sym (or_assoc (f x) (any f xs) (any f ys))

-- a test at some of the first k elements, by their places
any_snoc : {A : Type 0} (f : A → Bool) (xs : List A) (x : A) → any f (xs ++ (x ∷ [])) ≡ any f xs || f x
unfolding any
any_snoc f xs x = any_append f xs (x ∷ []) ∙ ap (any f xs ||◌) (or-false (f x))

pub any_take : {A : Type 0} (f : A → Bool) (l : List A) (d : A) (k : ℕ) → k ≤ length l → any f (take k l) ≡ any_below k (λ i. f (get_or l i d))
unfolding any_below any
any_take f l d zero h = refl
any_take f l d (suc k) h =
    ap (any f) (take-suc l k d (omega arith)) ∙ any_snoc f (take k l) (get_or l k d) ∙ ap (◌|| f (get_or l k d)) (any_take f l d k (omega arith))
