-- More laws of tests and members; the places of a list; lists of different numbers, and how long such a list can be. Assumes nothing.
use mathlib.Core.Path.{◌≡◌, refl, sym, ap, ◌∙◌, subst}
use mathlib.Core.Logic.{◌⊎◌, inl, inr, ◌≢◌}
use mathlib.Core.List.{List, [], ◌∷◌, ◌++◌, append-nil}
use mathlib.Core.Bool.{Bool, true, false, not, ◌||◌, or-true}
use Prim.Native.Nat.{ℕ, zero, suc, ◌≤◌, ◌<◌}
use native.Mathlib.Omega.{arith}
use lib.Dec.{eqb}
use lib.ListN.{length, get_or}
use borrow.Author.Tests.{eqb-true, eqb-false, ne_eqb, not-true}
use Rattle.lists.specs.Lists.{all_below, any_below, every, any, count, keep}
use Rattle.lists.proofs.Bools.{bool, not_both, and_left, and_right, and_both, or_either}
use Rattle.lists.proofs.Members.{In, head, tail, in_nil, in_cons, kept_in}

-- two tests that agree at each number
pub all_alike : (p q : ℕ → Bool) (n : ℕ) → ((i : ℕ) → p i ≡ q i) → all_below n p ≡ all_below n q
unfolding all_below
all_alike p q zero f = refl
all_alike p q (suc n) f = rw (all_alike p q n f, f n)

-- where a test holds at some number below a bound, there is one
pub any_some : (p : ℕ → Bool) (n : ℕ) → any_below n p ≡ true → (i : ℕ) × (i < n) × (p i ≡ true)
unfolding any_below
any_some p zero e = not_both false e refl
any_some p (suc n) e = bool (p n) (λ h. (n, omega arith, h)) (λ h. up (any_some p n (before (any_below n p) (p n) h e)))
  where
    before : (a b : Bool) → b ≡ false → (a || b) ≡ true → a ≡ true
    before true b f e = refl
    before false b f e = not_both b e f

    up : (i : ℕ) × (i < n) × (p i ≡ true) → (i : ℕ) × (i < suc n) × (p i ≡ true)
    up (i, h, t) = (i, omega arith, t)

-- where it holds at a member, it holds at some
pub any_in : (p : ℕ → Bool) {x : ℕ} {xs : List ℕ} → In x xs → p x ≡ true → any p xs ≡ true
unfolding any
any_in p head e = rw e
any_in p (tail {d = y} i) e = rw (any_in p i e) (or-true (p y))

-- and where it holds at some, at a member that is found
pub any_found : (p : ℕ → Bool) (xs : List ℕ) → any p xs ≡ true → (x : ℕ) × In x xs × (p x ≡ true)
unfolding any
any_found p [] e = not_both false e refl
any_found p (x ∷ xs) e = or_either (p x) (any p xs) e (λ t. (x, head, t)) (λ t. let (y, i, q) = any_found p xs t in (y, tail i, q))

-- where it holds at every element it holds at each member,
pub every_in : (p : ℕ → Bool) {x : ℕ} {xs : List ℕ} → every p xs ≡ true → In x xs → p x ≡ true
unfolding every
every_in p {xs = []} e i = elim i [ ]
every_in p {xs = y ∷ ys} e head = and_left (p y) (every p ys) e
every_in p {xs = y ∷ ys} e (tail i) = every_in p (and_right (p y) (every p ys) e) i

-- and the other way round
pub every_of : (p : ℕ → Bool) (xs : List ℕ) → ((x : ℕ) → In x xs → p x ≡ true) → every p xs ≡ true
unfolding every
every_of p [] f = refl
every_of p (x ∷ xs) f = and_both (p x) (every p xs) (f x head) (every_of p xs (λ y i. f y (tail i)))

-- two tests that agree at each member
pub any_alike : (p q : ℕ → Bool) (xs : List ℕ) → ((x : ℕ) → In x xs → p x ≡ q x) → any p xs ≡ any q xs
unfolding any
any_alike p q [] f = refl
any_alike p q (x ∷ xs) f = rw (f x head, any_alike p q xs (λ y i. f y (tail i)))

pub count_alike : (p q : ℕ → Bool) (xs : List ℕ) → ((x : ℕ) → In x xs → p x ≡ q x) → count p xs ≡ count q xs
unfolding count
count_alike p q [] f = refl
count_alike p q (x ∷ xs) f = rw (f x head, count_alike p q xs (λ y i. f y (tail i)))

-- PLACES. What stands at a place is a member, and each member stands at one
pub place_in : (xs : List ℕ) (i : ℕ) → i < length xs → In (get_or xs i 0) xs
place_in [] i h = absurd (omega arith)
place_in (x ∷ xs) zero h = head
place_in (x ∷ xs) (suc i) h = tail (place_in xs i (omega arith))

pub in_place : {x : ℕ} {xs : List ℕ} → In x xs → (i : ℕ) × (i < length xs) × (get_or xs i 0 ≡ x)
in_place head = (0, omega arith, refl)
in_place (tail i) = let (k, h, e) = in_place i in (suc k, omega arith, e)

-- MEMBERS of two lists joined, with x between them or not
pub in_front_law : {x : ℕ} (xs ys : List ℕ) → In x xs → In x (xs ++ ys)
in_front_law [] ys i = elim i [ ]
in_front_law (x ∷ xs) ys head = head
in_front_law (x ∷ xs) ys (tail i) = tail (in_front_law xs ys i)

pub in_between : (x : ℕ) (xs ys : List ℕ) → In x (xs ++ (x ∷ ys))
in_between x [] ys = head
in_between x (y ∷ xs) ys = tail (in_between x xs ys)

pub in_around : {x : ℕ} (y : ℕ) (xs ys : List ℕ) → In x (xs ++ ys) → In x (xs ++ (y ∷ ys))
in_around y [] ys i = tail i
in_around y (z ∷ xs) ys head = head
in_around y (z ∷ xs) ys (tail i) = tail (in_around y xs ys i)

pub in_either : {x y : ℕ} (xs ys : List ℕ) → In x (xs ++ (y ∷ ys)) → (y ≡ x) ⊎ In x (xs ++ ys)
in_either [] ys i = in_cons i inl inr
in_either {x} {y} (z ∷ xs) ys i = in_cons i (λ e. inr (subst (λ (k : ℕ). In k (z ∷ (xs ++ ys))) e head)) (λ j. up (in_either xs ys j))
  where
    up : (y ≡ x) ⊎ In x (xs ++ ys) → (y ≡ x) ⊎ In x (z ∷ (xs ++ ys))
    up (inl e) = inl e
    up (inr j) = inr (tail j)

-- a member of two lists joined is one of the first or of the second
pub in_split : {x : ℕ} (xs ys : List ℕ) → In x (xs ++ ys) → In x xs ⊎ In x ys
in_split [] ys i = inr i
in_split {x} (z ∷ xs) ys i = in_cons i (λ e. inl (subst (λ (k : ℕ). In k (z ∷ xs)) e head)) (λ j. up (in_split xs ys j))
  where
    up : In x xs ⊎ In x ys → In x (z ∷ xs) ⊎ In x ys
    up (inl j) = inl (tail j)
    up (inr j) = inr j

-- members that pass a test
pub in_keep : (p : ℕ → Bool) {x : ℕ} {xs : List ℕ} → In x xs → p x ≡ true → In x (keep p xs)
unfolding keep
in_keep p head e = rw e head
in_keep p {x} (tail {d = y} {cs = xs} i) e = kept_in (p y) x y (keep p xs) (in_keep p i e)

pub keep_in : (p : ℕ → Bool) (x : ℕ) (xs : List ℕ) → In x (keep p xs) → In x xs × (p x ≡ true)
unfolding keep
keep_in p x [] i = in_nil i
keep_in p x (y ∷ xs) i =
    bool (p y)
    (λ h. in_cons (rw h at i) (λ e. (subst (λ (k : ℕ). In k (y ∷ xs)) e head, ap p (sym e) ∙ h)) (λ j. up (keep_in p x xs j)))
    (λ h. up (keep_in p x xs (rw h at i)))
  where
    up : In x xs × (p x ≡ true) → In x (y ∷ xs) × (p x ≡ true)
    up (i, e) = (tail i, e)

-- DIFFERENT NUMBERS: none stands twice
abbrev pub Distinct : List ℕ → Type 0
Distinct [] = Unit {0}
Distinct (x ∷ xs) = (In x xs → ⊥) × Distinct xs

-- the same said of places
pub distinct_at : (xs : List ℕ) → Distinct xs → (i j : ℕ) → j < i → i < length xs → get_or xs i 0 ≢ get_or xs j 0
distinct_at [] s i j h k e = omega arith
distinct_at (x ∷ xs) s zero j h k e = omega arith
distinct_at (x ∷ xs) s (suc i) zero h k e = s.0 (subst (λ (y : ℕ). In y xs) e (place_in xs i (omega arith)))
distinct_at (x ∷ xs) s (suc i) (suc j) h k e = distinct_at xs s.1 i j (omega arith) (omega arith) e

pub distinct_of : (xs : List ℕ) → ((i j : ℕ) → j < i → i < length xs → get_or xs i 0 ≢ get_or xs j 0) → Distinct xs
distinct_of [] f = tt
distinct_of (x ∷ xs) f =
    (λ i. let (k, h, e) = in_place i in f (suc k) 0 (omega arith) (omega arith) e, distinct_of xs (λ i j h k. f (suc i) (suc j) (omega arith) (omega arith)))

-- one more at the end
pub distinct_last : (xs : List ℕ) (y : ℕ) → Distinct xs → (In y xs → ⊥) → Distinct (xs ++ (y ∷ []))
distinct_last [] y s n = (λ i. in_nil i, tt)
distinct_last (x ∷ xs) y s n = (λ i. other (in_either xs [] i), distinct_last xs y s.1 (λ i. n (tail i)))
  where
    front : In x (xs ++ []) → In x xs
    front i = rw append-nil at i

    other : (y ≡ x) ⊎ In x (xs ++ []) → ⊥
    other (inl e) = n (subst (λ (k : ℕ). In k (x ∷ xs)) (sym e) head)
    other (inr i) = s.0 (front i)

-- one less in between: it was none of the others
pub distinct_between : (xs ys : List ℕ) (y : ℕ) → Distinct (xs ++ (y ∷ ys)) → Distinct (xs ++ ys) × (In y (xs ++ ys) → ⊥)
distinct_between [] ys y s = (s.1, s.0)
distinct_between (x ∷ xs) ys y s =
    let (d, n) = distinct_between xs ys y s.1 in
    ((λ i. s.0 (in_around y xs ys i), d), λ i. in_cons i (λ e. s.0 (subst (λ (k : ℕ). In k (xs ++ (y ∷ ys))) (sym e) (in_between y xs ys))) n)

pub distinct_keep : (p : ℕ → Bool) (xs : List ℕ) → Distinct xs → Distinct (keep p xs)
unfolding keep
distinct_keep p [] s = tt
distinct_keep p (x ∷ xs) s = bool (p x) (λ e. rw e (λ i. s.0 (keep_in p x xs i).0, distinct_keep p xs s.1)) (λ e. rw e (distinct_keep p xs s.1))

-- THE PIGEONHOLE: different numbers below n are at most n
abbrev others : ℕ → List ℕ → List ℕ
others n xs = keep (λ x. not (eqb x n)) xs

others_all : (n : ℕ) (xs : List ℕ) → (In n xs → ⊥) → length (others n xs) ≡ length xs
unfolding keep
others_all n [] s = refl
others_all n (x ∷ xs) s = rw (ne_eqb x n (λ e. s (subst (λ (k : ℕ). In k (x ∷ xs)) e head))) (ap suc (others_all n xs (λ i. s (tail i))))

others_long : (n : ℕ) (xs : List ℕ) → Distinct xs → length xs ≤ suc (length (others n xs))
unfolding keep
others_long n [] s = omega arith
others_long n (x ∷ xs) s =
    bool (eqb x n)
    (λ e. rw e (omega (arith, others_all n xs (λ i. s.0 (subst (λ (k : ℕ). In k xs) (sym (eqb-true x n e)) i)))))
    (λ e. rw e (omega (arith, others_long n xs s.1)))

pub distinct_below : (n : ℕ) (xs : List ℕ) → Distinct xs → ((x : ℕ) → In x xs → x < n) → length xs ≤ n
distinct_below zero [] s b = omega arith
distinct_below zero (x ∷ xs) s b = absurd (omega (arith, b x head))
distinct_below (suc n) xs s b =
    omega (arith, others_long n xs s, distinct_below n (others n xs) (distinct_keep (λ x. not (eqb x n)) xs s) fewer)
  where
    fewer : (x : ℕ) → In x (others n xs) → x < n
    fewer x i =
        let (j, e) = keep_in (λ x. not (eqb x n)) x xs i in
        omega (arith, b x j, eqb-false x n (not-true (eqb x n) e))
