-- The names a call keeps: ascending, each once, those that were given and no other; the eight places hold them. Assumes nothing.
use mathlib.Core.Path.{◌≡◌, refl, sym, ap, ◌∙◌, subst}
use mathlib.Core.List.{List, [], ◌∷◌}
use mathlib.Core.Bool.{Bool, true, false, ◌||◌}
use Prim.Native.Nat.{ℕ, ◌≤◌, ◌<◌}
use native.Mathlib.Omega.{arith}
use lib.Dec.{eqb, ltb}
use lib.ListN.{length}
use borrow.Author.Tests.{lt-ltb, ltb-false, eqb-true, eqb-false, eq-eqb}
use Rattle.lists.specs.Lists.{any}
use Rattle.lists.proofs.Bools.{bool, and_left, and_right}
use Rattle.lists.proofs.Members.{In, head, tail, in_nil, in_cons}
use Rattle.lists.proofs.Distinct.{any_in, any_found}
use Rattle.naming.proofs.Gathering.{names_named}
use Rattle.naming.specs.Names.{placed, insert, insert_all, ascending, rises_from, rises, names_of, named}

rises_in : (y x : ℕ) (l : List ℕ) → y < x → rises_from y l ≡ true → rises_from y (insert x l) ≡ true
unfolding rises_from insert
rises_in y x [] h r = rw (lt-ltb y x h) refl
rises_in y x (z ∷ zs) h r =
    let a = and_left (ltb y z) (rises_from z zs) r in
    let b = and_right (ltb y z) (rises_from z zs) r in
    bool (ltb x z)
    (λ p. rw (p, lt-ltb y x h, p, b) refl)
    (λ p. bool (eqb x z)
    (λ q. rw (p, q, a, b) refl)
    (λ q. rw (p, q, a, rises_in z x zs (omega (arith, ltb-false x z p, eqb-false x z q)) b) refl))

insert_rises : (x : ℕ) (l : List ℕ) → rises l ≡ true → rises (insert x l) ≡ true
unfolding rises_from insert
insert_rises x [] r = refl
insert_rises x (z ∷ zs) r =
    bool (ltb x z)
    (λ p. rw (p, p, r) refl)
    (λ p. bool (eqb x z)
    (λ q. rw (p, q, r) refl)
    (λ q. rw (p, q, rises_in z x zs (omega (arith, ltb-false x z p, eqb-false x z q)) r) refl))

all_rise : (names l : List ℕ) → rises l ≡ true → rises (insert_all names l) ≡ true
unfolding insert_all
all_rise [] l r = r
all_rise (x ∷ xs) l r = all_rise xs (insert x l) (insert_rises x l r)

-- the names kept are ascending, and so each stands there once
pub ascending_rises : (names : List ℕ) → rises (ascending names) ≡ true
ascending_rises names = all_rise names [] refl

-- a list with a name put in is never empty
insert_some : (x : ℕ) (l : List ℕ) → 1 ≤ length (insert x l)
unfolding insert
insert_some x [] = omega arith
insert_some x (y ∷ ys) = by (ltb x y) (eqb x y)
  where
    by : (less same : Bool) → 1 ≤ length (placed less same x y ys (insert x ys))
    by true same = omega arith
    by false true = omega arith
    by false false = omega arith

all_some : (names l : List ℕ) → 1 ≤ length l → 1 ≤ length (insert_all names l)
unfolding insert_all
all_some [] l h = h
all_some (x ∷ xs) l h = all_some xs (insert x l) (insert_some x l)

-- at least one name is kept where one was given (and no more than were: `ascending_most`, naming/proofs/Gathering)
pub ascending_some : (names : List ℕ) → 1 ≤ length names → 1 ≤ length (ascending names)
unfolding insert_all
ascending_some [] h = absurd (omega arith)
ascending_some (x ∷ xs) h = all_some xs (insert x []) (insert_some x [])

-- the names kept are among those given
insert_in : {P : Type 0} (z x : ℕ) (l : List ℕ) → In z (insert x l) → (x ≡ z → P) → (In z l → P) → P
unfolding insert
insert_in z x [] i f g = in_cons i f in_nil
insert_in {P} z x (y ∷ ys) i f g = by (ltb x y) (eqb x y) i (λ j. insert_in z x ys j f (λ k. g (tail k)))
  where
    by : (less same : Bool) → In z (placed less same x y ys (insert x ys)) → (In z (insert x ys) → P) → P
    by true same j rest = in_cons j f g
    by false true j rest = g j
    by false false j rest = in_cons j (λ e. g (subst (λ (k : ℕ). In k (y ∷ ys)) e head)) rest

all_in : {P : Type 0} (z : ℕ) (names l : List ℕ) → In z (insert_all names l) → (In z names → P) → (In z l → P) → P
unfolding insert_all
all_in z [] l i f g = g i
all_in z (x ∷ xs) l i f g =
    all_in z xs (insert x l) i (λ j. f (tail j)) (λ j. insert_in z x l j (λ e. f (subst (λ (k : ℕ). In k (x ∷ xs)) e head)) g)

pub ascending_in : (z : ℕ) (names : List ℕ) → In z (ascending names) → In z names
ascending_in z names i = all_in z names [] i (λ j. j) in_nil

-- and those given are kept: what holds of some name given holds of some name kept, and the other way round
or_turn : (a b c : Bool) → (a || (b || c)) ≡ (b || (a || c))
or_turn true true c = refl
or_turn true false c = refl
or_turn false b c = refl

or_same : (a c : Bool) → (a || (a || c)) ≡ (a || c)
or_same true c = refl
or_same false c = refl

insert_any : (p : ℕ → Bool) (x : ℕ) (l : List ℕ) → any p (insert x l) ≡ (p x || any p l)
unfolding any insert
insert_any p x [] = refl
insert_any p x (z ∷ zs) =
    bool (ltb x z)
    (λ a. rw a refl)
    (λ a. bool (eqb x z)
    (λ b. rw (a, b, eqb-true x z b) (sym (or_same (p z) (any p zs))))
    (λ b. rw (a, b, insert_any p x zs) (or_turn (p z) (p x) (any p zs))))

all_any : (p : ℕ → Bool) (names l : List ℕ) → any p (insert_all names l) ≡ (any p names || any p l)
unfolding any insert_all
all_any p [] l = refl
all_any p (x ∷ xs) l = all_any p xs (insert x l) ∙ ap (any p xs ||◌) (insert_any p x l) ∙ or_turn (any p xs) (p x) (any p l) ∙ or_assoc (p x) (any p xs) (any p l)
  where
    or_assoc : (a b c : Bool) → (a || (b || c)) ≡ ((a || b) || c)
    or_assoc true b c = refl
    or_assoc false b c = refl

pub ascending_any : (p : ℕ → Bool) (names : List ℕ) → any p (ascending names) ≡ any p names
unfolding any
ascending_any p names = all_any p names [] ∙ or_false (any p names)
  where
    or_false : (a : Bool) → (a || false) ≡ a
    or_false true = refl
    or_false false = refl

-- so each name given is kept
pub in_ascending : (x : ℕ) (names : List ℕ) → In x names → In x (ascending names)
in_ascending x names i =
    let (y, j, e) = any_found (eqb x) (ascending names) (ascending_any (eqb x) names ∙ any_in (eqb x) i (eq-eqb x x refl)) in
    subst (λ (k : ℕ). In k (ascending names)) (sym (eqb-true x y e)) j

-- the eight places hold up to eight names
pub named_names : (names : List ℕ) → length names ≤ 8 → names_of (named names) ≡ names
named_names = names_named
