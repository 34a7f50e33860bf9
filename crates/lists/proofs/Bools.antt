-- Laws of tests. Assumes nothing.
use mathlib.Core.Path.{◌≡◌, refl, sym, ap, ◌∙◌}
use mathlib.Core.Bool.{Bool, true, false, not, ◌&&◌, ◌||◌, not-not}
use native.Mathlib.Omega.{arith}
use Prim.Native.Nat.{ℕ}
use lib.Dec.{leb, ltb}
use borrow.Author.Tests.{lt-ltb, le-ltb, leb-true, leb-false}

-- a test is true or false
pub bool : {P : Type 0} (b : Bool) → (b ≡ true → P) → (b ≡ false → P) → P
bool true f g = f refl
bool false f g = g refl

-- it is not both
pub not_both : {P : Type 0} (b : Bool) → b ≡ true → b ≡ false → P
not_both b p q = absurd (let z : ◌≡◌ {A = ℕ} 0 1 = cc in omega arith)

-- two tests that hold together
pub both_ways : (a b : Bool) → (a ≡ true → b ≡ true) → (b ≡ true → a ≡ true) → a ≡ b
both_ways a b f g = bool a (λ t. t ∙ sym (f t)) (λ t. bool b (λ u. not_both a (g u) t) (λ u. t ∙ sym u))

pub and_left : (a b : Bool) → (a && b) ≡ true → a ≡ true
and_left true b e = refl
and_left false b e = e

pub and_right : (a b : Bool) → (a && b) ≡ true → b ≡ true
and_right true b e = e
and_right false b e = cc

pub and_both : (a b : Bool) → a ≡ true → b ≡ true → (a && b) ≡ true
and_both true b p q = q
and_both false b p q = cc

pub or_left : (a b : Bool) → (a || b) ≡ false → a ≡ false
or_left true b e = e
or_left false b e = refl

pub or_right : (a b : Bool) → (a || b) ≡ false → b ≡ false
or_right true b e = cc
or_right false b e = e

pub or_neither : (a b : Bool) → a ≡ false → b ≡ false → (a || b) ≡ false
or_neither true b p q = cc
or_neither false b p q = q

pub or_either : {P : Type 0} (a b : Bool) → (a || b) ≡ true → (a ≡ true → P) → (b ≡ true → P) → P
or_either true b e f g = f refl
or_either false b e f g = g e

pub three_not : (a b c : Bool) → ((not a || not b) || not c) ≡ not (a && b && c)
three_not true true c = refl
three_not true false c = refl
three_not false b c = refl

-- above is not at most, and at most is not above
pub over_not : (a b : ℕ) → ltb b a ≡ not (leb a b)
over_not a b =
    bool (leb a b)
    (λ e. rw e (le-ltb b a (leb-true a b e)))
    (λ e. rw e (lt-ltb b a (leb-false a b e)))

pub most_not : (a b : ℕ) → leb a b ≡ not (ltb b a)
most_not a b = sym (ap not (over_not a b) ∙ not-not (leb a b))
