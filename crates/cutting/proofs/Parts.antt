-- The three kinds of records: of the head, values and steps. Assumes nothing.
use mathlib.Core.Path.{◌≡◌, refl, ap}
use mathlib.Core.List.{List, [], ◌∷◌}
use mathlib.Core.Bool.{Bool, true, false, not, ◌&&◌}
use Prim.Native.Nat.{ℕ, ◌+◌, ◌≤◌, ◌<◌}
use native.Mathlib.Omega.{arith}
use borrow.Author.Tests.{eqb-true, leb-true, leb-false, le-leb, ne_eqb, lt-leb, not-true}
use lib.Dec.{eqb, leb}
use lib.ListN.{length}
use Rattle.lists.specs.Lists.{count, one}
use Rattle.lists.proofs.Bools.{and_left, and_right, and_both, bool}
use Rattle.blocks.specs.Record.{kind_of, step_kind}

-- KINDS. A record is of the head, a value or a step, and only one of these
abbrev pub of_head : List ℕ → Bool
of_head r = leb (kind_of r) 2

abbrev pub of_value : List ℕ → Bool
of_value r = eqb (kind_of r) 8

abbrev pub of_step : List ℕ → Bool
of_step r = step_kind (kind_of r)

pub head_no_value : (r : List ℕ) → of_head r ≡ true → of_value r ≡ false
head_no_value r h = let l : kind_of r ≤ 2 = leb-true (kind_of r) 2 h in ne_eqb (kind_of r) 8 (λ e. omega arith)

pub head_no_step : (r : List ℕ) → of_head r ≡ true → of_step r ≡ false
head_no_step r h = let l : kind_of r ≤ 2 = leb-true (kind_of r) 2 h in ap (λ (b : Bool). b && not (eqb (kind_of r) 8)) (lt-leb 3 (kind_of r) (omega arith))

pub value_no_head : (r : List ℕ) → of_value r ≡ true → of_head r ≡ false
value_no_head r h = let l : kind_of r ≡ 8 = eqb-true (kind_of r) 8 h in lt-leb (kind_of r) 2 (omega arith)

pub value_no_step : (r : List ℕ) → of_value r ≡ true → of_step r ≡ false
value_no_step r h = ap step_kind (eqb-true (kind_of r) 8 h)

pub step_no_head : (r : List ℕ) → of_step r ≡ true → of_head r ≡ false
step_no_head r h = let l : 3 ≤ kind_of r = leb-true 3 (kind_of r) (and_left (leb 3 (kind_of r)) (not (of_value r)) h) in lt-leb (kind_of r) 2 (omega arith)

pub step_no_value : (r : List ℕ) → of_step r ≡ true → of_value r ≡ false
step_no_value r h = not-true (of_value r) (and_right (leb 3 (kind_of r)) (not (of_value r)) h)

pub else_step : (r : List ℕ) → of_head r ≡ false → of_value r ≡ false → of_step r ≡ true
else_step r h v = let l : 2 < kind_of r = leb-false (kind_of r) 2 h in and_both (leb 3 (kind_of r)) (not (of_value r)) (le-leb 3 (kind_of r) l) (ap not v)

-- so each record is counted once
pub three_kinds : (rs : List (List ℕ)) → count of_head rs + count of_value rs + count of_step rs ≡ length rs
unfolding count
three_kinds [] = refl
three_kinds (r ∷ rs) =
    let ih = three_kinds rs in
    bool (of_head r)
    (λ e. omega (arith, ap one e, ap one (head_no_value r e), ap one (head_no_step r e)))
    (λ e. bool (of_value r)
    (λ f. omega (arith, ap one e, ap one f, ap one (value_no_step r f)))
    (λ f. omega (arith, ap one e, ap one f, ap one (else_step r e f))))
