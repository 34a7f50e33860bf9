-- The numbers among flagged nodes. Assumes nothing.
use mathlib.Core.Path.{◌≡◌}
use mathlib.Core.List.{List, [], ◌∷◌}
use mathlib.Core.Bool.{true, not, ◌&&◌}
use Prim.Native.Nat.{ℕ, zero, suc, ◌≤◌}
use native.Mathlib.Omega.{arith}
use lib.Dec.{eqb}
use lib.ListN.{get_or}
use borrow.Author.Tests.{eqb-false, ne_eqb}
use Rattle.lists.proofs.Bools.{bool}
use Rattle.lists.proofs.Members.{In, head, in_nil, in_cons, kept_in}
use Rattle.intervals.specs.Intervals.{numbers_among}

-- the numbers among the flagged nodes are those of the nodes that have a flag and a number
among_both : (f k : ℕ) → 1 ≤ f → 1 ≤ k → (not (eqb f 0) && not (eqb k 0)) ≡ true
among_both f k p q = rw (ne_eqb f 0 (λ e. omega arith), ne_eqb k 0 (λ e. omega arith))

pub among_in : (fs ks : List ℕ) (i : ℕ) → 1 ≤ get_or fs i 0 → 1 ≤ get_or ks i 0 → In (get_or ks i 0) (numbers_among fs ks)
unfolding numbers_among
among_in [] ks i p q = absurd (omega arith)
among_in (f ∷ fs) [] i p q = absurd (omega arith)
among_in (f ∷ fs) (k ∷ ks) zero p q = rw (among_both f k p q) head
among_in (f ∷ fs) (k ∷ ks) (suc i) p q = kept_in (not (eqb f 0) && not (eqb k 0)) (get_or ks i 0) k (numbers_among fs ks) (among_in fs ks i p q)

pub record Among (fs ks : List ℕ) (y : ℕ) : Type 0 where
  pub node : ℕ
  pub flagged : 1 ≤ get_or fs node 0
  pub number : get_or ks node 0 ≡ y
  pub some : 1 ≤ y

among_here : (f k y : ℕ) (fs ks : List ℕ) → (f ≡ 0 → ⊥) → (k ≡ 0 → ⊥) → k ≡ y → Among (f ∷ fs) (k ∷ ks) y
among_here f k y fs ks p q e = record { node = 0; flagged = omega arith; number = e; some = omega arith }

among_later : (f k y : ℕ) (fs ks : List ℕ) → Among fs ks y → Among (f ∷ fs) (k ∷ ks) y
among_later f k y fs ks a = record { node = suc a.node; flagged = a.flagged; number = a.number; some = a.some }

pub among_from : (fs ks : List ℕ) (y : ℕ) → In y (numbers_among fs ks) → Among fs ks y
unfolding numbers_among
among_from [] ks y i = in_nil i
among_from (f ∷ fs) [] y i = in_nil i
among_from (f ∷ fs) (k ∷ ks) y i =
    bool (eqb f 0)
    (λ a. among_later f k y fs ks (among_from fs ks y (rw a at i)))
    (λ a. bool (eqb k 0)
    (λ b. among_later f k y fs ks (among_from fs ks y (rw (a, b) at i)))
    (λ b. in_cons (rw (a, b) at i) (among_here f k y fs ks (eqb-false f 0 a) (eqb-false k 0 b)) (λ j. among_later f k y fs ks (among_from fs ks y j))))
