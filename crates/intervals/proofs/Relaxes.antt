-- Values that passes over a table of edges better until no edge has anything left to do are the best that each node reaches. Assumes nothing.
use mathlib.Core.Path.{◌≡◌, refl, sym, ◌∙◌, subst}
use mathlib.Core.List.{List, [], ◌∷◌}
use mathlib.Core.Bool.{Bool, true, false}
use Prim.Native.Nat.{ℕ, zero, suc, ◌<◌}
use native.Mathlib.Omega.{arith}
use lib.Dec.{eqb}
use lib.ListN.{length, get_or, set, length-set}
use lib.Seq.{get_or-set_other}
use borrow.Author.Tests.{eqb-true, eqb-false, ltb-true, ltb-false, le-ltb}
use Rattle.hierarchy.specs.Hierarchy.{Edge, Reach}
use Rattle.hierarchy.specs.Hierarchy.Reach.{self, step}
use Rattle.intervals.specs.Inner.{is_better, improved, Ok, From, Kept, Settled, Best, weight}
use Rattle.lists.proofs.Bools.{bool}
use Rattle.lists.proofs.Marks.{set_get}
use Rattle.hierarchy.proofs.Reaches.{onto}

-- ---- the order

pub ok_refl : (up : Bool) (x : ℕ) → Ok up x x
ok_refl true x = le-ltb x x (omega arith)
ok_refl false x = le-ltb x x (omega arith)

pub ok_trans : (up : Bool) (x y z : ℕ) → Ok up x y → Ok up y z → Ok up x z
ok_trans true x y z a b = le-ltb x z (omega (arith, ltb-false x y a, ltb-false y z b))
ok_trans false x y z a b = le-ltb z x (omega (arith, ltb-false y x a, ltb-false z y b))

pub ok_better : (up : Bool) (x y : ℕ) → is_better up x y ≡ true → Ok up x y
ok_better true x y a = le-ltb x y (omega (arith, ltb-true y x a))
ok_better false x y a = le-ltb y x (omega (arith, ltb-true x y a))

-- ---- passes

pub kept_start : (up : Bool) (es vs : List ℕ) → Kept up es vs vs
kept_start up es vs = record { long = refl; from = λ r. record { of = r; way = self; same = refl }; good = λ r. ok_refl up (get_or vs r 0) }

pub kept_trans : (up : Bool) (es vs l m : List ℕ) → Kept up es vs l → Kept up es l m → Kept up es vs m
kept_trans up es vs l m k j =
    record {
      long = j.long ∙ k.long;
      from = λ r. let f = j.from r in let g = k.from f.of in record { of = g.of; way = onto f.way g.way; same = f.same ∙ g.same };
      good = λ r. ok_trans up (get_or m r 0) (get_or l r 0) (get_or vs r 0) (j.good r) (k.good r);
    }

-- a parent takes its child's value where that is better
pub kept_one : (up : Bool) (es vs l : List ℕ) (p c : ℕ) → Edge es p c → Kept up es vs l → Kept up es vs (improved up p c l)
kept_one up es vs l p c e k =
    bool (is_better up (get_or l c 0) (get_or l p 0))
    (λ q. rw q
    (let f = k.from c in
    let at_p : (r : ℕ) (P : ℕ → ℕ → Type 0) → P p (get_or l c 0) → ((r : ℕ) → P r (get_or l r 0)) → P r (get_or (set l p (get_or l c 0)) r 0)
    = λ r P a g. bool (eqb r p)
    (λ t. set_get (P r) l p (get_or l c 0) r 0 (subst (λ (y : ℕ). P y (get_or l c 0)) (sym (eqb-true r p t)) a) (g r))
    (λ t. subst (P r) (sym (get_or-set_other l p r (get_or l c 0) 0 (eqb-false r p t))) (g r)) in
    record {
      long = length-set l p (get_or l c 0) ∙ k.long;
      from = λ r. at_p r (From es vs) (record { of = f.of; way = step e f.way; same = f.same }) k.from;
      good = λ r. at_p r (λ y v. Ok up v (get_or vs y 0)) (ok_trans up (get_or l c 0) (get_or l p 0) (get_or vs p 0) (ok_better up (get_or l c 0) (get_or l p 0) q) (k.good p)) k.good;
    }))
    (λ q. rw q k)

-- where no edge has anything left to do, each value is the best that its node reaches
module _ (up : Bool) (es vs l : List ℕ) (k : Kept up es vs l) (settled : Settled up es l) where
  still_way : {r x : ℕ} → Reach es r x → Ok up (get_or l r 0) (get_or l x 0)
  still_way {r = r} self = ok_refl up (get_or l r 0)
  still_way {r = r} {x = x} (step {child = c} e w) = ok_trans up (get_or l r 0) (get_or l c 0) (get_or l x 0) (settled r c e) (still_way w)

  pub still_best : Best up es vs l
  still_best =
      record {
        long = k.long;
        from = k.from;
        over = λ node x w. ok_trans up (get_or l node 0) (get_or l x 0) (get_or vs x 0) (still_way w) (k.good x);
      }

-- ---- the weight

pub weight_set : (up : Bool) (l : List ℕ) (i v : ℕ) → i < length l → is_better up v (get_or l i 0) ≡ true → v < 65536 → weight up (set l i v) < weight up l
unfolding weight
weight_set up [] i v h b f = absurd (omega arith)
weight_set true (x ∷ xs) zero v h b f = omega (arith, ltb-true x v b)
weight_set false (x ∷ xs) zero v h b f = omega (arith, ltb-true v x b)
weight_set up (x ∷ xs) (suc i) v h b f = let r = weight_set up xs i v (omega arith) b f in omega (arith, r)
