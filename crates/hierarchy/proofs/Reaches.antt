-- Ways along edges, and flags: those that spread over a table of edges are those of the nodes reached. Assumes nothing.
use mathlib.Core.Path.{◌≡◌, refl, sym, ◌∙◌, subst}
use mathlib.Core.List.{List, [], ◌∷◌}
use mathlib.Core.Bool.{Bool, true, false, not}
use Prim.Native.Nat.{ℕ, zero, suc, ◌≤◌, ◌<◌}
use native.Mathlib.Omega.{arith}
use lib.Dec.{eqb, ltb}
use lib.ListN.{length, get_or, set, replicate, length-set, length-replicate}
use lib.Seq.{get_or-set_same, get_or-set_other, set_out}
use borrow.Author.Tests.{eqb-true, eqb-false, eq-eqb, ne_eqb, ltb-true, ltb-false}
use Rattle.lists.specs.Lists.{zeros, set_if}
use Rattle.hierarchy.specs.Hierarchy.{Edge, Reach, spread, spreads, reach}
use Rattle.hierarchy.specs.Inner.{On, Stable}
use Rattle.hierarchy.specs.Hierarchy.Edge.{first, later}
use Rattle.hierarchy.specs.Hierarchy.Reach.{self, step}
use Rattle.lists.proofs.Bools.{bool}
use Rattle.lists.proofs.Marks.{zeros_set, zeros_cons, zeros_replicate, set_get, zero_at}

pub flag_long : (b : Bool) (m : List ℕ) (c : ℕ) → length (set_if b m c 1) ≡ length m
flag_long true m c = length-set m c 1
flag_long false m c = refl

flag_on : (b : Bool) (m : List ℕ) (c x : ℕ) → On m x → On (set_if b m c 1) x
flag_on true m c x h = set_get (λ (v : ℕ). 1 ≤ v) m c 1 x 0 (omega arith) h
flag_on false m c x h = h

flag_zeros : (b : Bool) (m : List ℕ) (c : ℕ) → zeros (set_if b m c 1) ≤ zeros m
flag_zeros true m c = zeros_set m c 1 (omega arith)
flag_zeros false m c = omega arith

pub spread_long : (es m : List ℕ) → length (spread es m) ≡ length m
unfolding spread
spread_long [] m = refl
spread_long (p ∷ []) m = refl
spread_long (p ∷ (c ∷ es)) m = spread_long es (set_if (not (eqb (get_or m p 0) 0)) m c 1) ∙ flag_long (not (eqb (get_or m p 0) 0)) m c

spread_zeros : (es m : List ℕ) → zeros (spread es m) ≤ zeros m
unfolding spread
spread_zeros [] m = omega arith
spread_zeros (p ∷ []) m = omega arith
spread_zeros (p ∷ (c ∷ es)) m =
    let a = spread_zeros es (set_if (not (eqb (get_or m p 0) 0)) m c 1) in
    let b = flag_zeros (not (eqb (get_or m p 0) 0)) m c in
    omega arith

-- a flag stays
pub spread_on : (es m : List ℕ) (x : ℕ) → On m x → On (spread es m) x
unfolding spread
spread_on [] m x h = h
spread_on (p ∷ []) m x h = h
spread_on (p ∷ (c ∷ es)) m x h = spread_on es (set_if (not (eqb (get_or m p 0) 0)) m c 1) x (flag_on (not (eqb (get_or m p 0) 0)) m c x h)

-- an edge carries a flag on
pub spread_edge : {es : List ℕ} {p c : ℕ} (m : List ℕ) → Edge es p c → On m p → c < length m → On (spread es m) c
unfolding spread
spread_edge {p = p} {c = c} m (first {es = es}) h l =
    spread_on es (set_if (not (eqb (get_or m p 0) 0)) m c 1) c
    (rw (ne_eqb (get_or m p 0) 0 (λ e. omega arith)) (omega (arith, get_or-set_same m c 1 0 l)))
spread_edge {p = p} {c = c} m (later {a} {b} {es = es} e) h l =
    spread_edge (set_if (not (eqb (get_or m a 0) 0)) m b 1) e (flag_on (not (eqb (get_or m a 0) 0)) m b p h) (omega (arith, flag_long (not (eqb (get_or m a 0) 0)) m b))

-- where one node more is flagged, and is among the flags: what holds of it and of the others
pub new_flag : (P : ℕ → Type 0) (m : List ℕ) (c x n : ℕ) → length m ≡ n → On (set m c 1) x → (c < n → P c) → ((y : ℕ) → On m y → P y) → P x
new_flag P m c x n l o f g =
    bool (eqb x c)
    (λ q. bool (ltb c n)
    (λ r. subst P (sym (eqb-true x c q)) (f (ltb-true c n r)))
    (λ r. g x (subst (λ (t : List ℕ). On t x) (set_out m c 1 (omega (arith, ltb-false c n r))) o)))
    (λ q. g x (omega (arith, o, get_or-set_other m c x 1 0 (eqb-false x c q))))

-- what holds of each flagged node, and goes along the edges to nodes among the flags, holds of each node flagged then
pub spread_only : (P : ℕ → Type 0) (es m : List ℕ) (n : ℕ) → length m ≡ n → ((p c : ℕ) → Edge es p c → c < n → P p → P c) → ((x : ℕ) → On m x → P x)
    → (x : ℕ) → On (spread es m) x → P x
unfolding spread
spread_only P [] m n l f g = g
spread_only P (p ∷ []) m n l f g = g
spread_only P (p ∷ (c ∷ es)) m n l f g =
    spread_only P es (set_if (not (eqb (get_or m p 0) 0)) m c 1) n (flag_long (not (eqb (get_or m p 0) 0)) m c ∙ l) (λ a b e. f a b (later e))
    (λ x h. bool (eqb (get_or m p 0) 0)
    (λ e. g x (subst (λ (t : Bool). On (set_if (not t) m c 1) x) e h))
    (λ e. let o : On (set m c 1) x = subst (λ (t : Bool). On (set_if (not t) m c 1) x) e h in
    let d : get_or m p 0 ≡ 0 → ⊥ = eqb-false _ _ e in
    new_flag P m c x n l o (λ r. f p c first r (g p (omega (arith, d)))) g))

-- the same of passes
pub spreads_long : (k : ℕ) (es m : List ℕ) → length (spreads k es m) ≡ length m
unfolding spreads
spreads_long zero es m = refl
spreads_long (suc k) es m = spreads_long k es (spread es m) ∙ spread_long es m

pub reach_long : (n : ℕ) (es : List ℕ) (node : ℕ) → length (reach n es node) ≡ n
unfolding reach
reach_long n es node = spreads_long n es (set (replicate n 0) node 1) ∙ length-set (replicate n 0) node 1 ∙ length-replicate n 0

zeros_zero : (a : ℕ) (l : List ℕ) → a ≡ 0 → zeros (a ∷ l) ≡ suc (zeros l)
unfolding zeros
zeros_zero a l e = rw (eq-eqb a 0 e)

zeros_one : (a : ℕ) (l : List ℕ) → (a ≡ 0 → ⊥) → zeros (a ∷ l) ≡ zeros l
unfolding zeros
zeros_one a l e = rw (ne_eqb a 0 e)

-- more flags leave fewer zeros
pub less_zeros : (l m : List ℕ) → length m ≡ length l → ((x : ℕ) → On l x → On m x) → zeros m ≤ zeros l
less_zeros [] [] h f = omega arith
less_zeros [] (b ∷ m) h f = absurd (omega arith)
less_zeros (a ∷ l) [] h f = absurd (omega arith)
less_zeros (a ∷ l) (b ∷ m) h f =
    zeros_cons b a m l (less_zeros l m (omega arith) (λ y. f (suc y)))
    (λ e. bool (eqb a 0) (eqb-true a 0) (λ q. let d = eqb-false a 0 q in absurd (omega (arith, f 0 (omega (arith, d))))))

-- flags that are no more than before, by their count, are no more
same_on : (l m : List ℕ) → length m ≡ length l → ((x : ℕ) → On l x → On m x) → zeros l ≤ zeros m → (x : ℕ) → On m x → On l x
same_on [] [] h f z x o = o
same_on [] (b ∷ m) h f z x o = absurd (omega arith)
same_on (a ∷ l) [] h f z x o = absurd (omega arith)
same_on (a ∷ l) (b ∷ m) h f z zero o =
    bool (eqb a 0)
    (λ q. absurd (let d : b ≡ 0 → ⊥ = λ e. omega arith in omega (arith, zeros_zero a l (eqb-true a 0 q), zeros_one b m d, less_zeros l m (omega arith) (λ y. f (suc y)))))
    (λ q. let d = eqb-false a 0 q in omega (arith, d))
same_on (a ∷ l) (b ∷ m) h f z (suc x) o =
    same_on l m (omega arith) (λ y. f (suc y))
    (bool (eqb a 0)
    (λ q. bool (eqb b 0)
    (λ t. omega (arith, zeros_zero a l (eqb-true a 0 q), zeros_zero b m (eqb-true b 0 t)))
    (λ t. omega (arith, zeros_zero a l (eqb-true a 0 q), zeros_one b m (eqb-false b 0 t))))
    (λ q. let d = eqb-false a 0 q in let g : 1 ≤ b = f 0 (omega (arith, d)) in
    omega (arith, zeros_one a l d, zeros_one b m (λ e. omega arith))))
    x o

-- a way may go on
pub onto : {es : List ℕ} {r x y : ℕ} → Reach es r x → Reach es x y → Reach es r y
onto self v = v
onto (step e w) v = step e (onto w v)

no_zeros : (m : List ℕ) (c : ℕ) → zeros m ≤ 0 → c < length m → On m c
no_zeros [] c z h = absurd (omega arith)
no_zeros (x ∷ m) zero z h = bool (eqb x 0) (λ q. absurd (omega (arith, zeros_zero x m (eqb-true x 0 q)))) (λ q. let d = eqb-false x 0 q in omega (arith, d))
no_zeros (x ∷ m) (suc c) z h =
    no_zeros m c
    (bool (eqb x 0) (λ q. absurd (omega (arith, zeros_zero x m (eqb-true x 0 q)))) (λ q. omega (arith, zeros_one x m (eqb-false x 0 q))))
    (omega arith)

module _ (es : List ℕ) (n : ℕ) where
  stable_on : (m : List ℕ) → length m ≡ n → Stable n es m → Stable n es (spread es m)
  stable_on m l s p c e r h = spread_on es m c (s p c e r (spread_only (On m) es m n l s (λ x o. o) p h))

  spreads_stable : (k : ℕ) (m : List ℕ) → length m ≡ n → Stable n es m → Stable n es (spreads k es m)
  unfolding spreads
  spreads_stable zero m l s = s
  spreads_stable (suc k) m l s = spreads_stable k (spread es m) (spread_long es m ∙ l) (stable_on m l s)

  -- as many passes as there are nodes without a flag are enough
  pub spreads_enough : (k : ℕ) (m : List ℕ) → length m ≡ n → zeros m ≤ k → Stable n es (spreads k es m)
  unfolding spreads
  spreads_enough zero m l z = λ p c e r h. no_zeros m c z (omega arith)
  spreads_enough (suc k) m l z =
      let a = spread_zeros es m in
      bool (ltb (zeros (spread es m)) (zeros m))
      (λ q. spreads_enough k (spread es m) (spread_long es m ∙ l) (omega (arith, ltb-true (zeros (spread es m)) (zeros m) q)))
      (λ q. spreads_stable (suc k) m l
      (λ p c e r h. same_on m (spread es m) (spread_long es m) (spread_on es m) (ltb-false (zeros (spread es m)) (zeros m) q) c (spread_edge m e h (omega arith))))

  pub spreads_on : (k : ℕ) (m : List ℕ) (x : ℕ) → On m x → On (spreads k es m) x
  unfolding spreads
  spreads_on zero m x h = h
  spreads_on (suc k) m x h = spreads_on k (spread es m) x (spread_on es m x h)

  pub spreads_only : (P : ℕ → Type 0) (k : ℕ) (m : List ℕ) → length m ≡ n → ((p c : ℕ) → Edge es p c → c < n → P p → P c) → ((x : ℕ) → On m x → P x)
      → (x : ℕ) → On (spreads k es m) x → P x
  unfolding spreads
  spreads_only P zero m l f g = g
  spreads_only P (suc k) m l f g = spreads_only P k (spread es m) (spread_long es m ∙ l) f (spread_only P es m n l f g)

  -- WHERE EACH CHILD IS ONE OF n NODES
  module _ (ends : (p c : ℕ) → Edge es p c → c < n) where
    along : (m : List ℕ) {r x : ℕ} → Stable n es m → Reach es r x → On m r → On m x
    along m s self h = h
    along m {r = r} s (step {child = c} e w) h = along m s w (s r c e (ends r c e) h)

    -- a node is flagged if it is reached
    pub reach_all_law : (r x : ℕ) → r < n → Reach es r x → On (reach n es r) x
    unfolding reach
    reach_all_law r x h w =
        let l = length-replicate {A = ℕ} n 0 in
        let m : List ℕ = set (replicate n 0) r 1 in
        along (spreads n es m) (spreads_enough n m (length-set (replicate n 0) r 1 ∙ l) (omega (arith, zeros_set (replicate n 0) r 1 (omega arith), zeros_replicate n))) w
        (spreads_on n m r (omega (arith, get_or-set_same {A = ℕ} (replicate n 0) r 1 0 (omega (arith, l)))))

    -- and only if it is
    pub reach_only : (r x : ℕ) → On (reach n es r) x → Reach es r x
    unfolding reach
    reach_only r =
        spreads_only (Reach es r) n (set (replicate n 0) r 1) (length-set {A = ℕ} (replicate n 0) r 1 ∙ length-replicate {A = ℕ} n 0) (λ p c e _ w. onto w (step e self))
        (λ x o. bool (eqb x r)
        (λ q. subst (λ (y : ℕ). Reach es r y) (sym (eqb-true x r q)) self)
        (λ q. absurd (omega (arith, o, get_or-set_other {A = ℕ} (replicate n 0) r x 1 0 (eqb-false x r q), zero_at n x))))

-- what a node reaches is a node
pub reach_within : {es : List ℕ} {a x : ℕ} (n : ℕ) → ((p c : ℕ) → Edge es p c → c < n) → Reach es a x → a < n → x < n
reach_within n ends self h = h
reach_within {a = a} n ends (step {child = c} e w) h = reach_within n ends w (ends a c e)
