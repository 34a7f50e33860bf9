-- What it says of edges and ways that no node has several parents: an edge is told by its child, and of two nodes that reach a third one reaches the other. Assumes nothing.
use mathlib.Core.Path.{◌≡◌, refl, sym, subst}
use mathlib.Core.Logic.{◌⊎◌, inl, inr}
use mathlib.Core.List.{List, [], ◌∷◌}
use mathlib.Core.Bool.{true, false, or-true}
use Prim.Native.Nat.{ℕ, ◌≤◌}
use native.Mathlib.Omega.{arith}
use lib.Dec.{eqb}
use borrow.Author.Tests.{eqb-true, eq-eqb}
use Rattle.lists.proofs.Bools.{bool, not_both, or_left, or_right, or_neither, or_either}
use Rattle.lists.proofs.Distinct.{Distinct}
use Rattle.hierarchy.specs.Hierarchy.{children, some_edge, Edge, Reach}
use Rattle.hierarchy.specs.Hierarchy.Edge.{first, later}
use Rattle.hierarchy.specs.Hierarchy.Reach.{self, step}
use Rattle.hierarchy.proofs.EdgeLoops.{edge_of}
use Rattle.hierarchy.proofs.Reaches.{onto}
use Rattle.trees.specs.Tree.{leads_to, parent_count, several_parents}

-- EDGES TO A NODE. The test finds one,
pub leads : {es : List ℕ} {p c : ℕ} → Edge es p c → some_edge (leads_to c) es ≡ true
unfolding some_edge
leads {c = c} first = rw (eq-eqb c c refl)
leads {c = c} (later {b = b} e) = rw (leads e) (or-true (eqb b c))

-- and what it finds is one
pub found : (es : List ℕ) (c : ℕ) → some_edge (leads_to c) es ≡ true → (p : ℕ) × Edge es p c
unfolding some_edge
found [] c h = not_both false h refl
found (a ∷ []) c h = not_both false h refl
found (a ∷ b ∷ es) c h =
    or_either (eqb b c) (some_edge (leads_to c) es) h
    (λ t. (a, subst (λ (x : ℕ). Edge (a ∷ b ∷ es) a x) (eqb-true b c t) first))
    (λ t. let f = found es c t in (f.0, later f.1))

-- where it finds none, none is counted
pub none_counted : (es : List ℕ) (c : ℕ) → some_edge (leads_to c) es ≡ false → parent_count es c ≡ 0
unfolding some_edge parent_count
none_counted [] c h = refl
none_counted (a ∷ []) c h = refl
none_counted (a ∷ b ∷ es) c h =
    let rest = none_counted es c (or_right (eqb b c) (some_edge (leads_to c) es) h) in
    rw (or_left (eqb b c) (some_edge (leads_to c) es) h) (omega arith)

-- and each edge is counted
pub some_counted : {es : List ℕ} {p c : ℕ} → Edge es p c → 1 ≤ parent_count es c
unfolding parent_count
some_counted {c = c} first = rw (eq-eqb c c refl) (omega arith)
some_counted (later e) = omega (arith, some_counted e)

-- NO NODE HAS SEVERAL PARENTS where none is the child of two edges,
pub once_counted : (es : List ℕ) → several_parents es ≡ false → (c : ℕ) → parent_count es c ≤ 1
unfolding several_parents parent_count
once_counted [] h c = omega arith
once_counted (a ∷ []) h c = omega arith
once_counted (a ∷ b ∷ es) h c =
    bool (eqb b c)
    (λ t.
    let none = or_left (some_edge (leads_to b) es) (several_parents es) h in
    rw t (omega (arith, none_counted es c (subst (λ (x : ℕ). some_edge (leads_to x) es ≡ false) (eqb-true b c t) none))))
    (λ t. rw t (omega (arith, once_counted es (or_right (some_edge (leads_to b) es) (several_parents es) h) c)))

-- and only there
pub counted_once : (es : List ℕ) → ((c : ℕ) → parent_count es c ≤ 1) → several_parents es ≡ false
unfolding several_parents parent_count
counted_once [] f = refl
counted_once (a ∷ []) f = refl
counted_once (a ∷ b ∷ es) f =
    or_neither (some_edge (leads_to b) es) (several_parents es)
    (bool (some_edge (leads_to b) es)
    (λ t. let two = rw (eq-eqb b b refl) at (f b) in absurd (omega (arith, two, some_counted (found es b t).1)))
    (λ t. t))
    (counted_once es (λ c. let more = f c in omega arith))

-- an edge is the first, or one of the others
edge_cases : {P : Type 0} {a b p c : ℕ} {es : List ℕ} → Edge (a ∷ b ∷ es) p c → (a ≡ p → b ≡ c → P) → (Edge es p c → P) → P
edge_cases first f g = f refl refl
edge_cases (later e) f g = g e

-- two edges to one child have one parent
pub parent_once : {es : List ℕ} {p q c : ℕ} → several_parents es ≡ false → Edge es p c → Edge es q c → p ≡ q
unfolding several_parents
parent_once {c = c} h (first {es = es}) f =
    edge_cases f (λ a b. a) (λ g. not_both (some_edge (leads_to c) es) (leads g) (or_left (some_edge (leads_to c) es) (several_parents es) h))
parent_once {c = c} h (later {b = b} {es = es} e) f =
    edge_cases f
    (λ a d. not_both (some_edge (leads_to b) es) (subst (λ (x : ℕ). some_edge (leads_to x) es ≡ true) (sym d) (leads e)) (or_left (some_edge (leads_to b) es) (several_parents es) h))
    (λ g. parent_once (or_right (some_edge (leads_to b) es) (several_parents es) h) e g)

-- no child stands twice among those of one node
pub children_once : (es : List ℕ) (node : ℕ) → several_parents es ≡ false → Distinct (children es node)
unfolding several_parents children
children_once [] node h = tt
children_once (a ∷ []) node h = tt
children_once (a ∷ b ∷ es) node h =
    let rest = children_once es node (or_right (some_edge (leads_to b) es) (several_parents es) h) in
    bool (eqb a node)
    (λ t. rw t (λ i. not_both (some_edge (leads_to b) es) (leads (edge_of es node b i)) (or_left (some_edge (leads_to b) es) (several_parents es) h), rest))
    (λ t. rw t rest)

-- WAYS by their last edge
pub data Down : List ℕ → ℕ → ℕ → Type 0 where
  here : {es : List ℕ} {node : ℕ} → Down es node node
  on : {es : List ℕ} {node parent x : ℕ} → Down es node parent → Edge es parent x → Down es node x

down_step : {es : List ℕ} {a b x : ℕ} → Edge es a b → Down es b x → Down es a x
down_step e here = on here e
down_step e (on d f) = on (down_step e d) f

pub down_of : {es : List ℕ} {a x : ℕ} → Reach es a x → Down es a x
down_of self = here
down_of (step e w) = down_step e (down_of w)

reach_of : {es : List ℕ} {a x : ℕ} → Down es a x → Reach es a x
reach_of here = self
reach_of (on d e) = onto (reach_of d) (step e self)

-- what is reached from elsewhere is reached by an edge
pub last_edge : {es : List ℕ} {a x : ℕ} → Down es a x → (x ≡ a → ⊥) → (p : ℕ) × Edge es p x
last_edge here d = absurd (d refl)
last_edge (on {parent = p} w e) d = (p, e)

-- of two nodes that reach a third, one reaches the other
module _ (es : List ℕ) (none : several_parents es ≡ false) where
  last_edges : {a b p x : ℕ} → Down es a p → Edge es p x → ((q : ℕ) → p ≡ q → Down es b q → Reach es a b ⊎ Reach es b a) → Down es b x → Reach es a b ⊎ Reach es b a
  last_edges d e k here = inl (onto (reach_of d) (step e self))
  last_edges d e k (on {parent = q} c f) = k q (parent_once none e f) c

  pub comparable : {a b x : ℕ} → Down es a x → Down es b x → Reach es a b ⊎ Reach es b a
  comparable here c = inr (reach_of c)
  comparable {b = b} (on {parent = p} d e) c = last_edges d e (λ q s f. comparable d (subst (λ (y : ℕ). Down es b y) (sym s) f)) c
