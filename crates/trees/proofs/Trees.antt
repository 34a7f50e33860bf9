-- THEOREMS about trees: one parent, contiguity, and what it is to share a number. Assumes nothing.
use mathlib.Core.Path.{◌≡◌, refl, sym, ap, ◌∙◌, subst}
use mathlib.Core.Logic.{◌⊎◌, ⊎_elim}
use mathlib.Core.List.{List, [], ◌∷◌}
use mathlib.Core.Bool.{Bool, true, false, ◌||◌, or-true}
use Prim.Native.Nat.{ℕ, ◌≤◌, ◌<◌}
use native.Mathlib.Omega.{arith}
use lib.Dec.{eqb}
use lib.ListN.{get_or}
use borrow.Author.Tests.{eqb-true, eqb-false, eq-eqb}
use Rattle.lists.proofs.Bools.{bool, not_both, or_left, or_right, or_neither, or_either}
use Rattle.lists.proofs.Bounded.{all_at, all_of}
use Rattle.lists.proofs.Refusals.{refusal_none}
use Rattle.hierarchy.specs.Hierarchy.{edges_of, some_edge, Edge, Reach, same_edge, edge_twice, hierarchy_checks, Legal}
use Rattle.hierarchy.specs.Hierarchy.Edge.{first, later}
use Rattle.hierarchy.specs.Hierarchy.Reach.{self}
use Rattle.hierarchy.proofs.Legals.{Promise, promised}
use Rattle.intervals.specs.Numbering.{numbering}
use Rattle.intervals.specs.Intervals.{low_of, high_of}
use Rattle.interval_laws.proofs.Laws.{Shared, number_once, low_is, high_is, interval_real, common_share}
use Rattle.trees.specs.Tree.{leads_to, parent_count, one_parent_each, Tree, several_parents}
use Rattle.trees.proofs.Parents.{found, none_counted, some_counted, once_counted, counted_once, parent_once, down_of, last_edge, comparable}
use Rattle.trees.proofs.Blocks.{block_of}

-- an edge of the table is found in it
same_found : {es : List ℕ} {p c : ℕ} → Edge es p c → some_edge (same_edge p c) es ≡ true
unfolding some_edge
same_found {p = p} {c = c} first = rw (eq-eqb p p refl, eq-eqb c c refl)
same_found {p = p} {c = c} (later {a = a} {b = b} e) = rw (same_found e) (or-true (same_edge p c a b))

-- where each edge is told by its child and none stands twice, no node has several parents
none_several : (es : List ℕ) → edge_twice es ≡ false → ((p q c : ℕ) → Edge es p c → Edge es q c → p ≡ q) → several_parents es ≡ false
unfolding edge_twice several_parents
none_several [] h f = refl
none_several (a ∷ []) h f = refl
none_several (a ∷ b ∷ es) h f =
    or_neither (some_edge (leads_to b) es) (several_parents es)
    (bool (some_edge (leads_to b) es)
    (λ t.
    let e = found es b t in
    let q : a ≡ e.0 = f a e.0 b first (later e.1) in
    not_both (some_edge (same_edge a b) es) (subst (λ (x : ℕ). some_edge (same_edge x b) es ≡ true) (sym q) (same_found e.1)) (or_left (some_edge (same_edge a b) es) (edge_twice es) h))
    (λ t. t))
    (none_several es (or_right (some_edge (same_edge a b) es) (edge_twice es) h) (λ p q c d e. f p q c (later d) (later e)))

-- each node but the root has exactly one parent, node by node
pub each_one : (n : ℕ) (es : List ℕ) → ((node : ℕ) → node < n → (node ≡ 0 → ⊥) → parent_count es node ≡ 1) → one_parent_each n es ≡ true
each_one n es each =
    all_of (λ node. eqb node 0 || eqb (parent_count es node) 1) n
    (λ node h. bool (eqb node 0)
    (λ t. ap (◌|| eqb (parent_count es node) 1) t)
    (λ t. ap (eqb node 0 ||◌) (eq-eqb (parent_count es node) 1 (each node h (eqb-false node 0 t))) ∙ or-true (eqb node 0)))

module _ (n : ℕ) (table : List ℕ) (edge_count : ℕ) where
  abbrev es : List ℕ
  es = edges_of table edge_count

  -- what a legal hierarchy promises
  promise : Legal n table edge_count → Promise n es
  promise = promised n table edge_count

  -- OVER EVERY LEGAL HIERARCHY
  module _ (legal : Legal n table edge_count) where
    -- no node has several parents exactly where each node but the root has exactly one
    pub several_none : (one_parent_each n es ≡ true → several_parents es ≡ false) × (several_parents es ≡ false → one_parent_each n es ≡ true)
    several_none = (λ each. counted_once es (most each), λ none. all_of test n (just none))
      where
        test : ℕ → Bool
        test node = eqb node 0 || eqb (parent_count es node) 1

        most : one_parent_each n es ≡ true → (c : ℕ) → parent_count es c ≤ 1
        most each c =
            bool (some_edge (leads_to c) es)
            (λ t.
            let e = found es c t in
            let right = (promise legal).edge e.0 c e.1 in
            or_either (eqb c 0) (eqb (parent_count es c) 1) (all_at test n c each right.child_below)
            (λ r. absurd (right.not_root (eqb-true c 0 r)))
            (λ r. omega (arith, eqb-true (parent_count es c) 1 r)))
            (λ f. omega (arith, none_counted es c f))

        just : several_parents es ≡ false → (node : ℕ) → node < n → test node ≡ true
        just none node h =
            bool (eqb node 0)
            (λ t. rw t)
            (λ f.
            let e = last_edge (down_of ((promise legal).reached node h)) (eqb-false node 0 f) in
            let c : parent_count es node ≡ 1 = omega (arith, once_counted es none node, some_counted e.1) in
            rw (f, eq-eqb (parent_count es node) 1 c))

    -- a legal hierarchy in which no node has two parents is a tree
    pub tree_if : ((p q c : ℕ) → Edge es p c → Edge es q c → p ≡ q) → Tree n table edge_count
    tree_if f = (legal, several_none.1 (none_several es (refusal_none (hierarchy_checks n table edge_count) legal).1.1.1.0 f))

  -- OVER EVERY TREE
  module _ (tree : Tree n table edge_count) where
    none : several_parents es ≡ false
    none = (several_none tree.0).0 tree.1

    -- a node's number, 0 where it has none
    abbrev number : ℕ → ℕ
    number node = get_or (numbering n es) node 0

    -- the root has no parent
    pub root_parentless : (parent : ℕ) → Edge es parent 0 → ⊥
    root_parentless parent e = ((promise tree.0).edge parent 0 e).not_root refl

    -- each other node has exactly one
    pub one_parent : (node : ℕ) → node < n → (node ≡ 0 → ⊥) → (parent : ℕ) × Edge es parent node × ((other : ℕ) → Edge es other node → other ≡ parent)
    one_parent node h d =
        let w = last_edge (down_of ((promise tree.0).reached node h)) d in
        (w.0, w.1, λ other e. parent_once none e w.1)

    -- CONTIGUITY: every number from low to high of a node is the number of a node in its reach
    pub contiguous : (x : ℕ) → x < n → (k : ℕ) → low_of n es x ≤ k → k ≤ high_of n es x → (y : ℕ) × Reach es x y × (number y ≡ k)
    contiguous x h k a b =
        let d = block_of n es (promise tree.0) none x h in
        d.2.taken k
        (omega (arith, a, low_is n table edge_count tree.0 x h (λ v. d.0 ≤ v) (λ y w s. (d.2.within y w s).0)))
        (omega (arith, b, high_is n table edge_count tree.0 x h (λ v. v < d.1) (λ y w s. (d.2.within y w s).1)))

    -- nodes whose intervals share a number have a common node in their reaches
    pub share_meets : (x y : ℕ) → x < n → y < n → Shared (low_of n es x) (high_of n es x) (low_of n es y) (high_of n es y) → (z : ℕ) × Reach es x z × Reach es y z
    share_meets x y hx hy s =
        let a = contiguous x hx s.number s.in_first.0 s.in_first.1 in
        let b = contiguous y hy s.number s.in_second.0 s.in_second.1 in
        let one = (interval_real n table edge_count tree.0 x hx).from_one in
        let same : b.0 ≡ a.0 = number_once n table edge_count tree.0 b.0 a.0 (omega (arith, one, b.2, s.in_first.0)) (b.2 ∙ sym a.2) in
        (a.0, a.1, subst (λ (z : ℕ). Reach es y z) same b.1)

    -- nodes with a common node in their reaches are one above the other
    pub meets_comparable : (x y z : ℕ) → Reach es x z → Reach es y z → Reach es x y ⊎ Reach es y x
    meets_comparable x y z v w = comparable es none (down_of v) (down_of w)

    -- INTERVALS SHARE A NUMBER exactly when the reaches meet
    pub share_exactly : (x y : ℕ) → x < n → y < n
        → (Shared (low_of n es x) (high_of n es x) (low_of n es y) (high_of n es y) → (z : ℕ) × Reach es x z × Reach es y z)
        × ((z : ℕ) × Reach es x z × Reach es y z → Shared (low_of n es x) (high_of n es x) (low_of n es y) (high_of n es y))
    share_exactly x y hx hy = (share_meets x y hx hy, λ m. common_share n table edge_count tree.0 x y m.0 hx hy m.1 m.2)

    -- and exactly when one of the two reaches the other
    pub share_comparable : (x y : ℕ) → x < n → y < n
        → (Shared (low_of n es x) (high_of n es x) (low_of n es y) (high_of n es y) → Reach es x y ⊎ Reach es y x)
        × (Reach es x y ⊎ Reach es y x → Shared (low_of n es x) (high_of n es x) (low_of n es y) (high_of n es y))
    share_comparable x y hx hy = (
      λ s. let m = share_meets x y hx hy s in meets_comparable x y m.0 m.1 m.2,
      ⊎_elim
          (λ w. common_share n table edge_count tree.0 x y y hx hy w self)
          (λ w. common_share n table edge_count tree.0 x y x hx hy self w),
    )
