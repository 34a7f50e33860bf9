-- Trees: legal hierarchies in which each node but the root has exactly one parent. Assumes nothing.
use Rattle.std.specs.Prelude.{◌≡◌, List, [], ◌∷◌, Bool, true, false, ◌||◌, ℕ, ◌+◌, eqb}
use Rattle.lists.specs.Lists.{one, all_below}
use Rattle.hierarchy.specs.Hierarchy.{edges_of, some_edge, Legal}

-- the edge leads to the node
abbrev pub leads_to : ℕ → ℕ → ℕ → Bool
leads_to node parent child = eqb child node

-- how many edges lead to a node: how many parents it has (in a legal hierarchy no edge stands twice)
unfoldable pub parent_count : List ℕ → ℕ → ℕ
parent_count [] node = 0
parent_count (parent ∷ []) node = 0
parent_count (parent ∷ child ∷ es) node = one (leads_to node parent child) + parent_count es node

-- each node but the root has exactly one parent
abbrev pub one_parent_each : ℕ → List ℕ → Bool
one_parent_each n es = all_below n (λ node. eqb node 0 || eqb (parent_count es node) 1)

-- a tree: a legal hierarchy in which each node but the root has exactly one parent
abbrev pub Tree : ℕ → List ℕ → ℕ → Type 0
Tree n table edge_count = Legal n table edge_count × (one_parent_each n (edges_of table edge_count) ≡ true)

-- some node has several parents: it stands as the child of an edge and of a later one. In a legal hierarchy the root has none and each other node is
-- reached, so that this is false just where each node but the root has exactly one (`several_none`, proofs/Trees)
unfoldable pub several_parents : List ℕ → Bool
several_parents [] = false
several_parents (parent ∷ []) = false
several_parents (parent ∷ child ∷ es) = some_edge (leads_to child) es || several_parents es
