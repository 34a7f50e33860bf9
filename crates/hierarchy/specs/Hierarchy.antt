-- The hierarchy: nodes (the paper's records) from 0 to n - 1, edges in table order, and reach. Assumes nothing.
use Rattle.std.specs.Prelude.{◌≡◌, List, [], ◌∷◌, Bool, false, not, ◌&&◌, ◌||◌, ℕ, zero, suc, ◌*◌, eqb, leb, ltb, get_or, set, take, replicate}
use Rattle.std.proofs.Math.Option.{none}
use Rattle.lists.specs.Lists.{kept_if, set_if, any}
use Rattle.lists.specs.Answer.{Check, ◌when◌, refusal}
use Rattle.hierarchy.specs.declared.EdgeTable.{EdgeTable}

-- an edge table has two numbers an edge, parent and child, and its edge count is given beside it: the edges in it. A table that is shorter than its
-- count has those that it has, and an odd last number is no edge
abbrev pub edges_of : List ℕ → ℕ → List ℕ
edges_of table edge_count = take (2 * edge_count) table

-- the edges of an edge table as the code has it
abbrev pub edges_in : EdgeTable → List ℕ
edges_in table = edges_of table.numbers.now table.count

-- the children of a node, in table order
unfoldable pub children : List ℕ → ℕ → List ℕ
children [] node = []
children (parent ∷ []) node = []
children (parent ∷ child ∷ es) node = kept_if (eqb parent node) child (children es node)

-- the test holds at some edge
unfoldable pub some_edge : (ℕ → ℕ → Bool) → List ℕ → Bool
some_edge p [] = false
some_edge p (parent ∷ []) = false
some_edge p (parent ∷ child ∷ es) = p parent child || some_edge p es

-- REACH as a relation. The table has the edge from parent to child
pub data Edge : List ℕ → ℕ → ℕ → Type 0 where
  first : {parent child : ℕ} {es : List ℕ} → Edge (parent ∷ child ∷ es) parent child
  later : {a b parent child : ℕ} {es : List ℕ} → Edge es parent child → Edge (a ∷ b ∷ es) parent child

-- *reach* of a node is itself and all that edges lead to from it
pub data Reach : List ℕ → ℕ → ℕ → Type 0 where
  self : {es : List ℕ} {node : ℕ} → Reach es node node
  step : {es : List ℕ} {node child x : ℕ} → Edge es node child → Reach es child x → Reach es node x

-- REACH as a set, a flag for each of n nodes: 1 in it, 0 not in it. The node has a flag
abbrev pub flagged : List ℕ → ℕ → Bool
flagged flags node = not (eqb (get_or flags node 0) 0)

-- one pass over the edges: where the parent is flagged, the child is
unfoldable pub spread : List ℕ → List ℕ → List ℕ
spread [] flags = flags
spread (parent ∷ []) flags = flags
spread (parent ∷ child ∷ es) flags = spread es (set_if (flagged flags parent) flags child 1)

-- k passes
unfoldable pub spreads : ℕ → List ℕ → List ℕ → List ℕ
spreads zero es flags = flags
spreads (suc k) es flags = spreads k es (spread es flags)

-- the reach of a node: the node, and what n passes flag from there (`reach_agrees` in interval_laws: just the nodes x with Reach es node x)
unfoldable pub reach : ℕ → List ℕ → ℕ → List ℕ
reach n es node = spreads n es (set (replicate n 0) node 1)

-- the node is in the reach of one of these; a name not below n reaches nothing, and a node not below n is in no reach
abbrev pub in_reach : ℕ → List ℕ → List ℕ → ℕ → Bool
in_reach n es names node = any (λ name. flagged (reach n es name) node) names

-- these nodes flagged, one after the other; a name past the flags is passed over
unfoldable pub flag_all : List ℕ → List ℕ → List ℕ
flag_all [] flags = flags
flag_all (name ∷ names) flags = flag_all names (set flags name 1)

-- the reach of several nodes at once: just the nodes that are in the reach of one of them (`reach_names`, proofs/Unions)
unfoldable pub reach_all : ℕ → List ℕ → List ℕ → List ℕ
reach_all n es names = spreads n es (flag_all names (replicate n 0))

-- 5: n not in 1 to 256
abbrev pub size_wrong : ℕ → Bool
size_wrong n = not (leb 1 n && leb n 256)

-- 6: over 1,024 edges
abbrev pub edges_too_many : ℕ → Bool
edges_too_many edge_count = ltb 1024 edge_count

-- 7: edge end not below n, child 0, or both ends equal
abbrev pub edge_wrong : ℕ → ℕ → ℕ → Bool
edge_wrong n parent child = not (ltb parent n) || not (ltb child n) || eqb child 0 || eqb parent child

-- the two edges are the same
abbrev pub same_edge : ℕ → ℕ → ℕ → ℕ → Bool
same_edge parent child p c = eqb parent p && eqb child c

-- 8: edge twice
unfoldable pub edge_twice : List ℕ → Bool
edge_twice [] = false
edge_twice (parent ∷ []) = false
edge_twice (parent ∷ child ∷ es) = some_edge (same_edge parent child) es || edge_twice es

-- 9: node not reached, from the root, node 0
unfoldable pub some_unreached : ℕ → List ℕ → Bool
some_unreached n es = any (eqb 0) (reach n es 0)

-- what makes a hierarchy illegal, lowest number first
abbrev pub hierarchy_checks : ℕ → List ℕ → ℕ → List Check
hierarchy_checks n table edge_count =
    5 when size_wrong n
    ∷ 6 when edges_too_many edge_count
    ∷ 7 when some_edge (edge_wrong n) (edges_of table edge_count)
    ∷ 8 when edge_twice (edges_of table edge_count)
    ∷ 9 when some_unreached n (edges_of table edge_count)
    ∷ []

-- a legal hierarchy: none of these holds
abbrev pub Legal : ℕ → List ℕ → ℕ → Type 0
Legal n table edge_count = refusal (hierarchy_checks n table edge_count) ≡ none
