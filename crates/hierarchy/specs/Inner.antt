-- Terms of the contracts of private functions, and of `edge_at`: no definition of the paper is here. Assumes nothing.
use Rattle.std.specs.Prelude.{◌≡◌, Bool, ◌&&◌, List, [], ◌∷◌, ℕ, ◌+◌, ◌*◌, ◌<◌, ◌≤◌, eqb, ltb, length, get_or}
use Rattle.std.specs.List.{list_any}
use Rattle.lists.specs.Lists.{Below}
use Rattle.hierarchy.specs.Hierarchy.{Edge, edges_of}
use Rattle.hierarchy.specs.declared.Ends.{Ends}

-- the ends of edge e of a table; past its end stands 0
abbrev pub ends_at : List ℕ → ℕ → Ends
ends_at edges e = record { parent = get_or edges (2 * e) 0; child = get_or edges (2 * e + 1) 0 }

-- what a loop over an edge table asks: the table has all its edges, and their ends are below n
pub record Edges (n edge_count : ℕ) (edges : List ℕ) : Type 0 where
  pub table : 2 * edge_count ≤ length edges
  pub below : (parent child : ℕ) → Edge (edges_of edges edge_count) parent child → (parent < n) × (child < n)

-- a node is among the flags, and has none
abbrev pub unflagged : List ℕ → ℕ → Bool
unflagged flags node = ltb node (length flags) && eqb (get_or flags node 0) 0

-- x has a flag
abbrev pub On : List ℕ → ℕ → Type 0
On flags x = 1 ≤ get_or flags x 0

-- no edge has anything left to do among n nodes: where the parent is flagged, the child is
abbrev pub Stable : ℕ → List ℕ → List ℕ → Type 0
Stable n es flags = (p c : ℕ) → Edge es p c → c < n → On flags p → On flags c

-- what passes over the edges keep, in whatever order they take them: a flag stays, and what is flagged is so in all that have the flags before and are stable
pub record Grown (es before after : List ℕ) : Type 0 where
  pub long : length after ≡ length before
  pub bits : Below 2 after
  pub more : (x : ℕ) → On before x → On after x
  pub within : (s : List ℕ) → Stable (length before) es s → ((x : ℕ) → On before x → On s x) → (x : ℕ) → On after x → On s x

-- the edges of a list, two ends each
unfoldable pub pairs : List ℕ → List (List ℕ)
pairs [] = []
pairs (parent ∷ []) = []
pairs (parent ∷ child ∷ es) = (parent ∷ child ∷ []) ∷ pairs es

-- the test holds at some pair
abbrev pub some_pair : (ℕ → ℕ → Bool) → List (List ℕ) → Bool
some_pair p = list_any (λ pair. p (get_or pair 0 0) (get_or pair 1 0))
