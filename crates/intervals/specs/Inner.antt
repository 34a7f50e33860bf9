-- Terms of the contracts of private functions only: no definition of the paper is here. Assumes nothing.
use Rattle.std.specs.Prelude.{◌≡◌, List, [], ◌∷◌, Bool, true, false, cond, ℕ, ◌+◌, ◌-◌, ◌*◌, ◌<◌, ◌≤◌, eqb, ltb, length, get_or, take}
use Rattle.lists.specs.Lists.{set_if, zeros}
use Rattle.hierarchy.specs.Hierarchy.{Edge, Reach, edges_of, Legal}
use Rattle.hierarchy.specs.Inner.{Edges}
use Rattle.intervals.specs.Numbering.{numbering}

-- what a walk of a node asks: it is unseen, the tables fit together, and the counter has room for each node twice
pub record Ready (node next edge_count : ℕ) (edges marks numbers : List ℕ) : Type 0 where
  pub here : node < length marks
  pub unseen : get_or marks node 0 ≡ 0
  pub alike : length numbers ≡ length marks
  pub ends : Edges (length marks) edge_count edges
  pub first : 1 ≤ next
  pub room : next + (zeros marks + zeros numbers) < 65536

-- what the numbering of n nodes asks of its tables, whatever they hold
pub record Fresh (n edge_count : ℕ) (edges numbers : List ℕ) : Type 0 where
  pub some : 1 ≤ n
  pub few : n ≤ 256
  pub alike : length numbers ≡ n
  pub ends : Edges n edge_count edges

-- x is better than y: greater where up is true, less where it is false
abbrev pub is_better : Bool → ℕ → ℕ → Bool
is_better true x y = ltb y x
is_better false x y = ltb x y

-- one place takes another's value where that is better
abbrev pub improved : Bool → ℕ → ℕ → List ℕ → List ℕ
improved up to from l = set_if (is_better up (get_or l from 0) (get_or l to 0)) l to (get_or l from 0)

-- the edge that a pass takes at its turn: back from the last of the table, or from its first on
abbrev pub turn_at : Bool → ℕ → ℕ → ℕ
turn_at true edge_count turn = edge_count - 1 - turn
turn_at false edge_count turn = turn

-- x is as good as y: y is not better
abbrev pub Ok : Bool → ℕ → ℕ → Type 0
Ok up x y = is_better up y x ≡ false

-- v is the value of a node that the given one reaches
pub record From (es values : List ℕ) (node v : ℕ) : Type 0 where
  pub of : ℕ
  pub way : Reach es node of
  pub same : v ≡ get_or values of 0

-- what a pass over the edges keeps: each value is one of those that its node reached, and as good as what the node had
pub record Kept (up : Bool) (es before after : List ℕ) : Type 0 where
  pub long : length after ≡ length before
  pub from : (node : ℕ) → From es before node (get_or after node 0)
  pub good : (node : ℕ) → Ok up (get_or after node 0) (get_or before node 0)

-- no edge has anything left to do: each parent is as good as its child
abbrev pub Settled : Bool → List ℕ → List ℕ → Type 0
Settled up es values = (parent child : ℕ) → Edge es parent child → Ok up (get_or values parent 0) (get_or values child 0)

-- each value is one of those that its node reaches, and none of them is better
pub record Best (up : Bool) (es before after : List ℕ) : Type 0 where
  pub long : length after ≡ length before
  pub from : (node : ℕ) → From es before node (get_or after node 0)
  pub over : (node x : ℕ) → Reach es node x → is_better up (get_or before x 0) (get_or after node 0) ≡ false

-- how far values are from the best: a pass that changes one lessens it
abbrev pub weigh : Bool → ℕ → ℕ
weigh true x = 65535 - x
weigh false x = x

-- the sum over a list
unfoldable pub weight : Bool → List ℕ → ℕ
weight up [] = 0
weight up (x ∷ xs) = weigh up x + weight up xs

-- the lows of a table with low and high in turn
unfoldable pub lows : List ℕ → List ℕ
lows [] = []
lows (low ∷ []) = []
lows (low ∷ high ∷ table) = low ∷ lows table

-- and its highs
unfoldable pub highs : List ℕ → List ℕ
highs [] = []
highs (low ∷ []) = []
highs (low ∷ high ∷ table) = high ∷ highs table

-- how far the table is from the best
unfoldable pub table_weight : List ℕ → ℕ
table_weight table = weight false (lows table) + weight true (highs table)

-- a number, with the largest u16 in the place of none
abbrev pub or_most : ℕ → ℕ
or_most x = cond (eqb x 0) 65535 x

-- the table that relaxing starts from: each number twice in turn, as a low and as a high
unfoldable pub doubled : List ℕ → List ℕ
doubled [] = []
doubled (x ∷ xs) = or_most x ∷ x ∷ doubled xs

-- what writing the intervals of n nodes asks: their numbers stand first
pub record Writable (n edge_count : ℕ) (edges numbers table : List ℕ) : Type 0 where
  pub legal : Legal n edges edge_count
  pub whole : 2 * edge_count ≤ length edges
  pub enough : n ≤ length numbers
  pub numbered : take n numbers ≡ numbering n (edges_of edges edge_count)
  pub long : length table ≡ 2 * n
