-- Terms of the contracts of private functions only: no definition of the paper is here. Assumes nothing.
use Rattle.std.specs.Prelude.{◌≡◌, List, [], ◌∷◌, true, cond, ℕ, ◌+◌, ◌-◌, ◌*◌, ◌/◌, ◌%◌, ◌^◌, ◌<◌, ◌≤◌, min, eqb, length, set, replicate}
use Rattle.hierarchy.specs.Hierarchy.{edges_of, Edge, Reach, reach, Legal}
use Rattle.intervals.specs.Numbering.{numbering}
use Rattle.reach_sets.specs.declared.NodeSet.{NodeSet}
use Rattle.reach_sets.specs.Sets.{has, joined, set_at, set_of}

-- the set of one node
abbrev pub single_of : ℕ → NodeSet
single_of node = record { words = set (replicate 4 0) (node / 64) (2 ^ (node % 64)) }

-- how far the words of a table are from having every bit: a set that grows lessens it
unfoldable pub room : List ℕ → ℕ
room [] = 0
room (w ∷ ws) = (18446744073709551615 - w) + room ws

-- a parent's set has taken its child's in, and nothing else has changed
pub record Joins (parent child : ℕ) (before after : List ℕ) : Type 0 where
  pub long : length after ≡ length before
  pub here : set_at after parent ≡ joined (set_at before parent) (set_at before child)
  pub others : (x : ℕ) → (x ≡ parent → ⊥) → set_at after x ≡ set_at before x

-- the node x has y in its set
abbrev pub Has : List ℕ → ℕ → ℕ → Type 0
Has table x y = has (set_at table x) y ≡ true

-- y is in the set of a node that x reaches
pub record From (es table : List ℕ) (x y : ℕ) : Type 0 where
  pub of : ℕ
  pub way : Reach es x of
  pub has_it : Has table of y

-- what a pass over the edges keeps: a set loses nothing, and has only what stood in the sets of nodes that its node reaches
pub record Kept (es before after : List ℕ) : Type 0 where
  pub long : length after ≡ length before
  pub more : (x y : ℕ) → y < 256 → Has before x y → Has after x y
  pub from : (x y : ℕ) → y < 256 → Has after x y → From es before x y

-- no edge has anything left to do
abbrev pub Settled : List ℕ → List ℕ → Type 0
Settled es table = (parent child : ℕ) → Edge es parent child → (y : ℕ) → y < 256 → Has table child y → Has table parent y

-- what working out the sets of n nodes asks
pub record Fillable (n edge_count : ℕ) (edges table : List ℕ) : Type 0 where
  pub legal : Legal n edges edge_count
  pub whole : 2 * edge_count ≤ length edges
  pub long : length table ≡ 4 * n

-- the less of two numbers, where 0 is none
abbrev pub less_of : ℕ → ℕ → ℕ
less_of x y = cond (eqb x 0) y (cond (eqb y 0) x (min x y))

-- the sets and the numbers of n nodes
pub record Spannable (n : ℕ) (es words numbers : List ℕ) : Type 0 where
  pub few : n ≤ 256
  pub sets : (x : ℕ) → x < n → set_at words x ≡ set_of (reach n es x)
  pub numbered : numbers ≡ numbering n es
  pub each : length numbers ≡ n

-- what writing the intervals of n nodes asks
pub record Writable (n edge_count : ℕ) (edges numbers places words : List ℕ) : Type 0 where
  pub legal : Legal n edges edge_count
  pub whole : 2 * edge_count ≤ length edges
  pub numbered : numbers ≡ numbering n (edges_of edges edge_count)
  pub enough : 2 * n ≤ length places
  pub room : 1024 ≤ length words
