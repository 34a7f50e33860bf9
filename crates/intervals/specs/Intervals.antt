-- Intervals, and the table that building writes. Assumes nothing.
use Rattle.std.specs.Prelude.{List, [], ◌∷◌, not, ◌&&◌, ℕ, zero, suc, eqb}
use Rattle.lists.specs.Lists.{kept_if, least, greatest}
use Rattle.hierarchy.specs.Hierarchy.{reach}
use Rattle.intervals.specs.Numbering.{numbering}

-- the numbers among the flagged nodes
unfoldable pub numbers_among : List ℕ → List ℕ → List ℕ
numbers_among [] numbers = []
numbers_among (f ∷ fs) [] = []
numbers_among (f ∷ fs) (k ∷ ks) = kept_if (not (eqb f 0) && not (eqb k 0)) k (numbers_among fs ks)

-- low of a node: the least number among the nodes of its reach
unfoldable pub low_of : ℕ → List ℕ → ℕ → ℕ
low_of n es node = least (numbers_among (reach n es node) (numbering n es))

-- high of a node: the greatest number among the nodes of its reach
unfoldable pub high_of : ℕ → List ℕ → ℕ → ℕ
high_of n es node = greatest (numbers_among (reach n es node) (numbering n es))

-- low and high in turn for k nodes, from a node on
unfoldable pub intervals_from : ℕ → List ℕ → ℕ → ℕ → List ℕ
intervals_from n es zero node = []
intervals_from n es (suc k) node = low_of n es node ∷ high_of n es node ∷ intervals_from n es k (suc node)

-- building writes low and high in turn for each node, as 2n numbers
unfoldable pub interval_table : ℕ → List ℕ → List ℕ
interval_table n es = intervals_from n es n 0
