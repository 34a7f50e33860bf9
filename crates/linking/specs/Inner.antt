-- Terms of contracts only: no definition of the paper is here. Assumes nothing.
use Rattle.std.specs.Prelude.{List, [], ◌∷◌, Bool, ℕ, zero, suc}
use Rattle.covers.specs.Cover.{interval_at}
use Rattle.covers.specs.declared.Interval.{Interval}
use Rattle.linking.specs.Link.{joined_if}

-- the edges with parent and child exchanged: what a node reaches by these are the nodes that reached it; an odd last number is no edge
unfoldable pub turned : List ℕ → List ℕ
turned [] = []
turned (parent ∷ []) = []
turned (parent ∷ child ∷ es) = child ∷ parent ∷ turned es

-- low and high in turn for k nodes from a node on, those with the test joined with the interval
unfoldable pub widen_from : (ℕ → Bool) → Interval → List ℕ → (k node : ℕ) → List ℕ
widen_from f i table zero node = []
widen_from f i table (suc k) node =
    (joined_if (f node) (interval_at table node) i).low ∷ (joined_if (f node) (interval_at table node) i).high ∷ widen_from f i table k (suc node)
