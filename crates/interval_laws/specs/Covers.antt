-- Interval tables over which every call of nodes has a cover, and the running values of a pass over names. Assumes nothing.
use Rattle.std.specs.Prelude.{◌≡◌, List, [], ◌∷◌, true, ℕ, ◌≤◌, ◌<◌}
use Rattle.covers.specs.Cover.{low_at, high_at, interval_at, one_more, contains}
use Rattle.covers.specs.declared.Interval.{Interval}

-- each of n nodes has low at most high, and an interval inside node 0's. It is what laws of the cover take from refusal 10, which asks more (1 to 256)
pub record Rooted (n : ℕ) (table : List ℕ) : Type 0 where
  pub ordered : (node : ℕ) → node < n → low_at table node ≤ high_at table node
  pub in_root : (node : ℕ) → node < n → contains (interval_at table 0) (interval_at table node) ≡ true

-- the two running values (02, point 3) after all of these names, from those before them
unfoldable pub running : List ℕ → Interval → List ℕ → Interval
running table bounds [] = bounds
running table bounds (name ∷ names) = running table (one_more bounds (interval_at table name)) names
