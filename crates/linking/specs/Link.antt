-- A LINK (02, point 11; section 3.4 of 004): one more edge in a hierarchy, and what it does to the intervals. Assumes nothing.
use Rattle.std.specs.Prelude.{◌≡◌, List, [], ◌∷◌, ◌++◌, Bool, true, false, ℕ, zero, suc, ◌+◌}
use Rattle.std.proofs.Math.Option.{none}
use Rattle.lists.specs.Answer.{Check, ◌when◌, refusal}
use Rattle.hierarchy.specs.Hierarchy.{some_edge, flagged, reach, edges_too_many, edge_wrong, same_edge}
use Rattle.covers.specs.Cover.{interval_at, one_more}
use Rattle.covers.specs.declared.Interval.{Interval}

-- the edge goes last in the table
abbrev pub link_edges : List ℕ → (parent child : ℕ) → List ℕ
link_edges es parent child = es ++ (parent ∷ child ∷ [])

-- x is in the reach of the node; the node itself is
abbrev pub reaches : ℕ → List ℕ → (node x : ℕ) → Bool
reaches n es node x = flagged (reach n es node) x

-- the smallest interval that contains both: the bounds of two names (that none is smaller is still to be proved)
abbrev pub joined : Interval → Interval → Interval
joined a b = one_more a b

-- joined with the child's where the test holds; else as it is
abbrev pub joined_if : Bool → (old child : Interval) → Interval
joined_if true old child = joined old child
joined_if false old child = old

-- each node that reached the parent takes the smallest interval containing its old one and the child's old one; all others keep theirs. es and table are
-- the edges and the intervals before the link
abbrev pub link_interval : ℕ → (es table : List ℕ) → (parent child node : ℕ) → Interval
link_interval n es table parent child node = joined_if (reaches n es node parent) (interval_at table node) (interval_at table child)

-- low and high in turn for k nodes, from a node on
unfoldable pub link_intervals_from : ℕ → (es table : List ℕ) → (parent child k node : ℕ) → List ℕ
link_intervals_from n es table parent child zero node = []
link_intervals_from n es table parent child (suc k) node =
    (link_interval n es table parent child node).low ∷ (link_interval n es table parent child node).high
    ∷ link_intervals_from n es table parent child k (suc node)

-- the intervals after the link, as 2n numbers
unfoldable pub link_intervals : ℕ → (es table : List ℕ) → (parent child : ℕ) → List ℕ
link_intervals n es table parent child = link_intervals_from n es table parent child n 0

-- conditions 6, 7 and 8 apply to the new edge
abbrev pub new_edge_checks : (n edge_count : ℕ) → List ℕ → (parent child : ℕ) → List Check
new_edge_checks n edge_count es parent child =
    6 when edges_too_many (edge_count + 1)
    ∷ 7 when edge_wrong n parent child
    ∷ 8 when some_edge (same_edge parent child) es
    ∷ []

-- none of them holds
abbrev pub MayLink : (n edge_count : ℕ) → List ℕ → (parent child : ℕ) → Type 0
MayLink n edge_count es parent child = refusal (new_edge_checks n edge_count es parent child) ≡ none
