-- WHAT A LINK LEAVES of the tables and of the entries (02, point 11): waiters with a name or cover that reached the parent get a new cover. Assumes nothing.
use Rattle.std.specs.Prelude.{List, ◌∷◌, map, Bool, true, false, ℕ, ◌+◌}
use Rattle.lists.specs.Lists.{any, over}
use Rattle.hierarchy.specs.Hierarchy.{edges_of}
use Rattle.covers.specs.Cover.{call_interval, closest}
use Rattle.covers.specs.declared.Interval.{Interval}
use Rattle.naming.specs.Names.{names_of}
use Rattle.locks.specs.declared.Lock.{Lock}
use Rattle.locks.specs.declared.Stage.{Stage}
use Rattle.locks.specs.declared.Stage.TheVariants.{Out, Waiting, Holding}
use Rattle.locks.specs.Lent.{Hierarchy, lock_on}
use Rattle.linking.specs.Link.{link_edges, reaches, joined, link_intervals}
use Rattle.parties.specs.declared.Entry.{Entry}
use Rattle.parties.specs.Parties.{entry_of}

-- the edges in the table of a hierarchy
abbrev pub edges_in : Hierarchy → List ℕ
edges_in H = edges_of H.edges H.edge_count

-- THE TABLES after a link: the edge goes last, and the intervals widen; places past what is written stay unchanged, and the edge count is one more
abbrev pub link_tables : Hierarchy → (parent child : ℕ) → Hierarchy
link_tables H parent child =
    record {
      n = H.n;
      intervals = over (link_intervals H.n (edges_in H) H.intervals parent child) H.intervals;
      edges = over (link_edges (edges_in H) parent child) H.edges;
      edge_count = H.edge_count + 1;
    }

-- A WAITER with a name or cover for which the test holds
abbrev pub near_by : (ℕ → Bool) → Lock → Bool
near_by f l = any f (l.cover ∷ names_of l.names)

-- the interval of a hold or of a waiting call
abbrev pub lock_interval : Lock → Interval
lock_interval l = record { low = l.low; high = l.high }

-- of all nodes whose interval contains its old one and its names' new ones, the narrowest, and of equally narrow ones the lowest; H has the intervals after the link
abbrev pub new_cover : Hierarchy → Lock → ℕ
new_cover H l = closest H.n H.intervals (joined (lock_interval l) (call_interval H.intervals (names_of l.names)))

-- where the test holds it gets the new cover, with its interval; mode and names stay
abbrev pub recovered_if : Bool → Hierarchy → Lock → Lock
recovered_if true H l = lock_on H l.mode (new_cover H l) l.names
recovered_if false H l = l

-- what a party that waits then waits for; a holder holds what it held
abbrev pub recovered_stage : (ℕ → Bool) → Hierarchy → Stage → Stage
recovered_stage f H Out = Out
recovered_stage f H (Waiting l) = Waiting (recovered_if (near_by f l) H l)
recovered_stage f H (Holding l) = Holding l

-- the entries of all
abbrev pub recovered_all : (ℕ → Bool) → Hierarchy → List Entry → List Entry
recovered_all f H entries = map (λ e. entry_of (recovered_stage f H e.stage)) entries

-- a node that reached the parent before the link; H has the tables before it
abbrev pub reached_parent : Hierarchy → (parent node : ℕ) → Bool
reached_parent H parent node = reaches H.n (edges_in H) node parent

-- THE ENTRIES after a link: each waiter with a name or cover that reached the parent gets a new cover
abbrev pub link_entries : Hierarchy → (parent child : ℕ) → List Entry → List Entry
link_entries H parent child entries = recovered_all (reached_parent H parent) (link_tables H parent child) entries
