-- The hierarchy as a step is lent it, and what is asked of it: its tables, a call's names, a lock's cover and names, what these reach. Assumes nothing.
use Rattle.std.specs.Prelude.{List, [], Bool, not, ◌&&◌, ◌||◌, ℕ, ◌*◌, eqb, leb, ltb, length, take}
use Rattle.lists.specs.Lists.{any, every}
use Rattle.hierarchy.specs.Hierarchy.{edges_of, in_reach}
use Rattle.covers.specs.Cover.{low_at, high_at, cover_of}
use Rattle.naming.specs.declared.Names.{Names}
use Rattle.naming.specs.Names.{names_of, names_right, ascending, named}
use Rattle.locks.specs.declared.Lent.{Lent}
use Rattle.locks.specs.declared.Mode.{Mode}
use Rattle.locks.specs.declared.Lock.{Lock}
use Rattle.locks.specs.declared.Stage.{Stage}
use Rattle.locks.specs.Locks.{real_interval}
use Rattle.locks.specs.Stages.{held_names}

-- every step is lent the intervals and the edges, with n and the edge count: low and high in turn, parent and child in turn
pub record Hierarchy : Type 0 where
  pub n : ℕ
  pub intervals : List ℕ
  pub edges : List ℕ
  pub edge_count : ℕ

-- the hierarchy of what a method is given
abbrev pub lent : ℕ → List ℕ → List ℕ → ℕ → Hierarchy
lent n intervals edges edge_count = record { n = n; intervals = intervals; edges = edges; edge_count = edge_count }

-- the hierarchy of the tables that a method is lent
abbrev pub lent_in : Lent → Hierarchy
lent_in tables = lent tables.n tables.intervals.now tables.edges.numbers.now tables.edges.count

-- the same where only n and the intervals matter
abbrev pub spanned : ℕ → List ℕ → Hierarchy
spanned n intervals = lent n intervals [] 0

-- low of a node
abbrev pub low_in : Hierarchy → ℕ → ℕ
low_in H node = low_at H.intervals node

-- high of a node
abbrev pub high_in : Hierarchy → ℕ → ℕ
high_in H node = high_at H.intervals node

-- the cover of a call that names these nodes
abbrev pub cover_in : Hierarchy → List ℕ → ℕ
cover_in H names = cover_of H.n H.intervals names

-- 1: a lent buffer is shorter than needed, which is 2n interval places and two numbers an edge
abbrev pub tables_short : Hierarchy → Bool
tables_short H = ltb (length H.intervals) (2 * H.n) || ltb (length H.edges) (2 * H.edge_count)

-- 10: a node's interval not within 1 to 256, low above high or not inside node 0's
abbrev pub interval_wrong : Hierarchy → ℕ → Bool
interval_wrong H node =
    not (real_interval (low_in H node) (high_in H node)) || ltb (low_in H node) (low_in H 0) || ltb (high_in H 0) (high_in H node)

-- 15: name count not 1 to 8, or node not below n, among as many names as are counted (fewer lent than counted are refused with 1 before)
abbrev pub names_wrong : ℕ → List ℕ → ℕ → Bool
names_wrong n names name_count = not (leb 1 name_count && leb name_count 8) || any (λ node. not (ltb node n)) (take name_count names)

-- a hold consists of its party, mode, cover, the cover's interval and its names; the party is its place at the desk
abbrev pub lock_on : Hierarchy → Mode → ℕ → Names → Lock
lock_on H mode cover names = record { mode = mode; cover = cover; low = low_in H cover; high = high_in H cover; names = names }

-- what a call that names these nodes asks for: a hold on its cover, which keeps the names ascending and each once
abbrev pub lock_for : Hierarchy → Mode → List ℕ → Lock
lock_for H mode names = lock_on H mode (cover_in H names) (named (ascending names))

-- the cover of a hold, or of a waiting call, is below n and has its interval
abbrev pub cover_right : Hierarchy → Lock → Bool
cover_right H l = ltb l.cover H.n && eqb (low_in H l.cover) l.low && eqb (high_in H l.cover) l.high

-- it keeps its names: 1 to 8 of them, each below n, ascending and each once
abbrev pub keeps_names : Hierarchy → Lock → Bool
keeps_names H l = names_right H.n l.names

-- the node's interval lies inside the hold's
abbrev pub inside_lock : Hierarchy → ℕ → Lock → Bool
inside_lock H node l = leb l.low (low_in H node) && leb (high_in H node) l.high

-- the cover's interval, which is the hold's, contains those of its names
abbrev pub covers_names : Hierarchy → Lock → Bool
covers_names H l = every (λ name. inside_lock H name l) (names_of l.names)

-- 16 is given where this is false: the node is in the reach of a name of what the party holds, by the lent edges
abbrev pub in_named : Hierarchy → ℕ → Stage → Bool
in_named H node stage = in_reach H.n (edges_of H.edges H.edge_count) (names_of (held_names stage)) node
