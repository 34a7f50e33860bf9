-- The call's interval (01), its cover (02, point 1) and one name more (02, point 3), over an interval table of any contents. Assumes nothing.
use Rattle.std.specs.Prelude.{◌≡◌, List, map, Bool, true, not, cond, ◌&&◌, ◌||◌, ℕ, zero, suc, ◌+◌, ◌-◌, ◌*◌, ◌≤◌, ◌<◌, min, max, leb, ltb, get_or}
use Rattle.lists.specs.Lists.{least, greatest}
use Rattle.covers.specs.declared.Interval.{Interval}

-- low of a node, in a table that has low and high in turn for each node. Past the table, of which document 01 says nothing, stands 0
abbrev pub low_at : List ℕ → ℕ → ℕ
low_at table node = get_or table (2 * node) 0

-- high of a node; 0 past the table
abbrev pub high_at : List ℕ → ℕ → ℕ
high_at table node = get_or table (2 * node + 1) 0

-- its interval; from 0 to 0 past the table
abbrev pub interval_at : List ℕ → ℕ → Interval
interval_at table node = record { low = low_at table node; high = high_at table node }

-- the call's interval runs from the least low to the greatest high of its named nodes. Without a name, which enter refuses, it is from 0 to 0
abbrev pub call_interval : List ℕ → List ℕ → Interval
call_interval table names = record { low = least (map (low_at table) names); high = greatest (map (high_at table) names) }

-- the two running values after one name more, from those before it and its interval (02, point 3): the less of the lows and the greater of the highs
abbrev pub one_more : Interval → Interval → Interval
one_more bounds next = record { low = min bounds.low next.low; high = max bounds.high next.high }

-- an interval contains another; containment includes equal ends
abbrev pub contains : Interval → Interval → Bool
contains a b = leb a.low b.low && leb b.high a.high

-- how wide an interval is: its high less its low (0 where low is above high)
abbrev pub width : Interval → ℕ
width a = a.high - a.low

-- one interval is closer to the call's than another: it contains the call's, and the other does not or is wider
abbrev pub closer : Interval → Interval → Interval → Bool
closer call a b = contains a call && (not (contains b call) || ltb (width a) (width b))

-- the node where it is closer than the best so far, else the best so far
abbrev pub closer_of : List ℕ → Interval → ℕ → ℕ → ℕ
closer_of table call node best = cond (closer call (interval_at table node) (interval_at table best)) node best

-- of all nodes below n whose interval contains the call's, the narrowest, and of equally narrow ones the lowest number; 0 where there is none
unfoldable pub closest : ℕ → List ℕ → Interval → ℕ
closest zero table call = 0
closest (suc k) table call = closer_of table call k (closest k table call)

-- the cover of a call that names these nodes. Where document 01 says nothing: without a name it is that of the interval from 0 to 0, which is node 0
-- wherever each low is at least 1; a name past the table counts with the interval from 0 to 0
abbrev pub cover_of : ℕ → List ℕ → List ℕ → ℕ
cover_of n table names = closest n table (call_interval table names)

-- WHAT THE LAWS SAY OF IT: c is the cover of a call's interval among n nodes
pub record IsCover (n : ℕ) (table : List ℕ) (call : Interval) (c : ℕ) : Type 0 where
  -- it is one of the nodes whose interval contains the call's;
  pub below : c < n
  pub around : contains (interval_at table c) call ≡ true
  -- of all these the narrowest,
  pub narrowest : (r : ℕ) → r < n → contains (interval_at table r) call ≡ true → width (interval_at table c) ≤ width (interval_at table r)
  -- and of equally narrow ones the lowest number
  pub lowest : (r : ℕ) → r < n → contains (interval_at table r) call ≡ true → width (interval_at table r) ≡ width (interval_at table c) → c ≤ r
