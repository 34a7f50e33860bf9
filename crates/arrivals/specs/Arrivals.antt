-- Arrival order: the places of an arrival list, and the parties that they list. Assumes nothing.
use Rattle.std.specs.Prelude.{◌≡◌, List, [], ◌++◌, cond, ℕ, ◌+◌, ltb, length, get_or, set, take, replicate}
use Rattle.arrivals.specs.declared.Listed.{Listed}

-- the party at a place of the arrival list; past its end stands 0
abbrev pub listed_in : List ℕ → ℕ → ℕ
listed_in queue i = get_or queue i 0

-- the parties of an arrival list: those at its first places, as many as it counts
abbrev pub list_of : Listed → List ℕ
list_of list = take list.count list.places

-- the 32 places that hold an arrival list: the list, and zeros behind it. What goes past 32 is cut off
abbrev pub queue_places : List ℕ → List ℕ
queue_places list = take 32 (list ++ replicate 32 0)

-- the list stands at the first places of a struct, and is counted there
abbrev pub Lists : Listed → List ℕ → Type 0
Lists r list = (r.places ≡ queue_places list) × (r.count ≡ length list)

-- a list of nobody
abbrev pub nobody : Listed
nobody = record { places = queue_places []; count = 0 }

-- the list with a party last, where a place is left for it
abbrev pub pushed : Listed → ℕ → Listed
pushed list party = cond (ltb list.count 32) (record { places = set list.places list.count party; count = list.count + 1 }) list
