-- Visits of table T as files: what their steps answer, with holders, waiters and grants, all and by party, at the end. Assumes nothing.
use Rattle.std.specs.Prelude.{List, [], ◌∷◌, ◌++◌, ℕ}
use Rattle.replay.specs.Replay.{granted, waits, value, stored, added, left, refused}
use Rattle.examples.specs.Cases.{Case, listing}
use Rattle.examples.specs.Table.{bytes16, size, edge, enter1, enter2, get, put, leave, add, add_most}

-- the records of T
abbrev pub records_t : List (List ℕ)
records_t =
    size 10
    ∷ edge 0 1 ∷ edge 0 2 ∷ edge 1 3 ∷ edge 1 4 ∷ edge 2 5 ∷ edge 2 6 ∷ edge 5 7 ∷ edge 6 7 ∷ edge 6 8 ∷ edge 7 9 ∷ edge 9 7
    ∷ []

-- the listing's first four steps; get 4 9, row 14's small input; what the ward of 8 sees; a name given twice is one node
abbrev pub own_record : List (List ℕ)
own_record =
    enter1 1 2 7
    ∷ enter1 2 1 8
    ∷ enter1 3 1 3
    ∷ enter2 4 1 4 5
    ∷ get 4 9
    ∷ get 2 8
    ∷ get 2 9
    ∷ put 2 9 5
    ∷ enter2 5 2 8 8
    ∷ leave 1
    ∷ leave 2
    ∷ leave 4
    ∷ []

-- everyone waits for the writer of all: arrival order is not that of parties, and one just granted holds up the next
abbrev pub arrivals : List (List ℕ)
arrivals = enter1 31 2 0 ∷ enter1 9 1 3 ∷ enter1 4 1 4 ∷ enter1 20 2 4 ∷ enter1 0 1 8 ∷ leave 31 ∷ leave 4 ∷ []

-- wards 1 and 2 log minutes on 9 at once, coordinator 3 waits to read it, and ward 4 behind the coordinator: 5 + 7, then 12 + 2^64 - 1 is 11 modulo 2^64
abbrev pub minutes : List (List ℕ)
minutes =
    enter1 1 3 9
    ∷ enter1 2 3 7
    ∷ add 1 9 5
    ∷ enter1 3 1 2
    ∷ enter1 4 3 9
    ∷ add 2 9 7
    ∷ add_most 1 9
    ∷ get 1 9
    ∷ put 2 9 5
    ∷ leave 1
    ∷ leave 2
    ∷ get 3 9
    ∷ add 3 9 1
    ∷ put 3 9 1
    ∷ leave 3
    ∷ add 4 9 1
    ∷ leave 4
    ∷ enter1 5 2 9
    ∷ get 5 9
    ∷ add 5 9 1
    ∷ put 5 9 0
    ∷ []

-- 1 names 6 and reads in 2: not 5, whose interval lies inside its hold, nor 2, its cover, but what 6 reaches. 2 waits with 8, 3 and 8 again in 0 and, when it is let
-- in, writes 8 and 3 and nothing else; when it comes again, for 4, it has that one name
abbrev pub only_named : List (List ℕ)
only_named =
    enter1 1 1 6
    ∷ get 1 5
    ∷ get 1 2
    ∷ get 1 6
    ∷ get 1 7
    ∷ get 1 8
    ∷ get 1 9
    ∷ bytes16 (3 ∷ 2 ∷ 2 ∷ 3 ∷ 8 ∷ 3 ∷ 8 ∷ [])
    ∷ put 2 8 5
    ∷ leave 1
    ∷ put 2 8 5
    ∷ put 2 3 6
    ∷ put 2 9 7
    ∷ put 2 4 7
    ∷ put 2 0 7
    ∷ get 2 8
    ∷ get 2 3
    ∷ leave 2
    ∷ enter1 2 3 4
    ∷ add 2 4 1
    ∷ add 2 3 1
    ∷ add 2 8 1
    ∷ enter1 3 1 0
    ∷ leave 2
    ∷ get 3 3
    ∷ get 3 4
    ∷ get 3 0
    ∷ []

-- the cases
unfoldable pub visits : List Case
visits =
    listing (records_t ++ own_record)
    (granted 5 ∷ granted 8 ∷ granted 3 ∷ waits
    ∷ refused 14 ∷ value 0 ∷ refused 16 ∷ refused 16
    ∷ waits ∷ left (4 ∷ []) ∷ left [] ∷ left (5 ∷ []) ∷ [])
    2 0 5 (1 ∷ 1 ∷ 2 ∷ 1 ∷ 3 ∷ 1 ∷ 4 ∷ 1 ∷ 5 ∷ 1 ∷ [])
    ∷ listing (records_t ++ arrivals) (granted 0 ∷ waits ∷ waits ∷ waits ∷ waits ∷ left (9 ∷ 4 ∷ 0 ∷ []) ∷ left (20 ∷ []) ∷ []) 3 0 5
    (0 ∷ 1 ∷ 4 ∷ 1 ∷ 9 ∷ 1 ∷ 20 ∷ 1 ∷ 31 ∷ 1 ∷ [])
    ∷ listing (records_t ++ minutes)
    (granted 5 ∷ granted 5 ∷ added ∷ waits ∷ waits ∷ added ∷ added ∷ refused 18 ∷ refused 18
    ∷ left [] ∷ left (3 ∷ []) ∷ value 11 ∷ refused 18 ∷ refused 17 ∷ left (4 ∷ []) ∷ added ∷ left [] ∷ granted 5 ∷ value 12 ∷ refused 18 ∷ stored ∷ [])
    1 0 5 (1 ∷ 1 ∷ 2 ∷ 1 ∷ 3 ∷ 1 ∷ 4 ∷ 1 ∷ 5 ∷ 1 ∷ [])
    ∷ listing (records_t ++ only_named)
    (granted 2 ∷ refused 16 ∷ refused 16 ∷ value 0 ∷ value 0 ∷ value 0 ∷ value 0
    ∷ waits ∷ refused 14 ∷ left (2 ∷ []) ∷ stored ∷ stored ∷ refused 16 ∷ refused 16 ∷ refused 16 ∷ value 5 ∷ value 6 ∷ left []
    ∷ granted 4 ∷ added ∷ refused 16 ∷ refused 16 ∷ waits ∷ left (3 ∷ []) ∷ value 6 ∷ value 1 ∷ value 0 ∷ [])
    1 0 4 (1 ∷ 1 ∷ 2 ∷ 2 ∷ 3 ∷ 1 ∷ [])
    ∷ []
