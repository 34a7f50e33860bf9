-- Building and covers beyond the starred cases and the edges: which refusal is given, what is left in the buffers, intervals, covers, bounds of a call.
-- Assumes nothing.
use Rattle.std.specs.Prelude.{List, [], ◌∷◌, ◌++◌, ℕ, ◌*◌, ◌/◌, length, replicate}
use Rattle.lists.specs.Answer.{number_of}
use Rattle.intervals.specs.Build.{BuildResult, build_refusal, build_step}
use Rattle.intervals.specs.Intervals.{interval_table}
use Rattle.covers.specs.Cover.{call_interval, cover_of}
use Rattle.examples.specs.Cases.{Case, intervals, cover}
use Rattle.examples.specs.Table.{T, shared}
use Rattle.examples.specs.Rows.{Row, is, are}

-- what building n nodes with these edges is refused with, lent as many places as it needs and so many bytes of scratch
abbrev pub building : ℕ → List ℕ → ℕ → ℕ
building n edges scratch = number_of (build_refusal n edges (length edges / 2) (replicate (2 * n) 7) (replicate scratch 9))

-- building two nodes, lent five places of 7 and so many bytes of 9
abbrev pub pair : List ℕ → ℕ → BuildResult
pair edges scratch = build_step 2 edges (length edges / 2) (replicate 5 7) (replicate scratch 9)

-- what that is refused with
abbrev pub pair_refused : List ℕ → ℕ → ℕ
pair_refused edges scratch = number_of (build_refusal 2 edges (length edges / 2) (replicate 5 7) (replicate scratch 9))

-- low and high of a call of these names in table T
abbrev pub bounds_t : List ℕ → List ℕ
bounds_t names = let call = call_interval (interval_table 10 T) names in call.low ∷ call.high ∷ []

-- the rows
unfoldable pub hierarchies : List Row
hierarchies =
    -- 1: the edge table is one number short; 1 before 5
    is (number_of (build_refusal 2 (0 ∷ []) 1 (replicate 4 7) (replicate 512 9))) 1
    ∷ is (building 0 (0 ∷ 1 ∷ []) 511) 1
    ∷ is (building 0 (0 ∷ 1 ∷ []) 512) 5
    -- 1,025 edges: 6; 5 before it, for 257 nodes
    ∷ is (building 2 (replicate 2050 0) 512) 6
    ∷ is (building 257 (replicate 2050 0) 512) 5
    -- 7 at a later edge: child 0, a child and a parent not below n; 7 before 8
    ∷ is (building 2 (0 ∷ 1 ∷ 1 ∷ 0 ∷ []) 512) 7
    ∷ is (building 2 (0 ∷ 1 ∷ 0 ∷ 2 ∷ []) 512) 7
    ∷ is (building 2 (0 ∷ 1 ∷ 2 ∷ 1 ∷ []) 512) 7
    ∷ is (building 2 (0 ∷ 1 ∷ 0 ∷ 1 ∷ 1 ∷ 1 ∷ []) 512) 7
    -- 8: the second edge again as the fourth
    ∷ is (building 3 (0 ∷ 1 ∷ 1 ∷ 2 ∷ 0 ∷ 2 ∷ 1 ∷ 2 ∷ []) 512) 8
    -- 9: a cycle that the root does not reach
    ∷ is (building 4 (0 ∷ 1 ∷ 2 ∷ 3 ∷ 3 ∷ 2 ∷ []) 512) 9
    -- after 1 the scratch is unchanged, also where 2,048 bytes are lent and the places are too few;
    ∷ are (pair (0 ∷ 1 ∷ []) 511).scratch (replicate 511 9)
    ∷ are (pair (1 ∷ 1 ∷ []) 511).scratch (replicate 511 9)
    ∷ are (build_step 3 (0 ∷ 1 ∷ 0 ∷ 2 ∷ []) 2 (replicate 5 7) (replicate 2048 9)).scratch (replicate 2048 9)
    -- after another refusal, 5 to 9, and where it is built, its first 512 bytes are zero, and the rest unchanged
    ∷ is (building 0 [] 512) 5
    ∷ are (build_step 0 [] 0 [] (replicate 512 9)).scratch (replicate 512 0)
    ∷ is (pair_refused (replicate 2050 0) 514) 6
    ∷ are (pair (replicate 2050 0) 514).scratch (replicate 512 0 ++ (9 ∷ 9 ∷ []))
    ∷ is (pair_refused (1 ∷ 1 ∷ []) 514) 7
    ∷ are (pair (1 ∷ 1 ∷ []) 514).scratch (replicate 512 0 ++ (9 ∷ 9 ∷ []))
    ∷ is (pair_refused (1 ∷ 1 ∷ []) 2048) 7
    ∷ are (pair (1 ∷ 1 ∷ []) 2048).scratch (replicate 512 0 ++ replicate 1536 9)
    ∷ is (pair_refused (0 ∷ 1 ∷ 0 ∷ 1 ∷ []) 513) 8
    ∷ are (pair (0 ∷ 1 ∷ 0 ∷ 1 ∷ []) 513).scratch (replicate 512 0 ++ (9 ∷ []))
    ∷ is (pair_refused [] 512) 9
    ∷ are (pair [] 512).scratch (replicate 512 0)
    ∷ are (pair (0 ∷ 1 ∷ []) 512).scratch (replicate 512 0)
    ∷ are (pair (0 ∷ 1 ∷ []) 513).scratch (replicate 512 0 ++ (9 ∷ []))
    ∷ are (pair (0 ∷ 1 ∷ []) 2048).scratch (replicate 512 0 ++ replicate 1536 9)
    -- after a refusal the places are unchanged; those past 2n stay so where it is built, and 512 bytes give what 2,048 give
    ∷ are (pair (0 ∷ 1 ∷ []) 511).places (replicate 5 7)
    ∷ are (pair (1 ∷ 1 ∷ []) 514).places (replicate 5 7)
    ∷ are (pair (0 ∷ 1 ∷ []) 512).places (1 ∷ 1 ∷ 1 ∷ 1 ∷ 7 ∷ [])
    ∷ are (pair (0 ∷ 1 ∷ []) 2048).places (1 ∷ 1 ∷ 1 ∷ 1 ∷ 7 ∷ [])
    -- covers over tables of any contents: the narrower of two, and not a node past n; 0 where none contains the call's
    ∷ is (cover_of 2 (5 ∷ 6 ∷ 1 ∷ 9 ∷ []) (1 ∷ [])) 1
    ∷ is (cover_of 1 (5 ∷ 6 ∷ 1 ∷ 9 ∷ []) (1 ∷ [])) 0
    ∷ is (cover_of 0 (5 ∷ 6 ∷ 1 ∷ 9 ∷ []) (1 ∷ [])) 0
    -- equally narrow ones with the same interval, and with two others
    ∷ is (cover_of 3 (1 ∷ 9 ∷ 4 ∷ 4 ∷ 4 ∷ 4 ∷ []) (2 ∷ [])) 1
    ∷ is (cover_of 3 (1 ∷ 4 ∷ 2 ∷ 4 ∷ 1 ∷ 3 ∷ 2 ∷ 3 ∷ []) (3 ∷ [])) 1
    ∷ is (cover_of 3 (1 ∷ 4 ∷ 1 ∷ 3 ∷ 2 ∷ 4 ∷ 2 ∷ 3 ∷ []) (3 ∷ [])) 1
    -- low above high
    ∷ is (cover_of 2 (9 ∷ 1 ∷ 3 ∷ 3 ∷ []) (0 ∷ [])) 0
    -- past the end of a table stands [0,0], which a call without names has
    ∷ is (cover_of 9 (3 ∷ 4 ∷ 1 ∷ 1 ∷ []) []) 2
    ∷ is (cover_of 9 (3 ∷ 4 ∷ 0 ∷ []) []) 1
    -- the bounds of a call of T (02, point 3), after each of the names 8, 6, 9, 1: the first starts them, 6 lowers the low, 9 lies inside, 1 lowers it again;
    -- and after each of 3, 1, 6, of which 1 and 6 raise the high
    ∷ are (bounds_t (8 ∷ [])) (4 ∷ 4 ∷ [])
    ∷ are (bounds_t (8 ∷ 6 ∷ [])) (3 ∷ 4 ∷ [])
    ∷ are (bounds_t (8 ∷ 6 ∷ 9 ∷ [])) (3 ∷ 4 ∷ [])
    ∷ are (bounds_t (8 ∷ 6 ∷ 9 ∷ 1 ∷ [])) (1 ∷ 4 ∷ [])
    ∷ are (bounds_t (3 ∷ [])) (1 ∷ 1 ∷ [])
    ∷ are (bounds_t (3 ∷ 1 ∷ [])) (1 ∷ 2 ∷ [])
    ∷ are (bounds_t (3 ∷ 1 ∷ 6 ∷ [])) (1 ∷ 4 ∷ [])
    ∷ []

-- intervals of shared children and of cycles, and covers of T
unfoldable pub small : List Case
small =
    intervals 4 (0 ∷ 1 ∷ 0 ∷ 2 ∷ 1 ∷ 3 ∷ 2 ∷ 3 ∷ []) (1 ∷ 1 ∷ 1 ∷ 1 ∷ 1 ∷ 1 ∷ 1 ∷ 1 ∷ [])
    ∷ intervals 5 shared (1 ∷ 3 ∷ 1 ∷ 1 ∷ 2 ∷ 2 ∷ 3 ∷ 3 ∷ 1 ∷ 3 ∷ [])
    ∷ intervals 4 (0 ∷ 1 ∷ 1 ∷ 2 ∷ 2 ∷ 3 ∷ 3 ∷ 1 ∷ []) (1 ∷ 1 ∷ 1 ∷ 1 ∷ 1 ∷ 1 ∷ 1 ∷ 1 ∷ [])
    ∷ intervals 4 (0 ∷ 1 ∷ 1 ∷ 2 ∷ 2 ∷ 1 ∷ 2 ∷ 3 ∷ 0 ∷ 3 ∷ []) (1 ∷ 2 ∷ 1 ∷ 2 ∷ 1 ∷ 2 ∷ 2 ∷ 2 ∷ [])
    ∷ intervals 7 (3 ∷ 4 ∷ 2 ∷ 3 ∷ 1 ∷ 2 ∷ 0 ∷ 1 ∷ 4 ∷ 2 ∷ 1 ∷ 5 ∷ 4 ∷ 6 ∷ 5 ∷ 6 ∷ [])
    (1 ∷ 2 ∷ 1 ∷ 2 ∷ 1 ∷ 2 ∷ 1 ∷ 2 ∷ 1 ∷ 2 ∷ 2 ∷ 2 ∷ 2 ∷ 2 ∷ [])
    -- 0→1, 1→2, 0→3, 3→1: node 1 is closed and has no number when the walk comes to it from 3, and is passed over
    ∷ intervals 4 (0 ∷ 1 ∷ 1 ∷ 2 ∷ 0 ∷ 3 ∷ 3 ∷ 1 ∷ []) (1 ∷ 1 ∷ 1 ∷ 1 ∷ 1 ∷ 1 ∷ 1 ∷ 1 ∷ [])
    ∷ cover 10 T (3 ∷ 3 ∷ 3 ∷ []) 3
    ∷ cover 10 T (0 ∷ []) 0
    ∷ cover 10 T (6 ∷ []) 2
    ∷ []
