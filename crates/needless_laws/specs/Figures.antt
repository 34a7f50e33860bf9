-- Figures of the report: files, what the theorem asks of each, and its two numbers. Assumes nothing.
use Rattle.std.specs.Prelude.{List, [], ◌∷◌, ℕ}
use Rattle.lists.specs.Lists.{one}
use Rattle.hierarchy.specs.Hierarchy.{edges_of}
use Rattle.blocks.specs.File.{file_records}
use Rattle.replay.specs.Replay.{record_list, size_of, edge_table, edge_count_of, step_records, built_of, start_of}
use Rattle.trees.specs.Tree.{one_parent_each}
use Rattle.needless.specs.declared.Waits.{Waits}
use Rattle.needless.specs.Waits.{waits_of}
use Rattle.examples.specs.Cases.{written}
use Rattle.examples.specs.Rows.{Row, are}
use Rattle.examples.specs.Table.{size, edge, enter1, enter2, leave, file_t, file_shared}
use Rattle.needless_laws.specs.Visits.{visits_name_one}

-- of records and a report, four numbers: 1 where each node but the root has exactly one parent, 1 where each visit names one node, all waits, the needless ones
unfoldable pub four : List (List ℕ) → Waits → List ℕ
four rs w =
    one (one_parent_each (size_of rs) (edges_of (edge_table rs) (edge_count_of rs)))
    ∷ one (visits_name_one (start_of (built_of rs) rs) (step_records rs))
    ∷ w.all
    ∷ w.needless
    ∷ []

-- of a file
abbrev pub told : List ℕ → List ℕ
told file = four (record_list (file_records file)) (waits_of file)

-- the four numbers of the file of these records
abbrev pub row : List (List ℕ) → ℕ → ℕ → ℕ → ℕ → Row
row records one_parent one_name all needless = are (told (written records)) (one_parent ∷ one_name ∷ all ∷ needless ∷ [])

-- mode 1
abbrev pub reading : ℕ
reading = 1

-- mode 2
abbrev pub writing : ℕ
writing = 2

-- mode 3
abbrev pub adding : ℕ
adding = 3

-- a tree: a root and three children
abbrev pub three : List (List ℕ) → List (List ℕ)
three steps = size 4 ∷ edge 0 1 ∷ edge 0 2 ∷ edge 0 3 ∷ steps

-- the hierarchy of the starred case, in which 4 has [1,3] and reaches 1 and 3, and 2 has [2,2]
abbrev pub shared : List (List ℕ) → List (List ℕ)
shared steps = size 5 ∷ edge 0 1 ∷ edge 0 2 ∷ edge 0 3 ∷ edge 0 4 ∷ edge 4 1 ∷ edge 4 3 ∷ steps

-- THE FIGURES
unfoldable pub figures : List Row
figures =
    -- the starred case: a writer of 4 makes a writer of 2 wait, though they share nothing
    row file_shared 0 1 1 1
    -- table T and its steps: steps 4 and 8 wait, both for someone who named nodes whose reach meets theirs
    ∷ row file_t 0 0 2 0
    -- 1 writes 2, 2 reads 1; 3's reading of 4 waits for 1, which shares nothing with it. 2 named 1, which 4 reaches, but is a reader too
    ∷ row (shared (enter1 1 writing 2 ∷ enter1 2 reading 1 ∷ enter1 3 reading 4 ∷ [])) 0 1 1 1
    -- the same with two adding visits, which go like two readers
    ∷ row (shared (enter1 1 writing 2 ∷ enter1 2 adding 1 ∷ enter1 3 adding 4 ∷ [])) 0 1 1 1
    -- 2 reads 1, and so it counts that 4 reaches 1; so it does where 2 adds and 3 reads
    ∷ row (shared (enter1 1 writing 2 ∷ enter1 2 reading 1 ∷ enter1 3 adding 4 ∷ [])) 0 1 1 0
    ∷ row (shared (enter1 1 writing 2 ∷ enter1 2 adding 1 ∷ enter1 3 reading 4 ∷ [])) 0 1 1 0
    -- 2's adding in 2 waits for 1, a reader of 4, which shares nothing with it
    ∷ row (shared (enter1 1 reading 4 ∷ enter1 2 adding 2 ∷ [])) 0 1 1 1
    -- 1 has left, and it does not count that it named 2
    ∷ row (shared (enter1 1 writing 2 ∷ leave 1 ∷ enter1 2 writing 4 ∷ enter1 3 writing 2 ∷ [])) 0 1 1 1
    -- 1 came back, and what it named before does not count
    ∷ row (shared (enter1 1 writing 2 ∷ leave 1 ∷ enter1 1 writing 4 ∷ enter1 2 writing 2 ∷ [])) 0 1 1 1
    -- a tree: 2 and 3 read 1, 4's writing of 1 waits for them; 4's second call, of 3, is refused; 5's reading of 1 waits for 4 alone; 6 reads 3 at once; 7's
    -- writing of 0 waits
    ∷ row
    (three
    (enter1 2 reading 1 ∷ enter1 3 reading 1 ∷ enter1 4 writing 1 ∷ enter1 4 writing 3 ∷ enter1 5 reading 1 ∷ enter1 6 reading 3 ∷ leave 2 ∷ leave 3
    ∷ leave 4 ∷ enter1 7 writing 0 ∷ []))
    1 1 3 0
    -- 2's writing of 0 waits for 1; 3's writing of node 2 waits for party 2, which waits itself, and for no holder
    ∷ row (three (enter1 1 writing 1 ∷ enter1 2 writing 0 ∷ enter1 3 writing 2 ∷ [])) 1 1 2 0
    -- 1 and 2 add in 1; 3's reading of 1 waits for them, 4's adding in 1 for 3, which waits itself
    ∷ row (three (enter1 1 adding 1 ∷ enter1 2 adding 1 ∷ enter1 3 reading 1 ∷ enter1 4 adding 1 ∷ [])) 1 1 2 0
    -- 1 writes 1 and 3, and a writer of 2 waits needlessly: one name each is needed
    ∷ row (three (enter2 1 writing 1 3 ∷ enter1 2 writing 2 ∷ [])) 1 0 1 1
    -- 1 writes 2: 2's reading of 1 and 3 waits needlessly, 3's of 1 and 2 does not
    ∷ row (three (enter1 1 writing 2 ∷ enter2 2 reading 1 3 ∷ enter2 3 reading 1 2 ∷ [])) 1 0 2 1
    -- a name given twice is one: 1 writes 1, 2 writes 2 at once, 3's writing of 0 waits
    ∷ row (three (enter2 1 writing 1 1 ∷ enter1 2 writing 2 ∷ enter1 3 writing 0 ∷ [])) 1 1 1 0
    -- a call of two names that is refused makes no visit
    ∷ row (three (enter1 1 writing 1 ∷ enter2 1 writing 1 3 ∷ enter1 2 writing 1 ∷ [])) 1 1 1 0
    -- a hierarchy that is refused counts as no wait: an edge stands twice, which no step looks at
    ∷ row (size 2 ∷ edge 0 1 ∷ edge 0 1 ∷ enter1 1 writing 0 ∷ enter1 2 writing 0 ∷ []) 0 1 0 0
    -- so does a file that is refused: its edge stands behind a step; and no bytes at all
    ∷ row (size 2 ∷ enter1 1 writing 0 ∷ enter1 2 writing 0 ∷ edge 0 1 ∷ []) 1 1 0 0
    ∷ are (told []) (1 ∷ 1 ∷ 0 ∷ 0 ∷ [])
    ∷ []
