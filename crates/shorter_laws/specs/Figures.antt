-- Small files cut at their edges: what is left of one, what a cut is refused with, and what the shorter file's run comes to. Assumes nothing.
use Rattle.std.specs.Prelude.{List, [], ◌∷◌, ◌++◌, ℕ, replicate}
use Rattle.lists.specs.Answer.{refusal, number_of}
use Rattle.blocks.specs.File.{file_checks}
use Rattle.replay.specs.Replay.{granted, waits, value, stored, added, left, refused}
use Rattle.examples.specs.Cases.{Case, listing}
use Rattle.examples.specs.Table.{bytes16, size, edge, enter1, get, put, leave, add_most, value_at}
use Rattle.examples.specs.Rows.{Row, is, are}
use Rattle.cutting.specs.Cut.{cut_records, cut_refusal, bytes_of, blocks_of_all, cut_file}

-- n = 3, 0→1 and 0→2
abbrev pub tree : List (List ℕ)
tree = size 3 ∷ edge 0 1 ∷ edge 0 2 ∷ []

-- steps 1 to 5: 1 stores 300 at 1, 2 waits to read it, and both leave
abbrev pub first : List (List ℕ)
first = enter1 1 2 1 ∷ bytes16 (5 ∷ 1 ∷ 1 ∷ 0 ∷ 44 ∷ 1 ∷ []) ∷ enter1 2 1 1 ∷ leave 1 ∷ leave 2 ∷ []

-- 6 to 8: 3 stores 1 at 2
abbrev pub second : List (List ℕ)
second = enter1 3 2 2 ∷ put 3 2 1 ∷ leave 3 ∷ []

-- 9 to 11: 4 adds 2^64 - 1 to it
abbrev pub third : List (List ℕ)
third = enter1 4 3 2 ∷ add_most 4 2 ∷ leave 4 ∷ []

-- 12 to 15: 1 stores 0 at 1 and 5 at 0
abbrev pub fourth : List (List ℕ)
fourth = enter1 1 2 0 ∷ put 1 1 0 ∷ put 1 0 5 ∷ leave 1 ∷ []

-- 16 and 17: 2 reads 0, and stays
abbrev pub last : List (List ℕ)
last = enter1 2 1 0 ∷ get 2 0 ∷ []

-- the file, with 9 at 2
unfoldable pub calls : List (List ℕ)
calls = tree ++ (value_at 2 9 ∷ []) ++ first ++ second ++ third ++ fourth ++ last

-- 300 at 1
abbrev pub large : List ℕ
large = bytes16 (8 ∷ 1 ∷ 0 ∷ 0 ∷ 44 ∷ 1 ∷ [])

-- eight bytes
abbrev pub eight : List ℕ
eight = 1 ∷ 2 ∷ 3 ∷ 4 ∷ 5 ∷ 6 ∷ 7 ∷ 8 ∷ []

-- 33 records, which are two blocks
abbrev pub two_blocks : List (List ℕ)
two_blocks = tree ++ replicate 30 (leave 5)

-- the bytes of the records of a cut
abbrev pub cut : List (List ℕ) → ℕ → List ℕ
cut rs k = bytes_of (cut_records rs k)

-- what cutting the file of these records, into so many bytes, is refused with
abbrev pub cutting : ℕ → List (List ℕ) → ℕ → ℕ
cutting room rs k = number_of (cut_refusal (blocks_of_all rs) k (replicate room 7))

-- what the room has after it
abbrev pub room_of : ℕ → List (List ℕ) → ℕ → List ℕ
room_of room rs k = (cut_file (blocks_of_all rs) k (replicate room 7)).room

-- what reading the file of these records is refused with
abbrev pub reading : List (List ℕ) → ℕ
reading rs = number_of (refusal (file_checks (blocks_of_all rs)))

-- the rows
unfoldable pub figures : List Row
figures =
    -- after 5 steps: the values after them, ascending; not that of 0, which is zero
    are (cut calls 5) (bytes_of (tree ++ (large ∷ value_at 2 9 ∷ []) ++ second ++ third ++ fourth ++ last))
    -- after 8: a value of the file that was stored over
    ∷ are (cut calls 8) (bytes_of (tree ++ (large ∷ value_at 2 1 ∷ []) ++ third ++ fourth ++ last))
    -- after 11: none for 2, where 1 + (2^64 - 1) is zero
    ∷ are (cut calls 11) (bytes_of (tree ++ (large ∷ []) ++ fourth ++ last))
    -- after 15: none for 1, where zero was stored
    ∷ are (cut calls 15) (bytes_of (tree ++ (value_at 0 5 ∷ []) ++ last))
    -- after none: the same records
    ∷ are (cut calls 0) (bytes_of calls)
    -- a value of eight bytes, low byte first
    ∷ are (cut (tree ++ (enter1 1 2 1 ∷ bytes16 (5 ∷ 1 ∷ 1 ∷ 0 ∷ eight) ∷ leave 1 ∷ [])) 3) (bytes_of (tree ++ (bytes16 (8 ∷ 1 ∷ 0 ∷ 0 ∷ eight) ∷ [])))
    -- cut twice
    ∷ are (cut (cut_records calls 5) 6) (cut calls 11)
    -- into the room, places behind left as they are
    ∷ are (room_of 514 calls 15) (blocks_of_all (tree ++ (value_at 0 5 ∷ []) ++ last) ++ (7 ∷ 7 ∷ []))
    -- not refused: the room just as long as the file, and k the number of steps
    ∷ is (cutting 512 calls 15) 0
    ∷ is (cutting 512 (tree ++ first) 5) 0
    ∷ is (cutting 512 tree 0) 0
    ∷ is (cutting 1024 two_blocks 30) 0
    -- 1, room a byte shorter than the file, also where one block is left of two, and before 2
    ∷ is (number_of (cut_refusal (replicate 513 0) 0 (replicate 512 7))) 1
    ∷ is (number_of (cut_refusal (replicate 513 0) 0 (replicate 513 7))) 2
    ∷ is (cutting 511 calls 15) 1
    ∷ is (cutting 1023 two_blocks 30) 1
    -- 19, k above the number of steps: of a file without steps, k = 1; before 20, since 2 holds after all 17
    ∷ is (cutting 512 (size 1 ∷ []) 1) 19
    ∷ is (cutting 512 (tree ++ first) 6) 19
    ∷ is (cutting 512 calls 18) 19
    -- 20: of n = 1, 1 writes in 0; 1 holds; it holds and 2 waits; 2 holds; and after the last step; the first party, and the last
    ∷ is (cutting 512 (size 1 ∷ enter1 1 2 0 ∷ []) 1) 20
    ∷ is (cutting 512 calls 1) 20
    ∷ is (cutting 512 calls 3) 20
    ∷ is (cutting 512 calls 4) 20
    ∷ is (cutting 512 calls 17) 20
    ∷ is (cutting 512 (tree ++ (enter1 0 1 1 ∷ [])) 1) 20
    ∷ is (cutting 512 (tree ++ (enter1 31 1 1 ∷ [])) 1) 20
    -- nothing is written then
    ∷ are (room_of 512 calls 17) (replicate 512 7)
    -- before these what the file or building is refused for, 1 before all
    ∷ is (cutting 512 (tree ++ (value_at 3 9 ∷ [])) 1) 4
    ∷ is (cutting 512 (size 3 ∷ edge 0 1 ∷ []) 1) 9
    ∷ is (cutting 512 (size 3 ∷ edge 0 1 ∷ value_at 3 9 ∷ []) 1) 4
    ∷ is (cutting 511 (tree ++ (value_at 3 9 ∷ [])) 1) 1
    -- reading: 4 for a node not below n, a node twice, nodes not ascending, a zero, a value before an edge, one behind a step, and bytes 2, 3 and 12
    ∷ is (reading (tree ++ (value_at 1 9 ∷ value_at 2 9 ∷ []))) 0
    ∷ is (reading (tree ++ (value_at 3 9 ∷ []))) 4
    ∷ is (reading (tree ++ (value_at 2 9 ∷ value_at 2 8 ∷ []))) 4
    ∷ is (reading (tree ++ (value_at 2 9 ∷ value_at 1 9 ∷ []))) 4
    ∷ is (reading (tree ++ (value_at 2 0 ∷ []))) 4
    ∷ is (reading (size 3 ∷ edge 0 1 ∷ value_at 2 9 ∷ edge 0 2 ∷ [])) 4
    ∷ is (reading (tree ++ second ++ (value_at 2 9 ∷ []))) 4
    ∷ is (reading (tree ++ (bytes16 (8 ∷ 2 ∷ 1 ∷ 0 ∷ 9 ∷ []) ∷ []))) 4
    ∷ is (reading (tree ++ (bytes16 (8 ∷ 2 ∷ 0 ∷ 1 ∷ 9 ∷ []) ∷ []))) 4
    ∷ is (reading (tree ++ (bytes16 (8 ∷ 2 ∷ 0 ∷ 0 ∷ 9 ∷ 0 ∷ 0 ∷ 0 ∷ 0 ∷ 0 ∷ 0 ∷ 0 ∷ 1 ∷ []) ∷ []))) 4
    ∷ []

-- RUNS: the whole file, and the shorter ones
unfoldable pub runs : List Case
runs =
    listing calls
    (granted 1 ∷ stored ∷ waits ∷ left (2 ∷ []) ∷ left [] ∷ granted 2 ∷ stored ∷ left [] ∷ granted 2 ∷ added ∷ left [] ∷ granted 0 ∷ stored ∷ stored ∷ left [] ∷ granted 0 ∷ value 5 ∷ [])
    1 0 6 (1 ∷ 2 ∷ 2 ∷ 2 ∷ 3 ∷ 1 ∷ 4 ∷ 1 ∷ [])
    -- after 11 steps
    ∷ listing (cut_records calls 11) (granted 0 ∷ stored ∷ stored ∷ left [] ∷ granted 0 ∷ value 5 ∷ []) 1 0 2 (1 ∷ 1 ∷ 2 ∷ 1 ∷ [])
    -- after 15: the value that it gets is one of the file
    ∷ listing (cut_records calls 15) (granted 0 ∷ value 5 ∷ []) 1 0 1 (2 ∷ 1 ∷ [])
    -- what 20 is for: cut while 1 holds, its store would be refused
    ∷ listing (cut_records (tree ++ first) 1) (refused 13 ∷ granted 1 ∷ refused 13 ∷ left [] ∷ []) 0 0 1 (2 ∷ 1 ∷ [])
    ∷ []
