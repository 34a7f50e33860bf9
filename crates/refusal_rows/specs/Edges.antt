-- Each refusal at its edge: what the definitions give just inside and just outside, beside the figure of document 01, whose words the comments have. Assumes nothing.
use Rattle.std.specs.Prelude.{List, [], ◌∷◌, ◌++◌, true, false, ℕ, set, take, replicate}
use Rattle.lists.specs.Answer.{number_of, refusal}
use Rattle.lists.specs.Lists.{one, sum}
use Rattle.hierarchy.specs.Hierarchy.{some_edge, edge_wrong, size_wrong, edges_too_many, edge_twice, some_unreached}
use Rattle.intervals.specs.Build.{build_short}
use Rattle.blocks.specs.Record.{record_right}
use Rattle.blocks.specs.Block.{count_right, head_right, block_of}
use Rattle.blocks.specs.File.{not_blocks, read_refusal, write_refusal}
use Rattle.locks.specs.declared.Mode.{Mode}
use Rattle.locks.specs.declared.Mode.TheVariants.{Reading, Writing, Adding}
use Rattle.locks.specs.declared.Stage.TheVariants.{Waiting, Holding}
use Rattle.desk.specs.declared.Desk.{Desk}
use Rattle.naming.specs.Names.{named}
use Rattle.locks.specs.Locks.{conflict_call}
use Rattle.locks.specs.Lent.{Hierarchy, lent, tables_short, interval_wrong}
use Rattle.parties.specs.Parties.{entry_of}
use Rattle.parties.specs.Sound.{lists_parties, lists_once, lists_waiting, intervals_real, covers_right, names_kept, names_covered, holders_apart, waiters_held_up}
use Rattle.desk.specs.Desks.{fresh_desk}
use Rattle.desk.specs.Sound.{sound_desk}
use Rattle.grants.specs.Grants.{no_grants, one_grant_more}
use Rattle.desk.specs.Steps.{enter_refusal, value_checks, get_own, put_own, add_own, sum64, leave_refusal}
use Rattle.replay.specs.Replay.{granted, waits, value, stored, added, left, refused}
use Rattle.examples.specs.Cases.{Case, listing}
use Rattle.examples.specs.Rows.{Row, is, are}
use Rattle.examples.specs.Table.{bytes16, edge, enter1, get, put, leave, add, value_at, size}
use Rattle.examples.specs.Desks.{recounted, locked, lock, seat, list}

-- two nodes and one edge, with these intervals
abbrev pub two : List ℕ → Hierarchy
two intervals = lent 2 intervals (0 ∷ 1 ∷ []) 1

-- the same with interval [1,1] for both
abbrev pub ones : Hierarchy
ones = two (1 ∷ 1 ∷ 1 ∷ 1 ∷ [])

-- what enter refuses, of a fresh desk over two nodes of interval [1,1], by party, names and name count
abbrev pub entering : ℕ → List ℕ → ℕ → ℕ
entering party names name_count = number_of (enter_refusal ones fresh_desk party names name_count)

-- WHAT A STEP IS LENT ALONE. Party 1 holds node 1 of these two for writing
abbrev pub holding : Desk
holding = seat fresh_desk 1 (Holding (lock Writing 1 1 1))

-- what its get of node 1 is refused with, lent so many values and so many bytes for the search
abbrev pub get_lent : ℕ → ℕ → ℕ
get_lent values room = number_of (refusal (value_checks ones holding 1 1 (replicate values 0) (replicate room 0) (get_own holding 1)))

-- its put
abbrev pub put_lent : ℕ → ℕ → ℕ
put_lent values room = number_of (refusal (value_checks ones holding 1 1 (replicate values 0) (replicate room 0) (put_own holding 1)))

-- its add, where it holds the node for adding
abbrev pub add_lent : ℕ → ℕ → ℕ
add_lent values room =
    let d = seat fresh_desk 1 (Holding (lock Adding 1 1 1)) in number_of (refusal (value_checks ones d 1 1 (replicate values 0) (replicate room 0) (add_own d 1)))

-- its leave, lent so many bytes
abbrev pub leave_lent : ℕ → ℕ
leave_lent bytes = number_of (leave_refusal ones holding 1 (replicate bytes 0))

-- the conditions, lowest number first; those of blocks, of records and of a sound desk are below
unfoldable pub edges : List Row
edges =
    -- 1, a lent buffer is shorter than needed. Building writes 2n numbers, an edge table has two numbers an edge, it needs 512 bytes of scratch: of n = 2, 4 and 3
    -- places, 2 numbers and 1, 512 bytes and 511
    is (one (build_short 2 (0 ∷ 1 ∷ []) 1 (replicate 4 0) (replicate 512 0))) 0
    ∷ is (one (build_short 2 (0 ∷ 1 ∷ []) 1 (replicate 3 0) (replicate 512 0))) 1
    ∷ is (one (build_short 2 (0 ∷ []) 1 (replicate 4 0) (replicate 512 0))) 1
    ∷ is (one (build_short 2 (0 ∷ 1 ∷ []) 1 (replicate 4 0) (replicate 511 0))) 1
    -- every step is lent the intervals and the edges
    ∷ is (one (tables_short ones)) 0
    ∷ is (one (tables_short (two (replicate 3 1)))) 1
    ∷ is (one (tables_short (lent 2 (replicate 4 1) (0 ∷ []) 1))) 1
    -- get, put and add also the n values, and a scratch of 256 bytes
    ∷ is (get_lent 2 256) 0
    ∷ is (get_lent 1 256) 1
    ∷ is (get_lent 2 255) 1
    ∷ is (put_lent 2 256) 0
    ∷ is (put_lent 1 256) 1
    ∷ is (put_lent 2 255) 1
    ∷ is (add_lent 2 256) 0
    ∷ is (add_lent 1 256) 1
    ∷ is (add_lent 2 255) 1
    -- enter as many names as its name count says
    ∷ is (entering 1 (1 ∷ []) 1) 0
    ∷ is (entering 1 [] 1) 1
    -- leave its 32 bytes
    ∷ is (leave_lent 32) 0
    ∷ is (leave_lent 31) 1
    -- 2, bytes not 1 to 128 whole blocks: 512, 511, 513, 1,024, none. 128 blocks and 129, 3,968 records and 3,969: `most_blocks` and what follows it (proofs/Edges)
    ∷ is (one (not_blocks (replicate 512 0))) 0
    ∷ is (one (not_blocks (replicate 511 0))) 1
    ∷ is (one (not_blocks (replicate 513 0))) 1
    ∷ is (one (not_blocks (replicate 1024 0))) 0
    ∷ is (one (not_blocks [])) 1
    -- 5: n = 0, 1, 256, 257
    ∷ is (one (size_wrong 0)) 1
    ∷ is (one (size_wrong 1)) 0
    ∷ is (one (size_wrong 256)) 0
    ∷ is (one (size_wrong 257)) 1
    -- 6: 1,024 edges, 1,025
    ∷ is (one (edges_too_many 1024)) 0
    ∷ is (one (edges_too_many 1025)) 1
    -- 7: of n = 2, 0→1; a child and a parent not below n; child 0; equal ends
    ∷ is (one (some_edge (edge_wrong 2) (0 ∷ 1 ∷ []))) 0
    ∷ is (one (some_edge (edge_wrong 2) (0 ∷ 2 ∷ []))) 1
    ∷ is (one (some_edge (edge_wrong 2) (2 ∷ 1 ∷ []))) 1
    ∷ is (one (some_edge (edge_wrong 2) (1 ∷ 0 ∷ []))) 1
    ∷ is (one (some_edge (edge_wrong 2) (1 ∷ 1 ∷ []))) 1
    -- 8: 0→1, 0→2; 0→1, 0→1
    ∷ is (one (edge_twice (0 ∷ 1 ∷ 0 ∷ 2 ∷ []))) 0
    ∷ is (one (edge_twice (0 ∷ 1 ∷ 0 ∷ 1 ∷ []))) 1
    -- 9: of n = 2, 0→1; no edge
    ∷ is (one (some_unreached 2 (0 ∷ 1 ∷ []))) 0
    ∷ is (one (some_unreached 2 [])) 1
    -- 10: of node 1, an interval that ends at 256; at 257; low 0; low at high; low above high; not inside the root's, [2,9]
    ∷ is (one (interval_wrong (two (1 ∷ 256 ∷ 1 ∷ 256 ∷ [])) 1)) 0
    ∷ is (one (interval_wrong (two (1 ∷ 257 ∷ 1 ∷ 257 ∷ [])) 1)) 1
    ∷ is (one (interval_wrong (two (0 ∷ 9 ∷ 0 ∷ 9 ∷ [])) 1)) 1
    ∷ is (one (interval_wrong (two (1 ∷ 9 ∷ 5 ∷ 5 ∷ [])) 1)) 0
    ∷ is (one (interval_wrong (two (1 ∷ 9 ∷ 5 ∷ 4 ∷ [])) 1)) 1
    ∷ is (one (interval_wrong (two (2 ∷ 9 ∷ 1 ∷ 9 ∷ [])) 1)) 1
    ∷ is (one (interval_wrong (two (2 ∷ 9 ∷ 2 ∷ 10 ∷ [])) 1)) 1
    -- 11: party 31, 32
    ∷ is (entering 31 (1 ∷ []) 1) 0
    ∷ is (entering 32 (1 ∷ []) 1) 11
    -- 15: no name; eight; nine; a node not below n; and 1 before it, where fewer names are lent than counted
    ∷ is (entering 1 [] 0) 15
    ∷ is (entering 1 (replicate 8 1) 8) 0
    ∷ is (entering 1 (replicate 9 1) 9) 15
    ∷ is (entering 1 (2 ∷ []) 1) 15
    ∷ is (entering 1 (replicate 8 1) 9) 1
    -- a party's count of grants stops; the sum of 32 counts at the stop goes past it
    ∷ is (one_grant_more 4294967294) 4294967295
    ∷ is (one_grant_more 4294967295) 4294967295
    ∷ is (sum (replicate 32 4294967295)) 137438953440
    -- an add's sum, below 2 to the 64 and past it
    ∷ is (sum64 18446744073709551614 1) 18446744073709551615
    ∷ is (sum64 18446744073709551615 1) 0
    ∷ is (sum64 18446744073709551615 18446744073709551615) 18446744073709551614
    -- conflict of two holds, as the C host asks: intervals that meet, that do not, and the nine pairs of modes; modes 0 and 4, low 0, ends at 256 and 257, low above high
    ∷ is (conflict_call 1 1 4 2 4 9) 1
    ∷ is (conflict_call 1 1 4 2 5 9) 0
    ∷ is (conflict_call 1 1 4 1 4 9) 0
    ∷ is (conflict_call 1 1 4 3 4 9) 1
    ∷ is (conflict_call 2 1 4 1 4 9) 1
    ∷ is (conflict_call 2 1 4 2 4 9) 1
    ∷ is (conflict_call 2 1 4 3 4 9) 1
    ∷ is (conflict_call 3 1 4 1 4 9) 1
    ∷ is (conflict_call 3 1 4 2 4 9) 1
    ∷ is (conflict_call 3 1 4 3 4 9) 0
    ∷ is (conflict_call 0 1 4 1 4 9) 10
    ∷ is (conflict_call 4 1 4 1 4 9) 10
    ∷ is (conflict_call 1 1 4 4 4 9) 10
    ∷ is (conflict_call 1 0 4 2 4 9) 10
    ∷ is (conflict_call 1 1 4 2 4 256) 1
    ∷ is (conflict_call 1 1 4 2 4 257) 10
    ∷ is (conflict_call 2 4 3 2 4 9) 10
    ∷ []

-- BLOCKS: 1, 3 and 4. A block by hand: number 0, one record, which is size 1, and a last byte. Its words are 1 in bytes 4 and 5 and 257 in bytes 8 and 9,
-- so that a ends as 258, b as 1 + 1 + 250 × 258 = 64,502, and the check's bytes are 2, 1, 246, 251
abbrev pub size_one : ℕ → List ℕ
size_one last = 0 ∷ 0 ∷ 0 ∷ 0 ∷ 1 ∷ 0 ∷ 0 ∷ 0 ∷ 1 ∷ 1 ∷ replicate 498 0 ++ (2 ∷ 1 ∷ 246 ∷ last ∷ [])

-- what reading a file into so many bytes is refused with
abbrev pub reading_file : List ℕ → ℕ → ℕ
reading_file file room = number_of (read_refusal file (replicate room 0))

-- what writing so many records into so many bytes is refused with
abbrev pub writing_records : List ℕ → ℕ → ℕ → ℕ
writing_records records count room = number_of (write_refusal records count (replicate room 0))

-- whether a block's head is right, of the one by hand with another byte at a place
abbrev pub head_with : ℕ → ℕ
head_with at = one (head_right 0 true (set (size_one 251) at 9))

-- the conditions of reading and writing a block
unfoldable pub block_edges : List Row
block_edges =
    -- 1: reading needs 496 bytes for each whole block
    is (reading_file (size_one 251) 496) 0
    ∷ is (reading_file (size_one 251) 495) 1
    -- writing 16 for each record and 512 for each block
    ∷ is (writing_records (size 1) 1 512) 0
    ∷ is (writing_records (take 15 (size 1)) 1 512) 1
    ∷ is (writing_records (size 1) 1 511) 1
    -- 3, check differs: byte 511 flipped, and one more; it is given before 4, which byte 6 is wrong for
    ∷ is (reading_file (size_one 4) 496) 3
    ∷ is (reading_file (size_one 252) 496) 3
    ∷ is (reading_file (set (size_one 251) 6 1) 496) 3
    -- the block by hand is the one that writing makes
    ∷ are (block_of 0 (size 1)) (size_one 251)
    -- 4, number: bytes 0 to 3 hold the block's number from 0
    ∷ is (reading_file (block_of 0 (size 1)) 496) 0
    ∷ is (reading_file (block_of 1 (size 1)) 496) 4
    -- 4, count: 1 to 31, and all blocks but the last hold 31; no records to write
    ∷ is (one (count_right true 0)) 0
    ∷ is (one (count_right true 1)) 1
    ∷ is (one (count_right true 31)) 1
    ∷ is (one (count_right true 32)) 0
    ∷ is (one (count_right false 30)) 0
    ∷ is (one (count_right false 31)) 1
    ∷ is (one (count_right false 32)) 0
    ∷ is (writing_records (size 1) 0 512) 4
    -- 4, unused byte of a block: 6 and 7 zero, and what is behind the record, which ends with byte 23, up to the check in 508 to 511
    ∷ is (head_with 6) 0
    ∷ is (head_with 7) 0
    ∷ is (head_with 8) 1
    ∷ is (head_with 23) 1
    ∷ is (head_with 24) 0
    ∷ is (head_with 507) 0
    ∷ is (head_with 508) 1
    ∷ []

-- RECORDS: 4. Whether one is right, with another byte at a place
abbrev pub record_with : List ℕ → ℕ → ℕ
record_with r at = one (record_right (set r at 9))

-- an enter of party 0 with a mode and a name count, all names 0
abbrev pub enter_with : ℕ → ℕ → List ℕ
enter_with mode name_count = bytes16 (3 ∷ 0 ∷ mode ∷ name_count ∷ [])

-- the conditions of records
unfoldable pub record_edges : List Row
record_edges =
    -- 4, kind: 1 size to 8 value
    is (one (record_right (bytes16 (0 ∷ [])))) 0
    ∷ is (one (record_right (bytes16 (1 ∷ [])))) 1
    ∷ is (one (record_right (bytes16 (6 ∷ [])))) 1
    ∷ is (one (record_right (bytes16 (7 ∷ [])))) 1
    ∷ is (one (record_right (value_at 0 1))) 1
    ∷ is (one (record_right (bytes16 (9 ∷ [])))) 0
    -- 4, a value that is zero; the last of its eight bytes is enough
    ∷ is (one (record_right (value_at 0 0))) 0
    ∷ is (record_with (value_at 0 0) 11) 1
    -- 4, mode: 1 reading, 2 writing, 3 adding
    ∷ is (one (record_right (enter_with 0 1))) 0
    ∷ is (one (record_right (enter_with 1 1))) 1
    ∷ is (one (record_right (enter_with 2 1))) 1
    ∷ is (one (record_right (enter_with 3 1))) 1
    ∷ is (one (record_right (enter_with 4 1))) 0
    -- 4, name count: 1 to 8
    ∷ is (one (record_right (enter_with 1 0))) 0
    ∷ is (one (record_right (enter_with 1 8))) 1
    ∷ is (one (record_right (enter_with 1 9))) 0
    -- 4, unused byte of a record: size has bytes 1 and 2, edge 1 and 2, enter 1 to 3 and its names from 4 on, 11 at most, get 1 and 2, put 1, 2 and 4 to 11, leave 1, add as put, value 1 and 4 to 11
    ∷ is (record_with (size 1) 2) 1
    ∷ is (record_with (size 1) 3) 0
    ∷ is (record_with (edge 0 1) 2) 1
    ∷ is (record_with (edge 0 1) 3) 0
    ∷ is (record_with (enter_with 1 1) 4) 1
    ∷ is (record_with (enter_with 1 1) 5) 0
    ∷ is (record_with (enter_with 1 8) 11) 1
    ∷ is (record_with (enter_with 1 8) 12) 0
    ∷ is (record_with (get 0 1) 2) 1
    ∷ is (record_with (get 0 1) 3) 0
    ∷ is (record_with (put 0 1 1) 3) 0
    ∷ is (record_with (put 0 1 1) 4) 1
    ∷ is (record_with (put 0 1 1) 11) 1
    ∷ is (record_with (put 0 1 1) 12) 0
    ∷ is (record_with (leave 0) 1) 1
    ∷ is (record_with (leave 0) 2) 0
    ∷ is (record_with (put 0 1 1) 15) 0
    ∷ is (record_with (add 0 1 1) 2) 1
    ∷ is (record_with (add 0 1 1) 3) 0
    ∷ is (record_with (add 0 1 1) 4) 1
    ∷ is (record_with (add 0 1 1) 11) 1
    ∷ is (record_with (add 0 1 1) 12) 0
    ∷ is (record_with (add 0 1 1) 15) 0
    ∷ is (record_with (value_at 0 1) 1) 1
    ∷ is (record_with (value_at 0 1) 2) 0
    ∷ is (record_with (value_at 0 1) 3) 0
    ∷ is (record_with (value_at 0 1) 4) 1
    ∷ is (record_with (value_at 0 1) 11) 1
    ∷ is (record_with (value_at 0 1) 12) 0
    ∷ is (record_with (value_at 0 1) 15) 0
    -- 4, order: one size record comes first, then all edges, then values, then steps
    ∷ is (writing_records (edge 0 1) 1 512) 4
    ∷ is (writing_records (size 2 ++ size 2) 2 512) 4
    ∷ is (writing_records (size 2 ++ edge 0 1 ++ leave 0) 3 512) 0
    ∷ is (writing_records (size 2 ++ leave 0 ++ edge 0 1) 3 512) 4
    ∷ is (writing_records (size 2 ++ leave 0 ++ size 2) 3 512) 4
    ∷ is (writing_records (size 2 ++ edge 0 1 ++ value_at 1 7 ++ leave 0) 4 512) 0
    ∷ is (writing_records (size 2 ++ value_at 1 7) 2 512) 0
    ∷ is (writing_records (value_at 1 7 ++ size 2) 2 512) 4
    ∷ is (writing_records (size 2 ++ value_at 1 7 ++ edge 0 1) 3 512) 4
    ∷ is (writing_records (size 2 ++ leave 0 ++ value_at 1 7) 3 512) 4
    -- 4, values: ascending, each node once, below n, by the size record's n even where that is refused with 5 later
    ∷ is (writing_records (size 2 ++ value_at 0 7 ++ value_at 1 7) 3 512) 0
    ∷ is (writing_records (size 2 ++ value_at 1 7 ++ value_at 0 7) 3 512) 4
    ∷ is (writing_records (size 2 ++ value_at 1 7 ++ value_at 1 8) 3 512) 4
    ∷ is (writing_records (size 2 ++ value_at 2 7) 2 512) 4
    ∷ is (writing_records (size 0 ++ value_at 0 7) 2 512) 4
    ∷ is (writing_records (bytes16 (1 ∷ 0 ∷ 1 ∷ []) ++ value_at 255 7) 2 512) 0
    ∷ []

-- A SOUND DESK: whether each of its nine clauses holds, in the paper's order, those of 02's point 6 behind the covers, and then whether the desk is sound
abbrev pub clauses : Hierarchy → Desk → List ℕ
clauses H d =
    one (lists_parties d.queue d.waiting)
    ∷ one (lists_once d.queue d.waiting)
    ∷ one (lists_waiting d.entries d.queue d.waiting)
    ∷ one (intervals_real d.entries)
    ∷ one (covers_right H d.entries)
    ∷ one (names_kept H d.entries)
    ∷ one (names_covered H d.entries)
    ∷ one (holders_apart d.entries)
    ∷ one (waiters_held_up d.entries d.queue d.waiting)
    ∷ one (sound_desk H d)
    ∷ []

-- all hold
abbrev pub all_hold : List ℕ
all_hold = replicate 10 1

-- all hold but one, counted from 0
abbrev pub all_but : ℕ → List ℕ
all_but clause = set (set all_hold clause 0) 9 0

-- a party waits for node 1, but is not listed
abbrev pub calls_unlisted : Desk → ℕ → Mode → Desk
calls_unlisted d party mode = seat d party (Waiting (lock mode 1 1 1))

-- it is listed
abbrev pub calls_listed : Desk → ℕ → Mode → Desk
calls_listed d party mode = list (calls_unlisted d party mode) party

-- a party holds node 1, with an interval
abbrev pub holds_node : Desk → ℕ → Mode → ℕ → ℕ → Desk
holds_node d party mode low high = seat d party (Holding (lock mode 1 low high))

-- party 1 writes node 1, and 2 waits to read it
abbrev pub blocked : Desk
blocked = calls_listed holding 2 Reading

-- with an entry more than a desk has, for a party 32 that waits: no other clause sees that it is none
abbrev pub one_more : Desk
one_more = record { entries = blocked.entries ++ (entry_of (Waiting (lock Reading 1 1 1)) ∷ []); queue = blocked.queue; waiting = 1; grants = no_grants }

-- party 1 reads node 1
abbrev pub reader : Desk
reader = holds_node fresh_desk 1 Reading 1 1

-- both nodes with interval [2,3], and one more behind the table
abbrev pub threes : Hierarchy
threes = two (2 ∷ 3 ∷ 2 ∷ 3 ∷ 2 ∷ 3 ∷ [])

-- party 1 writes in node 1, with the interval [2,3], for these names
abbrev pub naming : List ℕ → Desk
naming names = seat fresh_desk 1 (Holding (locked Writing 1 2 3 names))

-- with another count of them
abbrev pub counted : List ℕ → ℕ → Desk
counted names count = seat fresh_desk 1 (Holding (record { mode = Writing; cover = 1; low = 2; high = 3; names = recounted (named names) count }))

-- party 2 waits to read in node 1, for these names, which 1 writes
abbrev pub waiting_for : List ℕ → Desk
waiting_for names = list (seat holding 2 (Waiting (locked Reading 1 1 1 names))) 2

-- each clause of a sound desk by itself: a desk that it alone rejects, beside one that is sound
unfoldable pub sound_edges : List Row
sound_edges =
    -- 10, desk not sound. A fresh one is, and one where party 1 writes node 1, which 2 waits to read
    are (clauses ones fresh_desk) all_hold
    ∷ are (clauses ones blocked) all_hold
    -- a sound desk lists only parties 0 to 31: 31, and 32
    ∷ are (clauses ones (calls_listed blocked 31 Reading)) all_hold
    ∷ are (clauses ones (list one_more 32)) (all_but 0)
    -- each at most once: 2 again
    ∷ are (clauses ones (list blocked 2)) (all_but 1)
    -- and in arrival order just the waiting ones: 3 waits and is listed; it waits and is not; it is out and listed, and so not held up either
    ∷ are (clauses ones (calls_listed blocked 3 Reading)) all_hold
    ∷ are (clauses ones (calls_unlisted blocked 3 Reading)) (all_but 2)
    ∷ are (clauses ones (list blocked 3)) (set (all_but 2) 8 0)
    -- its intervals lie in 1 to 256, low at most high: [1,256], [1,257], [0,1], [2,2], [2,1], each the cover's own
    ∷ are (clauses (two (1 ∷ 256 ∷ 1 ∷ 256 ∷ [])) (holds_node fresh_desk 1 Writing 1 256)) all_hold
    ∷ are (clauses (two (1 ∷ 256 ∷ 1 ∷ 257 ∷ [])) (holds_node fresh_desk 1 Writing 1 257)) (all_but 3)
    ∷ are (clauses (two (1 ∷ 256 ∷ 0 ∷ 1 ∷ [])) (holds_node fresh_desk 1 Writing 0 1)) (all_but 3)
    ∷ are (clauses (two (1 ∷ 256 ∷ 2 ∷ 2 ∷ [])) (holds_node fresh_desk 1 Writing 2 2)) all_hold
    ∷ are (clauses (two (1 ∷ 256 ∷ 2 ∷ 1 ∷ [])) (holds_node fresh_desk 1 Writing 2 1)) (all_but 3)
    -- a cover is below n: 1 of two nodes, and 2, where [1,1] stands behind the table
    ∷ are (clauses (two (replicate 6 1)) (seat fresh_desk 1 (Holding (lock Writing 1 1 1)))) all_hold
    ∷ are (clauses (two (replicate 6 1)) (seat fresh_desk 1 (Holding (locked Writing 2 1 1 (1 ∷ []))))) (all_but 4)
    -- and has the hold's interval: [2,3] of a cover with [2,3], with [1,3] and with [2,4], where node 0, which is named, has [2,3]
    ∷ are (clauses (two (2 ∷ 3 ∷ 2 ∷ 3 ∷ [])) (naming (0 ∷ []))) all_hold
    ∷ are (clauses (two (2 ∷ 3 ∷ 1 ∷ 3 ∷ [])) (naming (0 ∷ []))) (all_but 4)
    ∷ are (clauses (two (2 ∷ 3 ∷ 2 ∷ 4 ∷ [])) (naming (0 ∷ []))) (all_but 4)
    -- each hold keeps its names, 1 to 8: none, one, two, and two with a count of 9, all names behind the second being 0
    ∷ are (clauses threes (naming [])) (all_but 5)
    ∷ are (clauses threes (naming (1 ∷ []))) all_hold
    ∷ are (clauses threes (naming (0 ∷ 1 ∷ []))) all_hold
    ∷ are (clauses threes (counted (0 ∷ 1 ∷ []) 9)) (all_but 5)
    -- each below n: 1 of two nodes, and 2, where [2,3] stands behind the table
    ∷ are (clauses threes (naming (0 ∷ 2 ∷ []))) (all_but 5)
    -- ascending, and each once: 1 and 0, 1 twice; behind the count may stand anything
    ∷ are (clauses threes (naming (1 ∷ 0 ∷ []))) (all_but 5)
    ∷ are (clauses threes (naming (1 ∷ 1 ∷ []))) (all_but 5)
    ∷ are (clauses threes (counted (1 ∷ 0 ∷ []) 1)) all_hold
    -- the cover's interval contains theirs: of node 0, which is named with node 1, [2,3], then [1,3] and [2,4]
    ∷ are (clauses (two (2 ∷ 3 ∷ 2 ∷ 3 ∷ [])) (naming (0 ∷ 1 ∷ []))) all_hold
    ∷ are (clauses (two (1 ∷ 3 ∷ 2 ∷ 3 ∷ [])) (naming (0 ∷ 1 ∷ []))) (all_but 6)
    ∷ are (clauses (two (2 ∷ 4 ∷ 2 ∷ 3 ∷ [])) (naming (0 ∷ 1 ∷ []))) (all_but 6)
    -- the same of a waiting call, beside one who writes
    ∷ are (clauses ones (waiting_for (0 ∷ 1 ∷ []))) all_hold
    ∷ are (clauses ones (waiting_for (1 ∷ 0 ∷ []))) (all_but 5)
    ∷ are (clauses ones (waiting_for [])) (all_but 5)
    ∷ are (clauses (two (1 ∷ 2 ∷ 1 ∷ 1 ∷ [])) (waiting_for (0 ∷ []))) (all_but 6)
    -- no two holders conflict: two readers of node 1, a reader and a writer
    ∷ are (clauses ones (holds_node reader 3 Reading 1 1)) all_hold
    ∷ are (clauses ones (holds_node reader 3 Writing 1 1)) (all_but 7)
    -- two who add; one who adds, and a reader
    ∷ are (clauses ones (holds_node (holds_node fresh_desk 1 Adding 1 1) 3 Adding 1 1)) all_hold
    ∷ are (clauses ones (holds_node reader 3 Adding 1 1)) (all_but 7)
    -- each waiter conflicts with a holder: beside a reader one that writes, and one that reads
    ∷ are (clauses ones (calls_listed reader 2 Writing)) all_hold
    ∷ are (clauses ones (calls_listed reader 2 Reading)) (all_but 8)
    -- and beside one who adds one that reads, and one that adds
    ∷ are (clauses ones (calls_listed (holds_node fresh_desk 1 Adding 1 1) 2 Reading)) all_hold
    ∷ are (clauses ones (calls_listed (holds_node fresh_desk 1 Adding 1 1) 2 Adding)) (all_but 8)
    -- or an earlier waiter: the one that reads behind the one that writes, and before it
    ∷ are (clauses ones (calls_listed (calls_listed reader 2 Writing) 3 Reading)) all_hold
    ∷ are (clauses ones (calls_listed (calls_listed reader 3 Reading) 2 Writing)) (all_but 8)
    ∷ []

-- STEPS. 11 to 18 by the steps of a file over table T: each refused beside one that is not
unfoldable pub file_edges : List (List ℕ)
file_edges =
    size 10
    ∷ edge 0 1 ∷ edge 0 2 ∷ edge 1 3 ∷ edge 1 4 ∷ edge 2 5 ∷ edge 2 6 ∷ edge 5 7 ∷ edge 6 7 ∷ edge 6 8 ∷ edge 7 9 ∷ edge 9 7
    ∷ enter1 31 1 3
    ∷ enter1 32 1 3
    ∷ enter1 31 1 8
    ∷ leave 4
    ∷ enter1 4 2 3
    ∷ get 4 3
    ∷ enter1 5 1 10
    ∷ get 31 10
    ∷ get 31 4
    ∷ get 31 3
    ∷ put 31 3 1
    ∷ leave 31
    ∷ put 4 3 1
    ∷ get 4 3
    ∷ enter1 6 3 4
    ∷ get 6 4
    ∷ add 6 4 7
    ∷ []

-- what its listing has
unfoldable pub step_edges : Case
step_edges =
    listing file_edges
    (granted 3
    ∷ refused 11
    ∷ refused 12
    ∷ refused 13
    ∷ waits
    ∷ refused 14
    ∷ refused 15
    ∷ refused 15
    ∷ refused 16
    ∷ value 0
    ∷ refused 17
    ∷ left (4 ∷ [])
    ∷ stored
    ∷ value 1
    ∷ granted 4
    ∷ refused 18
    ∷ added
    ∷ [])
    2 0 3 (4 ∷ 1 ∷ 6 ∷ 1 ∷ 31 ∷ 1 ∷ [])
