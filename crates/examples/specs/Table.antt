-- The ten starred cases of the paper, with its figures, those of the cover of {8} and of the listing as point 1 of 02 has them. Assumes nothing.
use Rattle.std.specs.Prelude.{List, [], ◌∷◌, ◌++◌, ℕ, take, replicate}
use Rattle.replay.specs.Replay.{granted, waits, stored, left, refused}
use Rattle.examples.specs.Cases.{Case, intervals, cover, apart, listing}

-- table T: n = 10
abbrev pub T : List ℕ
T = 0 ∷ 1 ∷ 0 ∷ 2 ∷ 1 ∷ 3 ∷ 1 ∷ 4 ∷ 2 ∷ 5 ∷ 2 ∷ 6 ∷ 5 ∷ 7 ∷ 6 ∷ 7 ∷ 6 ∷ 8 ∷ 7 ∷ 9 ∷ 9 ∷ 7 ∷ []

-- 0→1, 0→2, 0→3, 0→4, 4→1, 4→3
abbrev pub shared : List ℕ
shared = 0 ∷ 1 ∷ 0 ∷ 2 ∷ 0 ∷ 3 ∷ 0 ∷ 4 ∷ 4 ∷ 1 ∷ 4 ∷ 3 ∷ []

-- a record of 16 bytes: these, and zeros behind
abbrev pub bytes16 : List ℕ → List ℕ
bytes16 bytes = take 16 (bytes ++ replicate 16 0)

-- kind 1, size
abbrev pub size : ℕ → List ℕ
size n = bytes16 (1 ∷ n ∷ [])

-- kind 2, edge
abbrev pub edge : ℕ → ℕ → List ℕ
edge parent child = bytes16 (2 ∷ parent ∷ child ∷ [])

-- kind 3, enter, with one name
abbrev pub enter1 : ℕ → ℕ → ℕ → List ℕ
enter1 party mode name = bytes16 (3 ∷ party ∷ mode ∷ 1 ∷ name ∷ [])

-- kind 3, enter, with two names
abbrev pub enter2 : ℕ → ℕ → ℕ → ℕ → List ℕ
enter2 party mode name name' = bytes16 (3 ∷ party ∷ mode ∷ 2 ∷ name ∷ name' ∷ [])

-- kind 4, get
abbrev pub get : ℕ → ℕ → List ℕ
get party node = bytes16 (4 ∷ party ∷ node ∷ [])

-- kind 5, put, of a number below 256
abbrev pub put : ℕ → ℕ → ℕ → List ℕ
put party node number = bytes16 (5 ∷ party ∷ node ∷ 0 ∷ number ∷ [])

-- kind 6, leave
abbrev pub leave : ℕ → List ℕ
leave party = bytes16 (6 ∷ party ∷ [])

-- kind 7, add, of a number below 256
abbrev pub add : ℕ → ℕ → ℕ → List ℕ
add party node number = bytes16 (7 ∷ party ∷ node ∷ 0 ∷ number ∷ [])

-- 8 value: byte 1 node, a value below 256 in byte 4
abbrev pub value_at : ℕ → ℕ → List ℕ
value_at node number = bytes16 (8 ∷ node ∷ 0 ∷ 0 ∷ number ∷ [])

-- the greatest number, in bytes 4 to 11
abbrev pub add_most : ℕ → ℕ → List ℕ
add_most party node = bytes16 (7 ∷ party ∷ node ∷ 0 ∷ replicate 8 255)

-- the file of T, its 22 records
unfoldable pub file_t : List (List ℕ)
file_t =
    size 10
    ∷ edge 0 1 ∷ edge 0 2 ∷ edge 1 3 ∷ edge 1 4 ∷ edge 2 5 ∷ edge 2 6 ∷ edge 5 7 ∷ edge 6 7 ∷ edge 6 8 ∷ edge 7 9 ∷ edge 9 7
    ∷ enter1 1 2 7
    ∷ enter1 2 1 8
    ∷ enter1 3 1 3
    ∷ enter2 4 1 4 5
    ∷ put 1 9 77
    ∷ leave 1
    ∷ get 2 9
    ∷ enter1 5 2 4
    ∷ put 2 9 5
    ∷ leave 5
    ∷ []

-- a writer of 4, and a writer of 2
unfoldable pub file_shared : List (List ℕ)
file_shared = size 5 ∷ edge 0 1 ∷ edge 0 2 ∷ edge 0 3 ∷ edge 0 4 ∷ edge 4 1 ∷ edge 4 3 ∷ enter1 1 2 4 ∷ enter1 2 2 2 ∷ []

-- the starred cases, in the paper's order
unfoldable pub starred : List Case
starred =
    -- intervals 0 to 9 of T
    intervals 10 T (1 ∷ 4 ∷ 1 ∷ 2 ∷ 3 ∷ 4 ∷ 1 ∷ 1 ∷ 2 ∷ 2 ∷ 3 ∷ 3 ∷ 3 ∷ 4 ∷ 3 ∷ 3 ∷ 4 ∷ 4 ∷ 3 ∷ 3 ∷ [])
    -- covers, that of {8} since point 1
    ∷ cover 10 T (3 ∷ 4 ∷ []) 1
    ∷ cover 10 T (7 ∷ 8 ∷ []) 2
    ∷ cover 10 T (9 ∷ []) 5
    ∷ cover 10 T (4 ∷ 5 ∷ []) 0
    ∷ cover 10 T (8 ∷ []) 8
    -- n = 1, no edge
    ∷ intervals 1 [] (1 ∷ 1 ∷ [])
    -- edges 0→1, 1→3, 1→2, 2→1
    ∷ intervals 4 (0 ∷ 1 ∷ 1 ∷ 3 ∷ 1 ∷ 2 ∷ 2 ∷ 1 ∷ []) (1 ∷ 2 ∷ 1 ∷ 2 ∷ 1 ∷ 2 ∷ 1 ∷ 1 ∷ [])
    -- node 4 has [1,3], and node 2, the second leaf that is walked into, [2,2]; a writer of 4 makes a writer of 2 wait, though they share nothing
    ∷ apart 5 shared 4 2 1 3 2 2 file_shared (granted 0 ∷ waits ∷ []) 1 1 1 (1 ∷ 1 ∷ [])
    -- the listing of T: ten answers, those of steps 2, 6, 7 and 9 since point 1, the end's three numbers, and since point 4 the parties with grants
    ∷ listing file_t
    (granted 5 ∷ granted 8 ∷ granted 3 ∷ waits ∷ stored ∷ left (4 ∷ []) ∷ refused 16 ∷ waits ∷ refused 16 ∷ left [] ∷ [])
    3 0 4 (1 ∷ 1 ∷ 2 ∷ 1 ∷ 3 ∷ 1 ∷ 4 ∷ 1 ∷ [])
    ∷ []
