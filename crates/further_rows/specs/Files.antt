-- Checks, and what reading and writing files is refused with, beyond the edges. What reading finds in a block is run: conformance/. Assumes nothing.
use Rattle.std.specs.Prelude.{List, [], ◌∷◌, ◌++◌, ℕ, replicate}
use Rattle.lists.specs.Answer.{number_of}
use Rattle.octets.specs.Fletcher.{fletcher}
use Rattle.blocks.specs.File.{read_refusal, write_refusal}
use Rattle.examples.specs.Table.{size, edge, get}
use Rattle.examples.specs.Rows.{Row, is}

-- what reading so many zeros into so many bytes is refused with
abbrev pub reading : ℕ → ℕ → ℕ
reading bytes room = number_of (read_refusal (replicate bytes 0) (replicate room 170))

-- what writing so many of these records, one behind the other, into so many bytes is refused with
abbrev pub writing : ℕ → List ℕ → ℕ → ℕ
writing count records room = number_of (write_refusal records count (replicate room 170))

-- the first six records of a list: a size, two edges, three gets
abbrev pub six : List ℕ
six = size 10 ++ edge 0 1 ++ edge 0 2 ++ get 2 9 ++ get 2 9 ++ get 2 9

-- the rows
unfoldable pub files : List Row
files =
    -- the check of abcde, abcdef, abcdefgh (published: f04fc729, 56502d2a, ebe19591), of no byte, and of a
    is (fletcher (97 ∷ 98 ∷ 99 ∷ 100 ∷ 101 ∷ [])) 4031760169
    ∷ is (fletcher (97 ∷ 98 ∷ 99 ∷ 100 ∷ 101 ∷ 102 ∷ [])) 1448095018
    ∷ is (fletcher (97 ∷ 98 ∷ 99 ∷ 100 ∷ 101 ∷ 102 ∷ 103 ∷ 104 ∷ [])) 3957429649
    ∷ is (fletcher []) 0
    ∷ is (fletcher (97 ∷ [])) 6357089
    -- reading: 1 where a byte is missing for two whole blocks; 511 bytes have none, so nothing is short; 513 bytes; none
    ∷ is (reading 1024 991) 1
    ∷ is (reading 511 0) 2
    ∷ is (reading 513 496) 2
    ∷ is (reading 0 0) 2
    -- writing: records one byte short, room one byte short, counts that no list has
    ∷ is (writing 6 (replicate 95 0) 512) 1
    ∷ is (writing 6 six 511) 1
    ∷ is (writing 18446744073709551615 six 512) 1
    ∷ is (writing 1152921504606846976 six 512) 1
    -- no records, into any room
    ∷ is (writing 0 six 512) 4
    ∷ is (writing 0 [] 0) 4
    -- right records, an add among them; and 4 where reading would not give them back: a value after a step, an edge after a step, a second size, no size, an unused byte
    ∷ is (writing 6 six 512) 0
    ∷ is (writing 7 (six ++ (7 ∷ replicate 15 0)) 512) 0
    ∷ is (writing 7 (six ++ (8 ∷ 1 ∷ 0 ∷ 0 ∷ 7 ∷ replicate 11 0)) 512) 4
    ∷ is (writing 7 (six ++ edge 0 3) 512) 4
    ∷ is (writing 7 (six ++ size 10) 512) 4
    ∷ is (writing 2 (edge 0 1 ++ edge 0 2) 512) 4
    ∷ is (writing 7 (six ++ (4 ∷ 2 ∷ 9 ∷ 0 ∷ 0 ∷ 0 ∷ 0 ∷ 0 ∷ 7 ∷ replicate 7 0)) 512) 4
    -- which is not looked at where only the six before it are written
    ∷ is (writing 6 (six ++ (4 ∷ 2 ∷ 9 ∷ 0 ∷ 0 ∷ 0 ∷ 0 ∷ 0 ∷ 7 ∷ replicate 7 0)) 512) 0
    ∷ []
