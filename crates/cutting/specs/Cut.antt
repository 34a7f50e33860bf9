-- Point 9: a file cut after its first k steps. Assumes nothing.
use Rattle.std.specs.Prelude.{List, [], ◌∷◌, ◌++◌, Bool, not, ℕ, suc, eqb, leb, ltb, length, take, drop}
use Rattle.std.proofs.Math.Option.{Option}
use Rattle.lists.specs.Lists.{keep, kept_if}
use Rattle.lists.specs.Answer.{Check, ◌when◌, refusal}
use Rattle.octets.specs.Bytes.{bytes8}
use Rattle.blocks.specs.Record.{kind_of}
use Rattle.blocks.specs.File.{file_checks, FileResult, leaving, blocks_for, file_of}
use Rattle.parties.specs.Parties.{someone_in}
use Rattle.runs.specs.Run.{State, Ran}
use Rattle.replay.specs.Replay.{step_records, built_of, start_of, perform_all}
use Rattle.opening.specs.Opening.{file_rows, built_checks}

-- THE SHORTER FILE, of the records of a file. The run of the first k steps
abbrev pub ran_first : List (List ℕ) → ℕ → Ran
ran_first rs k = perform_all (start_of (built_of rs) rs) (take k (step_records rs))

-- hierarchy, desk and values after them
abbrev pub after_first : List (List ℕ) → ℕ → State
after_first rs k = (ran_first rs k).state

-- the same size and edges
abbrev pub head_records : List (List ℕ) → List (List ℕ)
head_records rs = keep (λ r. leb (kind_of r) 2) rs

-- the value record of a node: kind 8, byte 1 the node, its value in bytes 4 to 11
abbrev pub value_record : (node value : ℕ) → List ℕ
value_record node value = 8 ∷ node ∷ 0 ∷ 0 ∷ (bytes8 value ++ (0 ∷ 0 ∷ 0 ∷ 0 ∷ []))

-- one value record for each nonzero value, by ascending node, from a node on
unfoldable pub value_records : (node : ℕ) → (values : List ℕ) → List (List ℕ)
value_records node [] = []
value_records node (value ∷ values) = kept_if (not (eqb value 0)) (value_record node value) (value_records (suc node) values)

-- the same size and edges, then a value record for each nonzero value after the first k steps, then the steps after k
unfoldable pub cut_records : List (List ℕ) → ℕ → List (List ℕ)
cut_records rs k = head_records rs ++ (value_records 0 (after_first rs k).values ++ drop k (step_records rs))

-- TURNED AWAY. 19: k above the number of steps
abbrev pub too_far : List (List ℕ) → ℕ → Bool
too_far rs k = ltb (length (step_records rs)) k

-- 20: a party holding or waiting after step k
abbrev pub someone_after : List (List ℕ) → ℕ → Bool
someone_after rs k = someone_in (after_first rs k).desk.entries

-- what building refuses the records for, then 19 and 20
abbrev pub cut_checks : List (List ℕ) → ℕ → List Check
cut_checks rs k = built_checks rs ++ (19 when too_far rs k ∷ 20 when someone_after rs k ∷ [])

-- the lent room must be as long as the input; then what the file is refused for; then the rest
abbrev pub cut_refusal : List ℕ → ℕ → List ℕ → Option ℕ
cut_refusal file k room = refusal (1 when ltb (length room) (length file) ∷ (file_checks file ++ cut_checks (file_rows file) k))

-- CUTTING. The bytes of records, one behind the other
unfoldable pub bytes_of : List (List ℕ) → List ℕ
bytes_of [] = []
bytes_of (r ∷ rs) = r ++ bytes_of rs

-- the blocks of records
abbrev pub blocks_of_all : List (List ℕ) → List ℕ
blocks_of_all rs = file_of (bytes_of rs) (length rs)

-- cutting: the count of blocks of the shorter file, and its bytes from the room's first byte on; a refusal changes nothing
unfoldable pub cut_file : List ℕ → ℕ → List ℕ → FileResult
cut_file file k room =
    leaving (cut_refusal file k room) (blocks_for (length (cut_records (file_rows file) k))) (blocks_of_all (cut_records (file_rows file) k)) room
