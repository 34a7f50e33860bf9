-- A block of 512 bytes: what reading finds in it, and the block of given records. Assumes nothing.
-- Reading goes on from block to block with its stage. The refusals 3 and 4 stay: so the first faulty block decides between them.
use Rattle.std.specs.Prelude.{Bool, cond, ◌&&◌, ◌||◌, List, [], ◌∷◌, ◌++◌, ℕ, zero, suc, ◌+◌, ◌*◌, ◌-◌, ◌/◌, length, take, drop, replicate, eqb, leb}
use Rattle.octets.specs.Bytes.{number2, number4, bytes2, bytes4, zero_between}
use Rattle.octets.specs.Fletcher.{fletcher}
use Rattle.blocks.specs.Record.{ReadStage, faulty, Place, row_of, record_right}

-- the stage after a record that is right, by its place: 4 where it may not come
abbrev pub placed : Place → ReadStage → List ℕ → ReadStage
placed p t r = cond (p.follows t r) (p.leads t r) (faulty 4 t)

-- the stage after one record: a refusal stays
unfoldable pub after_record : ReadStage → List ℕ → ReadStage
after_record t r = cond (eqb t.wrong 0) (cond (record_right r) (placed (row_of r).place t r) (faulty 4 t)) t

-- the stage after n records of 16 bytes
unfoldable pub after_records : ReadStage → ℕ → List ℕ → ReadStage
after_records t zero s = t
after_records t (suc n) s = after_records (after_record t (take 16 s)) n (drop 16 s)

-- bytes 0 to 3 hold the block's number
abbrev pub number_in : List ℕ → ℕ
number_in block = number4 0 block

-- bytes 4 and 5 hold its record count
abbrev pub count_in : List ℕ → ℕ
count_in block = number2 4 block

-- bytes 508 to 511 hold the check
abbrev pub check_in : List ℕ → ℕ
check_in block = number4 508 block

-- 1 to 31 records; all blocks but the last hold 31
unfoldable pub count_right : (last : Bool) → ℕ → Bool
count_right last n = leb 1 n && leb n 31 && (last || eqb n 31)

-- number and count are right, bytes 6 and 7 are zero, and so are those behind the records, up to the check
unfoldable pub head_right : ℕ → (last : Bool) → List ℕ → Bool
head_right number last block =
    eqb (number_in block) number
    && count_right last (count_in block)
    && eqb (number2 6 block) 0
    && zero_between (8 + 16 * count_in block) 508 block

-- the stage after a block: 3 where the check differs, before 4 where anything else is wrong
unfoldable pub after_block : ℕ → (last : Bool) → ReadStage → List ℕ → ReadStage
after_block number last t block =
    cond (eqb t.wrong 0)
    (cond (eqb (check_in block) (fletcher (take 508 block)))
    (cond (head_right number last block) (after_records t (count_in block) (drop 8 block)) (faulty 4 t))
    (faulty 3 t))
    t

-- the records in a block
unfoldable pub records_in : List ℕ → List ℕ
records_in block = take (16 * count_in block) (drop 8 block)

-- the first 508 bytes of the block of given records
unfoldable pub block_body : ℕ → List ℕ → List ℕ
block_body number records =
    bytes4 number ++ bytes2 (length records / 16) ++ (0 ∷ 0 ∷ []) ++ records ++ replicate (500 - length records) 0

-- the block of given records: the check is that of bytes 0 to 507
unfoldable pub block_of : ℕ → List ℕ → List ℕ
block_of number records = block_body number records ++ bytes4 (fletcher (block_body number records))
