-- A file of 1 to 128 blocks: what reading and writing answer, and what they leave in the room that they are lent. Assumes nothing.
use Rattle.std.specs.Prelude.{Bool, not, ◌&&◌, ◌||◌, List, [], ◌∷◌, ◌++◌, ℕ, zero, suc, ◌+◌, ◌*◌, ◌/◌, ◌%◌, length, take, drop, eqb, leb, ltb}
use Rattle.std.proofs.Math.Option.{Option}
use Rattle.lists.specs.Answer.{Answer, Check, ◌when◌, refusal, answer_of, room_after}
use Rattle.blocks.specs.Record.{ReadStage, begun}
use Rattle.blocks.specs.Block.{after_records, after_block, records_in, block_of}

-- READING. The stage after k blocks, numbered from `number`; the last of them is the file's last
unfoldable pub after_blocks : ℕ → ℕ → ReadStage → List ℕ → ReadStage
after_blocks zero number t s = t
after_blocks (suc k) number t s = after_blocks k (suc number) (after_block number (eqb k 0) t (take 512 s)) (drop 512 s)

-- the records of k blocks
unfoldable pub records_of : ℕ → List ℕ → List ℕ
records_of zero s = []
records_of (suc k) s = records_in (take 512 s) ++ records_of k (drop 512 s)

-- the whole blocks of a file
abbrev pub whole_blocks : List ℕ → ℕ
whole_blocks file = length file / 512

-- the stage after them
abbrev pub file_stage : List ℕ → ReadStage
file_stage file = after_blocks (whole_blocks file) 0 begun file

-- their records
abbrev pub file_records : List ℕ → List ℕ
file_records file = records_of (whole_blocks file) file

-- 2: bytes not 1 to 128 whole blocks
unfoldable pub not_blocks : List ℕ → Bool
not_blocks file = not (eqb (length file % 512) 0 && leb 1 (whole_blocks file) && leb (whole_blocks file) 128)

-- what makes a file wrong, whatever it is read into
abbrev pub file_checks : List ℕ → List Check
file_checks file =
    2 when not_blocks file
    ∷ 3 when eqb (file_stage file).wrong 3
    ∷ 4 when eqb (file_stage file).wrong 4
    ∷ []

-- reading needs 496 bytes for each whole block
abbrev pub read_refusal : List ℕ → List ℕ → Option ℕ
read_refusal file room = refusal (1 when ltb (length room) (496 * whole_blocks file) ∷ file_checks file)

-- what reading or writing leaves: its answer, a count of records or of blocks, and the room with their bytes
pub record FileResult : Type 0 where
  pub answer : Answer ℕ
  pub room : List ℕ

-- the count, and the bytes from the room's first byte on, unless refused
abbrev pub leaving : Option ℕ → ℕ → List ℕ → List ℕ → FileResult
leaving why count bytes room = record { answer = answer_of why count; room = room_after why bytes room }

-- reading: the count of records, and their bytes
unfoldable pub read_file : List ℕ → List ℕ → FileResult
read_file file room = leaving (read_refusal file room) (length (file_records file) / 16) (file_records file) room

-- WRITING. The k blocks of records, 31 to a block, numbered from `number`
unfoldable pub blocks_of : ℕ → ℕ → List ℕ → List ℕ
blocks_of zero number records = []
blocks_of (suc k) number records = block_of number (take 496 records) ++ blocks_of k (suc number) (drop 496 records)

-- the blocks that so many records fill
abbrev pub blocks_for : ℕ → ℕ
blocks_for count = (count + 30) / 31

-- the file of so many records
abbrev pub file_of : List ℕ → ℕ → List ℕ
file_of records count = blocks_of (blocks_for count) 0 (take (16 * count) records)

-- 4: no records, or records that reading would not give back
abbrev pub records_wrong : List ℕ → ℕ → Bool
records_wrong records count = eqb count 0 || not (eqb (after_records begun count records).wrong 0)

-- writing needs 16 bytes for each record and 512 for each block; over 3,968 records is refused with 2
abbrev pub write_refusal : List ℕ → ℕ → List ℕ → Option ℕ
write_refusal records count room =
    refusal
    (1 when (ltb (length records) (16 * count) || ltb (length room) (512 * blocks_for count))
    ∷ 2 when ltb 3968 count
    ∷ 4 when records_wrong records count
    ∷ [])

-- writing: the count of blocks, and their bytes
unfoldable pub write_file : List ℕ → ℕ → List ℕ → FileResult
write_file records count room = leaving (write_refusal records count room) (blocks_for count) (file_of records count) room
