-- Terms of the contracts of private functions only: no definition of the paper is here. Assumes nothing.
use Rattle.std.specs.Prelude.{◌≡◌, true, cond, not, List, [], ◌++◌, ℕ, ◌+◌, ◌-◌, ◌*◌, ◌/◌, ◌≤◌, eqb, length, take, drop, Result}
use Rattle.lists.specs.Lists.{kept_if, every}
use Rattle.lists.specs.Answer.{refused}
use Rattle.blocks.specs.File.{FileResult, write_file}
use Rattle.parties.specs.Parties.{someone_in}
use Rattle.locks.specs.Lent.{Hierarchy}
use Rattle.runs.specs.Run.{Ran}
use Rattle.replay.specs.Replay.{record_list, step_records, is_step, start_of, perform_all}
use Rattle.refusals.specs.declared.Refusal.{Refusal}
use Rattle.refusals.specs.Refusals.{meaning}
use Rattle.cutting.specs.Cut.{value_record, value_records, too_far, bytes_of}

-- the bytes of a node's value record, none where its value is zero
abbrev pub value_bytes : (node value : ℕ) → List ℕ
value_bytes node value = bytes_of (kept_if (not (eqb value 0)) (value_record node value) [])

-- those of all values
abbrev pub values_bytes : List ℕ → List ℕ
values_bytes values = bytes_of (value_records 0 values)

-- the records of the shorter file from those of the whole one: its first bytes, the value records, and its bytes from a place on
abbrev pub short_bytes : (records : List ℕ) → (head from : ℕ) → (values : List ℕ) → List ℕ
short_bytes records head from values = take head records ++ (values_bytes values ++ drop from records)

-- the run of the first k steps over a hierarchy, of records one behind the other
abbrev pub ran_over : Hierarchy → List ℕ → ℕ → Ran
ran_over H bytes k = perform_all (start_of H (record_list bytes)) (take k (step_records (record_list bytes)))

-- where the steps begin, behind all other records
abbrev pub steps_at : List ℕ → ℕ
steps_at bytes = 16 * (length bytes / 16 - length (step_records (record_list bytes)))

-- the records of the shorter file: the size record and the edges, the value records, and the steps after k
abbrev pub kept_bytes : Hierarchy → List ℕ → ℕ → List ℕ
kept_bytes H bytes k = short_bytes bytes (16 * (1 + H.edge_count)) (steps_at bytes + 16 * k) (ran_over H bytes k).state.values

-- what cutting needs to know of an opened file: its steps stand last and are right, and the records of the shorter file fit the array for them
pub record Shaped (H : Hierarchy) (bytes : List ℕ) : Type 0 where
  pub few : length bytes ≤ 63488
  pub edges_few : H.edge_count ≤ 1024
  pub head : 16 * (1 + H.edge_count) ≤ length bytes
  pub right : every is_step (step_records (record_list bytes)) ≡ true
  pub steps : (k : ℕ) → record_list (take (16 * k) (drop (steps_at bytes) bytes)) ≡ take k (step_records (record_list bytes))
  pub short : (k : ℕ) → length (kept_bytes H bytes k) ≤ 63488

-- what cutting an opened file comes to
abbrev pub cut_run : Hierarchy → List ℕ → ℕ → List ℕ → FileResult
cut_run H bytes k room =
    cond (too_far (record_list bytes) k) (record { answer = refused 19; room = room })
    (cond (someone_in (ran_over H bytes k).state.desk.entries) (record { answer = refused 20; room = room })
    (write_file (kept_bytes H bytes k) (length (kept_bytes H bytes k) / 16) room))

-- an answer and a room are what cutting, or writing, left
abbrev pub Left : Result ℕ Refusal → List ℕ → FileResult → Type 0
Left r room s = (meaning r ≡ s.answer) × (room ≡ s.room)

-- records written as a file
abbrev pub Wrote : List ℕ → List ℕ → Result ℕ Refusal → List ℕ → Type 0
Wrote bytes room r room' = Left r room' (write_file bytes (length bytes / 16) room)

-- an opened file cut
abbrev pub Runs : Hierarchy → List ℕ → ℕ → List ℕ → Result ℕ Refusal → List ℕ → Type 0
Runs H bytes k room r room' = Left r room' (cut_run H bytes k room)
