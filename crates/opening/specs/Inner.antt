-- Terms of the contracts of private functions only: no definition of the paper is here. Assumes nothing.
use Rattle.std.specs.Prelude.{◌≡◌, List, ◌++◌, ℕ, Result}
use Rattle.std.proofs.Math.Option.{Option}
use Rattle.lists.specs.Lists.{over}
use Rattle.lists.specs.Answer.{refusal, answer_of, room_after}
use Rattle.hierarchy.specs.Hierarchy.{hierarchy_checks}
use Rattle.intervals.specs.Intervals.{interval_table}
use Rattle.blocks.specs.File.{file_checks, file_records}
use Rattle.replay.specs.Replay.{size_of, edge_table, edge_count_of}
use Rattle.refusals.specs.declared.Refusal.{Refusal}
use Rattle.opening.specs.declared.Opened.{Opened}
use Rattle.opening.specs.Opening.{file_rows, built_checks, opening_of, opening_in, open_meaning}

-- a hierarchy refused, or built into its places
abbrev pub HierarchyOpened : ℕ → List ℕ → ℕ → ℕ → List ℕ → List ℕ → Result Opened Refusal → Type 0
HierarchyOpened n edges count total places places' r =
    (open_meaning r ≡ answer_of (refusal (hierarchy_checks n edges count)) (opening_of n count total))
    × (places' ≡ room_after (refusal (hierarchy_checks n edges count)) (interval_table n edges) places)

-- the edge table in its places, and the hierarchy of these records
abbrev pub RecordsOpened : List (List ℕ) → ℕ → List ℕ → List ℕ → List ℕ → List ℕ → Result Opened Refusal → Type 0
RecordsOpened rs total edges places edges' places' r =
    HierarchyOpened (size_of rs) (edge_table rs) (edge_count_of rs) total places places' r × (edges' ≡ over (edge_table rs) edges)

-- refused with 2 to 4, as a file
abbrev pub reading_refusal : List ℕ → Option ℕ
reading_refusal file = refusal (file_checks file)

-- or with 5 to 9, as a hierarchy
abbrev pub building_refusal : List ℕ → Option ℕ
building_refusal file = refusal (file_checks file ++ built_checks (file_rows file))

-- a file opened into places that are long enough: its records and its edge table unless the file is refused, and its intervals unless the hierarchy is
pub record FileOpened (file records edges places : List ℕ) (r : Result Opened Refusal) (records' edges' places' : List ℕ) : Type 0 where
  pub answer : open_meaning r ≡ answer_of (building_refusal file) (opening_in file)
  pub records_after : records' ≡ room_after (reading_refusal file) (file_records file) records
  pub edges_after : edges' ≡ room_after (reading_refusal file) (edge_table (file_rows file)) edges
  pub places_after : places' ≡ room_after (building_refusal file) (interval_table (size_of (file_rows file)) (edge_table (file_rows file))) places
