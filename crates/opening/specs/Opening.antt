-- Opening a file: its records, its edge table and its intervals into lent places, so that its steps can be listed in pieces, counted or cut. Assumes nothing.
use Rattle.std.specs.Prelude.{◌≡◌, Bool, ◌||◌, List, ◌∷◌, ◌++◌, ℕ, ◌*◌, ◌/◌, ltb, length, take, Result, Ok, Err}
use Rattle.std.proofs.Math.Option.{Option}
use Rattle.lists.specs.Answer.{Answer, done, refused as denied, Check, ◌when◌, refusal, answer_of, room_after}
use Rattle.hierarchy.specs.Hierarchy.{hierarchy_checks}
use Rattle.intervals.specs.Intervals.{interval_table}
use Rattle.blocks.specs.File.{file_checks, file_records}
use Rattle.locks.specs.Lent.{lent}
use Rattle.runs.specs.Run.{Ran}
use Rattle.replay.specs.Replay.{record_list, size_of, edge_table, edge_count_of, step_records, start_of, perform_all}
use Rattle.refusals.specs.declared.Refusal.{Refusal}
use Rattle.refusals.specs.Refusals.{refusal_number}
use Rattle.opening.specs.declared.Opened.{Opened}

-- a file's records, one by one
abbrev pub file_rows : List ℕ → List (List ℕ)
file_rows file = record_list (file_records file)

-- what makes a hierarchy wrong, of these records
abbrev pub built_checks : List (List ℕ) → List Check
built_checks rs = hierarchy_checks (size_of rs) (edge_table rs) (edge_count_of rs)

-- 1: a lent buffer is shorter than needed, which is 63,488 bytes of records, 7,936 numbers of edges and 512 of intervals
abbrev pub open_short : List ℕ → List ℕ → List ℕ → Bool
open_short records edges places = ltb (length records) 63488 || ltb (length edges) 7936 || ltb (length places) 512

-- refused with 1, as a file, with 2 to 4, or as a hierarchy, with 5 to 9
abbrev pub open_refusal : Bool → List ℕ → Option ℕ
open_refusal short file = refusal (1 when short ∷ file_checks file ++ built_checks (file_rows file))

-- what an opened file has: n, and how many edges and records
pub record Opening : Type 0 where
  pub n : ℕ
  pub edges : ℕ
  pub records : ℕ

-- of these
abbrev pub opening_of : ℕ → ℕ → ℕ → Opening
opening_of n edges records = record { n = n; edges = edges; records = records }

-- of a file
abbrev pub opening_in : List ℕ → Opening
opening_in file = opening_of (size_of (file_rows file)) (edge_count_of (file_rows file)) (length (file_records file) / 16)

-- what opening leaves: its answer, and the lent places
pub record OpenResult : Type 0 where
  pub answer : Answer Opening
  pub records : List ℕ
  pub edges : List ℕ
  pub places : List ℕ

-- opening a file: its records, its edge table and its intervals into the lent places; a refusal changes nothing
unfoldable pub open_file : List ℕ → List ℕ → List ℕ → List ℕ → OpenResult
open_file file records edges places =
    record {
      answer = answer_of (open_refusal (open_short records edges places) file) (opening_in file);
      records = room_after (open_refusal (open_short records edges places) file) (file_records file) records;
      edges = room_after (open_refusal (open_short records edges places) file) (edge_table (file_rows file)) edges;
      places = room_after (open_refusal (open_short records edges places) file) (interval_table (size_of (file_rows file)) (edge_table (file_rows file))) places;
    }

-- what each case of the answer is in the paper
abbrev pub open_meaning : Result Opened Refusal → Answer Opening
open_meaning (Ok o) = done (opening_of o.n o.edge_count o.total)
open_meaning (Err k) = denied (refusal_number k)

-- what `open_run` promises
pub record Opens (r : Result Opened Refusal) (records edges places : List ℕ) (s : OpenResult) : Type 0 where
  pub answer : open_meaning r ≡ s.answer
  pub records_after : records ≡ s.records
  pub edges_after : edges ≡ s.edges
  pub places_after : places ≡ s.places

-- the run of an opened file, from what opening left in its places
abbrev pub opened_run : ℕ → List ℕ → List ℕ → ℕ → List ℕ → ℕ → Ran
opened_run n places edges edge_count records total =
    perform_all (start_of (lent n (take (2 * n) places) (take (2 * edge_count) edges) edge_count) (record_list (take (16 * total) records)))
    (step_records (record_list (take (16 * total) records)))
