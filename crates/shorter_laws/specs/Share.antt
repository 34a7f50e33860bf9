-- WHAT A FILE AND THE SHORTER ONE SHARE (02, point 9). Assumes nothing.
use Rattle.std.specs.Prelude.{◌≡◌, List, ℕ, ◌+◌, ◌≤◌, ◌<◌, get_or, drop}
use Rattle.std.proofs.Math.Option.{none}
use Rattle.lists.specs.Answer.{done, refusal}
use Rattle.blocks.specs.File.{file_checks, whole_blocks}
use Rattle.desk.specs.declared.Desk.{Desk}
use Rattle.runs.specs.Run.{Ran}
use Rattle.replay.specs.Replay.{size_of, step_records, built_of, values_in, start_of, perform_all, FileRun, file_run, run_file}
use Rattle.opening.specs.Opening.{file_rows}
use Rattle.cutting.specs.Cut.{ran_first, after_first, cut_records}

-- the run of all steps of a file's records
abbrev pub ran_all : List (List ℕ) → Ran
ran_all rs = perform_all (start_of (built_of rs) rs) (step_records rs)

-- what running the whole file and running the shorter one give, the first k steps having left these counts of grants
pub record RunsOn (k : ℕ) (before : List ℕ) (whole short : FileRun) : Type 0 where
  -- the same answers for the steps kept
  pub answers : short.answers ≡ drop k whole.answers
  -- the same end values
  pub values : short.values ≡ whole.values
  -- as many holders
  pub holders : short.holders ≡ whole.holders
  -- as many waiters
  pub waiters : short.waiters ≡ whole.waiters
  -- grant counts from the cut on: those before it and those of the shorter file add up, party by party
  pub grants : (party : ℕ) → party < 32 → get_or whole.grants party 0 ≡ get_or before party 0 + get_or short.grants party 0

-- two desks that are the same but for their counts of grants
pub record SameDesk (whole short : Desk) : Type 0 where
  -- each party's stage, with the lock that it holds or waits for: the same holders and waiters
  pub entries : short.entries ≡ whole.entries
  -- the arrival list
  pub queue : short.queue ≡ whole.queue
  -- how many are in it
  pub waiting : short.waiting ≡ whole.waiting

-- A SHORTER FILE of a file, cut after k steps
pub record CutWell (file : List ℕ) (k : ℕ) (short : List ℕ) : Type 0 where
  -- reading refuses nothing
  pub accepted : refusal (file_checks short) ≡ none
  -- and gives the records of the cut
  pub records : file_rows short ≡ cut_records (file_rows file) k
  -- it starts from the values after the first k steps; so does demand 3 of it (`cut_file_serial`, proofs/Serials)
  pub starts : values_in (size_of (file_rows short)) (file_rows short) ≡ (after_first (file_rows file) k).values
  -- never more blocks than the input
  pub blocks : whole_blocks short ≤ whole_blocks file
  -- both files run,
  pub whole_runs : run_file file ≡ done (file_run (ran_all (file_rows file)))
  pub short_runs : run_file short ≡ done (file_run (ran_all (file_rows short)))
  -- and come to the same
  pub on : RunsOn k (ran_first (file_rows file) k).state.desk.grants (file_run (ran_all (file_rows file))) (file_run (ran_all (file_rows short)))
  pub desks : SameDesk (ran_all (file_rows file)).state.desk (ran_all (file_rows short)).state.desk
