-- LAWS of the two numbers: the first counts the answers `waits` of the file's run, and the second is at most the first (a refused file has no wait:
-- `refused_waits`, needless/proofs/Files). Assumes nothing.
use mathlib.Core.Path.{◌≡◌, refl}
use mathlib.Core.List.{List, [], ◌∷◌}
use mathlib.Core.Bool.{Bool, true, false}
use mathlib.Core.Option.{Option, none, some}
use Prim.Native.Nat.{ℕ, ◌≤◌}
use native.Mathlib.Omega.{arith}
use Rattle.lists.specs.Lists.{one, count, every}
use Rattle.lists.specs.Answer.{Answer, done, refused as denied, refusal}
use Rattle.lists.proofs.Bools.{and_left, and_right, and_both}
use Rattle.hierarchy.specs.Hierarchy.{hierarchy_checks}
use Rattle.blocks.specs.Record.{mode_in, names_in}
use Rattle.blocks.specs.File.{file_checks, file_records}
use Rattle.locks.specs.Locks.{mode_numbered}
use Rattle.runs.specs.Run.{State, also_ran, run}
use Rattle.replay.specs.Replay.{StepAnswer, granted, waits, value, stored, added, left, refused, performed, perform_step, perform_all, answers_of, FileRun}
use Rattle.replay.specs.Replay.{record_list, size_of, edge_table, edge_count_of, step_records, built_of, start_of, run_unless, run_records, file_unless as run_file_unless, run_file}
use Rattle.needless.specs.declared.Waits.{Waits}
use Rattle.needless.specs.Waits.{no_waits, nothing_named, is_waits, named_after, is_needless, waits_by, waits_of_steps, records_unless, waits_of_records, waits_unless, waits_of}
use Rattle.needless_laws.specs.Visits.{one_node, visits_one, visits_name_one, OneEach}

-- OF ONE STEP
answer_all : (a : StepAnswer) (b : Bool) → (waits_by a b).all ≡ one (is_waits a)
answer_all (granted cover) b = refl
answer_all waits b = refl
answer_all (value number) b = refl
answer_all stored b = refl
answer_all added b = refl
answer_all (left parties) b = refl
answer_all (refused number) b = refl

answer_most : (a : StepAnswer) (b : Bool) → (waits_by a b).needless ≤ (waits_by a b).all
answer_most (granted cover) b = omega arith
answer_most waits true = omega arith
answer_most waits false = omega arith
answer_most (value number) b = omega arith
answer_most stored b = omega arith
answer_most added b = omega arith
answer_most (left parties) b = omega arith
answer_most (refused number) b = omega arith

-- a call that names one node, whatever it is answered
answer_one : (a : StepAnswer) (names : List ℕ) → one_node names ≡ true → visits_one a names ≡ true
answer_one (granted cover) names o = o
answer_one waits names o = o
answer_one (value number) names o = refl
answer_one stored names o = refl
answer_one added names o = refl
answer_one (left parties) names o = refl
answer_one (refused number) names o = refl

-- OF ALL STEPS
steps_all : (rs : List (List ℕ)) (s : State) (named : List (List ℕ)) → (waits_of_steps s named rs).all ≡ count is_waits (answers_of (perform_all s rs))
unfolding waits_of_steps run also_ran count
steps_all [] s named = refl
steps_all (r ∷ rs) s named =
    let p = performed (perform_step s r) in
    rw (answer_all p.answer (is_needless s.hierarchy s.desk named (mode_numbered (mode_in r)) (names_in r)), steps_all rs p.state (named_after r p.answer named)) refl

steps_most : (rs : List (List ℕ)) (s : State) (named : List (List ℕ)) → (waits_of_steps s named rs).needless ≤ (waits_of_steps s named rs).all
unfolding waits_of_steps
steps_most [] s named = omega arith
steps_most (r ∷ rs) s named =
    let p = performed (perform_step s r) in
    let here = answer_most p.answer (is_needless s.hierarchy s.desk named (mode_numbered (mode_in r)) (names_in r)) in
    let rest = steps_most rs p.state (named_after r p.answer named) in
    omega (arith, here, rest)

steps_one : (rs : List (List ℕ)) (s : State) → every (λ r. one_node (names_in r)) rs ≡ true → visits_name_one s rs ≡ true
unfolding visits_name_one every
steps_one [] s o = refl
steps_one (r ∷ rs) s o =
    let p = performed (perform_step s r) in
    and_both (visits_one p.answer (names_in r)) (visits_name_one p.state rs)
    (answer_one p.answer (names_in r) (and_left (one_node (names_in r)) (every (λ r. one_node (names_in r)) rs) o))
    (steps_one rs p.state (and_right (one_node (names_in r)) (every (λ r. one_node (names_in r)) rs) o))

-- OF A FILE: what the report says of it when it runs, and when it is refused
abbrev Told : Answer FileRun → Waits → Type 0
Told (done run) w = (w.all ≡ count is_waits run.answers) × (w.needless ≤ w.all)
Told (denied k) w = w ≡ no_waits

records_told : (rs : List (List ℕ)) → Told (run_records rs) (waits_of_records rs)
unfolding run_records waits_of_records
records_told rs = by (refusal (hierarchy_checks (size_of rs) (edge_table rs) (edge_count_of rs)))
  where
    by : (x : Option ℕ) → Told (run_unless x rs) (records_unless x rs)
    by (some k) = refl
    by none =
        let s : State = start_of (built_of rs) rs in
        (steps_all (step_records rs) s nothing_named, steps_most (step_records rs) s nothing_named)

file_told : (file : List ℕ) → Told (run_file file) (waits_of file)
unfolding run_file waits_of
file_told file = by (refusal (file_checks file))
  where
    by : (x : Option ℕ) → Told (run_file_unless x file) (waits_unless x file)
    by (some k) = refl
    by none = records_told (record_list (file_records file))

-- the first number is the count of the run's answers `waits`
pub waits_counted : (file : List ℕ) (run : FileRun) → run_file file ≡ done run → (waits_of file).all ≡ count is_waits run.answers
waits_counted file run e = (rw e at (file_told file)).0

-- the second is at most the first
pub waits_most : (file : List ℕ) → (waits_of file).needless ≤ (waits_of file).all
waits_most file = by (run_file file) (file_told file)
  where
    by : (a : Answer FileRun) → Told a (waits_of file) → (waits_of file).needless ≤ (waits_of file).all
    by (done run) t = t.1
    by (denied k) t = rw t (omega arith)

-- where every step record names one node, refused or not, each visit does (a get, put, add or leave record that is right names none)
pub plain_each : (rs : List (List ℕ)) → every (λ r. one_node (names_in r)) (step_records rs) ≡ true → OneEach rs
plain_each rs o = steps_one (step_records rs) (start_of (built_of rs) rs) o
