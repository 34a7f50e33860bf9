-- Running a file: its records as a hierarchy and steps, what each step answers, and the end. Assumes nothing.
use Rattle.std.specs.Prelude.{List, [], ◌∷◌, map, Bool, true, false, cond, ◌&&◌, ℕ, zero, suc, ◌/◌, eqb, length, take, drop, set, replicate}
use Rattle.std.proofs.Math.Option.{Option, none, some}
use Rattle.lists.specs.Lists.{keep, count}
use Rattle.lists.specs.Answer.{Answer, done, refused as denied, refusal}
use Rattle.hierarchy.specs.Hierarchy.{hierarchy_checks}
use Rattle.intervals.specs.Intervals.{interval_table}
use Rattle.blocks.specs.Record.{kind_of, size_in, parent_in, child_in, party_in, mode_in, name_count_in, names_in, node_in, value_node_in, value_in, record_right, step_kind}
use Rattle.blocks.specs.File.{file_checks, file_records}
use Rattle.desk.specs.declared.Desk.{Desk}
use Rattle.locks.specs.Locks.{mode_numbered}
use Rattle.locks.specs.Stages.{is_holding}
use Rattle.locks.specs.Lent.{Hierarchy, lent}
use Rattle.desk.specs.Steps.{granted as admitted, Admission, waits as queued}
use Rattle.runs.specs.Run.{whole, Call, enter, get, put, add, leave, Step, Event, entered, got, stored as wrote, added as summed, left as gone, State, start}
use Rattle.runs.specs.Run.{Moved, move, Ran, run}

-- the records of 16 bytes, one by one
unfoldable pub each_record : ℕ → List ℕ → List (List ℕ)
each_record zero bytes = []
each_record (suc k) bytes = take 16 bytes ∷ each_record k (drop 16 bytes)

-- all of them; bytes behind the last whole one are left out
abbrev pub record_list : List ℕ → List (List ℕ)
record_list bytes = each_record (length bytes / 16) bytes

-- THE HIERARCHY of a file. n, from its first record, which reading knows to be the size record; 0 where there is no record
abbrev pub size_of : List (List ℕ) → ℕ
size_of [] = 0
size_of (r ∷ rs) = size_in r

-- the edge before the others, or not
abbrev pub edge_if : Bool → ℕ → ℕ → List ℕ → List ℕ
edge_if true parent child es = parent ∷ child ∷ es
edge_if false parent child es = es

-- the edge table, from the edge records in their order
unfoldable pub edge_table : List (List ℕ) → List ℕ
edge_table [] = []
edge_table (r ∷ rs) = edge_if (eqb (kind_of r) 2) (parent_in r) (child_in r) (edge_table rs)

-- the edge count, given beside it
abbrev pub edge_count_of : List (List ℕ) → ℕ
edge_count_of rs = count (λ r. eqb (kind_of r) 2) rs

-- the steps, in their order: the records of a step's kind, which reading knows to be right; a value record is none
abbrev pub step_records : List (List ℕ) → List (List ℕ)
step_records rs = keep (λ r. step_kind (kind_of r)) rs

-- the hierarchy as it is lent to each step, with the intervals that building writes
abbrev pub built_of : List (List ℕ) → Hierarchy
built_of rs = lent (size_of rs) (interval_table (size_of rs) (edge_table rs)) (edge_table rs) (edge_count_of rs)

-- A STEP, of a record that is one and is right. What an enter record calls for
abbrev pub enter_call : List ℕ → Call
enter_call r = enter (party_in r) (mode_numbered (mode_in r)) (names_in r) (name_count_in r)

-- the scratch that a get, put or add record is lent for its search: 256 zeros
abbrev pub fresh_scratch : List ℕ
fresh_scratch = replicate 256 0

-- a get record: it is lent the values themselves
abbrev pub get_call : List ℕ → Call
get_call r = get (party_in r) (node_in r) whole fresh_scratch

-- a put record: so is this
abbrev pub put_call : List ℕ → Call
put_call r = put (party_in r) (node_in r) (value_in r) whole fresh_scratch

-- a leave record: it is lent 32 zeros
abbrev pub leave_call : List ℕ → Call
leave_call r = leave (party_in r) (replicate 32 0)

-- an add record, laid out like put: lent what a put is
abbrev pub add_call : List ℕ → Call
add_call r = add (party_in r) (node_in r) (value_in r) whole fresh_scratch

-- by its kind: 3 enter, 4 get, 5 put, 6 leave, and 7 add, the one left of those that a step can have
abbrev pub call_of : List ℕ → Call
call_of r =
    cond (eqb (kind_of r) 3) (enter_call r)
    (cond (eqb (kind_of r) 4) (get_call r)
    (cond (eqb (kind_of r) 5) (put_call r)
    (cond (eqb (kind_of r) 6) (leave_call r) (add_call r))))

-- it is lent the tables themselves
abbrev pub step_of : List ℕ → Step
step_of r = record { intervals = whole; edges = whole; call = call_of r }

-- what it answers, as its line in the listing has it
pub data StepAnswer : Type 0 where
  granted : (cover : ℕ) → StepAnswer
  waits : StepAnswer
  value : (number : ℕ) → StepAnswer
  stored : StepAnswer
  added : StepAnswer
  left : (parties : List ℕ) → StepAnswer
  refused : (number : ℕ) → StepAnswer

-- of enter
abbrev pub enter_line : Answer Admission → StepAnswer
enter_line (done (admitted cover)) = granted cover
enter_line (done queued) = waits
enter_line (denied k) = refused k

-- of get
abbrev pub get_line : Answer ℕ → StepAnswer
get_line (done x) = value x
get_line (denied k) = refused k

-- of put
abbrev pub put_line : Answer (Unit {0}) → StepAnswer
put_line (done _) = stored
put_line (denied k) = refused k

-- of add
abbrev pub add_line : Answer (Unit {0}) → StepAnswer
add_line (done _) = added
add_line (denied k) = refused k

-- of leave
abbrev pub leave_line : Answer (List ℕ) → StepAnswer
leave_line (done parties) = left parties
leave_line (denied k) = refused k

-- of the event of a step
abbrev pub answer_in : Event ℕ → StepAnswer
answer_in (entered party a) = enter_line a
answer_in (got party node a) = get_line a
answer_in (wrote party node number a) = put_line a
answer_in (summed party node number a) = add_line a
answer_in (gone party a) = leave_line a

-- the hierarchy, the desk and the values between two steps
abbrev pub state_of : Hierarchy → Desk → List ℕ → State
state_of H desk values = record { hierarchy = H; desk = desk; values = values }

-- a record of 16 bytes that is right by its kind
abbrev pub is_record : List ℕ → Bool
is_record r = eqb (length r) 16 && record_right r

-- and a step
abbrev pub is_step : List ℕ → Bool
is_step r = is_record r && step_kind (kind_of r)

-- a step record performed
abbrev pub perform_step : State → List ℕ → Moved
perform_step s r = move (step_of r) s

-- what performing a record comes to: the hierarchy, the desk and the values after it, and its answer
pub record Performed : Type 0 where
  pub state : State
  pub answer : StepAnswer

-- of a step
abbrev pub performed : Moved → Performed
performed m = record { state = m.state; answer = answer_in m.event }

-- a refusal changes nothing
abbrev pub perform_if : Bool → State → List ℕ → Performed
perform_if true s r = performed (perform_step s r)
perform_if false s r = record { state = s; answer = refused 4 }

-- any bytes performed as a record: 4 where they are no record of 16 bytes, one that is not right, or no step, before all else, even before 1
abbrev pub perform : State → List ℕ → Performed
perform s r = perform_if (is_step r) s r

-- A WHOLE FILE. Its step records one after the other
abbrev pub perform_all : State → List (List ℕ) → Ran
perform_all s rs = run (map step_of rs) s

-- their answers
abbrev pub answers_of : Ran → List StepAnswer
answers_of ran = map answer_in ran.events

-- the values with that of a value record in its node's place, or as they are
abbrev pub with_value : List ℕ → List ℕ → List ℕ
with_value values r = cond (eqb (kind_of r) 8) (set values (value_node_in r) (value_in r)) values

-- the values after the value records, one after the other
unfoldable pub values_from : List ℕ → List (List ℕ) → List ℕ
values_from values [] = values
values_from values (r ∷ rs) = values_from (with_value values r) rs

-- n values: those of the value records, zero where none is given
abbrev pub values_in : ℕ → List (List ℕ) → List ℕ
values_in n rs = values_from (replicate n 0) rs

-- a file starts from a fresh desk and its values
abbrev pub start_of : Hierarchy → List (List ℕ) → State
start_of H rs = start H (values_in H.n rs)

-- the count of holders
abbrev pub holders_at : Desk → ℕ
holders_at d = count (λ e. is_holding e.stage) d.entries

-- what a file that is not refused gives: its steps' answers, holders, waiters and each party's grants at the end, and the values
pub record FileRun : Type 0 where
  pub answers : List StepAnswer
  pub holders : ℕ
  pub waiters : ℕ
  pub grants : List ℕ
  pub values : List ℕ

-- what a run comes to
abbrev pub file_run : Ran → FileRun
file_run ran =
    record { answers = answers_of ran; holders = holders_at ran.state.desk; waiters = ran.state.desk.waiting; grants = ran.state.desk.grants; values = ran.state.values }

-- a refused hierarchy gives its number: 5 to 9
abbrev pub run_unless : Option ℕ → List (List ℕ) → Answer FileRun
run_unless (some k) rs = denied k
run_unless none rs = done (file_run (perform_all (start_of (built_of rs) rs) (step_records rs)))

-- what running the records of a file answers
unfoldable pub run_records : List (List ℕ) → Answer FileRun
run_records rs = run_unless (refusal (hierarchy_checks (size_of rs) (edge_table rs) (edge_count_of rs))) rs

-- a refused file gives its number, before: 2 to 4
abbrev pub file_unless : Option ℕ → List ℕ → Answer FileRun
file_unless (some k) file = denied k
file_unless none file = run_records (record_list (file_records file))

-- what running a file answers
unfoldable pub run_file : List ℕ → Answer FileRun
run_file file = file_unless (refusal (file_checks file)) file
