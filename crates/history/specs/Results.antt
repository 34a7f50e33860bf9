-- A host's own list of calls, each with its result: the struct that the method handed back, and the buffer after. Assumes nothing.
use Rattle.std.specs.Prelude.{◌≡◌, ◌⊎◌, List, [], ◌∷◌, map, cond, ℕ, ◌<◌, ltb, length, take, drop, Result as Outcome}
use Rattle.hierarchy.specs.Hierarchy.{edges_of}
use Rattle.locks.specs.declared.Mode.{Mode}
use Rattle.locks.specs.Lent.{Hierarchy, lent}
use Rattle.desk.specs.declared.Desk.{Desk}
use Rattle.refusals.specs.declared.Refusal.{Refusal}
use Rattle.desk.specs.declared.EnterAnswer.{EnterAnswer}
use Rattle.desk.specs.declared.GetAnswer.{GetAnswer}
use Rattle.desk.specs.declared.Step.{Step as DeskStep}
use Rattle.desk.specs.Steps.{enter_step, get_step, put_step, add_step, leave_step}
use Rattle.desk.specs.Answers.{enter_meaning, get_meaning, put_meaning, add_meaning, leave_meaning, Enters, Gets, Puts, Adds, Leaves}
use Rattle.runs.specs.Run.{Lending, part, Call, enter as enter_call, get as get_call, put as put_call, add as add_call, leave as leave_call, Step, Event, entered, got, stored, added, left, listed}

-- a buffer is lent of a table: the table, with anything behind it; or it is too short, whatever it holds
abbrev pub LentOf : List ℕ → List ℕ → Type 0
LentOf table buffer = (length buffer < length table) ⊎ (take (length table) buffer ≡ table)

-- the table after the buffer is left: the buffer's front. What is too short for the table is left as it was lent (`short_put`, `short_add`), and so is the table
abbrev pub left_in : List ℕ → List ℕ → List ℕ
left_in table buffer = cond (ltb (length buffer) (length table)) table (take (length table) buffer)

-- which step it was, what it was given besides the hierarchy and the desk, and its result: `after` is what it left in the values or the list, `used` in the scratch
pub data Result : Type 0 where
  enter : (party : ℕ) (mode : Mode) (names : List ℕ) (name_count : ℕ) (r : DeskStep EnterAnswer) → Result
  get : (party node : ℕ) (values scratch : List ℕ) (r : DeskStep GetAnswer) (used : List ℕ) → Result
  put : (party node value : ℕ) (values scratch : List ℕ) (r : DeskStep (Outcome (Unit {0}) Refusal)) (after used : List ℕ) → Result
  add : (party node number : ℕ) (values scratch : List ℕ) (r : DeskStep (Outcome (Unit {0}) Refusal)) (after used : List ℕ) → Result
  leave : (party : ℕ) (list : List ℕ) (r : DeskStep (Outcome ℕ Refusal)) (after : List ℕ) → Result

-- a call that was made: the two tables as it was lent them, and the rest
pub record Made : Type 0 where
  pub intervals : List ℕ
  pub edges : List ℕ
  pub result : Result

-- THE CONTRACT of its method is met by the result, on a hierarchy as lent, a desk, and values of which get, put and add are lent
abbrev pub Meets : Hierarchy → Desk → List ℕ → Result → Type 0
Meets K d values (enter party mode names name_count r) = Enters r (enter_step K d party mode names name_count)
Meets K d values (get party node buffer scratch r used) = LentOf values buffer × Gets r used (get_step K d party node buffer scratch)
Meets K d values (put party node value buffer scratch r after used) = LentOf values buffer × Puts r after used (put_step K d party node value buffer scratch)
Meets K d values (add party node number buffer scratch r after used) = LentOf values buffer × Adds r after used (add_step K d party node number buffer scratch)
Meets K d values (leave party list r after) = Leaves r after (leave_step K d party list)

-- the desk that the call handed back
abbrev pub desk_from : Result → Desk
desk_from (enter party mode names name_count r) = r.desk
desk_from (get party node buffer scratch r used) = r.desk
desk_from (put party node value buffer scratch r after used) = r.desk
desk_from (add party node number buffer scratch r after used) = r.desk
desk_from (leave party list r after) = r.desk

-- the values as the call left them
abbrev pub values_from : List ℕ → Result → List ℕ
values_from values (enter party mode names name_count r) = values
values_from values (get party node buffer scratch r used) = values
values_from values (put party node value buffer scratch r after used) = left_in values after
values_from values (add party node number buffer scratch r after used) = left_in values after
values_from values (leave party list r after) = values

-- what the book is told of it: the answer that the struct has, and for leave the list that stands in the buffer
abbrev pub told_by : Result → Event ℕ
told_by (enter party mode names name_count r) = entered party (enter_meaning r.answer)
told_by (get party node buffer scratch r used) = got party node (get_meaning r.answer)
told_by (put party node value buffer scratch r after used) = stored party node value (put_meaning r.answer)
told_by (add party node number buffer scratch r after used) = added party node number (add_meaning r.answer)
told_by (leave party list r after) = left party (listed after (leave_meaning r.answer))

-- each call of a list was lent of the hierarchy, and meets its contract on the desk that the one before handed back and the values as last left
unfoldable pub AllMeet : Hierarchy → Desk → List ℕ → List Made → Type 0
AllMeet H d values [] = Unit
AllMeet H d values (m ∷ ms) =
    LentOf H.intervals m.intervals × LentOf (edges_of H.edges H.edge_count) m.edges
    × Meets (lent H.n m.intervals m.edges H.edge_count) d values m.result
    × AllMeet H (desk_from m.result) (values_from values m.result) ms

-- the events of a list of calls
abbrev pub told_by_all : List Made → List (Event ℕ)
told_by_all ms = map (λ m. told_by m.result) ms

-- the desk that the last call handed back
unfoldable pub last_desk : Desk → List Made → Desk
last_desk d [] = d
last_desk d (m ∷ ms) = last_desk (desk_from m.result) ms

-- the values as the last call left them
unfoldable pub last_values : List ℕ → List Made → List ℕ
last_values values [] = values
last_values values (m ∷ ms) = last_values (values_from values m.result) ms

-- THE CALLS AS STEPS of a run. How a buffer was lent of a table: as much of it, and what stands behind it
abbrev pub lending : List ℕ → List ℕ → Lending
lending table buffer = part (length buffer) (drop (length table) buffer)

-- which call it was: of the values it has how they were lent, not what they were
unfoldable pub call_for : List ℕ → Result → Call
call_for values (enter party mode names name_count r) = enter_call party mode names name_count
call_for values (get party node buffer scratch r used) = get_call party node (lending values buffer) scratch
call_for values (put party node value buffer scratch r after used) = put_call party node value (lending values buffer) scratch
call_for values (add party node number buffer scratch r after used) = add_call party node number (lending values buffer) scratch
call_for values (leave party list r after) = leave_call party list

-- the step: it has besides how the two tables were lent
unfoldable pub step_for : Hierarchy → List ℕ → Made → Step
step_for H values m =
    record {
      intervals = lending H.intervals m.intervals;
      edges = lending (edges_of H.edges H.edge_count) m.edges;
      call = call_for values m.result;
    }

-- the steps of a list of calls, the first at these values
unfoldable pub steps_for : Hierarchy → List ℕ → List Made → List Step
steps_for H values [] = []
steps_for H values (m ∷ ms) = step_for H values m ∷ steps_for H (values_from values m.result) ms
