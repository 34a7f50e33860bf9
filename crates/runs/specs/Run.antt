-- A list of steps, each over the hierarchy, desk and values that the steps before it left, and lent as much as its caller pleases. Assumes nothing.
use Rattle.std.specs.Prelude.{List, [], ◌∷◌, ◌++◌, ℕ, length, take}
use Rattle.lists.specs.Lists.{over}
use Rattle.lists.specs.Answer.{Answer, done, refused}
use Rattle.hierarchy.specs.Hierarchy.{edges_of}
use Rattle.locks.specs.declared.Mode.{Mode}
use Rattle.desk.specs.declared.Desk.{Desk}
use Rattle.locks.specs.Lent.{Hierarchy}
use Rattle.desk.specs.Desks.{fresh_desk}
use Rattle.desk.specs.Steps.{Admission, EnterResult, GetResult, PutResult, LeaveResult, enter_step, get_step, put_step, add_step, leave_step}

-- what a step is lent of a table: just the table; or the first places of it, or the whole with anything behind it
pub data Lending : Type 0 where
  whole : Lending
  part : (places : ℕ) (behind : List ℕ) → Lending

-- the table as it is lent
unfoldable pub lend : List ℕ → Lending → List ℕ
lend table whole = table
lend table (part places behind) = take places (table ++ behind)

-- the table after a step has left the buffer in what it was lent of it
unfoldable pub restored : List ℕ → List ℕ → List ℕ
restored table buffer = take (length table) (over buffer table)

-- which step it is, and all that it is given besides the hierarchy and the desk: a scratch is of any length and has anything in it, also what an earlier step left there
pub data Call : Type 0 where
  enter : (party : ℕ) (mode : Mode) (names : List ℕ) (name_count : ℕ) → Call
  get : (party node : ℕ) (values : Lending) (scratch : List ℕ) → Call
  put : (party node value : ℕ) (values : Lending) (scratch : List ℕ) → Call
  add : (party node number : ℕ) (values : Lending) (scratch : List ℕ) → Call
  leave : (party : ℕ) (list : List ℕ) → Call

-- a step of a list: its call, and what it is lent of the two tables
pub record Step : Type 0 where
  pub intervals : Lending
  pub edges : Lending
  pub call : Call

-- the hierarchy as the step is lent it
unfoldable pub lent_to : Step → Hierarchy → Hierarchy
lent_to x H =
    record {
      n = H.n;
      intervals = lend H.intervals x.intervals;
      edges = lend (edges_of H.edges H.edge_count) x.edges;
      edge_count = H.edge_count;
    }

-- what is told of a step: which it is, the party, the node and number given, and the answer; the value that a get answers is of type A
pub data Event (A : Type 0) : Type 0 where
  entered : (party : ℕ) → Answer Admission → Event A
  got : (party node : ℕ) → Answer A → Event A
  stored : (party node value : ℕ) → Answer (Unit {0}) → Event A
  added : (party node number : ℕ) → Answer (Unit {0}) → Event A
  left : (party : ℕ) → (parties : Answer (List ℕ)) → Event A

-- the hierarchy, the desk that the step before handed back, and the values as last left
pub record State : Type 0 where
  pub hierarchy : Hierarchy
  pub desk : Desk
  pub values : List ℕ

-- a list starts from a hierarchy, a fresh desk and given values
abbrev pub start : Hierarchy → List ℕ → State
start H values = record { hierarchy = H; desk = fresh_desk; values = values }

-- a step's event has all that it answered: the list that a leave writes is part of its answer
pub record Moved : Type 0 where
  pub state : State
  pub event : Event ℕ

-- after an enter
unfoldable pub after_enter : ℕ → State → EnterResult → Moved
after_enter party s r = record { state = record { hierarchy = s.hierarchy; desk = r.desk; values = s.values }; event = entered party r.answer }

-- after a get
unfoldable pub after_get : ℕ → ℕ → State → GetResult → Moved
after_get party node s r = record { state = record { hierarchy = s.hierarchy; desk = r.desk; values = s.values }; event = got party node r.answer }

-- after a put: the values are what the step left in what it was lent
unfoldable pub after_put : ℕ → ℕ → ℕ → State → PutResult → Moved
after_put party node value s r =
    record {
      state = record { hierarchy = s.hierarchy; desk = r.desk; values = restored s.values r.values };
      event = stored party node value r.answer;
    }

-- after an add, likewise
unfoldable pub after_add : ℕ → ℕ → ℕ → State → PutResult → Moved
after_add party node number s r =
    record {
      state = record { hierarchy = s.hierarchy; desk = r.desk; values = restored s.values r.values };
      event = added party node number r.answer;
    }

-- the list that a leave writes is part of its answer
unfoldable pub listed : List ℕ → Answer ℕ → Answer (List ℕ)
listed bytes (done k) = done (take k bytes)
listed bytes (refused k) = refused k

-- after a leave
unfoldable pub after_leave : ℕ → State → LeaveResult → Moved
after_leave party s r =
    record {
      state = record { hierarchy = s.hierarchy; desk = r.desk; values = s.values };
      event = left party (listed r.list r.answer);
    }

-- the step on the hierarchy as lent
unfoldable pub move_call : Hierarchy → Call → State → Moved
move_call H (enter party mode names name_count) s = after_enter party s (enter_step H s.desk party mode names name_count)
move_call H (get party node l scratch) s = after_get party node s (get_step H s.desk party node (lend s.values l) scratch)
move_call H (put party node value l scratch) s = after_put party node value s (put_step H s.desk party node value (lend s.values l) scratch)
move_call H (add party node number l scratch) s = after_add party node number s (add_step H s.desk party node number (lend s.values l) scratch)
move_call H (leave party list) s = after_leave party s (leave_step H s.desk party list)

-- one step of a list
unfoldable pub move : Step → State → Moved
move x s = move_call (lent_to x s.hierarchy) x.call s

-- a whole list: the state that it leaves, and its events
pub record Ran : Type 0 where
  pub state : State
  pub events : List (Event ℕ)

-- one step, and then the rest
unfoldable pub also_ran : Moved → Ran → Ran
also_ran m r = record { state = r.state; events = m.event ∷ r.events }

-- the steps one after the other
unfoldable pub run : List Step → State → Ran
run [] s = record { state = s; events = [] }
run (x ∷ xs) s = also_ran (move x s) (run xs (move x s).state)
