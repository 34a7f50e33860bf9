-- A list of steps over one hierarchy that stands beside the state: only for stating the theorems over a run in that form, too. Assumes nothing.
use Rattle.std.specs.Prelude.{List, [], ◌∷◌, ℕ}
use Rattle.desk.specs.declared.Desk.{Desk}
use Rattle.locks.specs.Lent.{Hierarchy}
use Rattle.desk.specs.Desks.{fresh_desk}
use Rattle.runs.specs.Run.{Step, Event, State, Moved, move}

-- the desk that the step before handed back, and the values as last left
pub record Between : Type 0 where
  pub desk : Desk
  pub values : List ℕ

-- a list starts from a fresh desk and given values
abbrev pub start_over : List ℕ → Between
start_over values = record { desk = fresh_desk; values = values }

-- the state that this is over a hierarchy
abbrev pub state_over : Hierarchy → Between → State
state_over H s = record { hierarchy = H; desk = s.desk; values = s.values }

-- and what a state is without one
abbrev pub between_of : State → Between
between_of s = record { desk = s.desk; values = s.values }

-- a whole list: what it leaves, and its events
pub record RanOver : Type 0 where
  pub state : Between
  pub events : List (Event ℕ)

-- one step, and then the rest
abbrev pub also_over : Moved → RanOver → RanOver
also_over m r = record { state = r.state; events = m.event ∷ r.events }

-- the steps one after the other, each over the hierarchy
unfoldable pub run_over : Hierarchy → List Step → Between → RanOver
run_over H [] s = record { state = s; events = [] }
run_over H (x ∷ xs) s = also_over (move x (state_over H s)) (run_over H xs (between_of (move x (state_over H s)).state))
