-- What demand 3 says of a list of steps. Assumes nothing.
use Rattle.std.specs.Prelude.{◌≡◌, List, map, ℕ, ◌*◌, take}
use Rattle.lists.specs.Answer.{done}
use Rattle.intervals.specs.Build.{build_step}
use Rattle.locks.specs.Lent.{Hierarchy}
use Rattle.runs.specs.Run.{Event, Ran}
use Rattle.runs.specs.Over.{RanOver}
use Rattle.history.specs.History.{Transaction, history, granted_in, bare_event, ops_in, counted_from, serial_finds, serial_leaves}

-- a *built hierarchy* is n, edges and edge count that building took unrefused, with the intervals it wrote
pub record Built (H : Hierarchy) : Type 0 where
  -- the interval places and the scratch that building was lent
  pub places : List ℕ
  pub scratch : List ℕ
  pub took : (build_step H.n H.edges H.edge_count places scratch).answer ≡ done tt
  pub wrote : H.intervals ≡ take (2 * H.n) (build_step H.n H.edges H.edge_count places scratch).places

-- the book's row of a list of events: of each the book is fed the answer without a value got
abbrev pub row_of : List (Event ℕ) → List (Transaction (Unit {0}))
row_of events = history (map bare_event events)

-- steps with these events, from these values at the start to those after, leave and answer what whole visits, performed in order of granting
-- from the values at the start, leave and find
pub record SerialSteps (values : List ℕ) (events : List (Event ℕ)) (after : List ℕ) : Type 0 where
  -- the values after the list are those after performing
  pub leaves : after ≡ serial_leaves values (row_of events)
  -- the value answered by each get not refused is what that same get finds: the row with each answer noted at its get
  -- is the row with what performing finds noted there
  pub answers : history events ≡ serial_finds values (row_of events)
  -- no get, put or add that was not refused is missing from the row
  pub whole : ops_in (row_of events) ≡ counted_from 0 events
  -- the row's order is the order of granting: a visit for each party granted, one after the other, and no other
  pub order : map (λ v. v.party) (row_of events) ≡ granted_in events

-- the list leaves and answers what whole visits, performed in order of granting from the values at the start, leave and find
abbrev pub Serial : List ℕ → Ran → Type 0
Serial values ran = SerialSteps values ran.events ran.state.values

-- the same of a list over one hierarchy that stands beside the state
abbrev pub SerialOver : List ℕ → RanOver → Type 0
SerialOver values ran = SerialSteps values ran.events ran.state.values
