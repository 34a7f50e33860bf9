-- A RUN THAT GOES ON where nobody holds or waits, as if from a fresh desk: what the two parts make together (02, point 9). Assumes nothing.
use Rattle.std.specs.Prelude.{◌≡◌, List, [], ◌∷◌, ◌++◌, ℕ, ◌+◌, ◌<◌, min}
use Rattle.locks.specs.declared.Stage.TheVariants.{Out}
use Rattle.desk.specs.declared.Desk.{Desk}
use Rattle.desk.specs.Desks.{stage_at}
use Rattle.runs.specs.Run.{State, Ran}

-- the desk with other counts of grants
abbrev pub counting : List ℕ → Desk → Desk
counting grants d = record { entries = d.entries; queue = d.queue; waiting = d.waiting; grants = grants }

-- the same state but for the counts
abbrev pub counted : List ℕ → State → State
counted grants s = record { hierarchy = s.hierarchy; desk = counting grants s.desk; values = s.values }

-- the counts of both added up, party by party; each sum stops at 4,294,967,295, as a count does
unfoldable pub add_grants : List ℕ → List ℕ → List ℕ
add_grants [] more = []
add_grants (count ∷ grants) [] = []
add_grants (count ∷ grants) (also ∷ more) = min (count + also) 4294967295 ∷ add_grants grants more

-- a run, and behind it one that started from a fresh desk: its state, with the counts of both added up, and the events of both
abbrev pub followed_by : Ran → Ran → Ran
followed_by first second =
    record {
      state = counted (add_grants first.state.desk.grants second.state.desk.grants) second.state;
      events = first.events ++ second.events;
    }

-- nobody holds or waits
abbrev pub Idle : Desk → Type 0
Idle d = (party : ℕ) → party < 32 → stage_at d party ≡ Out
