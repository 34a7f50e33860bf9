-- Demand 3, said of a file: the book is fed the file's step records and the answers of its listing, and nothing else. Assumes nothing.
use Rattle.std.specs.Prelude.{List, [], ◌∷◌, ℕ}
use Rattle.lists.specs.Answer.{done, refused as denied}
use Rattle.blocks.specs.Record.{party_in, node_in, value_in}
use Rattle.desk.specs.Steps.{granted as admitted, waits as queued}
use Rattle.runs.specs.Run.{Call, enter, get, put, add, leave, Event, entered, got, stored as wrote, added as summed, left as gone}
use Rattle.replay.specs.Replay.{call_of, StepAnswer, granted, waits, value, stored, added, left, refused, FileRun, size_of, step_records, values_in}
use Rattle.history.specs.Serial.{SerialSteps}

-- the event of a call that was refused
abbrev pub refused_event : Call → ℕ → Event ℕ
refused_event (enter party mode names name_count) k = entered party (denied k)
refused_event (get party node l scratch) k = got party node (denied k)
refused_event (put party node number l scratch) k = wrote party node number (denied k)
refused_event (add party node number l scratch) k = summed party node number (denied k)
refused_event (leave party list) k = gone party (denied k)

-- the event of a step record and its answer: which step it is, the party, the node and number given, and the answer.
-- The answer's word tells which step it is; of a refusal the record does
abbrev pub event_of : List ℕ → StepAnswer → Event ℕ
event_of r (granted cover) = entered (party_in r) (done (admitted cover))
event_of r waits = entered (party_in r) (done queued)
event_of r (value number) = got (party_in r) (node_in r) (done number)
event_of r stored = wrote (party_in r) (node_in r) (value_in r) (done tt)
event_of r added = summed (party_in r) (node_in r) (value_in r) (done tt)
event_of r (left parties) = gone (party_in r) (done parties)
event_of r (refused k) = refused_event (call_of r) k

-- of all steps, in their order
unfoldable pub events_of : List (List ℕ) → List StepAnswer → List (Event ℕ)
events_of [] answers = []
events_of (r ∷ rs) [] = []
events_of (r ∷ rs) (a ∷ answers) = event_of r a ∷ events_of rs answers

-- the events of a file that was run
abbrev pub file_events : List (List ℕ) → FileRun → List (Event ℕ)
file_events rs run = events_of (step_records rs) run.answers

-- the n values after the file, and what its gets answered, are those of whole visits performed in order of granting from the file's n values
abbrev pub FileSerial : List (List ℕ) → FileRun → Type 0
FileSerial rs run = SerialSteps (values_in (size_of rs) rs) (file_events rs run) run.values
