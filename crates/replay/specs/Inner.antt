-- Terms of the contracts of private functions only: no definition of the paper is here. Assumes nothing.
use Rattle.std.specs.Prelude.{List, [], ℕ, ◌*◌, eqb, take, drop, replicate}
use Rattle.lists.specs.Answer.{Answer, done, refused as denied}
use Rattle.blocks.specs.Record.{kind_of, parent_in, child_in}
use Rattle.desk.specs.declared.Desk.{Desk}
use Rattle.locks.specs.Lent.{Hierarchy}
use Rattle.runs.specs.Run.{Call, move_call}
use Rattle.replay.specs.declared.Outcome.{Outcome}
use Rattle.replay.specs.declared.Outcome.TheVariants.{Left, Refused}
use Rattle.replay.specs.declared.Step.{Step}
use Rattle.replay.specs.Replay.{edge_if, state_of, performed}
use Rattle.replay.specs.Answers.{Performs}

-- the record at a place, of records one behind the other
abbrev pub record_at : List ℕ → ℕ → List ℕ
record_at bytes i = take 16 (drop (16 * i) bytes)

-- what a record gives to the edge table
abbrev pub edge_of : List ℕ → List ℕ
edge_of r = edge_if (eqb (kind_of r) 2) (parent_in r) (child_in r) []

-- the outcome of a leave
abbrev pub left_outcome : Answer ℕ → Outcome
left_outcome (done k) = Left k
left_outcome (denied k) = Refused k

-- the outcome of a put or an add, the one given where it is done
abbrev pub told : Answer (Unit {0}) → Outcome → Outcome
told (done _) o = o
told (denied k) o = Refused k

-- a step that grants no parties
abbrev pub plain : Desk → Outcome → Step
plain desk o = record { desk = desk; outcome = o; parties = replicate 32 0 }

-- a call performed, on a desk and the tables themselves
abbrev pub PerformsCall : Step → Hierarchy → Desk → Call → (values values' : List ℕ) → Type 0
PerformsCall r H d c values values' = Performs r values' (performed (move_call H c (state_of H d values)))

-- a call that has nothing to do with the values leaves them, whatever they are
abbrev pub PerformsAny : Step → Hierarchy → Desk → Call → Type 0
PerformsAny r H d c = (values : List ℕ) → PerformsCall r H d c values values
