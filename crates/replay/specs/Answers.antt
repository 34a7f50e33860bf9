-- What each case of replay's answers is in the paper, and what its functions promise. Assumes nothing.
use Rattle.std.specs.Prelude.{◌≡◌, List, [], ◌∷◌, ℕ, ◌*◌, ltb, length, take, replicate, Result}
use Rattle.std.proofs.Math.Option.{Option}
use Rattle.lists.specs.Lists.{over}
use Rattle.lists.specs.Answer.{Answer, ◌when◌, refusal, answer_of, room_after}
use Rattle.refusals.specs.Refusals.{meaning}
use Rattle.refusals.specs.declared.Refusal.{Refusal}
use Rattle.replay.specs.declared.Outcome.{Outcome}
use Rattle.replay.specs.declared.Outcome.TheVariants.{Granted, Waits, Value, Stored, Added, Left, Refused}
use Rattle.replay.specs.declared.Step.{Step}
use Rattle.replay.specs.Replay.{StepAnswer, granted, waits, value, stored, added, left, refused, Performed, edge_table, edge_count_of}

-- THE EDGE TABLE into lent places. It needs two for each edge
abbrev pub edges_refusal : List (List ℕ) → List ℕ → Option ℕ
edges_refusal rs table = refusal (1 when ltb (length table) (2 * edge_count_of rs) ∷ [])

-- what taking the edge table leaves: its answer, the edge count, and the places
pub record EdgesResult : Type 0 where
  pub answer : Answer ℕ
  pub table : List ℕ

-- the edge table, from the lent places' first on; a refusal changes nothing
unfoldable pub edges_into : List (List ℕ) → List ℕ → EdgesResult
edges_into rs table =
    record { answer = answer_of (edges_refusal rs table) (edge_count_of rs); table = room_after (edges_refusal rs table) (edge_table rs) table }

-- what `edges` promises
abbrev pub EdgesInto : Result ℕ Refusal → List ℕ → EdgesResult → Type 0
EdgesInto r table s = (meaning r ≡ s.answer) × (table ≡ s.table)

-- A STEP. What each case of its answer is in the paper; `parties` has those that a leave granted first, as many as it counts, or as there are
abbrev pub step_meaning : Outcome → List ℕ → StepAnswer
step_meaning (Granted cover) parties = granted cover
step_meaning Waits parties = waits
step_meaning (Value number) parties = value number
step_meaning Stored parties = stored
step_meaning Added parties = added
step_meaning (Left grants) parties = left (take grants parties)
step_meaning (Refused k) parties = refused k

-- the case that is given for it
abbrev pub outcome_of : StepAnswer → Outcome
outcome_of (granted cover) = Granted cover
outcome_of waits = Waits
outcome_of (value number) = Value number
outcome_of stored = Stored
outcome_of added = Added
outcome_of (left parties) = Left (length parties)
outcome_of (refused k) = Refused k

-- the 32 places beside it: the parties granted, and zeros
abbrev pub parties_of : StepAnswer → List ℕ
parties_of (granted cover) = replicate 32 0
parties_of waits = replicate 32 0
parties_of (value number) = replicate 32 0
parties_of stored = replicate 32 0
parties_of added = replicate 32 0
parties_of (left parties) = over parties (replicate 32 0)
parties_of (refused k) = replicate 32 0

-- what `perform` promises: desk and values of the definition, an answer that means the definition's, and its one form
pub record Performs (r : Step) (values : List ℕ) (m : Performed) : Type 0 where
  pub desk : r.desk ≡ m.state.desk
  pub values_after : values ≡ m.state.values
  pub meaning : step_meaning r.outcome r.parties ≡ m.answer
  pub outcome : r.outcome ≡ outcome_of m.answer
  pub parties : r.parties ≡ parties_of m.answer
