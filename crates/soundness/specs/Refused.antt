-- Which events are refused with a number. Assumes nothing.
use Rattle.std.specs.Prelude.{Bool, false, ℕ, eqb}
use Rattle.lists.specs.Answer.{Answer, done, refused}
use Rattle.runs.specs.Run.{Event, entered, got, stored, added, left}

-- the answer is the refusal k
abbrev pub is_refusal : {A : Type 0} → ℕ → Answer A → Bool
is_refusal k (done a) = false
is_refusal k (refused j) = eqb j k

-- the step of the event was refused with k
abbrev pub refused_with : ℕ → Event ℕ → Bool
refused_with k (entered party a) = is_refusal k a
refused_with k (got party node a) = is_refusal k a
refused_with k (stored party node value a) = is_refusal k a
refused_with k (added party node number a) = is_refusal k a
refused_with k (left party a) = is_refusal k a
