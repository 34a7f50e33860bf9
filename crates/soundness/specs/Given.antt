-- The names that a party gave in its last enter that was not refused, over a list of steps (02, point 6). Assumes nothing.
use Rattle.std.specs.Prelude.{List, [], ◌∷◌, Bool, true, false, cond, ◌&&◌, ◌≡◌, ℕ, eqb, take}
use Rattle.lists.specs.Answer.{done, refused}
use Rattle.naming.specs.Names.{ascending, named}
use Rattle.locks.specs.declared.Stage.{Stage}
use Rattle.locks.specs.declared.Stage.TheVariants.{Out, Waiting, Holding}
use Rattle.runs.specs.Run.{Call, enter, get, put, add, leave, Step, Event, entered, got, stored, added, left, State, move}

-- the event is of an enter that was not refused
abbrev pub is_entered : Event ℕ → Bool
is_entered (entered party (done a)) = true
is_entered (entered party (refused k)) = false
is_entered (got party node a) = false
is_entered (stored party node value a) = false
is_entered (added party node number a) = false
is_entered (left party a) = false

-- the names that p gave last, after a step: the new ones where the step is an enter of p that was not refused, else the old
abbrev pub given_after : ℕ → Call → Event ℕ → List ℕ → List ℕ
given_after p (enter party mode names name_count) e old = cond (eqb party p && is_entered e) (take name_count names) old
given_after p (get party node values scratch) e old = old
given_after p (put party node value values scratch) e old = old
given_after p (add party node number values scratch) e old = old
given_after p (leave party list) e old = old

-- over a list of steps
unfoldable pub given_in : ℕ → List Step → State → List ℕ → List ℕ
given_in p [] s old = old
given_in p (x ∷ xs) s old = given_in p xs (move x s).state (given_after p x.call (move x s).event old)

-- what the party holds or waits for keeps the names given, ascending and each once
abbrev pub Keeps : List ℕ → Stage → Type 0
Keeps given Out = Unit {0}
Keeps given (Waiting l) = l.names ≡ named (ascending given)
Keeps given (Holding l) = l.names ≡ named (ascending given)
