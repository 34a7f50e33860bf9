-- GETS, PUTS AND ADDS IN ONE ORDER OR ANOTHER (02, point 10): whose each is, what is told of it, and what it means that two orders come to the same. Assumes nothing.
use Rattle.std.specs.Prelude.{◌≡◌, List, [], ◌∷◌, Bool, true, false, not, ℕ, eqb, length, replicate}
use Rattle.lists.specs.Lists.{every, any, keep}
use Rattle.lists.specs.Answer.{is_done}
use Rattle.locks.specs.Lent.{Hierarchy}
use Rattle.desk.specs.Steps.{get_step, put_step, add_step}
use Rattle.runs.specs.Run.{lend, Call, enter, get, put, add, leave, Step, lent_to, Event, entered, got, stored, added, left, State, move, run}

-- the call is a get, put or add
abbrev pub accesses : Call → Bool
accesses (enter party mode names name_count) = false
accesses (get party node values scratch) = true
accesses (put party node value values scratch) = true
accesses (add party node number values scratch) = true
accesses (leave party list) = false

-- the step is a get, put or add
abbrev pub is_access : Step → Bool
is_access x = accesses x.call

-- the party whose call it is
abbrev pub call_party : Call → ℕ
call_party (enter party mode names name_count) = party
call_party (get party node values scratch) = party
call_party (put party node value values scratch) = party
call_party (add party node number values scratch) = party
call_party (leave party list) = party

-- the party whose step it is
abbrev pub party_of : Step → ℕ
party_of x = call_party x.call

-- the party of an event
abbrev pub event_party : Event ℕ → ℕ
event_party (entered party a) = party
event_party (got party node a) = party
event_party (stored party node value a) = party
event_party (added party node number a) = party
event_party (left party a) = party

-- the step was not refused, by its event
abbrev pub not_refused : Event ℕ → Bool
not_refused (entered party a) = is_done a
not_refused (got party node a) = is_done a
not_refused (stored party node value a) = is_done a
not_refused (added party node number a) = is_done a
not_refused (left party a) = is_done a

-- the scratch that the call leaves, over the tables as lent; enter and leave are lent none
abbrev pub scratch_from : Hierarchy → Call → State → List ℕ
scratch_from H (enter party mode names name_count) s = []
scratch_from H (get party node l scratch) s = (get_step H s.desk party node (lend s.values l) scratch).scratch
scratch_from H (put party node value l scratch) s = (put_step H s.desk party node value (lend s.values l) scratch).scratch
scratch_from H (add party node number l scratch) s = (add_step H s.desk party node number (lend s.values l) scratch).scratch
scratch_from H (leave party list) s = []

-- what is told of a step: which it is, what it was answered, and the scratch that it left
pub record Told : Type 0 where
  pub step : Step
  pub event : Event ℕ
  pub scratch : List ℕ

-- what is told of a step taken at a state
abbrev pub tell : Step → State → Told
tell x s = record { step = x; event = (move x s).event; scratch = scratch_from (lent_to x s.hierarchy) x.call s }

-- of each step of a list, at the state that those before it left
unfoldable pub tell_all : List Step → State → List Told
tell_all [] s = []
tell_all (x ∷ xs) s = tell x s ∷ tell_all xs (move x s).state

-- TAKING TWO STEPS IN EITHER ORDER, x first or y first: both get the same answers and leave the same scratch, and the desk and values left are the same
pub record Swapped (x y : Step) (s : State) : Type 0 where
  pub first : tell x (move y s).state ≡ tell x s
  pub second : tell y (move x s).state ≡ tell y s
  pub state : (move x (move y s).state).state ≡ (move y (move x s).state).state

-- the steps of one party, in its own order
abbrev pub steps_of : ℕ → List Step → List Step
steps_of party steps = keep (λ x. eqb (party_of x) party) steps

-- what is told of them
abbrev pub told_of : ℕ → List Told → List Told
told_of party tolds = keep (λ t. eqb (party_of t.step) party) tolds

-- the events of one party
abbrev pub events_of : ℕ → List (Event ℕ) → List (Event ℕ)
events_of party events = keep (λ e. eqb (event_party e) party) events

-- the call with zeros in its scratch, as many; enter and leave have none
abbrev pub call_cleared : Call → Call
call_cleared (enter party mode names name_count) = enter party mode names name_count
call_cleared (get party node l scratch) = get party node l (replicate (length scratch) 0)
call_cleared (put party node value l scratch) = put party node value l (replicate (length scratch) 0)
call_cleared (add party node number l scratch) = add party node number l (replicate (length scratch) 0)
call_cleared (leave party list) = leave party list

-- the step with zeros in its scratch
abbrev pub cleared : Step → Step
cleared x = record { intervals = x.intervals; edges = x.edges; call = call_cleared x.call }

-- A REARRANGEMENT that keeps each party's own order: every party has the same steps, in the same order
abbrev pub Rearranged : List Step → List Step → Type 0
Rearranged one other = (party : ℕ) → steps_of party one ≡ steps_of party other

-- two lists COME TO THE SAME from a state: they leave the same desk and values, and what is told of each party's steps is the same, in its own order
pub record Same (one other : List Step) (s : State) : Type 0 where
  pub state : (run other s).state ≡ (run one s).state
  pub told : (party : ℕ) → told_of party (tell_all other s) ≡ told_of party (tell_all one s)

-- TWO LINES: a list that has the steps of both, each line's in its order
pub data Merged : (line other steps : List Step) → Type 0 where
  neither : Merged [] [] []
  of_line : {x : Step} {line other steps : List Step} → Merged line other steps → Merged (x ∷ line) other (x ∷ steps)
  of_other : {x : Step} {line other steps : List Step} → Merged line other steps → Merged line (x ∷ other) (x ∷ steps)

-- no party has steps on both lines
abbrev pub none_on_both : (line other : List Step) → Bool
none_on_both line other = every (λ x. not (any (λ y. eqb (party_of y) (party_of x)) other)) line
