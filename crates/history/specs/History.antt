-- The book of visits, and performing. It sees no desk, hierarchy or records: only events. Assumes nothing.
use Rattle.std.specs.Prelude.{List, [], ◌∷◌, ◌++◌, map, Bool, true, false, ◌||◌, ℕ, suc, ◌+◌, eqb, length, get_or, set}
use Rattle.lists.specs.Answer.{Answer, done, refused}
use Rattle.desk.specs.Steps.{granted, waits, sum64}
use Rattle.runs.specs.Run.{Event, entered, got, stored, added, left}

-- a get, put or add that was done. At a get stands a note of type A, which nothing below looks at: with A = Unit nothing is noted,
-- and that is the paper's book; with A = ℕ each get carries the value that it was answered
pub data Op (A : Type 0) : Type 0 where
  did_get : (node : ℕ) → (note : A) → Op A
  did_put : (node value : ℕ) → Op A
  did_add : (node number : ℕ) → Op A

-- a visit in the row: its party, and the gets, puts and adds it did
pub record Transaction (A : Type 0) : Type 0 where
  pub party : ℕ
  pub ops : List (Op A)

module _ {A : Type 0} where
  -- a visit of the party, with nothing done
  unfoldable pub begun : ℕ → Transaction A
  begun party = record { party = party; ops = [] }

  -- the row has a visit of the party
  unfoldable pub visited : ℕ → List (Transaction A) → Bool
  visited party [] = false
  visited party (v ∷ vs) = eqb v.party party || visited party vs

  -- the visit with the get, put or add last, or as it was
  unfoldable pub with_op : Bool → Op A → Transaction A → Transaction A
  with_op true op v = record { party = v.party; ops = v.ops ++ (op ∷ []) }
  with_op false op v = v

  -- goes last in the party's latest visit; where the party has none, nothing is added (`SerialSteps.whole` says that it never comes to that)
  unfoldable pub add_to_latest : ℕ → Op A → List (Transaction A) → List (Transaction A)
  add_to_latest party op [] = []
  add_to_latest party op (v ∷ vs) =
      elim (visited party vs) [ true ↦ v ∷ add_to_latest party op vs | false ↦ with_op (eqb v.party party) op v ∷ vs ]

  -- enter answered granted: a visit goes last in the row; waits: no change. get, put or add, not refused: goes last in the party's latest visit.
  -- leave, not refused: for each granted party, in that order, a new visit goes last. Any refused step: no change
  unfoldable pub noted : List (Transaction A) → Event A → List (Transaction A)
  noted row (entered party (done (granted cover))) = row ++ (begun party ∷ [])
  noted row (entered party (done waits)) = row
  noted row (entered party (refused k)) = row
  noted row (got party node (done note)) = add_to_latest party (did_get node note) row
  noted row (got party node (refused k)) = row
  noted row (stored party node value (done _)) = add_to_latest party (did_put node value) row
  noted row (stored party node value (refused k)) = row
  noted row (added party node number (done _)) = add_to_latest party (did_add node number) row
  noted row (added party node number (refused k)) = row
  noted row (left party (done parties)) = row ++ map begun parties
  noted row (left party (refused k)) = row

  -- the row after a list of events, from a row on
  unfoldable pub history_from : List (Transaction A) → List (Event A) → List (Transaction A)
  history_from row [] = row
  history_from row (e ∷ es) = history_from (noted row e) es

  -- the book's row, empty at first: its order is the *order of granting*
  unfoldable pub history : List (Event A) → List (Transaction A)
  history events = history_from [] events

-- WHO WAS GRANTED
module _ {A : Type 0} where
  -- the parties that one event granted, in that order
  unfoldable pub granted_by : Event A → List ℕ
  granted_by (entered party (done (granted cover))) = party ∷ []
  granted_by (entered party (done waits)) = []
  granted_by (entered party (refused k)) = []
  granted_by (got party node a) = []
  granted_by (stored party node value a) = []
  granted_by (added party node number a) = []
  granted_by (left party (done parties)) = parties
  granted_by (left party (refused k)) = []

  -- those that a list of events granted, in the order of granting
  unfoldable pub granted_in : List (Event A) → List ℕ
  granted_in [] = []
  granted_in (e ∷ es) = granted_by e ++ granted_in es

-- the answer without a value got
unfoldable pub bare : {A : Type 0} → Answer A → Answer (Unit {0})
bare (done a) = done tt
bare (refused k) = refused k

-- the event as the book is fed it
unfoldable pub bare_event : {A : Type 0} → Event A → Event (Unit {0})
bare_event (entered party a) = entered party a
bare_event (got party node a) = got party node (bare a)
bare_event (stored party node value a) = stored party node value a
bare_event (added party node number a) = added party node number a
bare_event (left party a) = left party a

-- COUNTING
module _ {A : Type 0} where
  -- the gets, puts and adds in a row
  unfoldable pub ops_in : List (Transaction A) → ℕ
  ops_in [] = 0
  ops_in (v ∷ vs) = length v.ops + ops_in vs

  -- one more where the event is a get, put or add that was not refused
  unfoldable pub counted : ℕ → Event A → ℕ
  counted m (entered party a) = m
  counted m (got party node (done a)) = suc m
  counted m (got party node (refused k)) = m
  counted m (stored party node value (done _)) = suc m
  counted m (stored party node value (refused k)) = m
  counted m (added party node number (done _)) = suc m
  counted m (added party node number (refused k)) = m
  counted m (left party a) = m

  -- those of a list of events
  unfoldable pub counted_from : ℕ → List (Event A) → ℕ
  counted_from m [] = m
  counted_from m (e ∷ es) = counted_from (counted m e) es

-- PERFORMING (serial execution) from the given values: through the row from the front, each visit's gets, puts and adds in their order
module _ {A : Type 0} where
  -- a get finds the value then standing at its node
  unfoldable pub finds : List ℕ → Op A → Op ℕ
  finds values (did_get node note) = did_get node (get_or values node 0)
  finds values (did_put node value) = did_put node value
  finds values (did_add node number) = did_add node number

  -- a put replaces it, an add adds to it
  unfoldable pub leaves : List ℕ → Op A → List ℕ
  leaves values (did_get node note) = values
  leaves values (did_put node value) = set values node value
  leaves values (did_add node number) = set values node (sum64 (get_or values node 0) number)

  -- what the gets, puts and adds of one visit find, in their order
  unfoldable pub ops_find : List ℕ → List (Op A) → List (Op ℕ)
  ops_find values [] = []
  ops_find values (op ∷ ops) = finds values op ∷ ops_find (leaves values op) ops

  -- the values that they leave
  unfoldable pub ops_leave : List ℕ → List (Op A) → List ℕ
  ops_leave values [] = values
  ops_leave values (op ∷ ops) = ops_leave (leaves values op) ops

  -- the row with, noted at each get, the value that it finds
  unfoldable pub serial_finds : List ℕ → List (Transaction A) → List (Transaction ℕ)
  serial_finds values [] = []
  serial_finds values (v ∷ vs) = record { party = v.party; ops = ops_find values v.ops } ∷ serial_finds (ops_leave values v.ops) vs

  -- the values after performing
  unfoldable pub serial_leaves : List ℕ → List (Transaction A) → List ℕ
  serial_leaves values [] = values
  serial_leaves values (v ∷ vs) = serial_leaves (ops_leave values v.ops) vs
