-- Steps that are lent any tables, and a host's own calls with their results: each has the desk that the one before handed back. Assumes nothing.
use Rattle.std.specs.Prelude.{List, [], ◌∷◌, map, ℕ}
use Rattle.locks.specs.declared.Mode.{Mode}
use Rattle.locks.specs.Lent.{Hierarchy}
use Rattle.desk.specs.declared.Desk.{Desk}
use Rattle.runs.specs.Run.{Call, enter, Event, State, Moved, move_call, Ran, also_ran}
use Rattle.history.specs.Results.{Result, Meets, desk_from, told_by}

-- a step with the tables that it is lent: n, intervals, edges and edge count may be any, good or bad, and others at each step
pub record AnyStep : Type 0 where
  pub tables : Hierarchy
  pub call : Call

-- an enter, lent these tables
abbrev pub enter_with : Hierarchy → ℕ → Mode → List ℕ → ℕ → AnyStep
enter_with K party mode names name_count = record { tables = K; call = enter party mode names name_count }

-- one such step
abbrev pub move_any : AnyStep → State → Moved
move_any x s = move_call x.tables x.call s

-- such steps one after the other, each having the desk that the one before handed back
unfoldable pub run_any : List AnyStep → State → Ran
run_any [] s = record { state = s; events = [] }
run_any (x ∷ xs) s = also_ran (move_any x s) (run_any xs (move_any x s).state)

-- a host's own call: the tables that it lent, and what it gave besides with the result
pub record HostCall : Type 0 where
  pub tables : Hierarchy
  pub result : Result

-- each call meets the contract of its method on the desk that the one before handed back. The contracts of get, put and add are asked with no values given, so that they may be lent any
-- buffer for the values
unfoldable pub CallsMeet : Desk → List HostCall → Type 0
CallsMeet d [] = Unit
CallsMeet d (c ∷ cs) = Meets c.tables d [] c.result × CallsMeet (desk_from c.result) cs

-- what the calls were answered
abbrev pub told_back : List HostCall → List (Event ℕ)
told_back cs = map (λ c. told_by c.result) cs

-- the desk that the last one handed back
unfoldable pub desk_after : Desk → List HostCall → Desk
desk_after d [] = d
desk_after d (c ∷ cs) = desk_after (desk_from c.result) cs
