-- No step changes the hierarchy. Assumes nothing.
use mathlib.Core.Path.{◌≡◌, refl, ap, ◌∙◌}
use mathlib.Core.List.{List, [], ◌∷◌}
use Rattle.locks.specs.Lent.{Hierarchy}
use Rattle.runs.specs.Run.{Call, enter, get, put, add, leave, Step, State, after_enter, after_get, after_put, after_add, after_leave, move_call, move, also_ran, run}
use Rattle.runs.specs.Over.{Between, state_over, between_of, run_over}

call_hierarchy : (K : Hierarchy) (c : Call) (s : State) → (move_call K c s).state.hierarchy ≡ s.hierarchy
unfolding move_call after_enter after_get after_put after_add after_leave
call_hierarchy K (enter party mode names name_count) s = refl
call_hierarchy K (get party node l scratch) s = refl
call_hierarchy K (put party node value l scratch) s = refl
call_hierarchy K (add party node number l scratch) s = refl
call_hierarchy K (leave party list) s = refl

-- one step
pub move_hierarchy : (x : Step) (s : State) → (move x s).state.hierarchy ≡ s.hierarchy
unfolding move
move_hierarchy x s = call_hierarchy _ x.call s

-- a list of steps
pub run_hierarchy : (xs : List Step) (s : State) → (run xs s).state.hierarchy ≡ s.hierarchy
unfolding run also_ran
run_hierarchy [] s = refl
run_hierarchy (x ∷ xs) s = run_hierarchy xs (move x s).state ∙ move_hierarchy x s

-- so what a list of steps leaves besides, and its events, are those of the list over that hierarchy
pub run_over_law : (H : Hierarchy) (xs : List Step) (s : Between)
    → run xs (state_over H s) ≡ record { state = state_over H (run_over H xs s).state; events = (run_over H xs s).events }
unfolding run also_ran run_over
run_over_law H [] s = refl
run_over_law H (x ∷ xs) s =
    let m = move x (state_over H s) in
    ap (λ (K : Hierarchy). also_ran m (run xs (state_over K (between_of m.state)))) (move_hierarchy x (state_over H s))
    ∙ ap (also_ran m) (run_over_law H xs (between_of m.state))
