-- THEOREMS: the counts of grants before the place where nobody holds or waits, and those of the run from there on, add up party by party. Assumes nothing.
use mathlib.Core.Path.{◌≡◌, sym, ap, ◌∙◌}
use mathlib.Core.List.{List, [], ◌∷◌, ◌++◌}
use mathlib.Core.Bool.{Bool, true, false}
use mathlib.Core.Option.{Option, none, some}
use Prim.Native.Nat.{ℕ, ◌+◌, ◌*◌, ◌≤◌, ◌<◌, min}
use native.Mathlib.Omega.{arith}
use lib.Dec.{eqb}
use lib.ListN.{length, get_or, take, length-append, length-replicate, length-take}
use Rattle.lists.specs.Lists.{over}
use Rattle.lists.proofs.Loops.{count_most}
use Rattle.lists.proofs.Marks.{zero_at}
use Rattle.locks.specs.declared.Lock.{Lock}
use Rattle.locks.specs.Lent.{Hierarchy, lock_for}
use Rattle.sweeps.proofs.Sweeps.{leaving_few}
use Rattle.grants.specs.Grants.{no_grants}
use Rattle.desk.specs.Steps.{free, enter_refusal, enter_if, enter_unless, enter_step, after_leaving, leave_refusal, leave_unless, leave_step}
use Rattle.runs.specs.Run.{Call, enter, get, put, add, leave, Step, lent_to, State, start, after_enter, after_get, after_put, after_add, listed, after_leave, move_call, move, Ran, also_ran, run}
use Rattle.history.specs.History.{granted_by, granted_in}
use Rattle.history.proofs.Grants.{grants_at, run_counts}
use Rattle.soundness.proofs.Orderly.{Shaped}
use Rattle.onward.specs.Onward.{Idle}
use Rattle.onward.proofs.Idle.{Fine, fresh_fine, move_fine}
use Rattle.onward.proofs.Onward.{add_at, grants_long, run_onward}

-- A STEP GRANTS 32 PARTIES at most
call_few : (K : Hierarchy) (c : Call) (s : State) → Shaped s.desk → length (granted_by (move_call K c s).event) ≤ 32
unfolding move_call after_enter after_get after_put after_add after_leave listed enter_step leave_step granted_by
call_few K (enter party mode names name_count) s f = by (enter_refusal K s.desk party names name_count)
  where
    l : Lock
    l = lock_for K mode (take name_count names)

    test : (b : Bool) → length (granted_by (after_enter party s (enter_if b s.desk party l)).event) ≤ 32
    test true = omega arith
    test false = omega arith

    by : (o : Option ℕ) → length (granted_by (after_enter party s (enter_unless o s.desk party l)).event) ≤ 32
    by (some k) = omega arith
    by none = test (free s.desk l)
call_few K (get party node l c) s f = omega arith
call_few K (put party node value l c) s f = omega arith
call_few K (add party node number l c) s f = omega arith
call_few K (leave party list) s f = by (leave_refusal K s.desk party list)
  where
    by : (o : Option ℕ) → length (granted_by (after_leave party s (leave_unless o s.desk party list)).event) ≤ 32
    by (some k) = omega arith
    by none =
        let granted : List ℕ = (after_leaving s.desk party).granted in
        omega (arith, length-take (length granted) (over granted list), leaving_few s.desk.entries s.desk.queue s.desk.waiting party f.queue)

-- so a list of steps 32 for each step
run_few : (xs : List Step) (s : State) → Fine s.desk → length (granted_in (run xs s).events) ≤ 32 * length xs
unfolding run also_ran granted_in move
run_few [] s f = omega arith
run_few (x ∷ xs) s f =
    let e = (move x s).event in
    let rest = run xs (move x s).state in
    omega (
      arith,
      length-append (granted_by e) (granted_in rest.events),
      call_few (lent_to x s.hierarchy) x.call s f.shaped,
      run_few xs (move x s).state (move_fine x s f),
    )

-- and no party's count comes to more
counts_few : (H : Hierarchy) (values : List ℕ) (xs : List Step) (party : ℕ) → party < 32 → get_or (run xs (start H values)).state.desk.grants party 0 ≤ 32 * length xs
counts_few H values xs party h =
    let events = (run xs (start H values)).events in
    let zeros = zero_at 32 party in
    let long = length-replicate {A = ℕ} 32 0 in
    let at = ap (λ (g : List ℕ). get_or g party 0) (run_counts xs (start H values)) ∙ grants_at (granted_in events) no_grants party (omega arith) (omega arith) in
    omega (arith, at, zeros, count_most (λ other. eqb other party) (granted_in events), run_few xs (start H values) (fresh_fine H))

-- THE THEOREMS
module _ (H : Hierarchy) (values : List ℕ) (xs : List Step) (idle : Idle (run xs (start H values)).state.desk) (ys : List Step) where
  abbrev first : Ran
  first = run xs (start H values)

  abbrev second : Ran
  second = run ys (start H first.state.values)

  abbrev whole : Ran
  whole = run (xs ++ ys) (start H values)

  -- a party's count of the steps up to there, and its count of the run of the others from a fresh desk, add up to its count of all, and stop where that does
  pub grants_add : (party : ℕ) → party < 32 → get_or whole.state.desk.grants party 0
      ≡ min (get_or first.state.desk.grants party 0 + get_or second.state.desk.grants party 0) 4294967295
  grants_add party h =
      ap (λ (r : Ran). get_or r.state.desk.grants party 0) (run_onward H values xs idle ys)
      ∙ add_at first.state.desk.grants second.state.desk.grants party (omega (arith, grants_long H values xs))
      (grants_long H values xs ∙ sym (grants_long H first.state.values ys))

  -- with at most 134,217,727 steps no count stops: each is the sum
  pub grants_sum : length xs + length ys ≤ 134217727 → (party : ℕ) → party < 32
      → get_or whole.state.desk.grants party 0 ≡ get_or first.state.desk.grants party 0 + get_or second.state.desk.grants party 0
  grants_sum few party h =
      omega (arith, grants_add party h, counts_few H values xs party h, counts_few H first.state.values ys party h)
