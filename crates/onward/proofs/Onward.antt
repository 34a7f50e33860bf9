-- THEOREM: where nobody holds or waits after a list of steps, those behind it run as from a fresh desk, over the values as they stand. Assumes nothing.
use mathlib.Core.Path.{◌≡◌, refl, sym, ap, ◌∙◌}
use mathlib.Core.List.{List, [], ◌∷◌, ◌++◌}
use Prim.Native.Nat.{ℕ, zero, suc, ◌+◌, ◌<◌, min}
use native.Mathlib.Omega.{arith}
use lib.ListN.{length, get_or, length-replicate}
use lib.Seq.{ext_get_or}
use Rattle.lists.specs.Lists.{Below}
use Rattle.lists.proofs.Marks.{zero_at}
use Rattle.locks.specs.Lent.{Hierarchy}
use Rattle.grants.specs.Grants.{no_grants, count_grants}
use Rattle.grants.proofs.Counts.{grants_length, grants_below}
use Rattle.desk.specs.declared.Desk.{Desk}
use Rattle.runs.specs.Run.{Step, State, start, move, Ran, also_ran, run}
use Rattle.runs.proofs.Runs.{run_hierarchy}
use Rattle.history.specs.History.{granted_in}
use Rattle.history.proofs.Grants.{grants_at, run_counts}
use Rattle.onward.specs.Onward.{counted, add_grants, followed_by, Idle}
use Rattle.onward.proofs.Alike.{run_alike}
use Rattle.onward.proofs.Idle.{idle_fresh}

-- STEPS ONE AFTER THE OTHER, from any state: more steps go on from what the first leave
pub run_append : (xs ys : List Step) (s : State) → let first = run xs s in let more = run ys first.state in
    run (xs ++ ys) s ≡ record { state = more.state; events = first.events ++ more.events }
unfolding run also_ran
run_append [] ys s = refl
run_append (x ∷ xs) ys s = ap (also_ran (move x s)) (run_append xs ys (move x s).state)

-- COUNTS. The sum has as many as both
add_length : (grants more : List ℕ) → length grants ≡ length more → length (add_grants grants more) ≡ length grants
unfolding add_grants
add_length [] more e = refl
add_length (x ∷ grants) [] e = absurd (omega arith)
add_length (x ∷ grants) (y ∷ more) e = ap suc (add_length grants more (omega arith))

-- one of its counts
pub add_at : (grants more : List ℕ) (party : ℕ) → party < length grants → length grants ≡ length more
    → get_or (add_grants grants more) party 0 ≡ min (get_or grants party 0 + get_or more party 0) 4294967295
unfolding add_grants
add_at [] more party h e = absurd (omega arith)
add_at (x ∷ grants) [] party h e = absurd (omega arith)
add_at (x ∷ grants) (y ∷ more) zero h e = refl
add_at (x ∷ grants) (y ∷ more) (suc party) h e = add_at grants more party (omega arith) (omega arith)

-- grants counted from some counts on are those counted from none, added to them: a count that has stopped and one that goes on make one that stops
add_counted : (grants parties : List ℕ) → length grants ≡ 32 → Below 4294967296 grants → count_grants grants parties ≡ add_grants grants (count_grants no_grants parties)
add_counted grants parties long below =
    let fresh : length (count_grants no_grants parties) ≡ 32 = grants_length parties no_grants ∙ length-replicate {A = ℕ} 32 0 in
    let whole : length (count_grants grants parties) ≡ 32 = grants_length parties grants ∙ long in
    ext_get_or 0 (count_grants grants parties) (add_grants grants (count_grants no_grants parties))
    (omega (arith, add_length grants (count_grants no_grants parties) (omega arith)))
    (λ party h.
    let zeros = zero_at 32 party in
    let none = grants_at parties no_grants party (omega (arith, length-replicate {A = ℕ} 32 0)) (omega (arith, zeros)) in
    let all = grants_at parties grants party (omega arith) (omega (arith, below party)) in
    let both = add_at grants (count_grants no_grants parties) party (omega arith) (omega arith) in
    omega (arith, zeros, none, all, both))

-- A LIST FROM A FRESH DESK has 32 counts, each of 32 bits
module _ (H : Hierarchy) (values : List ℕ) (xs : List Step) where
  abbrev first : Ran
  first = run xs (start H values)

  abbrev grants : List ℕ
  grants = first.state.desk.grants

  pub grants_long : length grants ≡ 32
  grants_long = ap (length {A = ℕ}) (run_counts xs (start H values)) ∙ grants_length (granted_in first.events) no_grants ∙ length-replicate {A = ℕ} 32 0

  grants_small : Below 4294967296 grants
  grants_small = rw (run_counts xs (start H values)) (grants_below (granted_in first.events) no_grants (λ i. let z = zero_at 32 i in omega arith))

  -- WHERE NOBODY HOLDS OR WAITS after it
  module _ (idle : Idle first.state.desk) (ys : List Step) where
    -- more steps, from a fresh desk and the values as they stand
    abbrev second : Ran
    second = run ys (start H first.state.values)

    -- the state after the first steps is such a start, but for its counts
    first_state : first.state ≡ counted grants (start H first.state.values)
    first_state =
        ap (λ (K : Hierarchy). record { hierarchy = K; desk = first.state.desk; values = first.state.values }) (run_hierarchy xs (start H values))
        ∙ ap (λ (d : Desk). record { hierarchy = H; desk = d; values = first.state.values }) (idle_fresh H values xs idle)

    -- THE THEOREM: the run of all is the run of the first steps, followed by that of the others
    pub run_onward : run (xs ++ ys) (start H values) ≡ followed_by (run xs (start H values)) (run ys (start H (run xs (start H values)).state.values))
    run_onward =
        run_append xs ys (start H values)
        ∙ ap (λ (s : State). record { state = (run ys s).state; events = first.events ++ (run ys s).events }) first_state
        ∙ ap (λ (r : Ran). record { state = r.state; events = first.events ++ r.events }) (run_alike ys grants (start H first.state.values))
        ∙ ap (λ (g : List ℕ). record { state = counted g second.state; events = first.events ++ second.events })
        (add_counted grants (granted_in second.events) grants_long grants_small
        ∙ ap (add_grants grants) (sym (run_counts ys (start H first.state.values))))

    -- so the state after all is that after the others, but for the counts
    pub run_twice : let whole = run (xs ++ ys) (start H values) in whole.state ≡ counted whole.state.desk.grants (run ys (start H (run xs (start H values)).state.values)).state
    run_twice =
        let e = ap (λ (r : Ran). r.state) run_onward in
        e ∙ ap (λ (g : List ℕ). counted g second.state) (sym (ap (λ (s : State). s.desk.grants) e))
