-- THEOREM: steps do not look at the counts of grants: from a desk with other counts a list of steps is answered the same and leaves the same, but for the counts. Assumes nothing.
use mathlib.Core.Path.{◌≡◌, refl, sym, ap, ◌∙◌}
use mathlib.Core.List.{List, [], ◌∷◌}
use mathlib.Core.Bool.{Bool, true, false}
use mathlib.Core.Option.{Option, none, some}
use Prim.Native.Nat.{ℕ}
use lib.ListN.{length, get_or, take, drop}
use lib.Seq.{take-append_seam}
use Rattle.lists.specs.Lists.{over}
use Rattle.lists.specs.Answer.{refusal}
use Rattle.locks.specs.declared.Lock.{Lock}
use Rattle.locks.specs.Lent.{Hierarchy, lock_for}
use Rattle.grants.specs.Grants.{count_grants}
use Rattle.desk.specs.declared.Desk.{Desk}
use Rattle.desk.specs.Steps.{free, enter_refusal, enter_if, enter_unless, enter_step, value_checks, scratch_left, get_own, get_unless, get_step, put_own, put_unless, put_step}
use Rattle.desk.specs.Steps.{sum64, add_own, add_step, after_leaving, leave_refusal, leave_unless, leave_step}
use Rattle.runs.specs.Run.{lend, Call, enter, get, put, add, leave, Step, lent_to, State, Moved, listed, after_enter, after_get, after_put, after_add, after_leave, move_call, move}
use Rattle.runs.specs.Run.{Ran, also_ran, run}
use Rattle.history.specs.History.{granted_by, granted_in}
use Rattle.history.proofs.Grants.{run_counts}
use Rattle.onward.specs.Onward.{counting, counted}

-- ONE STEP: what it leaves and tells, from these counts instead of the desk's own
abbrev pub moved_from : List ℕ → Moved → Moved
moved_from g m = record { state = counted (count_grants g (granted_by m.event)) m.state; event = m.event }

module _ (g : List ℕ) (s : State) where
  abbrev d : Desk
  d = s.desk

  abbrev other : Desk
  other = counting g d

  enter_alike : (party : ℕ) (l : Lock) (o : Option ℕ) → after_enter party (counted g s) (enter_unless o other party l) ≡ moved_from g (after_enter party s (enter_unless o d party l))
  unfolding count_grants granted_by after_enter
  enter_alike party l (some k) = refl
  enter_alike party l none = by (free d l)
    where
      by : (b : Bool) → after_enter party (counted g s) (enter_if b other party l) ≡ moved_from g (after_enter party s (enter_if b d party l))
      by true = refl
      by false = refl

  get_alike : (party node value : ℕ) (scratch : List ℕ) (o : Option ℕ)
      → after_get party node (counted g s) (get_unless o other value scratch) ≡ moved_from g (after_get party node s (get_unless o d value scratch))
  unfolding count_grants granted_by after_get
  get_alike party node value scratch (some k) = refl
  get_alike party node value scratch none = refl

  put_alike : (party node value : ℕ) (values scratch : List ℕ) (o : Option ℕ)
      → after_put party node value (counted g s) (put_unless o other node value values scratch) ≡ moved_from g (after_put party node value s (put_unless o d node value values scratch))
  unfolding count_grants granted_by after_put
  put_alike party node value values scratch (some k) = refl
  put_alike party node value values scratch none = refl

  add_alike : (party node number sum : ℕ) (values scratch : List ℕ) (o : Option ℕ)
      → after_add party node number (counted g s) (put_unless o other node sum values scratch) ≡ moved_from g (after_add party node number s (put_unless o d node sum values scratch))
  unfolding count_grants granted_by after_add
  add_alike party node number sum values scratch (some k) = refl
  add_alike party node number sum values scratch none = refl

  leave_alike : (party : ℕ) (list : List ℕ) (o : Option ℕ) → after_leave party (counted g s) (leave_unless o other party list) ≡ moved_from g (after_leave party s (leave_unless o d party list))
  unfolding count_grants granted_by after_leave listed over
  leave_alike party list (some k) = refl
  leave_alike party list none =
      let m : Moved = after_leave party s (leave_unless none d party list) in
      let granted : List ℕ = (after_leaving d party).granted in
      ap (λ (parties : List ℕ). record { state = counted (count_grants g parties) m.state; event = m.event }) (sym (take-append_seam granted (drop (length granted) list)))

  call_alike : (K : Hierarchy) (c : Call) → move_call K c (counted g s) ≡ moved_from g (move_call K c s)
  unfolding move_call enter_step get_step put_step add_step leave_step
  call_alike K (enter party mode names name_count) = enter_alike party (lock_for K mode (take name_count names)) (enter_refusal K d party names name_count)
  call_alike K (get party node l c) =
      let values : List ℕ = lend s.values l in
      get_alike party node (get_or values node 0) (scratch_left K values c) (refusal (value_checks K d party node values c (get_own d party)))
  call_alike K (put party node value l c) =
      let values : List ℕ = lend s.values l in
      put_alike party node value values (scratch_left K values c) (refusal (value_checks K d party node values c (put_own d party)))
  call_alike K (add party node number l c) =
      let values : List ℕ = lend s.values l in
      add_alike party node number (sum64 (get_or values node 0) number) values (scratch_left K values c) (refusal (value_checks K d party node values c (add_own d party)))
  call_alike K (leave party list) = leave_alike party list (leave_refusal K d party list)

-- from a desk with other counts the step is answered the same and leaves the same, but for the counts: the parties granted are counted from those
pub move_alike : (x : Step) (g : List ℕ) (s : State) → move x (counted g s) ≡ moved_from g (move x s)
unfolding move
move_alike x g s = call_alike g s (lent_to x s.hierarchy) x.call

-- A LIST OF STEPS: what it leaves and tells, from these counts
abbrev pub ran_from : List ℕ → Ran → Ran
ran_from g ran = record { state = counted (count_grants g (granted_in ran.events)) ran.state; events = ran.events }

-- it goes on alike, from any state, whatever the steps are lent
pub run_alike : (xs : List Step) (g : List ℕ) (s : State) → run xs (counted g s) ≡ ran_from g (run xs s)
unfolding run also_ran count_grants granted_in
run_alike [] g s = refl
run_alike (x ∷ xs) g s =
    let m : Moved = move x s in
    let h : List ℕ = count_grants g (granted_by m.event) in
    let rest : Ran = run xs m.state in
    let same =
    ap (λ (n : Moved). also_ran n (run xs n.state)) (move_alike x g s)
    ∙ ap (also_ran (moved_from g m)) (run_alike xs h m.state) in
    same
    ∙ ap (λ (grants : List ℕ). record { state = counted grants rest.state; events = m.event ∷ rest.events })
    (ap (λ (r : Ran). r.state.desk.grants) (sym same)
    ∙ run_counts (x ∷ xs) (counted g s)
    ∙ ap (λ (r : Ran). count_grants g (granted_in r.events)) same)
