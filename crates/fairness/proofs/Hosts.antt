-- THEOREMS: nobody is passed over in a list of steps over one hierarchy, nor by a host's own calls, from their results alone (02, point 8). Assumes nothing.
use mathlib.Core.Path.{◌≡◌, refl, sym, ap, ◌∙◌, subst}
use mathlib.Core.List.{List, [], ◌∷◌, map}
use mathlib.Core.Bool.{true, false}
use Prim.Native.Nat.{ℕ, ◌<◌}
use lib.ListN.{length, take}
use mathlib.Core.Logic.{◌≢◌}
use Rattle.lists.specs.Lists.{count}
use Rattle.lists.specs.Answer.{done}
use Rattle.lists.proofs.Members.{In}
use Rattle.locks.specs.declared.Mode.{Mode}
use Rattle.locks.specs.declared.Stage.TheVariants.{Holding}
use Rattle.locks.specs.Lent.{Hierarchy, lock_for}
use Rattle.desk.specs.declared.Desk.{Desk}
use Rattle.desk.specs.declared.EnterAnswer.{EnterAnswer}
use Rattle.desk.specs.declared.Step.{Step as DeskStep}
use Rattle.desk.specs.declared.EnterAnswer.TheVariants.{Waits}
use Rattle.desk.specs.Desks.{stage_at}
use Rattle.desk.specs.Steps.{waits, enter_step, get_step, put_step, add_step}
use Rattle.desk.specs.Answers.{Enters, enter_meaning}
use Rattle.runs.specs.Run.{restored, Step, lent_to, entered, got, stored, added, State, after_enter, after_get, after_put, after_add, after_leave, move_call, move, Ran, also_ran, run}
use Rattle.history.specs.Results.{Result, enter as entering, get as getting, put as putting, add as adding, leave as leaving, Meets, desk_from, told_by, call_for}
use Rattle.history.proofs.Results.{lend_all, between, moved_alike, left_alike}
use Rattle.soundness.proofs.Orderly.{Shaped}
use Rattle.fairness.specs.AnySteps.{AnyStep, run_any, HostCall, CallsMeet, told_back, desk_after}
use Rattle.fairness.specs.Ahead.{ahead, visit_left}
use Rattle.fairness.proofs.Fairness.{no_visit_passed_over, visits_before}

-- A LIST OVER ONE HIERARCHY is such a list: its steps, each with the tables as it is lent them
lent_each : List Step → State → List AnyStep
lent_each [] s = []
lent_each (x ∷ xs) s = record { tables = lent_to x s.hierarchy; call = x.call } ∷ lent_each xs (move x s).state

run_any_law : (steps : List Step) (s : State) → run steps s ≡ run_any (lent_each steps s) s
unfolding run run_any lent_each move
run_any_law [] s = refl
run_any_law (x ∷ xs) s = ap (also_ran (move x s)) (run_any_law xs (move x s).state)

-- so nobody is passed over in it
pub run_passes_nobody : (K : Hierarchy) (d : Desk) → Shaped d → (p : ℕ) (mode : Mode) (names : List ℕ) (name_count : ℕ)
    → (enter_step K d p mode names name_count).answer ≡ done waits → (s : State) → s.desk ≡ (enter_step K d p mode names name_count).desk → (steps : List Step)
    → ((q : ℕ) → In q (ahead d) → visit_left (run steps s).events q ≡ true) → visit_left (run steps s).events p ≡ false
    → stage_at (run steps s).state.desk p ≡ Holding (lock_for K mode (take name_count names))
run_passes_nobody K d shape p mode names name_count answered s same steps =
    subst (λ (ran : Ran). ((q : ℕ) → In q (ahead d) → visit_left ran.events q ≡ true) → visit_left ran.events p ≡ false
    → stage_at ran.state.desk p ≡ Holding (lock_for K mode (take name_count names)))
    (sym (run_any_law steps s))
    (no_visit_passed_over K d shape p mode names name_count answered s same (lent_each steps s))

-- A HOST'S OWN CALL as a step, from a state with no values: what stands behind these is any buffer
step_of : HostCall → AnyStep
step_of c = record { tables = c.tables; call = call_for [] c.result }

-- one that meets its contract is that step
module _ (H K : Hierarchy) (d : Desk) where
  call_moves : (r : Result) → Meets K d [] r → move_call K (call_for [] r) (between H d []) ≡ record { state = between H (desk_from r) []; event = told_by r }
  unfolding move_call call_for after_enter after_get after_put after_add after_leave restored
  call_moves (entering party mode names name_count r) (e, a) = moved_alike H (sym e) refl (sym (ap (entered party) a))
  call_moves (getting party node buffer scratch r used) (l, (e, a, c, u)) =
      ap (λ (b : List ℕ). after_get party node (between H d []) (get_step K d party node b scratch)) (lend_all [] buffer refl)
      ∙ moved_alike H (sym e) refl (sym (ap (got party node) a))
  call_moves (putting party node value buffer scratch r after used) (l, (e, a, v, u)) =
      ap (λ (b : List ℕ). after_put party node value (between H d []) (put_step K d party node value b scratch)) (lend_all [] buffer refl)
      ∙ moved_alike H (sym e) refl (sym (ap (stored party node value) a))
  call_moves (adding party node number buffer scratch r after used) (l, (e, a, v, u)) =
      ap (λ (b : List ℕ). after_add party node number (between H d []) (add_step K d party node number b scratch)) (lend_all [] buffer refl)
      ∙ moved_alike H (sym e) refl (sym (ap (added party node number) a))
  call_moves (leaving party list r after) (e, a, v) = moved_alike H (sym e) refl (left_alike party (sym v) (sym a))

-- and so are all
calls_run : (H : Hierarchy) (cs : List HostCall) (d : Desk) → CallsMeet d cs
    → run_any (map step_of cs) (between H d []) ≡ record { state = between H (desk_after d cs) []; events = told_back cs }
unfolding CallsMeet step_of run_any also_ran desk_after
calls_run H [] d k = refl
calls_run H (c ∷ cs) d (m, k) = rw (call_moves H c.tables d c.result m, calls_run H cs (desk_from c.result) k) refl

-- THE THEOREM OF RESULTS: an enter hands back its desk and answers `Waits`, any calls follow, and each result meets the contract of its method on the desk that the call
-- before handed back, with any tables and buffers: where those ahead have left, by these very answers, the party holds at the last desk, unless it left
module _ (K : Hierarchy) (d : Desk) (shape : Shaped d) (p : ℕ) (mode : Mode) (names : List ℕ) (name_count : ℕ) (r : DeskStep EnterAnswer) (met : Enters r (enter_step K d p mode names name_count))
    (answered : r.answer ≡ Waits) (calls : List HostCall) (all_met : CallsMeet r.desk calls) where
  abbrev first : State
  first = between K r.desk []

  its_answer : (enter_step K d p mode names name_count).answer ≡ done waits
  its_answer = sym met.1 ∙ ap enter_meaning answered

  pub results_pass_nobody : ((q : ℕ) → In q (ahead d) → visit_left (told_back calls) q ≡ true) → visit_left (told_back calls) p ≡ false
      → stage_at (desk_after r.desk calls) p ≡ Holding (lock_for K mode (take name_count names))
  results_pass_nobody =
      subst (λ (ran : Ran). ((q : ℕ) → In q (ahead d) → visit_left ran.events q ≡ true) → visit_left ran.events p ≡ false
      → stage_at ran.state.desk p ≡ Holding (lock_for K mode (take name_count names)))
      (calls_run K calls r.desk all_met)
      (no_visit_passed_over K d shape p mode names name_count its_answer first met.0 (map step_of calls))

  -- and while it does not, and has not left, fewer than 31 of the visits ahead have left
  pub results_before_31 : visit_left (told_back calls) p ≡ false → stage_at (desk_after r.desk calls) p ≢ Holding (lock_for K mode (take name_count names))
      → count (visit_left (told_back calls)) (ahead d) < 31
  results_before_31 stays not_yet =
      (subst (λ (ran : Ran). visit_left ran.events p ≡ false → stage_at ran.state.desk p ≢ Holding (lock_for K mode (take name_count names))
      → (count (visit_left ran.events) (ahead d) < 31) × (count (visit_left ran.events) (ahead d) < length (ahead d)))
      (calls_run K calls r.desk all_met)
      (visits_before K d shape p mode names name_count its_answer first met.0 (map step_of calls)) stays not_yet).0
