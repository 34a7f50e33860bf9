-- From what a step of the desk hands back to what the step of a file does. Assumes nothing.
use mathlib.Core.Path.{◌≡◌, refl, sym, ap, subst, ◌∙◌}
use mathlib.Core.List.{List, [], ◌∷◌}
use mathlib.Core.Bool.{Bool, true, false}
use mathlib.Core.Option.{Option, none, some}
use Prim.Native.Nat.{ℕ, suc}
use lib.Dec.{eqb}
use lib.ListN.{length, take, drop, replicate}
use lib.Seq.{take-append_seam}
use Rattle.lists.specs.Lists.{over}
use Rattle.lists.specs.Answer.{Answer, done, refused as denied}
use Rattle.blocks.specs.Record.{kind_of, party_in, mode_in, name_count_in, names_in, node_in, value_in}
use Rattle.desk.specs.declared.Desk.{Desk}
use Rattle.locks.specs.declared.Mode.{Mode}
use Rattle.std.specs.Prelude.{Result}
use Rattle.refusals.specs.declared.Refusal.{Refusal}
use Rattle.desk.specs.declared.EnterAnswer.{EnterAnswer}
use Rattle.desk.specs.declared.GetAnswer.{GetAnswer}
use Rattle.desk.specs.declared.Step.{Step as DeskStep}
use Rattle.locks.specs.Locks.{mode_numbered}
use Rattle.locks.specs.Lent.{Hierarchy}
use Rattle.desk.specs.Steps.{granted as admitted, Admission, waits as queued, EnterResult, GetResult, PutResult, LeaveResult, after_leaving}
use Rattle.desk.specs.Steps.{leave_unless, leave_refusal, enter_step, get_step, put_step, add_step, leave_step}
use Rattle.desk.specs.Answers.{Enters, Gets, Puts, Adds, Leaves, enter_meaning, get_meaning, put_meaning, add_meaning, leave_meaning}
use Rattle.runs.specs.Run.{lend, restored, Call, leave, lent_to, Event, stored as wrote, added as summed, State, Moved, after_enter, after_get, after_put, after_add, listed, after_leave, move_call, move, run, also_ran}
use Rattle.runs.proofs.Lends.{restored_full, put_length, add_length}
use Rattle.runs.proofs.Exact.{call_exact}
use Rattle.runs.proofs.Runs.{move_hierarchy}
use Rattle.replay.specs.declared.Outcome.{Outcome}
use Rattle.replay.specs.declared.Outcome.TheVariants.{Stored, Added, Refused}
use Rattle.replay.specs.declared.Step.{Step}
use Rattle.replay.specs.Replay.{enter_call, fresh_scratch, get_call, put_call, add_call, leave_call, call_of, step_of, StepAnswer, granted, waits, value, perform_all, answers_of}
use Rattle.replay.specs.Replay.{stored, added, left, refused, enter_line, get_line, put_line, add_line, leave_line, answer_in, state_of, is_step, perform_step, performed, perform_if, perform}
use Rattle.replay.specs.Answers.{step_meaning, outcome_of, parties_of, Performs}
use Rattle.replay.specs.Inner.{left_outcome, told, plain, PerformsCall, PerformsAny}

-- an answer's one form means it
form_means : (a : StepAnswer) → step_meaning (outcome_of a) (parties_of a) ≡ a
unfolding over
form_means (granted cover) = refl
form_means waits = refl
form_means (value number) = refl
form_means stored = refl
form_means added = refl
form_means (left parties) = ap left (take-append_seam parties (drop (length parties) (replicate 32 0)))
form_means (refused k) = refl

-- so that form is enough
performs : (r : Step) (values : List ℕ) (m : Moved) → r.desk ≡ m.state.desk → values ≡ m.state.values
    → r.outcome ≡ outcome_of (answer_in m.event) → r.parties ≡ parties_of (answer_in m.event) → Performs r values (performed m)
performs r values m d v o t =
    let a : StepAnswer = answer_in m.event in
    record {
      desk = d;
      values_after = v;
      meaning = ap (λ (x : Outcome). step_meaning x r.parties) o ∙ ap (step_meaning (outcome_of a)) t ∙ form_means a;
      outcome = o;
      parties = t;
    }

-- enter, get, put and add list no parties
enter_none : (a : Answer Admission) → parties_of (enter_line a) ≡ replicate 32 0
enter_none (done (admitted cover)) = refl
enter_none (done queued) = refl
enter_none (denied k) = refl

get_none : (a : Answer ℕ) → parties_of (get_line a) ≡ replicate 32 0
get_none (done number) = refl
get_none (denied k) = refl

put_none : (a : Answer (Unit {0})) → parties_of (put_line a) ≡ replicate 32 0
put_none (done _) = refl
put_none (denied k) = refl

add_none : (a : Answer (Unit {0})) → parties_of (add_line a) ≡ replicate 32 0
add_none (done _) = refl
add_none (denied k) = refl

-- what put and add answered
pub told_put : (a : Answer (Unit {0})) → told a Stored ≡ outcome_of (put_line a)
told_put (done _) = refl
told_put (denied k) = refl

pub told_add : (a : Answer (Unit {0})) → told a Added ≡ outcome_of (add_line a)
told_add (done _) = refl
told_add (denied k) = refl

-- leave's list, read back
module _ (d : Desk) (party : ℕ) where
  abbrev line : LeaveResult → StepAnswer
  line r = leave_line (listed r.list r.answer)

  leave_line_law : (o : Option ℕ) → let r = leave_unless o d party (replicate 32 0) in
      (left_outcome r.answer ≡ outcome_of (line r)) × (r.list ≡ parties_of (line r))
  unfolding over listed
  leave_line_law (some k) = (refl, refl)
  leave_line_law none =
      let granted : List ℕ = (after_leaving d party).granted in
      let same : take (length granted) (over granted (replicate 32 0)) ≡ granted = take-append_seam granted (drop (length granted) (replicate 32 0)) in
      (sym (ap (λ (t : List ℕ). outcome_of (left t)) same), sym (ap (λ (t : List ℕ). parties_of (left t)) same))

-- WHAT EACH STEP OF A FILE DOES, from what the step of the desk hands back and the fields that were read
module _ (H : Hierarchy) (d : Desk) (bytes : List ℕ) (party : ℕ) (at-party : party ≡ party_in bytes) where
  pub entered_performs : (mode : Mode) (names : List ℕ) (named : ℕ) → mode ≡ mode_numbered (mode_in bytes) → names ≡ names_in bytes → named ≡ name_count_in bytes
      → (r : DeskStep EnterAnswer) (o : Outcome) → Enters r (enter_step H d party mode names named) → o ≡ outcome_of (enter_line (enter_meaning r.answer))
      → PerformsAny (plain r.desk o) H d (enter_call bytes)
  unfolding move_call after_enter
  entered_performs mode names named em en ec r o e eo values =
      let x : EnterResult = enter_step H d party mode names named in
      let same : x ≡ enter_step H d (party_in bytes) (mode_numbered (mode_in bytes)) (names_in bytes) (name_count_in bytes) = rw (at-party, em, en, ec) refl in
      subst (λ (y : EnterResult). Performs (plain r.desk o) values (performed (after_enter (party_in bytes) (state_of H d values) y))) same
      (performs _ values (after_enter (party_in bytes) (state_of H d values) x) e.0 refl (eo ∙ ap (λ (a : Answer Admission). outcome_of (enter_line a)) e.1) (sym (enter_none x.answer)))

  pub got_performs : (node : ℕ) → node ≡ node_in bytes → (values scratch : List ℕ) (r : DeskStep GetAnswer) (o : Outcome) → Gets r scratch (get_step H d party node values fresh_scratch)
      → o ≡ outcome_of (get_line (get_meaning r.answer)) → PerformsCall (plain r.desk o) H d (get_call bytes) values values
  unfolding move_call after_get lend
  got_performs node en values scratch r o e eo =
      let x : GetResult = get_step H d party node values fresh_scratch in
      let same : x ≡ get_step H d (party_in bytes) (node_in bytes) values fresh_scratch = rw (at-party, en) refl in
      subst (λ (y : GetResult). Performs (plain r.desk o) values (performed (after_get (party_in bytes) (node_in bytes) (state_of H d values) y))) same
      (performs _ values (after_get (party_in bytes) (node_in bytes) (state_of H d values) x) e.0 refl (eo ∙ ap (λ (a : Answer ℕ). outcome_of (get_line a)) e.1) (sym (get_none x.answer)))

  -- put and add: what their step x leaves is what that of the record's fields, y, leaves
  changed_performs : (event : Answer (Unit {0}) → Event ℕ) → ((a : Answer (Unit {0})) → parties_of (answer_in (event a)) ≡ replicate 32 0)
      → (x y : PutResult) → x ≡ y → (values values' scratch : List ℕ) → length x.values ≡ length values
      → (next : Desk) (a : Answer (Unit {0})) (o : Outcome) → (next ≡ x.desk) × (a ≡ x.answer) × (values' ≡ x.values) × (scratch ≡ x.scratch) → o ≡ outcome_of (answer_in (event a))
      → Performs (plain next o) values' (performed (record { state = state_of H y.desk (restored values y.values); event = event y.answer }))
  changed_performs event none-listed x y same values values' scratch long next a o e eo =
      let after : PutResult → Moved = λ z. record { state = state_of H z.desk (restored values z.values); event = event z.answer } in
      subst (λ (z : PutResult). Performs (plain next o) values' (performed (after z))) same
      (performs _ values' (after x) e.0 (e.2 ∙ sym (restored_full values x.values long))
      (eo ∙ ap (λ (b : Answer (Unit {0})). outcome_of (answer_in (event b))) e.1) (sym (none-listed x.answer)))

  pub stored_performs : (node number : ℕ) → node ≡ node_in bytes → number ≡ value_in bytes → (values values' scratch : List ℕ) (r : DeskStep (Result (Unit {0}) Refusal)) (o : Outcome)
      → Puts r values' scratch (put_step H d party node number values fresh_scratch) → o ≡ outcome_of (put_line (put_meaning r.answer))
      → PerformsCall (plain r.desk o) H d (put_call bytes) values values'
  unfolding move_call after_put lend
  stored_performs node number en ev values values' scratch r o e eo =
      let same : put_step H d party node number values fresh_scratch ≡ put_step H d (party_in bytes) (node_in bytes) (value_in bytes) values fresh_scratch = rw (at-party, en, ev) refl in
      changed_performs (wrote (party_in bytes) (node_in bytes) (value_in bytes)) put_none _ _ same values values' scratch
      (put_length H d party node number values fresh_scratch) r.desk (put_meaning r.answer) o e eo

  pub added_performs : (node number : ℕ) → node ≡ node_in bytes → number ≡ value_in bytes → (values values' scratch : List ℕ) (r : DeskStep (Result (Unit {0}) Refusal)) (o : Outcome)
      → Adds r values' scratch (add_step H d party node number values fresh_scratch) → o ≡ outcome_of (add_line (add_meaning r.answer))
      → PerformsCall (plain r.desk o) H d (add_call bytes) values values'
  unfolding move_call after_add lend
  added_performs node number en ev values values' scratch r o e eo =
      let same : add_step H d party node number values fresh_scratch ≡ add_step H d (party_in bytes) (node_in bytes) (value_in bytes) values fresh_scratch = rw (at-party, en, ev) refl in
      changed_performs (summed (party_in bytes) (node_in bytes) (value_in bytes)) add_none _ _ same values values' scratch
      (add_length H d party node number values fresh_scratch) r.desk (add_meaning r.answer) o e eo

  pub left_performs : (r : DeskStep (Result ℕ Refusal)) (list : List ℕ) (o : Outcome) → Leaves r list (leave_step H d party (replicate 32 0)) → o ≡ left_outcome (leave_meaning r.answer)
      → PerformsAny (record { desk = r.desk; outcome = o; parties = list }) H d (leave_call bytes)
  unfolding move_call after_leave leave_step
  left_performs r list o e eo values =
      let form = leave_line_law d party (leave_refusal H d party (replicate 32 0)) in
      subst (λ (p : ℕ). PerformsCall (record { desk = r.desk; outcome = o; parties = list }) H d (leave p (replicate 32 0)) values values) at-party
      (performs _ values (move_call H (leave party (replicate 32 0)) (state_of H d values)) e.0 refl (eo ∙ ap left_outcome e.1 ∙ form.0) (e.2 ∙ form.1))

-- ONE STEP RECORD, by its kind
module _ (r : List ℕ) where
  pub call_3 : eqb (kind_of r) 3 ≡ true → call_of r ≡ enter_call r
  call_3 e = rw e refl

  pub call_4 : eqb (kind_of r) 3 ≡ false → eqb (kind_of r) 4 ≡ true → call_of r ≡ get_call r
  call_4 e f = rw (e, f) refl

  module _ (e : eqb (kind_of r) 3 ≡ false) (f : eqb (kind_of r) 4 ≡ false) where
    pub call_5 : eqb (kind_of r) 5 ≡ true → call_of r ≡ put_call r
    call_5 g = rw (e, f, g) refl

    module _ (g : eqb (kind_of r) 5 ≡ false) where
      pub call_6 : eqb (kind_of r) 6 ≡ true → call_of r ≡ leave_call r
      call_6 h = rw (e, f, g, h) refl

      pub call_7 : eqb (kind_of r) 6 ≡ false → call_of r ≡ add_call r
      call_7 h = rw (e, f, g, h) refl

  -- performing it is its call on the tables themselves
  pub performs_call : (s : State) (c : Call) → call_of r ≡ c → performed (move_call s.hierarchy c s) ≡ performed (perform_step s r)
  unfolding move lent_to lend
  performs_call s c e = ap (λ (x : Call). performed (move_call s.hierarchy x s)) (sym e) ∙ sym (ap performed (call_exact s.hierarchy (call_of r) s))

-- ANY BYTES. What is no step is refused with 4
pub performs_none : (H : Hierarchy) (d : Desk) (values bytes : List ℕ) → is_step bytes ≡ false
    → Performs (plain d (Refused 4)) values (perform (state_of H d values) bytes)
performs_none H d values bytes e =
    subst (λ (b : Bool). Performs (plain d (Refused 4)) values (perform_if b (state_of H d values) bytes)) (sym e)
    (record { desk = refl; values_after = refl; meaning = refl; outcome = refl; parties = refl })

-- a step is performed
pub performs_some : (s : State) (bytes values' : List ℕ) (r : Step) → is_step bytes ≡ true → Performs r values' (performed (perform_step s bytes)) → Performs r values' (perform s bytes)
performs_some s bytes values' r e f = subst (λ (b : Bool). Performs r values' (perform_if b s bytes)) (sym e) f

-- what `perform` promises of the desk and the values, as one state: the hierarchy stays
pub performs_state : (H : Hierarchy) (d : Desk) (values bytes values' : List ℕ) (r : Step) → Performs r values' (perform (state_of H d values) bytes)
    → state_of H r.desk values' ≡ (perform (state_of H d values) bytes).state
performs_state H d values bytes values' r = by (is_step bytes)
  where
    by : (b : Bool) → Performs r values' (perform_if b (state_of H d values) bytes) → state_of H r.desk values' ≡ (perform_if b (state_of H d values) bytes).state
    by true f =
        let after : State = (perform_step (state_of H d values) bytes).state in
        rw (f.desk, f.values_after) (ap (λ (K : Hierarchy). state_of K after.desk after.values) (sym (move_hierarchy (step_of bytes) (state_of H d values))))
    by false f = rw (f.desk, f.values_after) refl

-- as many answers as steps
pub answers_length : (rs : List (List ℕ)) (s : State) → length (answers_of (perform_all s rs)) ≡ length rs
unfolding run also_ran
answers_length [] s = refl
answers_length (r ∷ rs) s = ap suc (answers_length rs (perform_step s r).state)
