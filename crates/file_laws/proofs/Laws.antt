-- The values after running an accepted file equal serial execution of its book: demand 3 for the run of its steps' calls. Assumes nothing.
use mathlib.Core.Path.{◌≡◌, refl, sym, ap, subst, ◌∙◌}
use mathlib.Core.List.{List, [], ◌∷◌, map}
use mathlib.Core.Bool.{false, false≢true}
use mathlib.Core.Option.{Option, none, some}
use Prim.Native.Nat.{ℕ, ◌*◌}
use native.Mathlib.Omega.{arith}
use lib.Dec.{eqb, ltb}
use lib.ListN.{length, take, drop, replicate, length-replicate}
use lib.Seq.{take_all, take_at}
use borrow.Author.Tests.{le-ltb}
use Rattle.lists.specs.Lists.{over}
use Rattle.lists.specs.Answer.{Answer, done, refused as denied, refusal, answer_of, room_after, is_done}
use Rattle.hierarchy.specs.Hierarchy.{edges_of, hierarchy_checks}
use Rattle.intervals.specs.Intervals.{interval_table}
use Rattle.intervals.specs.Build.{build_short, build_refusal, build_step}
use Rattle.lists.proofs.Bools.{bool}
use Rattle.lists.proofs.Refusals.{refused_later}
use Rattle.interval_laws.proofs.Laws.{built_length}
use Rattle.blocks.specs.Record.{kind_of, party_in, node_in, value_in}
use Rattle.blocks.specs.File.{file_checks, file_records}
use Rattle.locks.specs.Lent.{Hierarchy}
use Rattle.desk.specs.Steps.{granted as admitted, Admission, waits as queued}
use Rattle.runs.specs.Run.{Call, Event, entered, got, stored, added, left, State, Moved, after_enter, after_get, after_put, after_add, after_leave, move_call, move, also_ran, run}
use Rattle.replay.specs.Replay.{enter_call, get_call, put_call, leave_call, add_call, call_of, step_of, enter_line, get_line, put_line, add_line, leave_line, answer_in, perform_step, FileRun, perform_all}
use Rattle.replay.specs.Replay.{answers_of, built_of, values_in, start_of, file_run, size_of, step_records, edge_table, edge_count_of, run_unless, run_records, record_list, run_file, file_unless}
use Rattle.replay.proofs.Outcomes.{call_3, call_4, call_5, call_6, call_7}
use Rattle.replay.proofs.Records.{edge_table_length, values_length}
use Rattle.history.specs.Serial.{Built, SerialSteps}
use Rattle.history.proofs.Serializable.{serializable}
use Rattle.file_laws.specs.Files.{refused_event, event_of, events_of, FileSerial}

-- THE EVENT OF A STEP is that of its record and its answer
module _ (r : List ℕ) where
  enter_event : call_of r ≡ enter_call r → (a : Answer Admission) → event_of r (enter_line a) ≡ entered (party_in r) a
  enter_event e (done (admitted cover)) = refl
  enter_event e (done queued) = refl
  enter_event e (denied k) = ap (λ (c : Call). refused_event c k) e

  get_event : call_of r ≡ get_call r → (a : Answer ℕ) → event_of r (get_line a) ≡ got (party_in r) (node_in r) a
  get_event e (done number) = refl
  get_event e (denied k) = ap (λ (c : Call). refused_event c k) e

  put_event : call_of r ≡ put_call r → (a : Answer (Unit {0})) → event_of r (put_line a) ≡ stored (party_in r) (node_in r) (value_in r) a
  put_event e (done _) = refl
  put_event e (denied k) = ap (λ (c : Call). refused_event c k) e

  add_event : call_of r ≡ add_call r → (a : Answer (Unit {0})) → event_of r (add_line a) ≡ added (party_in r) (node_in r) (value_in r) a
  add_event e (done _) = refl
  add_event e (denied k) = ap (λ (c : Call). refused_event c k) e

  leave_event : call_of r ≡ leave_call r → (a : Answer (List ℕ)) → event_of r (leave_line a) ≡ left (party_in r) a
  leave_event e (done parties) = refl
  leave_event e (denied k) = ap (λ (c : Call). refused_event c k) e

  -- by its kind
  module _ (K : Hierarchy) (s : State) where
    abbrev Told : Call → Type 0
    Told c = event_of r (answer_in (move_call K c s).event) ≡ (move_call K c s).event

    told_by_law : (c : Call) → (call_of r ≡ c → Told c) → call_of r ≡ c → Told (call_of r)
    told_by_law c t e = subst Told (sym e) (t e)

    call_event : Told (call_of r)
    unfolding move_call after_enter after_get after_put after_add after_leave
    call_event =
        bool (eqb (kind_of r) 3)
        (λ a. told_by_law (enter_call r) (λ e. enter_event e _) (call_3 r a))
        (λ a. bool (eqb (kind_of r) 4)
        (λ b. told_by_law (get_call r) (λ e. get_event e _) (call_4 r a b))
        (λ b. bool (eqb (kind_of r) 5)
        (λ c. told_by_law (put_call r) (λ e. put_event e _) (call_5 r a b c))
        (λ c. bool (eqb (kind_of r) 6)
        (λ d. told_by_law (leave_call r) (λ e. leave_event e _) (call_6 r a b c d))
        (λ d. told_by_law (add_call r) (λ e. add_event e _) (call_7 r a b c d)))))

-- of all steps of a file: what the book is fed are the events of the run, in which the record's kind says which step it is
pub events_are : (rs : List (List ℕ)) (s : State) → (perform_all s rs).events ≡ events_of rs (answers_of (perform_all s rs))
unfolding run also_ran move events_of
events_are [] s = refl
events_are (r ∷ rs) s =
    let m : Moved = perform_step s r in
    ap (◌∷ (perform_all m.state rs).events) (sym (call_event r _ s)) ∙ ap (event_of r (answer_in m.event) ∷◌) (events_are rs m.state)

-- an answer is done with one thing only, and not refused
module _ {A : Type 0} where
  not_done : (k : ℕ) (x : A) → denied k ≡ done x → ⊥
  not_done k x e = false≢true (ap is_done e)

  abbrev given : A → Answer A → A
  given other (done x) = x
  given other (denied k) = other

  done_same : (x y : A) → done x ≡ done y → x ≡ y
  done_same x y e = ap (given x) e

-- THE HIERARCHY of a file that is not refused is a built one
module _ (rs : List (List ℕ)) where
  full_table : edges_of (edge_table rs) (edge_count_of rs) ≡ edge_table rs
  full_table = take_all (2 * edge_count_of rs) (edge_table rs) (omega (arith, edge_table_length rs))

  module _ (e : refusal (hierarchy_checks (size_of rs) (edge_table rs) (edge_count_of rs)) ≡ none) where
    -- building is lent just what it needs
    abbrev places : List ℕ
    places = replicate (2 * size_of rs) 0

    abbrev scratch : List ℕ
    scratch = replicate 512 0

    not_short : build_short (size_of rs) (edge_table rs) (edge_count_of rs) places scratch ≡ false
    not_short =
        let a : ltb (length places) (2 * size_of rs) ≡ false = le-ltb (length places) (2 * size_of rs) (omega (arith, length-replicate {A = ℕ} (2 * size_of rs) 0)) in
        let b : ltb (length (edge_table rs)) (2 * edge_count_of rs) ≡ false = le-ltb (length (edge_table rs)) (2 * edge_count_of rs) (omega (arith, edge_table_length rs)) in
        let c : ltb (length scratch) 512 ≡ false = le-ltb (length scratch) 512 (omega (arith, length-replicate {A = ℕ} 512 0)) in
        rw (a, b, c) refl

    accepted : build_refusal (size_of rs) (edge_table rs) (edge_count_of rs) places scratch ≡ none
    accepted = refused_later _ _ not_short ∙ e

    file_built : Built (built_of rs)
    unfolding build_step over
    file_built =
        let table : List ℕ = interval_table (size_of rs) (edge_table rs) in
        record {
          places = places;
          scratch = scratch;
          took = ap (λ (o : Option ℕ). answer_of o tt) accepted;
          wrote =
              sym (ap (λ (o : Option ℕ). take (2 * size_of rs) (room_after o (interval_table (size_of rs) (edges_of (edge_table rs) (edge_count_of rs))) places)) accepted
              ∙ ap (λ (t : List ℕ). take (2 * size_of rs) (over (interval_table (size_of rs) t) places)) full_table
              ∙ take_at table (drop (length table) places) (2 * size_of rs) (built_length (size_of rs) (edge_table rs)));
        }

    -- there are as many values as nodes
    sized : length (values_in (size_of rs) rs) ≡ size_of rs
    sized = values_length rs (replicate (size_of rs) 0) ∙ length-replicate (size_of rs) 0

    accepted_serial : FileSerial rs (file_run (perform_all (start_of (built_of rs) rs) (step_records rs)))
    accepted_serial =
        let s : State = start_of (built_of rs) rs in
        subst (λ (events : List (Event ℕ)). SerialSteps (values_in (size_of rs) rs) events (perform_all s (step_records rs)).state.values) (events_are (step_records rs) s)
        (serializable (built_of rs) file_built (values_in (size_of rs) rs) sized (map step_of (step_records rs)))

  -- of the records of a file
  pub records_serial : (run : FileRun) → run_records rs ≡ done run → FileSerial rs run
  unfolding run_records
  records_serial run e = by (refusal (hierarchy_checks (size_of rs) (edge_table rs) (edge_count_of rs))) refl e
    where
      by : (o : Option ℕ) → refusal (hierarchy_checks (size_of rs) (edge_table rs) (edge_count_of rs)) ≡ o → run_unless o rs ≡ done run → FileSerial rs run
      by (some k) f g = absurd (not_done k run g)
      by none f g = subst (FileSerial rs) (done_same _ run g) (accepted_serial f)

-- THE LAW: the values after running an accepted file, and what its gets answered, equal serial execution of its book
pub file_serial : (file : List ℕ) (run : FileRun) → run_file file ≡ done run → FileSerial (record_list (file_records file)) run
unfolding run_file
file_serial file run e = by (refusal (file_checks file)) e
  where
    by : (o : Option ℕ) → file_unless o file ≡ done run → FileSerial (record_list (file_records file)) run
    by (some k) g = absurd (not_done k run g)
    by none g = records_serial (record_list (file_records file)) run g
