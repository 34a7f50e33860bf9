-- THEOREM: over a tree, where each visit names one node, a file's second number is 0. Assumes nothing.
use mathlib.Core.Path.{◌≡◌, refl, sym, ap, ◌∙◌, subst}
use mathlib.Core.List.{List, [], ◌∷◌}
use mathlib.Core.Bool.{Bool, true, false, not}
use mathlib.Core.Option.{Option, none, some}
use Prim.Native.Nat.{ℕ, ◌*◌, ◌<◌}
use native.Mathlib.Nat.{le_refl}
use native.Mathlib.Omega.{arith}
use lib.Dec.{eqb}
use lib.ListN.{length, set, take, drop, replicate, length-set}
use lib.Seq.{take-take, take_all}
use Rattle.lists.specs.Lists.{one, keep}
use Rattle.lists.specs.Answer.{Answer, done, refused as denied, refusal}
use Rattle.lists.proofs.Bools.{bool, and_left, and_right}
use Rattle.hierarchy.specs.Hierarchy.{edges_of, hierarchy_checks}
use Rattle.intervals.specs.Intervals.{interval_table}
use Rattle.blocks.specs.Record.{kind_of, party_in, mode_in, name_count_in, names_in, node_in, value_in}
use Rattle.blocks.specs.File.{file_checks, file_records}
use Rattle.locks.specs.declared.Lock.{Lock}
use Rattle.locks.specs.declared.Stage.{Stage}
use Rattle.locks.specs.declared.Stage.TheVariants.{Out, Waiting, Holding}
use Rattle.locks.specs.Locks.{mode_numbered}
use Rattle.locks.specs.Lent.{Hierarchy, lock_for}
use Rattle.parties.specs.declared.Entry.{Entry}
use Rattle.parties.specs.Parties.{entry_of}
use Rattle.sweeps.specs.Sweeps.{Sweep}
use Rattle.desk.specs.declared.Desk.{Desk}
use Rattle.desk.specs.Desks.{queue_of}
use Rattle.desk.specs.Steps.{free, enter_own, enter_refusal, enter_if, enter_unless, enter_step, GetResult, get_step, PutResult, put_step, add_step, leave_refusal, leave_unless, leave_step}
use Rattle.desk.proofs.Facts.{step_facts}
use Rattle.runs.specs.Run.{Call, State, start, lend, restored, whole, after_enter, after_get, after_put, after_add, listed, after_leave, move_call, also_ran, run}
use Rattle.runs.proofs.Runs.{move_hierarchy}
use Rattle.history.proofs.Facts.{all_out, sweep_length}
use Rattle.soundness.proofs.Laws.{unchanged_get, unchanged_put, unchanged_add}
use Rattle.replay.specs.Replay.{StepAnswer, enter_line, get_line, put_line, add_line, enter_call, get_call, put_call, add_call, leave_call, call_of, step_of, state_of, Performed, performed, perform_step, perform_all, fresh_scratch}
use Rattle.replay.specs.Replay.{record_list, size_of, edge_table, edge_count_of, step_records, built_of, values_in, start_of}
use Rattle.replay.proofs.Records.{edge_table_length}
use Rattle.replay.proofs.Outcomes.{call_3, call_4, call_5, call_6, call_7, performs_call}
use Rattle.trees.specs.Tree.{one_parent_each}
use Rattle.needless.specs.Waits.{nothing_named, named_after, waits_of_step, waits_of_steps, records_unless, waits_of_records, waits_unless, waits_of}
use Rattle.needless_laws.specs.Visits.{one_node, visits_one, visits_name_one, OneEach, named_after_steps}
use Rattle.needless_laws.proofs.Names.{NamedBy, StageNamed, AllNamed, call_named, named_set, named_kept, sweep_named}
use Rattle.needless_laws.proofs.Ways.{BuiltTree, needless_free}

-- THE INVARIANT over a run: what each party that holds or waits has named is one node, and its lock has that node's interval
pub record Known (s : State) (named : List (List ℕ)) : Type 0 where
  pub entries : length s.desk.entries ≡ 32
  pub parties : length named ≡ 32
  pub locks : AllNamed s.hierarchy s.desk.entries named

-- a fresh desk, and nobody has named anything
pub start_known : (H : Hierarchy) (values : List ℕ) → Known (start H values) nothing_named
start_known H values = record { entries = refl; parties = refl; locks = λ party. rw (all_out 32 party) tt }

-- what a step shows: the invariant is kept, and over a tree its wait is not needless
record Seen (s : State) (named : List (List ℕ)) (r : List ℕ) (p : Performed) : Type 0 where
  known : Known p.state (named_after r p.answer named)
  none_needless : BuiltTree s.hierarchy → (waits_of_step s named r p.answer).needless ≡ 0

module _ (s : State) (named : List (List ℕ)) (known : Known s named) (r : List ℕ) where
  abbrev H : Hierarchy
  H = s.hierarchy

  abbrev d : Desk
  d = s.desk

  -- ENTER. The lock that it asks for
  abbrev asked : Lock
  asked = lock_for H (mode_numbered (mode_in r)) (take (name_count_in r) (names_in r))

  -- as many names as are counted are all that the record has
  all_names : take (name_count_in r) (names_in r) ≡ names_in r
  all_names = take-take (name_count_in r) (name_count_in r) (drop 4 r) (le_refl (name_count_in r))

  -- the party holds the lock, or waits for it, and has named its nodes
  stored_known : (d' : Desk) (x : Stage) → d'.entries ≡ set d.entries (party_in r) (entry_of x) → party_in r < 32 → StageNamed H x (names_in r)
      → Known (state_of H d' s.values) (set named (party_in r) (names_in r))
  stored_known d' x e below new =
      record {
        entries = ap length e ∙ length-set d.entries (party_in r) (entry_of x) ∙ known.entries;
        parties = length-set named (party_in r) (names_in r) ∙ known.parties;
        locks =
            subst (λ (es : List Entry). AllNamed H es (set named (party_in r) (names_in r))) (sym e)
            (named_set H d.entries named (party_in r) x (names_in r) (omega (arith, known.entries)) (omega (arith, known.parties)) new known.locks);
      }

  enter_seen : visits_one (performed (move_call H (enter_call r) s)).answer (names_in r) ≡ true → Seen s named r (performed (move_call H (enter_call r) s))
  unfolding move_call after_enter enter_step
  enter_seen o = by (enter_refusal H d (party_in r) (names_in r) (name_count_in r)) refl o
    where
      admitted : (b : Bool) → free d asked ≡ b → party_in r < 32 → NamedBy H asked (names_in r)
          → Seen s named r (performed (after_enter (party_in r) s (enter_if b d (party_in r) asked)))
      admitted true f below mine = record { known = stored_known _ (Holding asked) refl below mine; none_needless = λ t. refl }
      admitted false f below mine =
          record {
            known = stored_known _ (Waiting asked) refl below mine;
            none_needless = λ t. ap one (needless_free H t d named asked (names_in r) mine known.locks ∙ f);
          }

      one_named : (b : Bool) → visits_one (enter_line (enter_if b d (party_in r) asked).answer) (names_in r) ≡ true → one_node (take (name_count_in r) (names_in r)) ≡ true
      one_named true o = rw all_names o
      one_named false o = rw all_names o

      by : (x : Option ℕ) → enter_refusal H d (party_in r) (names_in r) (name_count_in r) ≡ x
          → visits_one (enter_line (enter_unless x d (party_in r) asked).answer) (names_in r) ≡ true
          → Seen s named r (performed (after_enter (party_in r) s (enter_unless x d (party_in r) asked)))
      by (some k) fine o = record { known = record { entries = known.entries; parties = known.parties; locks = known.locks }; none_needless = λ t. refl }
      by none fine o =
          admitted (free d asked) refl (step_facts H d (party_in r) _ (enter_own H d (party_in r) (names_in r) (name_count_in r)) fine).party_below
          (subst (NamedBy H asked) all_names
          (call_named H d (party_in r) (mode_numbered (mode_in r)) (names_in r) (name_count_in r) fine (one_named (free d asked) o)))

  -- GET, PUT AND ADD name nothing and leave the desk
  quiet_seen : (d' : Desk) (values : List ℕ) (a : StepAnswer) → d' ≡ d → named_after r a named ≡ named → (waits_of_step s named r a).needless ≡ 0
      → Seen s named r (record { state = state_of H d' values; answer = a })
  quiet_seen d' values a e q z =
      record {
        known = rw (e, q) (record { entries = known.entries; parties = known.parties; locks = known.locks });
        none_needless = λ t. z;
      }

  get_quiet : (a : Answer ℕ) → (named_after r (get_line a) named ≡ named) × ((waits_of_step s named r (get_line a)).needless ≡ 0)
  get_quiet (done v) = (refl, refl)
  get_quiet (denied k) = (refl, refl)

  put_quiet : (a : Answer (Unit {0})) → (named_after r (put_line a) named ≡ named) × ((waits_of_step s named r (put_line a)).needless ≡ 0)
  put_quiet (done v) = (refl, refl)
  put_quiet (denied k) = (refl, refl)

  add_quiet : (a : Answer (Unit {0})) → (named_after r (add_line a) named ≡ named) × ((waits_of_step s named r (add_line a)).needless ≡ 0)
  add_quiet (done v) = (refl, refl)
  add_quiet (denied k) = (refl, refl)

  get_seen : Seen s named r (performed (move_call H (get_call r) s))
  unfolding move_call after_get
  get_seen =
      let values : List ℕ = lend s.values whole in
      let g : GetResult = get_step H d (party_in r) (node_in r) values fresh_scratch in
      let q = get_quiet g.answer in
      quiet_seen g.desk s.values (get_line g.answer) (unchanged_get H d (party_in r) (node_in r) values fresh_scratch) q.0 q.1

  put_seen : Seen s named r (performed (move_call H (put_call r) s))
  unfolding move_call after_put
  put_seen =
      let values : List ℕ = lend s.values whole in
      let g : PutResult = put_step H d (party_in r) (node_in r) (value_in r) values fresh_scratch in
      let q = put_quiet g.answer in
      quiet_seen g.desk (restored s.values g.values) (put_line g.answer) (unchanged_put H d (party_in r) (node_in r) (value_in r) values fresh_scratch) q.0 q.1

  add_seen : Seen s named r (performed (move_call H (add_call r) s))
  unfolding move_call after_add
  add_seen =
      let values : List ℕ = lend s.values whole in
      let g : PutResult = add_step H d (party_in r) (node_in r) (value_in r) values fresh_scratch in
      let q = add_quiet g.answer in
      quiet_seen g.desk (restored s.values g.values) (add_line g.answer) (unchanged_add H d (party_in r) (node_in r) (value_in r) values fresh_scratch) q.0 q.1

  -- LEAVE, its pass included
  leave_seen : Seen s named r (performed (move_call H (leave_call r) s))
  unfolding move_call after_leave leave_step listed
  leave_seen = by (leave_refusal H d (party_in r) (replicate 32 0))
    where
      by : (x : Option ℕ) → Seen s named r (performed (after_leave (party_in r) s (leave_unless x d (party_in r) (replicate 32 0))))
      by (some k) = record { known = record { entries = known.entries; parties = known.parties; locks = known.locks }; none_needless = λ t. refl }
      by none =
          let others : List ℕ = keep (λ other. not (eqb other (party_in r))) (queue_of d) in
          let from : Sweep = record { entries = set d.entries (party_in r) (entry_of Out); stay = []; granted = [] } in
          record {
            known =
                record {
                  entries = sweep_length others from ∙ length-set d.entries (party_in r) (entry_of Out) ∙ known.entries;
                  parties = known.parties;
                  locks = sweep_named H named others from (named_kept H named d.entries (party_in r) Out tt known.locks);
                };
            none_needless = λ t. refl;
          }

  -- ANY STEP, by its kind
  step_seen : visits_one (performed (perform_step s r)).answer (names_in r) ≡ true → Seen s named r (performed (perform_step s r))
  step_seen =
      bool (eqb (kind_of r) 3)
      (λ a. by (enter_call r) (call_3 r a) enter_seen)
      (λ a. bool (eqb (kind_of r) 4)
      (λ b. by (get_call r) (call_4 r a b) (λ o. get_seen))
      (λ b. bool (eqb (kind_of r) 5)
      (λ c. by (put_call r) (call_5 r a b c) (λ o. put_seen))
      (λ c. bool (eqb (kind_of r) 6)
      (λ e. by (leave_call r) (call_6 r a b c e) (λ o. leave_seen))
      (λ e. by (add_call r) (call_7 r a b c e) (λ o. add_seen)))))
    where
      Shows : Performed → Type 0
      Shows p = visits_one p.answer (names_in r) ≡ true → Seen s named r p

      by : (c : Call) → call_of r ≡ c → Shows (performed (move_call H c s)) → Shows (performed (perform_step s r))
      by c e = subst Shows (performs_call r s c e)

-- THE STEPS one after the other keep the invariant, from a state that has it, leaves and their passes included
pub steps_known : (rs : List (List ℕ)) (s : State) (named : List (List ℕ)) → Known s named → visits_name_one s rs ≡ true
    → Known (perform_all s rs).state (named_after_steps s named rs)
unfolding run also_ran named_after_steps visits_name_one
steps_known [] s named known o = known
steps_known (r ∷ rs) s named known o =
    let p = performed (perform_step s r) in
    steps_known rs p.state (named_after r p.answer named)
    (step_seen s named known r (and_left (visits_one p.answer (names_in r)) (visits_name_one p.state rs) o)).known
    (and_right (visits_one p.answer (names_in r)) (visits_name_one p.state rs) o)

-- and over a tree none of their waits is needless
pub steps_needless : (rs : List (List ℕ)) (s : State) (named : List (List ℕ)) → BuiltTree s.hierarchy → Known s named → visits_name_one s rs ≡ true
    → (waits_of_steps s named rs).needless ≡ 0
unfolding waits_of_steps visits_name_one
steps_needless [] s named built known o = refl
steps_needless (r ∷ rs) s named built known o =
    let p = performed (perform_step s r) in
    let seen = step_seen s named known r (and_left (visits_one p.answer (names_in r)) (visits_name_one p.state rs) o) in
    let still : BuiltTree p.state.hierarchy = subst BuiltTree (sym (move_hierarchy (step_of r) s)) built in
    let rest = steps_needless rs p.state (named_after r p.answer named) still seen.known (and_right (visits_one p.answer (names_in r)) (visits_name_one p.state rs) o) in
    omega (arith, seen.none_needless built, rest)

-- A FILE'S RECORDS. Where each visit names one node, each lock has the interval of its one name when all steps are done (and so after each: the records up to it)
pub records_known : (rs : List (List ℕ)) → OneEach rs
    → Known (perform_all (start_of (built_of rs) rs) (step_records rs)).state (named_after_steps (start_of (built_of rs) rs) nothing_named (step_records rs))
records_known rs o = steps_known (step_records rs) (start_of (built_of rs) rs) nothing_named (start_known (built_of rs) (values_in (size_of rs) rs)) o

-- and over a tree no wait is needless
pub records_needless : (rs : List (List ℕ)) → one_parent_each (size_of rs) (edges_of (edge_table rs) (edge_count_of rs)) ≡ true → OneEach rs → (waits_of_records rs).needless ≡ 0
unfolding waits_of_records
records_needless rs each o = by (refusal (hierarchy_checks (size_of rs) (edge_table rs) (edge_count_of rs))) refl
  where
    -- its hierarchy has the intervals that building writes
    built : refusal (hierarchy_checks (size_of rs) (edge_table rs) (edge_count_of rs)) ≡ none → BuiltTree (built_of rs)
    built legal =
        record {
          tree = (legal, each);
          wrote = ap (interval_table (size_of rs)) (sym (take_all (2 * edge_count_of rs) (edge_table rs) (omega (arith, edge_table_length rs))));
        }

    by : (x : Option ℕ) → refusal (hierarchy_checks (size_of rs) (edge_table rs) (edge_count_of rs)) ≡ x → (records_unless x rs).needless ≡ 0
    by (some k) e = refl
    by none e =
        steps_needless (step_records rs) (start_of (built_of rs) rs) nothing_named (built e) (start_known (built_of rs) (values_in (size_of rs) rs)) o

-- THE THEOREM: of a file in whose hierarchy each node but the root has exactly one parent, and each visit of which names one node, no wait is needless
pub file_needless : (file : List ℕ) → let rs = record_list (file_records file) in
    one_parent_each (size_of rs) (edges_of (edge_table rs) (edge_count_of rs)) ≡ true → OneEach rs → (waits_of file).needless ≡ 0
unfolding waits_of
file_needless file each o = by (refusal (file_checks file))
  where
    by : (x : Option ℕ) → (waits_unless x file).needless ≡ 0
    by (some k) = refl
    by none = records_needless (record_list (file_records file)) each o
