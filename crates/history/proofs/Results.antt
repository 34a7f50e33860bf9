-- DEMAND 3 of a host's own list of calls, from its results alone: `results_serial`, and `results_demand_3` from zeros; and that each run is such a list:
-- `run_made`. Assumes nothing.
use mathlib.Core.Path.{◌≡◌, refl, sym, ap, ap₂, subst, ◌∙◌}
use mathlib.Core.Logic.{◌⊎◌, inl, inr}
use mathlib.Core.List.{List, [], ◌∷◌, ◌++◌}
use mathlib.Core.Bool.{Bool, true, false, ◌||◌}
use mathlib.Core.Option.{Option}
use Prim.Native.Nat.{ℕ, ◌*◌, ◌≤◌, ◌<◌}
use native.Mathlib.Omega.{arith}
use lib.Dec.{eqb, ltb}
use Rattle.std.specs.Prelude.{cond, Result as Outcome, Ok, Err}
use lib.ListN.{length, get_or, take, drop, replicate, length-take, length-replicate, drop_of_length-le, take-append-drop}
use lib.Seq.{take-length, take-take, take-append_seam, length-take-le}
use borrow.Author.Tests.{eqb-true, ltb-true, ltb-false, lt-ltb, le-ltb}
use Rattle.lists.specs.Lists.{over}
use Rattle.lists.specs.Answer.{Answer, done, refused}
use Rattle.lists.proofs.Bools.{bool}
use Rattle.lists.proofs.Refusals.{refused_here}
use Rattle.hierarchy.specs.Hierarchy.{edges_of}
use Rattle.interval_laws.proofs.Laws.{taken}
use Rattle.locks.specs.declared.Mode.{Mode}
use Rattle.locks.specs.Lent.{Hierarchy, lent, tables_short, lock_for}
use Rattle.desk.specs.declared.Desk.{Desk}
use Rattle.refusals.specs.declared.Refusal.{Refusal}
use Rattle.refusals.specs.Refusals.{meaning}
use Rattle.desk.specs.declared.EnterAnswer.{EnterAnswer}
use Rattle.desk.specs.declared.EnterAnswer.TheVariants.{Granted, Waits, Refused as EnterRefused}
use Rattle.desk.specs.declared.GetAnswer.{GetAnswer}
use Rattle.desk.specs.declared.GetAnswer.TheVariants.{Value, Waiting, Refused as GetRefused}
use Rattle.desk.specs.Desks.{fresh_desk}
use Rattle.desk.specs.Steps.{Admission, granted, waits, PutResult, values_short, search_after}
use Rattle.desk.specs.Steps.{enter_unless, enter_step, get_unless, get_step, put_unless, put_step, sum64, add_step, leave_unless, leave_step}
use Rattle.desk.specs.Answers.{enter_meaning, get_meaning, get_case}
use Rattle.runs.specs.Run.{Lending, whole, part, lend, restored, Call, enter, get, put, add, leave, Step, lent_to, Event, entered, got, stored, added, left, State, start}
use Rattle.runs.specs.Run.{Moved, after_enter, after_get, after_put, after_add, listed, after_leave, move_call, move, also_ran, run}
use Rattle.runs.proofs.Lends.{restored_lend, put_length, add_length}
use Rattle.history.specs.Serial.{Built, Serial, SerialSteps}
use Rattle.history.specs.Results.{LentOf, left_in, Result, enter as entering, get as getting, put as putting, add as adding, leave as leaving, Made, Meets}
use Rattle.history.specs.Results.{desk_from, values_from, told_by, AllMeet, told_by_all, last_desk, last_values, lending, call_for, step_for, steps_for}
use Rattle.history.proofs.Numbers.{refusal_of, Numbered, enter_numbered, get_numbered, put_numbered, add_numbered, leave_numbered}
use Rattle.history.proofs.Nested.{built_nested}
use Rattle.history.proofs.Serializable.{serializable}

-- BUFFERS. The table itself, and anything behind it
pub lend_all : (t b : List ℕ) → take (length t) b ≡ t → lend t (lending t b) ≡ b
unfolding lend
lend_all t b e =
    ap (λ (x : List ℕ). take (length b) (x ++ drop (length t) b)) (sym e) ∙ ap (take (length b)) (take-append-drop (length t) b) ∙ take-length b

-- or as many numbers
lend_short : (t b : List ℕ) → length b < length t → length (lend t (lending t b)) < length t
unfolding lend
lend_short t b h = omega (arith, length-take (length b) (t ++ drop (length t) b))

-- whatever a step of a run is lent is lent of the table
lend_lent : (t : List ℕ) (l : Lending) → LentOf t (lend t l)
lend_lent t l = bool (ltb (length (lend t l)) (length t)) (λ e. inl (ltb-true _ _ e)) (λ e. inr (long l (ltb-false (length (lend t l)) (length t) e)))
  where
    long : (x : Lending) → length t ≤ length (lend t x) → take (length t) (lend t x) ≡ t
    long whole h = unfold lend in take-length t
    long (part places behind) h =
        unfold lend in
        (let k : length t ≤ places = omega (arith, length-take places (t ++ behind)) in
        take-take (length t) places (t ++ behind) k ∙ take-append_seam t behind)

-- what was lent and not changed leaves the table
left_same : (t b : List ℕ) → LentOf t b → left_in t b ≡ t
left_same t b (inl h) = rw (lt-ltb (length b) (length t) h) refl
left_same t b (inr e) =
    bool (ltb (length b) (length t)) (λ s. rw s refl) (λ s. rw s e)

-- what is long enough is restored
left_restored : (t b : List ℕ) → length t ≤ length b → restored t b ≡ left_in t b
unfolding restored over
left_restored t b h =
    rw (le-ltb (length b) (length t) h)
    (ap (λ (x : List ℕ). take (length t) (b ++ x)) (drop_of_length-le t h) ∙ ap (take (length t)) (append_none b))
  where
    append_none : (x : List ℕ) → x ++ [] ≡ x
    append_none [] = refl
    append_none (y ∷ x) = ap (y ∷◌) (append_none x)

-- LENT TOO LITTLE: each step is refused with 1, and leaves all as it was
module _ (K : Hierarchy) (d : Desk) (party : ℕ) where
  short_enter : (mode : Mode) (names : List ℕ) (name_count : ℕ) → tables_short K ≡ true
      → enter_step K d party mode names name_count ≡ record { desk = d; answer = refused 1 }
  unfolding enter_step
  short_enter mode names name_count e =
      ap (λ (o : Option ℕ). enter_unless o d party (lock_for K mode (take name_count names))) (refused_here _ _ (rw e refl))

  pub short_get : (node : ℕ) (values scratch : List ℕ) → (tables_short K || values_short K values scratch) ≡ true
      → get_step K d party node values scratch ≡ record { desk = d; scratch = scratch; answer = refused 1 }
  unfolding get_step
  short_get node values scratch e =
      ap₂ (λ (o : Option ℕ) (b : Bool). get_unless o d (get_or values node 0) (search_after b scratch)) (refused_here _ _ e) e

  pub short_put : (node value : ℕ) (values scratch : List ℕ) → (tables_short K || values_short K values scratch) ≡ true
      → put_step K d party node value values scratch ≡ record { desk = d; values = values; scratch = scratch; answer = refused 1 }
  unfolding put_step
  short_put node value values scratch e =
      ap₂ (λ (o : Option ℕ) (b : Bool). put_unless o d node value values (search_after b scratch)) (refused_here _ _ e) e

  pub short_add : (node number : ℕ) (values scratch : List ℕ) → (tables_short K || values_short K values scratch) ≡ true
      → add_step K d party node number values scratch ≡ record { desk = d; values = values; scratch = scratch; answer = refused 1 }
  unfolding add_step
  short_add node number values scratch e =
      ap₂ (λ (o : Option ℕ) (b : Bool). put_unless o d node (sum64 (get_or values node 0) number) values (search_after b scratch)) (refused_here _ _ e) e

  short_leave : (list : List ℕ) → tables_short K ≡ true → leave_step K d party list ≡ record { desk = d; list = list; answer = refused 1 }
  unfolding leave_step
  short_leave list e = ap (λ (o : Option ℕ). leave_unless o d party list) (refused_here _ _ (rw e refl))

-- TWO HIERARCHIES AS LENT that no step tells apart: they are one, or each is too short
abbrev Alike : Hierarchy → Hierarchy → Type 0
Alike K K' = (K ≡ K') ⊎ ((tables_short K ≡ true) × (tables_short K' ≡ true))

-- or by its second part
pub or_second : (a b : Bool) → b ≡ true → (a || b) ≡ true
or_second true b e = refl
or_second false b e = e

module _ (H : Hierarchy) (two_each : length H.intervals ≡ 2 * H.n) (all_edges : length (edges_of H.edges H.edge_count) ≡ 2 * H.edge_count) where
  abbrev es : List ℕ
  es = edges_of H.edges H.edge_count

  tables_alike : (i e : List ℕ) → LentOf H.intervals i → LentOf es e
      → Alike (lent H.n i e H.edge_count) (lent H.n (lend H.intervals (lending H.intervals i)) (lend es (lending es e)) H.edge_count)
  tables_alike i e (inl h) q =
      let few = lend_short H.intervals i h in
      let a : ltb (length i) (2 * H.n) ≡ true = lt-ltb (length i) (2 * H.n) (omega (arith, h, two_each)) in
      let b : ltb (length (lend H.intervals (lending H.intervals i))) (2 * H.n) ≡ true = lt-ltb _ (2 * H.n) (omega (arith, few, two_each)) in
      inr (rw a refl, rw b refl)
  tables_alike i e (inr p) (inl h) =
      let few = lend_short es e h in
      let a : ltb (length e) (2 * H.edge_count) ≡ true = lt-ltb (length e) (2 * H.edge_count) (omega (arith, h, all_edges)) in
      let b : ltb (length (lend es (lending es e))) (2 * H.edge_count) ≡ true = lt-ltb _ (2 * H.edge_count) (omega (arith, few, all_edges)) in
      inr (or_second (ltb (length i) (2 * H.n)) _ a, or_second (ltb (length (lend H.intervals (lending H.intervals i))) (2 * H.n)) _ b)
  tables_alike i e (inr p) (inr q) = inl (rw (lend_all H.intervals i p, lend_all es e q) refl)

module _ (K K' : Hierarchy) (alike : Alike K K') (d : Desk) (party : ℕ) where
  enter_alike : (mode : Mode) (names : List ℕ) (name_count : ℕ) → enter_step K' d party mode names name_count ≡ enter_step K d party mode names name_count
  enter_alike mode names name_count = by alike
    where
      by : Alike K K' → enter_step K' d party mode names name_count ≡ enter_step K d party mode names name_count
      by (inl e) = ap (λ (X : Hierarchy). enter_step X d party mode names name_count) (sym e)
      by (inr (a, b)) = short_enter K' d party mode names name_count b ∙ sym (short_enter K d party mode names name_count a)

  leave_alike : (list : List ℕ) → leave_step K' d party list ≡ leave_step K d party list
  leave_alike list = by alike
    where
      by : Alike K K' → leave_step K' d party list ≡ leave_step K d party list
      by (inl e) = ap (λ (X : Hierarchy). leave_step X d party list) (sym e)
      by (inr (a, b)) = short_leave K' d party list b ∙ sym (short_leave K d party list a)

  -- and neither tells get, put and add what the values are where they are too short
  module _ (values buffer scratch : List ℕ) (lent_of : LentOf values buffer) (sized : length values ≡ K.n) (same-n : K'.n ≡ K.n) where
    abbrev buffer' : List ℕ
    buffer' = lend values (lending values buffer)

    -- both are refused with 1, or they are one
    abbrev Either : Type 0
    Either = (((tables_short K || values_short K buffer scratch) ≡ true) × ((tables_short K' || values_short K' buffer' scratch) ≡ true))
        ⊎ ((K ≡ K') × (buffer' ≡ buffer) × (length values ≤ length buffer))

    either_by : Alike K K' → LentOf values buffer → Either
    either_by (inr (a, b)) q = inl (rw a refl, rw b refl)
    either_by (inl e) (inl h) =
        let few = lend_short values buffer h in
        let a : ltb (length buffer) K.n ≡ true = lt-ltb (length buffer) K.n (omega (arith, h, sized)) in
        let b : ltb (length buffer') K'.n ≡ true = lt-ltb (length buffer') K'.n (omega (arith, few, sized, same-n)) in
        inl (or_second (tables_short K) _ (rw a refl), or_second (tables_short K') _ (rw b refl))
    either_by (inl e) (inr q) = inr (e, lend_all values buffer q, omega (arith, ap length q, length-take (length values) buffer))

    get_by : (node : ℕ) → Either → get_step K' d party node buffer' scratch ≡ get_step K d party node buffer scratch
    get_by node (inl (a, b)) = short_get K' d party node buffer' scratch b ∙ sym (short_get K d party node buffer scratch a)
    get_by node (inr (e, f, h)) = ap (λ (X : Hierarchy). get_step X d party node buffer' scratch) (sym e) ∙ ap (λ (v : List ℕ). get_step K d party node v scratch) f

    get_alike : (node : ℕ) → get_step K' d party node buffer' scratch ≡ get_step K d party node buffer scratch
    get_alike node = get_by node (either_by alike lent_of)

    -- a put or add hands back the same desk and answer, and leaves the same values: of a step f over a hierarchy and what it is lent of the values, which
    -- leaves all where it is lent too little, and leaves as many values as it was lent
    module _ (f : Hierarchy → List ℕ → PutResult)
        (short : (X : Hierarchy) (b : List ℕ) → (tables_short X || values_short X b scratch) ≡ true → f X b ≡ record { desk = d; values = b; scratch = scratch; answer = refused 1 })
        (long : (X : Hierarchy) (b : List ℕ) → length (f X b).values ≡ length b) where
      abbrev ChangesAlike : Type 0
      ChangesAlike =
          ((f K' buffer').desk ≡ (f K buffer).desk) × ((f K' buffer').answer ≡ (f K buffer).answer)
          × (restored values (f K' buffer').values ≡ left_in values (f K buffer).values)

      changes_by : Either → ChangesAlike
      changes_by (inl (a, b)) =
          let p = short K buffer a in
          let p' = short K' buffer' b in (
            ap (λ (x : PutResult). x.desk) (p' ∙ sym (ap (λ (y : PutResult). record { desk = y.desk; values = buffer'; scratch = y.scratch; answer = y.answer }) p)),
            ap (λ (x : PutResult). x.answer) p' ∙ sym (ap (λ (x : PutResult). x.answer) p),
            ap (λ (x : PutResult). restored values x.values) p' ∙ restored_lend values (lending values buffer) ∙ sym (left_same values buffer lent_of)
                ∙ sym (ap (λ (x : PutResult). left_in values x.values) p),
          )
      changes_by (inr (e, g, h)) =
          let same : f K' buffer' ≡ f K buffer = ap (λ (X : Hierarchy). f X buffer') (sym e) ∙ ap (f K) g in (
            ap (λ (x : PutResult). x.desk) same,
            ap (λ (x : PutResult). x.answer) same,
            ap (λ (x : PutResult). restored values x.values) same
                ∙ left_restored values (f K buffer).values (omega (arith, h, long K buffer)),
          )

      changes_alike : ChangesAlike
      changes_alike = changes_by (either_by alike lent_of)

-- A CALL as a step of a list
abbrev pub between : Hierarchy → Desk → List ℕ → State
between H d values = record { hierarchy = H; desk = d; values = values }

-- two steps over a hierarchy are one where desk, values and event are
pub moved_alike : (H : Hierarchy) {d d' : Desk} {values values' : List ℕ} {event event' : Event ℕ} → d ≡ d' → values ≡ values' → event ≡ event'
    → ◌≡◌ {A = Moved} (record { state = between H d values; event = event }) (record { state = between H d' values'; event = event' })
moved_alike H e v t = rw (e, v, t) refl

pub left_alike : (party : ℕ) {list list' : List ℕ} {a a' : Answer ℕ} → list ≡ list' → a ≡ a' → ◌≡◌ {A = Event ℕ} (left party (listed list a)) (left party (listed list' a'))
left_alike party l e = rw (l, e) refl

-- one call that meets its contract is that step
module _ (H K K' : Hierarchy) (alike : Alike K K') (d : Desk) (values : List ℕ) (sized : length values ≡ K.n) (same-n : K'.n ≡ K.n) where
  call_moves : (r : Result) → Meets K d values r
      → move_call K' (call_for values r) (between H d values) ≡ record { state = between H (desk_from r) (values_from values r); event = told_by r }
  unfolding move_call call_for after_enter after_get after_put after_add after_leave
  call_moves (entering party mode names name_count r) (e, a) =
      ap (after_enter party (between H d values)) (enter_alike K K' alike d party mode names name_count)
      ∙ moved_alike H (sym e) refl (sym (ap (entered party) a))
  call_moves (getting party node buffer scratch r used) (l, (e, a, c, u)) =
      ap (after_get party node (between H d values)) (get_alike K K' alike d party values buffer scratch l sized same-n node)
      ∙ moved_alike H (sym e) refl (sym (ap (got party node) a))
  call_moves (putting party node value buffer scratch r after used) (l, (e, a, v, u)) =
      let p = changes_alike K K' alike d party values buffer scratch l sized same-n (λ X b. put_step X d party node value b scratch)
      (λ X b. short_put X d party node value b scratch) (λ X b. put_length X d party node value b scratch) in
      moved_alike H (p.0 ∙ sym e) (p.2 ∙ sym (ap (left_in values) v)) (ap (stored party node value) (p.1 ∙ sym a))
  call_moves (adding party node number buffer scratch r after used) (l, (e, a, v, u)) =
      let p = changes_alike K K' alike d party values buffer scratch l sized same-n (λ X b. add_step X d party node number b scratch)
      (λ X b. short_add X d party node number b scratch) (λ X b. add_length X d party node number b scratch) in
      moved_alike H (p.0 ∙ sym e) (p.2 ∙ sym (ap (left_in values) v)) (ap (added party node number) (p.1 ∙ sym a))
  call_moves (leaving party list r after) (e, a, v) =
      ap (after_leave party (between H d values)) (leave_alike K K' alike d party list)
      ∙ moved_alike H (sym e) refl (left_alike party (sym v) (sym a))

-- the values stay n
left_sized : (values after : List ℕ) → length (left_in values after) ≡ length values
left_sized values after =
    bool (ltb (length after) (length values)) (λ e. rw e refl) (λ e. rw e (length-take-le (length values) after (ltb-false (length after) (length values) e)))

values_sized : (values : List ℕ) (r : Result) → length (values_from values r) ≡ length values
values_sized values (entering party mode names name_count r) = refl
values_sized values (getting party node buffer scratch r used) = refl
values_sized values (putting party node value buffer scratch r after used) = left_sized values after
values_sized values (adding party node number buffer scratch r after used) = left_sized values after
values_sized values (leaving party list r after) = refl

-- the calls of a list are those steps, one after the other
module _ (H : Hierarchy) (two_each : length H.intervals ≡ 2 * H.n) (all_edges : length (edges_of H.edges H.edge_count) ≡ 2 * H.edge_count) where
  calls_run : (ms : List Made) (d : Desk) (values : List ℕ) → length values ≡ H.n → AllMeet H d values ms
      → run (steps_for H values ms) (between H d values) ≡ record { state = between H (last_desk d ms) (last_values values ms); events = told_by_all ms }
  unfolding AllMeet steps_for step_for run also_ran move lent_to last_desk last_values
  calls_run [] d values sized k = refl
  calls_run (m ∷ ms) d values sized (i, e, c, k) =
      let moved = call_moves H (lent H.n m.intervals m.edges H.edge_count) _ (tables_alike H two_each all_edges m.intervals m.edges i e) d values sized refl m.result c in
      rw (moved, calls_run ms (desk_from m.result) (values_from values m.result) (values_sized values m.result ∙ sized) k) refl

built_edges : (H : Hierarchy) → Built H → length (edges_of H.edges H.edge_count) ≡ 2 * H.edge_count
built_edges H b = length-take-le (2 * H.edge_count) H.edges (taken H.n H.edges H.edge_count b.places b.scratch b.took).edges_long

pub results_run : (H : Hierarchy) → Built H → (d : Desk) (values : List ℕ) → length values ≡ H.n → (made : List Made) → AllMeet H d values made
    → run (steps_for H values made) (between H d values) ≡ record { state = between H (last_desk d made) (last_values values made); events = told_by_all made }
results_run H b d values sized made met = calls_run H (built_nested H b).two_each (built_edges H b) made d values sized met

-- THE THEOREM: over one built hierarchy, from a fresh desk and any n values, whatever calls were made, where each result meets the contract of its
-- method: these very results are what whole visits, performed in order of granting, leave and find
pub results_serial : (H : Hierarchy) → Built H → (values : List ℕ) → length values ≡ H.n → (made : List Made) → AllMeet H fresh_desk values made
    → SerialSteps values (told_by_all made) (last_values values made)
results_serial H b values sized made met = subst (Serial values) (results_run H b fresh_desk values sized made met) (serializable H b values sized (steps_for H values made))

-- demand 3: from n values of zero
pub results_demand_3 : (H : Hierarchy) → Built H → (made : List Made) → AllMeet H fresh_desk (replicate H.n 0) made
    → SerialSteps (replicate H.n 0) (told_by_all made) (last_values (replicate H.n 0) made)
results_demand_3 H b made met = results_serial H b (replicate H.n 0) (length-replicate H.n 0) made met

-- EACH RUN IS SUCH A LIST. Answers as the methods give them, and what these mean
enter_answer : Answer Admission → EnterAnswer
enter_answer (done (granted cover)) = Granted cover
enter_answer (done waits) = Waits
enter_answer (refused k) = EnterRefused (refusal_of k)

enter_means : (a : Answer Admission) → Numbered a → enter_meaning (enter_answer a) ≡ a
unfolding enter_answer
enter_means (done (granted cover)) e = refl
enter_means (done waits) e = refl
enter_means (refused k) e = ap refused e

get_answer : Answer ℕ → GetAnswer
get_answer (done value) = Value value
get_answer (refused k) = cond (eqb k 14) Waiting (GetRefused (refusal_of k))

get_means : (a : Answer ℕ) → Numbered a → (get_meaning (get_answer a) ≡ a) × (get_case (get_answer a) ≡ true)
unfolding get_answer
get_means (done value) e = (refl, refl)
get_means (refused k) e = bool (eqb k 14) (λ f. rw (f, eqb-true k 14 f) (refl, refl)) (λ f. rw (f, e, f) (refl, refl))

result_of : {A : Type 0} → Answer A → Outcome A Refusal
result_of (done x) = Ok x
result_of (refused k) = Err (refusal_of k)

result_means : {A : Type 0} (a : Answer A) → Numbered a → meaning (result_of a) ≡ a
unfolding result_of
result_means (done x) e = refl
result_means (refused k) e = ap refused e

-- the result of a step of a run
result_for : Hierarchy → Desk → List ℕ → Call → Result
result_for K d values (enter party mode names name_count) =
    let s = enter_step K d party mode names name_count in entering party mode names name_count (record { desk = s.desk; answer = enter_answer s.answer })
result_for K d values (get party node l c) =
    let s = get_step K d party node (lend values l) c in getting party node (lend values l) c (record { desk = s.desk; answer = get_answer s.answer }) s.scratch
result_for K d values (put party node value l c) =
    let s = put_step K d party node value (lend values l) c in
    putting party node value (lend values l) c (record { desk = s.desk; answer = result_of s.answer }) s.values s.scratch
result_for K d values (add party node number l c) =
    let s = add_step K d party node number (lend values l) c in
    adding party node number (lend values l) c (record { desk = s.desk; answer = result_of s.answer }) s.values s.scratch
result_for K d values (leave party list) =
    let s = leave_step K d party list in leaving party list (record { desk = s.desk; answer = result_of s.answer }) s.list

-- it meets the contract,
result_meets : (K : Hierarchy) (d : Desk) (values : List ℕ) (c : Call) → Meets K d values (result_for K d values c)
unfolding result_for
result_meets K d values (enter party mode names name_count) = (refl, enter_means _ (enter_numbered K d party mode names name_count))
result_meets K d values (get party node l c) = (lend_lent values l, let m = get_means _ (get_numbered K d party node (lend values l) c) in (refl, m.0, m.1, refl))
result_meets K d values (put party node value l c) = (lend_lent values l, (refl, result_means _ (put_numbered K d party node value (lend values l) c), refl, refl))
result_meets K d values (add party node number l c) = (lend_lent values l, (refl, result_means _ (add_numbered K d party node number (lend values l) c), refl, refl))
result_meets K d values (leave party list) = (refl, result_means _ (leave_numbered K d party list), refl)

-- what is left in a buffer that was lent of the values, by a step that leaves all where the buffer is too short, and as many values as it was lent
left_lent : (K : Hierarchy) (d : Desk) (values scratch : List ℕ) → length values ≡ K.n → (l : Lending) (r : PutResult)
    → ((tables_short K || values_short K (lend values l) scratch) ≡ true → r ≡ record { desk = d; values = lend values l; scratch = scratch; answer = refused 1 })
    → length r.values ≡ length (lend values l) → restored values r.values ≡ left_in values r.values
left_lent K d values scratch sized l r short long =
    bool (ltb (length (lend values l)) (length values))
    (λ e.
    let h : length (lend values l) < length values = ltb-true (length (lend values l)) (length values) e in
    let t : ltb (length (lend values l)) K.n ≡ true = lt-ltb (length (lend values l)) K.n (omega (arith, h, sized)) in
    let p = short (or_second (tables_short K) _ (rw t refl)) in
    ap (λ (x : PutResult). restored values x.values) p ∙ restored_lend values l ∙ sym (left_same values (lend values l) (inl h))
    ∙ sym (ap (λ (x : PutResult). left_in values x.values) p))
    (λ e. left_restored values r.values (omega (arith, ltb-false (length (lend values l)) (length values) e, long)))

-- and tells and leaves what the step does
result_moves : (H K : Hierarchy) (d : Desk) (values : List ℕ) → length values ≡ K.n → (c : Call) → let r = result_for K d values c in
    move_call K c (between H d values) ≡ record { state = between H (desk_from r) (values_from values r); event = told_by r }
unfolding result_for move_call after_enter after_get after_put after_add after_leave
result_moves H K d values sized (enter party mode names name_count) = moved_alike H refl refl (ap (entered party) (sym (enter_means _ (enter_numbered K d party mode names name_count))))
result_moves H K d values sized (get party node l c) = moved_alike H refl refl (ap (got party node) (sym ((get_means _ (get_numbered K d party node (lend values l) c)).0)))
result_moves H K d values sized (put party node value l c) =
    moved_alike H refl
    (left_lent K d values c sized l (put_step K d party node value (lend values l) c) (short_put K d party node value (lend values l) c) (put_length K d party node value (lend values l) c))
    (ap (stored party node value) (sym (result_means _ (put_numbered K d party node value (lend values l) c))))
result_moves H K d values sized (add party node number l c) =
    moved_alike H refl
    (left_lent K d values c sized l (add_step K d party node number (lend values l) c) (short_add K d party node number (lend values l) c) (add_length K d party node number (lend values l) c))
    (ap (added party node number) (sym (result_means _ (add_numbered K d party node number (lend values l) c))))
result_moves H K d values sized (leave party list) = moved_alike H refl refl (left_alike party refl (sym (result_means _ (leave_numbered K d party list))))

made_for : Hierarchy → Desk → List ℕ → Step → Made
made_for H d values x =
    record {
      intervals = lend H.intervals x.intervals;
      edges = lend (edges_of H.edges H.edge_count) x.edges;
      result = result_for (lent_to x H) d values x.call;
    }

-- the steps of a run as calls that were made
pub made_by : Hierarchy → Desk → List ℕ → List Step → List Made
made_by H d values [] = []
made_by H d values (x ∷ xs) = let m = made_for H d values x in m ∷ made_by H (desk_from m.result) (values_from values m.result) xs

made_meets : (H : Hierarchy) (xs : List Step) (d : Desk) (values : List ℕ) → AllMeet H d values (made_by H d values xs)
unfolding AllMeet made_by made_for lent_to
made_meets H [] d values = tt
made_meets H (x ∷ xs) d values =
    (lend_lent H.intervals x.intervals, lend_lent (edges_of H.edges H.edge_count) x.edges, result_meets _ d values x.call, made_meets H xs _ _)

made_runs : (H : Hierarchy) (xs : List Step) (d : Desk) (values : List ℕ) → length values ≡ H.n
    → run xs (between H d values)
    ≡ record { state = between H (last_desk d (made_by H d values xs)) (last_values values (made_by H d values xs)); events = told_by_all (made_by H d values xs) }
unfolding made_by made_for run also_ran move lent_to last_desk last_values
made_runs H [] d values sized = refl
made_runs H (x ∷ xs) d values sized =
    let r = result_for (lent_to x H) d values x.call in
    rw (result_moves H (lent_to x H) d values sized x.call, made_runs H xs (desk_from r) (values_from values r) (values_sized values r ∙ sized)) refl

-- so the claims of demand 3 are about at least the lists that a run is about: each run is what some list of calls gives, whose results meet the contracts
pub run_made : (H : Hierarchy) (values : List ℕ) → length values ≡ H.n → (steps : List Step)
    → (made : List Made) × AllMeet H fresh_desk values made
    × (run steps (start H values) ≡ record { state = between H (last_desk fresh_desk made) (last_values values made); events = told_by_all made })
run_made H values sized steps =
    (made_by H fresh_desk values steps, made_meets H steps fresh_desk values, made_runs H steps fresh_desk values sized)
