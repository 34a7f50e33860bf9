-- THEOREM: over a built hierarchy no step of any list is refused with 10, and the list leaves a sound desk. Assumes nothing.
use mathlib.Core.Path.{◌≡◌, refl, sym, ap, ◌∙◌}
use mathlib.Core.List.{List, [], ◌∷◌}
use mathlib.Core.Bool.{Bool, true, false, not, ◌||◌}
use mathlib.Core.Option.{Option, none, some}
use Prim.Native.Nat.{ℕ, ◌*◌, ◌<◌}
use native.Mathlib.Omega.{arith}
use lib.Dec.{ltb}
use lib.ListN.{length, get_or, take}
use borrow.Author.Tests.{ltb-true, ltb-false, le-ltb, le-leb}
use Rattle.lists.specs.Lists.{any_below, any}
use Rattle.lists.specs.Answer.{Check, ◌when◌, refusal}
use Rattle.hierarchy.specs.Hierarchy.{edges_of}
use Rattle.intervals.specs.Intervals.{low_of, high_of}
use Rattle.covers.specs.Cover.{low_at, high_at}
use Rattle.lists.proofs.Bools.{bool, not_both, both_ways, or_left, or_neither}
use Rattle.lists.proofs.Refusals.{refused_here}
use Rattle.lists.proofs.Bounded.{all_at, all_of, none_of}
use Rattle.lists.proofs.Distinct.{every_in, every_of}
use Rattle.hierarchy.proofs.Legals.{promised}
use Rattle.interval_laws.proofs.Laws.{built_low, built_high, interval_real, interval_inside_root, taken}
use Rattle.locks.specs.declared.Lock.{Lock}
use Rattle.locks.specs.declared.Stage.{Stage}
use Rattle.locks.specs.declared.Stage.TheVariants.{Out, Waiting, Holding}
use Rattle.desk.specs.declared.Desk.{Desk}
use Rattle.locks.specs.Lent.{Hierarchy, low_in, high_in, cover_right, keeps_names, inside_lock, covers_names, tables_short, interval_wrong, lock_for}
use Rattle.naming.specs.Names.{names_of}
use Rattle.locks.specs.Stages.{of_lock}
use Rattle.parties.proofs.Clauses.{Fits, clauses, from_clauses}
use Rattle.desk.specs.Desks.{fresh_desk, stage_at}
use Rattle.desk.specs.Sound.{sound_desk}
use Rattle.desk.specs.Steps.{get_own, put_own, add_own, leave_own, enter_own, step_checks, enter_refusal, free, enter_if, enter_unless, enter_step}
use Rattle.desk.specs.Steps.{node_checks, values_short, value_checks, scratch_left, get_unless, get_step, put_unless, put_step, sum64, add_step, leave_refusal, leave_unless, leave_step}
use Rattle.runs.specs.Run.{lend, Call, enter, get, put, add, leave, Step, lent_to, State, start, Moved}
use Rattle.runs.specs.Run.{after_enter, after_get, after_put, after_add, listed, after_leave, move_call, move, Ran, also_ran, run}
use Rattle.runs.specs.Over.{start_over, run_over}
use Rattle.runs.proofs.Lends.{low_lent, high_lent}
use Rattle.runs.proofs.Runs.{run_hierarchy, run_over_law}
use Rattle.history.specs.Serial.{Built}
use Rattle.history.specs.Results.{Made, AllMeet, told_by_all, last_desk, steps_for}
use Rattle.history.proofs.Nested.{built_nested, name_below}
use Rattle.history.proofs.Results.{results_run}
use Rattle.soundness.specs.Refused.{is_refusal, refused_with}
use Rattle.soundness.proofs.Laws.{unchanged_get, unchanged_put, unchanged_add, fresh_sound}
use Rattle.lists.proofs.Numbers.{is_number, holds_with, not_refused_law}
use Rattle.soundness.proofs.Orderly.{Shaped}
use Rattle.soundness.proofs.Kept.{fresh_shaped, enter_shaped, get_shaped, put_shaped, add_shaped, leave_shaped, enter_sound, leave_sound}

-- TWO HIERARCHIES that agree on n and on the intervals of the nodes
record Agree (K H : Hierarchy) : Type 0 where
  size : K.n ≡ H.n
  low : (node : ℕ) → node < H.n → low_in K node ≡ low_in H node
  high : (node : ℕ) → node < H.n → high_in K node ≡ high_in H node

-- the hierarchy as lent agrees with the one of 2n numbers where it is not too short
lent_agrees : (H : Hierarchy) (x : Step) → length H.intervals ≡ 2 * H.n → tables_short (lent_to x H) ≡ false → Agree (lent_to x H) H
unfolding lent_to
lent_agrees H x two short =
    let long = ltb-false (length (lent_to x H).intervals) (2 * H.n) (or_left (ltb (length (lent_to x H).intervals) (2 * H.n)) _ short) in
    record { size = refl; low = λ node h. low_lent H two x node h long; high = λ node h. high_lent H two x node h long }

module _ (K H : Hierarchy) (a : Agree K H) where
  -- what is asked of a lock's cover is the same
  cover_agrees : (l : Lock) → cover_right K l ≡ cover_right H l
  cover_agrees l =
      rw a.size
      (bool (ltb l.cover H.n)
      (λ e. let h = ltb-true l.cover H.n e in rw (a.low l.cover h, a.high l.cover h))
      (λ e. rw e))

  -- so is what is asked of its names,
  names_agree : (l : Lock) → keeps_names K l ≡ keeps_names H l
  names_agree l = rw a.size

  -- and of the cover around them, where they are nodes
  covered_agrees : (l : Lock) → keeps_names K l ≡ true → covers_names K l ≡ true → covers_names H l ≡ true
  covered_agrees l r c =
      every_of (λ name. inside_lock H name l) (names_of l.names) (λ name i.
      let h : name < H.n = name_below H l (sym (names_agree l) ∙ r) name i in
      rw (a.low name h, a.high name h) at (every_in (λ name. inside_lock K name l) c i))

  stage_fits : (x : Stage) → Fits K x → Fits H x
  stage_fits Out f = record { cover = refl; names = refl; covered = refl }
  stage_fits (Waiting l) f = record { cover = sym (cover_agrees l) ∙ f.cover; names = sym (names_agree l) ∙ f.names; covered = covered_agrees l f.names f.covered }
  stage_fits (Holding l) f = record { cover = sym (cover_agrees l) ∙ f.cover; names = sym (names_agree l) ∙ f.names; covered = covered_agrees l f.names f.covered }

  -- a desk that is sound over the one is sound over the other
  sound_over : (d : Desk) → sound_desk K d ≡ true → sound_desk H d ≡ true
  sound_over d s =
      let c = clauses K d.entries d.queue d.waiting s in
      let fits : (p : ℕ) → p < 32 → Fits H (stage_at d p) = λ p h. stage_fits (stage_at d p) (record {
        cover = all_at (λ party. of_lock (cover_right K) (stage_at d party)) 32 p c.covers h;
        names = all_at (λ party. of_lock (keeps_names K) (stage_at d party)) 32 p c.names h;
        covered = all_at (λ party. of_lock (covers_names K) (stage_at d party)) 32 p c.covered h;
      }) in
      from_clauses H d.entries d.queue d.waiting (record {
        parties = c.parties;
        once = c.once;
        listed = c.listed;
        real = c.real;
        covers = all_of (λ party. of_lock (cover_right H) (stage_at d party)) 32 (λ p h. (fits p h).cover);
        names = all_of (λ party. of_lock (keeps_names H) (stage_at d party)) 32 (λ p h. (fits p h).names);
        covered = all_of (λ party. of_lock (covers_names H) (stage_at d party)) 32 (λ p h. (fits p h).covered);
        apart = c.apart;
        held = c.held;
      })

  -- an interval is wrong in both or in neither
  wrong_agrees : (node : ℕ) → node < H.n → interval_wrong K node ≡ interval_wrong H node
  wrong_agrees node h = rw (a.low node h, a.high node h, a.low 0 (omega arith), a.high 0 (omega arith))

-- they agree the other way round
turned : (K H : Hierarchy) → Agree K H → Agree H K
turned K H a = record {
  size = sym a.size;
  low = λ node h. sym (a.low node (omega (arith, a.size)));
  high = λ node h. sym (a.high node (omega (arith, a.size)));
}

-- a desk is sound over both or over neither
sound_agrees : (K H : Hierarchy) → Agree K H → (d : Desk) → sound_desk K d ≡ sound_desk H d
sound_agrees K H a d = both_ways (sound_desk K d) (sound_desk H d) (sound_over K H a d) (sound_over H K (turned K H a) d)

-- A BUILT HIERARCHY has no wrong interval
built_right : (H : Hierarchy) → Built H → (node : ℕ) → node < H.n → interval_wrong H node ≡ false
built_right H b node h =
    let es : List ℕ = edges_of H.edges H.edge_count in
    let t = taken H.n H.edges H.edge_count b.places b.scratch b.took in
    let few = (promised H.n H.edges H.edge_count t.legal).few in
    let low : (i : ℕ) → i < H.n → low_in H i ≡ low_of H.n es i = λ i k. ap (λ (table : List ℕ). low_at table i) (b.wrote ∙ t.wrote) ∙ built_low H.n es i k in
    let high : (i : ℕ) → i < H.n → high_in H i ≡ high_of H.n es i = λ i k. ap (λ (table : List ℕ). high_at table i) (b.wrote ∙ t.wrote) ∙ built_high H.n es i k in
    let real = interval_real H.n H.edges H.edge_count t.legal node h in
    let inside = interval_inside_root H.n H.edges H.edge_count t.legal node h in
    let root : 0 < H.n = omega arith in
    rw (
      le-leb 1 (low_in H node) (omega (arith, low node h, real)),
      le-leb (low_in H node) (high_in H node) (omega (arith, low node h, high node h, real)),
      le-leb (high_in H node) 256 (omega (arith, high node h, real)),
      le-ltb (low_in H node) (low_in H 0) (omega (arith, low node h, low 0 root, inside)),
      le-ltb (high_in H 0) (high_in H node) (omega (arith, high node h, high 0 root, inside)),
    )

-- REFUSALS. A step with tables that are too short is refused with 1
short_first : (K : Hierarchy) (d : Desk) (party : ℕ) (short : Bool) (own : List Check) → tables_short K ≡ true → refusal (step_checks K d party short own) ≡ some 1
short_first K d party short own e = refused_here (1 when (tables_short K || short)) _ (ap (λ (b : Bool). b || short) e)

-- a refused step leaves the desk, and its answer has the refusal's number
module _ (d : Desk) (k : ℕ) where
  enter_same : (party : ℕ) (l : Lock) (o : Option ℕ) → o ≡ some k → (enter_unless o d party l).desk ≡ d
  enter_same party l (some j) e = refl
  enter_same party l none e = not_both true refl cc

  leave_same : (party : ℕ) (list : List ℕ) (o : Option ℕ) → o ≡ some k → (leave_unless o d party list).desk ≡ d
  leave_same party list (some j) e = refl
  leave_same party list none e = not_both true refl cc

  enter_number : (party : ℕ) (l : Lock) (o : Option ℕ) → is_refusal k (enter_unless o d party l).answer ≡ is_number k o
  enter_number party l (some j) = refl
  enter_number party l none = test (free d l)
    where
      test : (b : Bool) → is_refusal k (enter_if b d party l).answer ≡ false
      test true = refl
      test false = refl

  get_number : (value : ℕ) (scratch : List ℕ) (o : Option ℕ) → is_refusal k (get_unless o d value scratch).answer ≡ is_number k o
  get_number value scratch (some j) = refl
  get_number value scratch none = refl

  put_number : (node value : ℕ) (values scratch : List ℕ) (o : Option ℕ) → is_refusal k (put_unless o d node value values scratch).answer ≡ is_number k o
  put_number node value values scratch (some j) = refl
  put_number node value values scratch none = refl

  leave_number : (party : ℕ) (list bytes : List ℕ) (o : Option ℕ) → is_refusal k (listed bytes (leave_unless o d party list).answer) ≡ is_number k o
  unfolding listed
  leave_number party list bytes (some j) = refl
  leave_number party list bytes none = refl

-- ONE STEP of a list, from a state with a built hierarchy, and a desk that is shaped and sound
record Fine (s : State) : Type 0 where
  built : Built s.hierarchy
  shaped : Shaped s.desk
  sound : sound_desk s.hierarchy s.desk ≡ true

-- the step leaves such a state, and is not refused with 10
record Stepped (m : Moved) : Type 0 where
  fine : Fine m.state
  event : refused_with 10 m.event ≡ false

module _ (x : Step) (s : State) (f : Fine s) where
  abbrev H : Hierarchy
  H = s.hierarchy

  -- what it is lent
  abbrev K : Hierarchy
  K = lent_to x H

  abbrev d : Desk
  d = s.desk

  -- the step sees the built intervals
  agree : tables_short K ≡ false → Agree K H
  agree = lent_agrees H x (built_nested H f.built).two_each

  -- 10 does not hold
  not_ten : (party : ℕ) (short : Bool) (own : List Check) → holds_with 10 own ≡ false → is_number 10 (refusal (step_checks K d party short own)) ≡ false
  unfolding lent_to any
  not_ten party short own o =
      bool (tables_short K)
      (λ e. rw (short_first K d party short own e))
      (λ e. not_refused_law 10 (step_checks K d party short own) (or_neither (any_below H.n (interval_wrong K) || not (sound_desk K d)) _ (fine e) o))
    where
      fine : tables_short K ≡ false → (any_below H.n (interval_wrong K) || not (sound_desk K d)) ≡ false
      fine e =
          or_neither (any_below H.n (interval_wrong K)) (not (sound_desk K d))
          (none_of (interval_wrong K) H.n (λ i h. wrong_agrees K H (agree e) i h ∙ built_right H f.built i h))
          (ap not (sound_agrees K H (agree e) d ∙ f.sound))

  -- get, put and add alike
  value_not_ten : (party node : ℕ) (values scratch : List ℕ) (own : List Check) → holds_with 10 own ≡ false → is_number 10 (refusal (value_checks K d party node values scratch own)) ≡ false
  unfolding any
  value_not_ten party node values scratch own o = not_ten party (values_short K values scratch) (node_checks K d party node own) o

  -- the desk handed back is sound, since the step saw the built intervals or was refused with 1
  kept : (new : Desk) → (tables_short K ≡ true → new ≡ d) → (sound_desk K d ≡ true → sound_desk K new ≡ true) → sound_desk H new ≡ true
  kept new same step =
      bool (tables_short K)
      (λ e. rw (same e) f.sound)
      (λ e. sym (sound_agrees K H (agree e) new) ∙ step (sound_agrees K H (agree e) d ∙ f.sound))

  -- each of the five
  call_stepped : (c : Call) → Stepped (move_call K c s)
  unfolding move_call after_enter after_get after_put after_add after_leave enter_step get_step put_step add_step leave_step any
  call_stepped (enter party mode names name_count) =
      let l : Lock = lock_for K mode (take name_count names) in
      let own : List Check = enter_own K d party names name_count in
      record {
        fine = record {
          built = f.built;
          shaped = enter_shaped K d party mode names name_count f.shaped;
          sound = kept _ (λ e. enter_same d 1 party l _ (short_first K d party (ltb (length names) name_count) own e)) (enter_sound K d party mode names name_count f.shaped);
        };
        event = enter_number d 10 party l (enter_refusal K d party names name_count) ∙ not_ten party (ltb (length names) name_count) own refl;
      }
  call_stepped (get party node l c) =
      let values : List ℕ = lend s.values l in
      let own : List Check = get_own d party in
      record {
        fine = record { built = f.built; shaped = get_shaped K d party node values c f.shaped; sound = rw (unchanged_get K d party node values c) f.sound };
        event = get_number d 10 (get_or values node 0) (scratch_left K values c) (refusal (value_checks K d party node values c own)) ∙ value_not_ten party node values c own refl;
      }
  call_stepped (put party node value l c) =
      let values : List ℕ = lend s.values l in
      let own : List Check = put_own d party in
      record {
        fine = record { built = f.built; shaped = put_shaped K d party node value values c f.shaped; sound = rw (unchanged_put K d party node value values c) f.sound };
        event = put_number d 10 node value values (scratch_left K values c) (refusal (value_checks K d party node values c own)) ∙ value_not_ten party node values c own refl;
      }
  call_stepped (add party node number l c) =
      let values : List ℕ = lend s.values l in
      let own : List Check = add_own d party in
      record {
        fine = record { built = f.built; shaped = add_shaped K d party node number values c f.shaped; sound = rw (unchanged_add K d party node number values c) f.sound };
        event = put_number d 10 node (sum64 (get_or values node 0) number) values (scratch_left K values c) (refusal (value_checks K d party node values c own))
            ∙ value_not_ten party node values c own refl;
      }
  call_stepped (leave party list) =
      let own : List Check = leave_own d party in
      record {
        fine = record {
          built = f.built;
          shaped = leave_shaped K d party list f.shaped;
          sound = kept _ (λ e. leave_same d 1 party list _ (short_first K d party (ltb (length list) 32) own e)) (leave_sound K d party list f.shaped);
        };
        event = leave_number d 10 party list _ (leave_refusal K d party list) ∙ not_ten party (ltb (length list) 32) own refl;
      }

-- A LIST of steps
run_fine : (steps : List Step) (s : State) → Fine s → Fine (run steps s).state × (any (refused_with 10) (run steps s).events ≡ false)
unfolding run also_ran move any
run_fine [] s f = (f, refl)
run_fine (x ∷ xs) s f =
    let m = call_stepped x s f x.call in
    let (last, rest) = run_fine xs (move_call (lent_to x s.hierarchy) x.call s).state m.fine in
    (last, or_neither (refused_with 10 (move_call (lent_to x s.hierarchy) x.call s).event) _ m.event rest)

start_fine : (H : Hierarchy) (values : List ℕ) → Built H → Fine (start H values)
start_fine H values b = record { built = b; shaped = fresh_shaped; sound = fresh_sound H }

-- THE THEOREM: over a built hierarchy no step of any list is refused with 10, from a fresh desk and any values
pub never_ten : (H : Hierarchy) → Built H → (values : List ℕ) (steps : List Step) → any (refused_with 10) (run steps (start H values)).events ≡ false
never_ten H b values steps = (run_fine steps (start H values) (start_fine H values b)).1

-- and the desk that any list leaves is sound
pub run_sound : (H : Hierarchy) → Built H → (values : List ℕ) (steps : List Step) → sound_desk H (run steps (start H values)).state.desk ≡ true
run_sound H b values steps =
    ap (λ (K : Hierarchy). sound_desk K (run steps (start H values)).state.desk) (sym (run_hierarchy steps (start H values)))
    ∙ (run_fine steps (start H values) (start_fine H values b)).0.sound

-- OF A HOST'S OWN CALLS, whose results meet the methods' contracts: none was refused with 10,
pub results_never_ten : (H : Hierarchy) → Built H → (values : List ℕ) → length values ≡ H.n → (made : List Made) → AllMeet H fresh_desk values made
    → any (refused_with 10) (told_by_all made) ≡ false
results_never_ten H b values sized made met =
    sym (ap (λ (r : Ran). any (refused_with 10) r.events) (results_run H b fresh_desk values sized made met)) ∙ never_ten H b values (steps_for H values made)

-- and the desk that the last one handed back is sound
pub results_sound : (H : Hierarchy) → Built H → (values : List ℕ) → length values ≡ H.n → (made : List Made) → AllMeet H fresh_desk values made
    → sound_desk H (last_desk fresh_desk made) ≡ true
results_sound H b values sized made met =
    sym (ap (λ (r : Ran). sound_desk H r.state.desk) (results_run H b fresh_desk values sized made met)) ∙ run_sound H b values (steps_for H values made)

-- THE SAME with the hierarchy beside the state
pub never_ten_over : (H : Hierarchy) → Built H → (values : List ℕ) (steps : List Step) → any (refused_with 10) (run_over H steps (start_over values)).events ≡ false
never_ten_over H b values steps = sym (ap (λ (r : Ran). any (refused_with 10) r.events) (run_over_law H steps (start_over values))) ∙ never_ten H b values steps

pub run_sound_over : (H : Hierarchy) → Built H → (values : List ℕ) (steps : List Step) → sound_desk H (run_over H steps (start_over values)).state.desk ≡ true
run_sound_over H b values steps = sym (ap (λ (r : Ran). sound_desk H r.state.desk) (run_over_law H steps (start_over values))) ∙ run_sound H b values steps
