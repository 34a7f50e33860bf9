-- THEOREMS: who leaves and comes back counts as a later visit (02, point 8). A visit or waiting call lasts until the first leave of its party that is not refused, and that leave
-- ends it. On any desk, with any tables. Assumes nothing.
use mathlib.Core.Path.{◌≡◌, refl, sym, ap, ◌∙◌, subst}
use mathlib.Core.Logic.{◌⊎◌, inl, inr, ◌≢◌}
use mathlib.Core.List.{List, [], ◌∷◌, ◌++◌, map}
use mathlib.Core.Bool.{Bool, true, false, not, true≢false}
use mathlib.Core.Option.{Option, none, some}
use Prim.Native.Nat.{ℕ}
use lib.Dec.{eqb, ltb}
use lib.ListN.{length, set, take, drop}
use lib.Seq.{take-append_seam}
use borrow.Author.Tests.{eqb-true, eqb-false, ne_eqb, not-true}
use Rattle.lists.specs.Lists.{any, keep, over}
use Rattle.lists.specs.Answer.{done}
use Rattle.lists.proofs.Bools.{bool, not_both, or_left, or_right, or_either}
use Rattle.lists.proofs.Refusals.{refusal_none}
use Rattle.lists.proofs.Members.{In, head, tail}
use Rattle.locks.specs.declared.Mode.{Mode}
use Rattle.locks.specs.declared.Lock.{Lock}
use Rattle.locks.specs.declared.Stage.{Stage}
use Rattle.locks.specs.declared.Stage.TheVariants.{Out, Waiting, Holding}
use Rattle.locks.specs.Stages.{is_out}
use Rattle.locks.specs.Lent.{Hierarchy, lock_for}
use Rattle.parties.specs.Parties.{entry_of, stage_in}
use Rattle.sweeps.specs.Sweeps.{Sweep}
use Rattle.desk.specs.declared.Desk.{Desk}
use Rattle.desk.specs.Desks.{stage_at, queue_of}
use Rattle.desk.proofs.Facts.{step_own}
use Rattle.desk.specs.Steps.{leave_own, free, enter_refusal, enter_if, enter_unless, enter_step, after_leaving, leave_refusal, leave_unless, leave_step}
use Rattle.runs.specs.Run.{lend, Call, enter, get, put, add, leave, Event, left, State, Moved, after_enter, after_get, after_put, after_add, listed, after_leave, move_call, also_ran}
use Rattle.history.specs.History.{begun, visited}
use Rattle.history.proofs.Facts.{stage_by, stage_own, set_stage, sweep_stage, sweep_holds}
use Rattle.soundness.proofs.Laws.{unchanged_get, unchanged_put, unchanged_add}
use Rattle.soundness.proofs.Covers.{enter_out}
use Rattle.fairness.specs.AnySteps.{AnyStep, move_any, run_any}
use Rattle.fairness.specs.Ahead.{is_present, IsFor, is_leave, is_enter, has_left, visit_left}

-- what a leave's pass starts from
abbrev pub leaving : Desk → ℕ → Sweep
leaving d q = record { entries = set d.entries q (entry_of Out); stay = []; granted = [] }

-- WHAT HOLDS OF A PARTY'S STAGE until it leaves: what goes over from waiting for a lock to holding it, and does not hold of a party that is out. It begins nothing new meanwhile
module _ (Q : Stage → Type 0) (up : (l : Lock) → Q (Waiting l) → Q (Holding l)) (idle : Q Out → ⊥) (q : ℕ) where
  abbrev Lasts : Moved → Type 0
  Lasts m = Q (stage_at m.state.desk q) × (is_enter q m.event ≡ false)

  call_lasts : (K : Hierarchy) (c : Call) (s : State) → Q (stage_at s.desk q) → is_leave q (move_call K c s).event ≡ false → Lasts (move_call K c s)
  unfolding move_call after_enter after_get after_put after_add after_leave listed enter_step leave_step
  call_lasts K (enter r mode names name_count) s k n = by (enter_refusal K s.desk r names name_count) refl
    where
      l : Lock
      l = lock_for K mode (take name_count names)

      test : (b : Bool) → r ≢ q → Lasts (after_enter r s (enter_if b s.desk r l))
      test true ne = (stage_by Q s.desk.entries r q (Holding l) (λ i. absurd (ne i)) k, ne_eqb r q ne)
      test false ne = (stage_by Q s.desk.entries r q (Waiting l) (λ i. absurd (ne i)) k, ne_eqb r q ne)

      by : (o : Option ℕ) → enter_refusal K s.desk r names name_count ≡ o → Lasts (after_enter r s (enter_unless o s.desk r l))
      by (some j) e = (k, refl)
      by none e = test (free s.desk l) (λ i. idle (subst Q (ap (stage_at s.desk) (sym i) ∙ enter_out K s.desk r mode names name_count e) k))
  call_lasts K (get r node v c) s k n = (rw (unchanged_get K s.desk r node (lend s.values v) c) k, refl)
  call_lasts K (put r node value v c) s k n = (rw (unchanged_put K s.desk r node value (lend s.values v) c) k, refl)
  call_lasts K (add r node number v c) s k n = (rw (unchanged_add K s.desk r node number (lend s.values v) c) k, refl)
  call_lasts K (leave r list) s k n = by (leave_refusal K s.desk r list) n
    where
      After : Option ℕ → Moved
      After o = after_leave r s (leave_unless o s.desk r list)

      by : (o : Option ℕ) → is_leave q (After o).event ≡ false → Lasts (After o)
      by (some j) n = (k, refl)
      by none n = (
        sweep_stage Q up q (keep (λ other. not (eqb other r)) (queue_of s.desk)) (leaving s.desk r)
            (stage_by Q s.desk.entries r q Out (λ i. absurd (eqb-false r q n i)) k),
        refl,
      )

  -- over a list of steps
  run_lasts : (steps : List AnyStep) (s : State) → Q (stage_at s.desk q) → has_left (run_any steps s).events q ≡ false
      → Q (stage_at (run_any steps s).state.desk q) × (any (is_enter q) (run_any steps s).events ≡ false)
  unfolding run_any also_ran any
  run_lasts [] s k n = (k, refl)
  run_lasts (x ∷ xs) s k n =
      let m : Moved = move_any x s in
      let (k', e) = call_lasts x.tables x.call s k (or_left (is_leave q m.event) _ n) in
      let (k'', es) = run_lasts xs m.state k' (or_right (is_leave q m.event) _ n) in
      (k'', rw (e, es) refl)

-- A VISIT OR CALL LASTS: as long as its party has taken no leave that was not refused, the party holds or waits for the same lock, and none of its enters was taken,
pub visit_lasts : (q : ℕ) (l : Lock) (s : State) (steps : List AnyStep) → IsFor l (stage_at s.desk q) → has_left (run_any steps s).events q ≡ false
    → IsFor l (stage_at (run_any steps s).state.desk q) × (any (is_enter q) (run_any steps s).events ≡ false)
visit_lasts q l s steps k n = run_lasts (IsFor l) up idle q steps s k n
  where
    up : (g : Lock) → IsFor l (Waiting g) → IsFor l (Holding g)
    up g (inl e) = not_both true refl cc
    up g (inr e) = let same : g ≡ l = cc in inl (ap Holding same)

    idle : IsFor l Out → ⊥
    idle (inl e) = not_both true refl cc
    idle (inr e) = not_both true refl cc

-- and who holds goes on holding
pub hold_lasts : (q : ℕ) (l : Lock) (s : State) (steps : List AnyStep) → stage_at s.desk q ≡ Holding l → has_left (run_any steps s).events q ≡ false
    → stage_at (run_any steps s).state.desk q ≡ Holding l
hold_lasts q l s steps k n = (run_lasts (λ x. x ≡ Holding l) (λ g e. not_both true refl cc) (λ e. not_both true refl cc) q steps s k n).0

-- A LEAVE that is not refused ENDS IT: the party is out
call_ends : (K : Hierarchy) (c : Call) (s : State) (q : ℕ) → is_leave q (move_call K c s).event ≡ true → stage_at (move_call K c s).state.desk q ≡ Out
unfolding move_call after_enter after_get after_put after_add after_leave listed leave_step
call_ends K (enter r mode names name_count) s q e = not_both true refl (sym e)
call_ends K (get r node v c) s q e = not_both true refl (sym e)
call_ends K (put r node value v c) s q e = not_both true refl (sym e)
call_ends K (add r node number v c) s q e = not_both true refl (sym e)
call_ends K (leave r list) s q e = by (leave_refusal K s.desk r list) e
  where
    After : Option ℕ → Moved
    After o = after_leave r s (leave_unless o s.desk r list)

    by : (o : Option ℕ) → is_leave q (After o).event ≡ true → stage_at (After o).state.desk q ≡ Out
    by (some j) e = not_both true refl (sym e)
    by none e =
        subst (λ (k : ℕ). stage_in (after_leaving s.desk r).entries k ≡ Out) (eqb-true r q e)
        (sweep_stage (λ y. y ≡ Out) (λ g c. not_both true refl cc) r (keep (λ other. not (eqb other r)) (queue_of s.desk)) (leaving s.desk r)
        (stage_own (λ y. y ≡ Out) s.desk.entries r Out refl refl))

pub leave_ends : (x : AnyStep) (s : State) (q : ℕ) → is_leave q (move_any x s).event ≡ true → stage_at (move_any x s).state.desk q ≡ Out
leave_ends x s q e = call_ends x.tables x.call s q e

-- who holds or waits does so behind any step but a leave of its own that is not refused, and enters nothing by it
present_lasts : (x : AnyStep) (s : State) (q : ℕ) → is_present s.desk q ≡ true → is_leave q (move_any x s).event ≡ false
    → (is_present (move_any x s).state.desk q ≡ true) × (is_enter q (move_any x s).event ≡ false)
present_lasts x s q k n =
    let (k', e) = call_lasts (λ y. is_out y ≡ false) (λ l i. refl) (λ i. true≢false i) q x.tables x.call s (not-true (is_out (stage_at s.desk q)) k) n in
    (rw k' refl, e)

-- an enter leaves at the desk whoever holds or waits there
pub enter_present : (K : Hierarchy) (d : Desk) (p : ℕ) (mode : Mode) (names : List ℕ) (name_count : ℕ) (q : ℕ) → is_present d q ≡ true
    → is_present (enter_step K d p mode names name_count).desk q ≡ true
unfolding move_call after_enter
enter_present K d p mode names name_count q k =
    (present_lasts (record { tables = K; call = enter p mode names name_count }) (record { hierarchy = K; desk = d; values = [] }) q k refl).0

-- SO WHO COMES BACK COMES FOR A LATER VISIT: of a party that held or waited at first, the visit or call that it had then has left just where the party has left at all
pub comes_back : (q : ℕ) (steps : List AnyStep) (s : State) → is_present s.desk q ≡ true → visit_left (run_any steps s).events q ≡ has_left (run_any steps s).events q
unfolding run_any also_ran any visit_left
comes_back q [] s k = refl
comes_back q (x ∷ xs) s k =
    let m : Moved = move_any x s in
    bool (is_leave q m.event)
    (λ t. rw t refl)
    (λ f. let (k', e) = present_lasts x s q k f in rw (f, e) (comes_back q xs m.state k'))

-- ONE WHO WAS OUT HAD NO VISIT THAT COULD LEAVE: what it begins and leaves later counts for nothing. It cannot leave (13), and is out until it enters
call_idle : (K : Hierarchy) (c : Call) (s : State) (q : ℕ) → stage_at s.desk q ≡ Out
    → (is_leave q (move_call K c s).event ≡ false) × (is_enter q (move_call K c s).event ≡ false → stage_at (move_call K c s).state.desk q ≡ Out)
unfolding move_call after_enter after_get after_put after_add after_leave listed enter_step leave_step
call_idle K (enter r mode names name_count) s q out = (refl, by (enter_refusal K s.desk r names name_count))
  where
    l : Lock
    l = lock_for K mode (take name_count names)

    test : (b : Bool) → is_enter q (after_enter r s (enter_if b s.desk r l)).event ≡ false → stage_at (enter_if b s.desk r l).desk q ≡ Out
    test true n = stage_by (λ y. y ≡ Out) s.desk.entries r q (Holding l) (λ i. absurd (eqb-false r q n i)) out
    test false n = stage_by (λ y. y ≡ Out) s.desk.entries r q (Waiting l) (λ i. absurd (eqb-false r q n i)) out

    by : (o : Option ℕ) → is_enter q (after_enter r s (enter_unless o s.desk r l)).event ≡ false → stage_at (enter_unless o s.desk r l).desk q ≡ Out
    by (some j) n = out
    by none n = test (free s.desk l) n
call_idle K (get r node v c) s q out = (refl, λ n. rw (unchanged_get K s.desk r node (lend s.values v) c) out)
call_idle K (put r node value v c) s q out = (refl, λ n. rw (unchanged_put K s.desk r node value (lend s.values v) c) out)
call_idle K (add r node number v c) s q out = (refl, λ n. rw (unchanged_add K s.desk r node number (lend s.values v) c) out)
call_idle K (leave r list) s q out = by (leave_refusal K s.desk r list) refl
  where
    After : Option ℕ → Moved
    After o = after_leave r s (leave_unless o s.desk r list)

    by : (o : Option ℕ) → leave_refusal K s.desk r list ≡ o
        → (is_leave q (After o).event ≡ false) × (is_enter q (After o).event ≡ false → stage_at (After o).state.desk q ≡ Out)
    by (some j) e = (refl, λ n. out)
    by none e = (
      ne_eqb r q (λ i. true≢false (ap is_out (sym out) ∙ ap (λ (k : ℕ). is_out (stage_at s.desk k)) (sym i)
          ∙ (refusal_none (leave_own s.desk r) (step_own K s.desk r (ltb (length list) 32) (leave_own s.desk r) e)).0)),
      λ n. sweep_stage (λ y. y ≡ Out) (λ g c. not_both true refl cc) q (keep (λ other. not (eqb other r)) (queue_of s.desk)) (leaving s.desk r)
          (stage_by (λ y. y ≡ Out) s.desk.entries r q Out (λ i. refl) out),
    )

pub nothing_to_leave : (q : ℕ) (steps : List AnyStep) (s : State) → stage_at s.desk q ≡ Out → visit_left (run_any steps s).events q ≡ false
unfolding run_any also_ran visit_left
nothing_to_leave q [] s out = refl
nothing_to_leave q (x ∷ xs) s out =
    let m : Moved = move_any x s in
    let (n, still) = call_idle x.tables x.call s q out in
    bool (is_enter q m.event)
    (λ e. rw (n, e) refl)
    (λ e. rw (n, e) (nothing_to_leave q xs m.state (still e)))

-- A VISIT THAT HAS LEFT HAS LEFT FOR GOOD: whatever its party or anybody does afterwards, it stays so
pub left_for_good : (xs ys : List (Event ℕ)) (q : ℕ) → visit_left xs q ≡ true → visit_left (xs ++ ys) q ≡ true
unfolding visit_left
left_for_good [] ys q t = not_both true refl (sym t)
left_for_good (x ∷ xs) ys q t =
    bool (is_leave q x)
    (λ e. rw e refl)
    (λ e. bool (is_enter q x) (λ f. not_both true refl (sym (rw (e, f) at t))) (λ f. rw (e, f) (left_for_good xs ys q (rw (e, f) at t))))

-- WHO HOLDS BEHIND A LEAVE and did not before is among those that the leave's answer lists
in_visited : (p : ℕ) (ps : List ℕ) → visited {A = Unit {0}} p (map begun ps) ≡ true → In p ps
unfolding visited begun
in_visited p [] t = not_both false t refl
in_visited p (r ∷ ps) t = or_either (eqb r p) _ t (λ c. subst (λ (k : ℕ). In k (r ∷ ps)) (eqb-true r p c) head) (λ u. tail (in_visited p ps u))

module _ (s : State) (q p : ℕ) (l : Lock) (parties : List ℕ) (before : stage_at s.desk p ≢ Holding l) where
  call_listed : (K : Hierarchy) (c : Call) → (move_call K c s).event ≡ left q (done parties) → stage_at (move_call K c s).state.desk p ≡ Holding l → In p parties
  unfolding move_call after_enter after_get after_put after_add after_leave listed leave_step over
  call_listed K (enter r mode names name_count) e h = not_both true refl cc
  call_listed K (get r node v c) e h = not_both true refl cc
  call_listed K (put r node value v c) e h = not_both true refl cc
  call_listed K (add r node number v c) e h = not_both true refl cc
  call_listed K (leave r list) e h = by (leave_refusal K s.desk r list) e h
    where
      granted : List ℕ
      granted = (after_leaving s.desk r).granted

      held : ((r ≡ p) × (Out ≡ Holding l)) ⊎ (stage_at s.desk p ≡ Holding l) → ⊥
      held (inl (i, c)) = not_both true refl cc
      held (inr c) = before c

      found : granted ≡ parties → (visited {A = Unit {0}} p (map begun granted) ≡ true) ⊎ (stage_in (set s.desk.entries r (entry_of Out)) p ≡ Holding l) → In p parties
      found same (inl t) = subst (λ (ps : List ℕ). In p ps) same (in_visited p granted t)
      found same (inr c) = absurd (held (set_stage s.desk.entries r p Out l c))

      After : Option ℕ → Moved
      After o = after_leave r s (leave_unless o s.desk r list)

      by : (o : Option ℕ) → (After o).event ≡ left q (done parties) → stage_at (After o).state.desk p ≡ Holding l → In p parties
      by (some j) e h = not_both true refl cc
      by none e h =
          let z : take (length granted) (granted ++ drop (length granted) list) ≡ parties = cc in
          found (sym (take-append_seam granted (drop (length granted) list)) ∙ z)
          (sweep_holds p l (keep (λ other. not (eqb other r)) (queue_of s.desk)) (leaving s.desk r) h)

  pub granted_listed : (x : AnyStep) → (move_any x s).event ≡ left q (done parties) → stage_at (move_any x s).state.desk p ≡ Holding l → In p parties
  granted_listed x e h = call_listed x.tables x.call e h
