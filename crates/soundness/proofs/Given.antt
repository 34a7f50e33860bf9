-- THEOREM: after any list each hold and each waiting call keeps the names that its party's last enter that was not refused gave, over any tables; so a visit sees just their reach
-- (02, point 6). Assumes nothing.
use mathlib.Core.Path.{◌≡◌, refl, sym, ap, ◌∙◌, subst}
use mathlib.Core.List.{List, [], ◌∷◌}
use mathlib.Core.Bool.{Bool, true, false, not, cond, ◌&&◌, and-false}
use mathlib.Core.Option.{Option, none, some}
use Prim.Native.Nat.{ℕ, ◌≤◌}
use lib.Dec.{eqb}
use lib.ListN.{length, set, take}
use borrow.Author.Tests.{eqb-true, eqb-false}
use Rattle.lists.specs.Lists.{keep}
use Rattle.lists.specs.Answer.{done, refused}
use Rattle.lists.proofs.Members.{In}
use Rattle.hierarchy.specs.Hierarchy.{edges_of, Reach}
use Rattle.naming.specs.declared.Names.{Names}
use Rattle.naming.specs.Names.{ascending, names_of, named}
use Rattle.locks.specs.declared.Lock.{Lock}
use Rattle.locks.specs.declared.Stage.{Stage}
use Rattle.locks.specs.declared.Stage.TheVariants.{Out, Waiting, Holding}
use Rattle.locks.specs.Lent.{Hierarchy, lock_for}
use Rattle.parties.specs.Parties.{entry_of, stage_in}
use Rattle.desk.specs.declared.Desk.{Desk}
use Rattle.desk.specs.Desks.{stage_at, queue_of}
use Rattle.desk.specs.Steps.{free, enter_refusal, enter_if, enter_unless, enter_step, get_step, put_step, add_step, leave_refusal, leave_unless, leave_step}
use Rattle.runs.specs.Run.{lend, Call, enter, get, put, add, leave, Step, lent_to, State, start, Moved, after_enter, after_get, after_put, after_add, after_leave, move_call, move, also_ran, run}
use Rattle.history.proofs.Facts.{all_out, stage_by, stage_own, sweep_stage}
use Rattle.soundness.specs.Given.{given_after, given_in, Keeps}
use Rattle.soundness.proofs.Named.{ascending_in, in_ascending, named_names}
use Rattle.soundness.proofs.Seen.{Sees, Blind, get_sees, put_sees, add_sees, get_sixteen, put_sixteen, add_sixteen}
use Rattle.soundness.proofs.Laws.{unchanged_get, unchanged_put, unchanged_add}

-- ONE STEP keeps it, with the names as they are after it
module _ (p : ℕ) (s : State) (given : List ℕ) (k : Keeps given (stage_at s.desk p)) where
  After : Call → Moved → Type 0
  After c m = Keeps (given_after p c m.event given) (stage_at m.state.desk p)

  -- on a desk that is as it was
  same : (d : Desk) → d ≡ s.desk → Keeps given (stage_at d p)
  same d e = subst (λ (x : Desk). Keeps given (stage_at x p)) (sym e) k

  call_keeps : (K : Hierarchy) (c : Call) → After c (move_call K c s)
  unfolding After move_call after_enter after_get after_put after_add after_leave enter_step leave_step
  call_keeps K (enter q mode names name_count) = by (enter_refusal K s.desk q names name_count)
    where
      l : Lock
      l = lock_for K mode (take name_count names)

      own : (b : Bool) → eqb q p ≡ b → (x : Stage) → Keeps (take name_count names) x
          → Keeps (cond (b && true) (take name_count names) given) (stage_in (set s.desk.entries q (entry_of x)) p)
      own true e x f =
          subst (λ (r : ℕ). Keeps (take name_count names) (stage_in (set s.desk.entries q (entry_of x)) r)) (eqb-true q p e)
          (stage_own (Keeps (take name_count names)) s.desk.entries q x f tt)
      own false e x f = stage_by (Keeps given) s.desk.entries q p x (λ i. absurd (eqb-false q p e i)) k

      test : (b : Bool) → After (enter q mode names name_count) (after_enter q s (enter_if b s.desk q l))
      test true = own (eqb q p) refl (Holding l) refl
      test false = own (eqb q p) refl (Waiting l) refl

      by : (o : Option ℕ) → After (enter q mode names name_count) (after_enter q s (enter_unless o s.desk q l))
      by (some j) = rw (and-false (eqb q p)) k
      by none = test (free s.desk l)
  call_keeps K (get q node v c) = same _ (unchanged_get K s.desk q node (lend s.values v) c)
  call_keeps K (put q node value v c) = same _ (unchanged_put K s.desk q node value (lend s.values v) c)
  call_keeps K (add q node number v c) = same _ (unchanged_add K s.desk q node number (lend s.values v) c)
  call_keeps K (leave q list) = by (leave_refusal K s.desk q list)
    where
      by : (o : Option ℕ) → Keeps given (stage_at (leave_unless o s.desk q list).desk p)
      by (some j) = k
      by none =
          sweep_stage (Keeps given) (λ l k. k) p (keep (λ other. not (eqb other q)) (queue_of s.desk))
          (record { entries = set s.desk.entries q (entry_of Out); stay = []; granted = [] })
          (stage_by (Keeps given) s.desk.entries q p Out (λ i. tt) k)

run_keeps : (p : ℕ) (steps : List Step) (s : State) (given : List ℕ) → Keeps given (stage_at s.desk p)
    → Keeps (given_in p steps s given) (stage_at (run steps s).state.desk p)
unfolding run also_ran given_in move
run_keeps p [] s given k = k
run_keeps p (x ∷ xs) s given k =
    run_keeps p xs (move_call (lent_to x s.hierarchy) x.call s).state _ (unfold After in call_keeps p s given k (lent_to x s.hierarchy) x.call)

-- THE THEOREM: after any list from a fresh desk, what a party holds or waits for keeps the names of its last enter that was not refused
pub names_kept_law : (H : Hierarchy) (values : List ℕ) (steps : List Step) (p : ℕ)
    → Keeps (given_in p steps (start H values) []) (stage_at (run steps (start H values)).state.desk p)
names_kept_law H values steps p = run_keeps p steps (start H values) [] (subst (Keeps []) (sym (all_out 32 p)) tt)

-- SO A GET, PUT OR ADD that is not refused, taken after any list, with any tables, is of a node that a name given in that enter reaches
module _ (H : Hierarchy) (values : List ℕ) (steps : List Step) (K : Hierarchy) (p node : ℕ) (lent scratch : List ℕ) where
  abbrev d : Desk
  d = (run steps (start H values)).state.desk

  abbrev given : List ℕ
  given = given_in p steps (start H values) []

  -- a name given reaches the node, by the lent edges
  abbrev pub GivenReaches : Type 0
  GivenReaches = (name : ℕ) × In name given × Reach (edges_of K.edges K.edge_count) name node

  seen_given : Sees K d p node → GivenReaches
  seen_given v =
      let kept : v.hold.names ≡ named (ascending given) = subst (Keeps given) v.holds (names_kept_law H values steps p) in
      let few : length (ascending given) ≤ 8 = subst (λ (m : Names). m.count ≤ 8) kept v.most in
      (v.name, ascending_in v.name given (subst (λ (l : List ℕ). In v.name l) (ap names_of kept ∙ named_names (ascending given) few) v.kept), v.reaches)

  -- and one refused with 16 is of a node that none of them reaches
  blind_given : Blind K d p node → GivenReaches → ⊥
  blind_given v (name, i, w) =
      let s = v.not_seen in
      let kept : s.hold.names ≡ named (ascending given) = subst (Keeps given) s.holds (names_kept_law H values steps p) in
      let few : length (ascending given) ≤ 8 = subst (λ (m : Names). m.count ≤ 8) kept v.most in
      s.nowhere name (subst (λ (l : List ℕ). In name l) (sym (ap names_of kept ∙ named_names (ascending given) few)) (in_ascending name given i)) w

  pub visit_gets : (value : ℕ) → (get_step K d p node lent scratch).answer ≡ done value → GivenReaches
  visit_gets value e = seen_given (get_sees K d p node lent scratch value e)

  pub visit_puts : (value : ℕ) → (put_step K d p node value lent scratch).answer ≡ done tt → GivenReaches
  visit_puts value e = seen_given (put_sees K d p node lent scratch value e)

  pub visit_adds : (number : ℕ) → (add_step K d p node number lent scratch).answer ≡ done tt → GivenReaches
  visit_adds number e = seen_given (add_sees K d p node lent scratch number e)

  pub visit_get_sixteen : (get_step K d p node lent scratch).answer ≡ refused 16 → GivenReaches → ⊥
  visit_get_sixteen e = blind_given (get_sixteen K d p node lent scratch e)

  pub visit_put_sixteen : (value : ℕ) → (put_step K d p node value lent scratch).answer ≡ refused 16 → GivenReaches → ⊥
  visit_put_sixteen value e = blind_given (put_sixteen K d p node lent scratch value e)

  pub visit_add_sixteen : (number : ℕ) → (add_step K d p node number lent scratch).answer ≡ refused 16 → GivenReaches → ⊥
  visit_add_sixteen number e = blind_given (add_sixteen K d p node lent scratch number e)
