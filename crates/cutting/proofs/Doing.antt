-- A step changes one value at most, so after any steps there are as many values as nodes. Assumes nothing.
use mathlib.Core.Path.{◌≡◌, refl, sym, subst, ◌∙◌}
use mathlib.Core.List.{List, [], ◌∷◌, map}
use mathlib.Core.Option.{Option, none, some}
use Prim.Native.Nat.{ℕ}
use lib.Dec.{ltb}
use lib.ListN.{length, get_or, take, set, replicate, length-set, length-replicate}
use lib.Seq.{set_out}
use borrow.Author.Tests.{ltb-true, ltb-false}
use Rattle.lists.specs.Answer.{refusal}
use Rattle.lists.proofs.Bools.{bool}
use Rattle.locks.specs.Lent.{Hierarchy}
use Rattle.desk.specs.declared.Desk.{Desk}
use Rattle.desk.specs.Steps.{put_own, add_own, value_checks, scratch_left, put_unless, put_step, sum64, add_step}
use Rattle.runs.specs.Run.{Lending, lend, restored, Call, enter, get, put, add, leave, Step, lent_to, State, start, after_enter, after_get, after_put, after_add, after_leave, move_call, move, also_ran, run}
use Rattle.runs.proofs.Lends.{restored_lend, restored_lend_set}
use Rattle.replay.specs.Replay.{size_of, step_records, step_of, built_of, values_in}
use Rattle.replay.proofs.Records.{values_length}
use Rattle.cutting.specs.Cut.{after_first}

-- WHAT HOLDS OF THE VALUES, and of them with one place stored, whichever and whatever it is,
module _ (P : List ℕ → Type 0) (values : List ℕ) (same : P values) (stored : (node value : ℕ) → P (set values node value)) where
  -- holds after a put or add
  unless_one : (o : Option ℕ) (d : Desk) (node value : ℕ) (l : Lending) (scratch : List ℕ) → P (restored values (put_unless o d node value (lend values l) scratch).values)
  unless_one (some k) d node value l scratch = subst P (sym (restored_lend values l)) same
  unless_one none d node value l scratch =
      bool (ltb node (length (lend values l)))
      (λ e. subst P (sym (restored_lend_set values l node value (ltb-true node (length (lend values l)) e))) (stored node value))
      (λ e. subst (λ (v : List ℕ). P (restored values v)) (sym (set_out (lend values l) node value (ltb-false node (length (lend values l)) e))) (subst P (sym (restored_lend values l)) same))

-- and so after any step
pub step_one : (P : List ℕ → Type 0) (x : Step) (s : State) → P s.values → ((node value : ℕ) → P (set s.values node value)) → P (move x s).state.values
unfolding move move_call after_enter after_get after_put after_add after_leave put_step add_step
step_one P x s same stored = by (lent_to x s.hierarchy) x.call
  where
    by : (K : Hierarchy) (c : Call) → P (move_call K c s).state.values
    by K (enter party mode names name_count) = same
    by K (get party node l scratch) = same
    by K (put party node value l scratch) =
        let values : List ℕ = lend s.values l in
        unless_one P s.values same stored (refusal (value_checks K s.desk party node values scratch (put_own s.desk party))) s.desk node value l (scratch_left K values scratch)
    by K (add party node number l scratch) =
        let values : List ℕ = lend s.values l in
        unless_one P s.values same stored (refusal (value_checks K s.desk party node values scratch (add_own s.desk party))) s.desk node
        (sum64 (get_or values node 0) number) l (scratch_left K values scratch)
    by K (leave party list) = same

-- AS MANY VALUES as before
run_values : (xs : List Step) (s : State) → length (run xs s).state.values ≡ length s.values
unfolding run also_ran
run_values [] s = refl
run_values (x ∷ xs) s = run_values xs (move x s).state ∙ step_one (λ (v : List ℕ). length v ≡ length s.values) x s refl (λ node value. length-set s.values node value)

-- after the first k steps as many as nodes
pub values_long : (rs : List (List ℕ)) (k : ℕ) → length (after_first rs k).values ≡ size_of rs
values_long rs k =
    run_values (map step_of (take k (step_records rs))) (start (built_of rs) (values_in (size_of rs) rs))
    ∙ values_length rs (replicate (size_of rs) 0) ∙ length-replicate (size_of rs) 0
