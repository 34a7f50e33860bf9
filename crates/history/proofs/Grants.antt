-- THE COUNTS AFTER A LIST OF STEPS are those before it, with the parties that it granted counted in the order of granting. Assumes nothing.
use mathlib.Core.Path.{◌≡◌, refl, sym, ap, ◌∙◌}
use mathlib.Core.Bool.{Bool, true, false}
use mathlib.Core.List.{List, [], ◌∷◌, ◌++◌}
use mathlib.Core.Option.{Option, none, some}
use Prim.Native.Nat.{ℕ, ◌+◌, ◌≤◌, ◌<◌, min}
use native.Mathlib.Omega.{arith}
use lib.Dec.{eqb}
use lib.ListN.{length, get_or, take, drop, length-set}
use lib.Seq.{get_or-set_same, get_or-set_other, take-append_seam}
use borrow.Author.Tests.{eqb-true, eqb-false}
use Rattle.lists.specs.Lists.{one, count, over}
use Rattle.lists.specs.Answer.{refusal}
use Rattle.locks.specs.declared.Lock.{Lock}
use Rattle.locks.specs.Lent.{Hierarchy, lock_for}
use Rattle.grants.specs.Grants.{one_grant_more, count_grant, count_grants}
use Rattle.desk.specs.declared.Desk.{Desk}
use Rattle.desk.specs.Steps.{free, enter_refusal, enter_if, enter_unless, enter_step, value_checks, scratch_left, get_own, get_unless, get_step, put_own, put_unless, put_step}
use Rattle.desk.specs.Steps.{sum64, add_own, add_step, after_leaving, leave_refusal, leave_unless, leave_step}
use Rattle.runs.specs.Run.{lend, Call, enter, get, put, add, leave, State, Moved, listed, lent_to, after_enter, after_get, after_put, after_add, after_leave, move_call, move}
use Rattle.runs.specs.Run.{Step, also_ran, run}
use Rattle.history.specs.History.{granted_by, granted_in}

-- GRANTS in two lists, one behind the other
grants_append : (xs ys grants : List ℕ) → count_grants grants (xs ++ ys) ≡ count_grants (count_grants grants xs) ys
unfolding count_grants
grants_append [] ys grants = refl
grants_append (x ∷ xs) ys grants = grants_append xs ys (count_grant grants x)

-- a party's count after one grant more
module _ (grants : List ℕ) (other party : ℕ) (h : party < length grants) where
  abbrev next : List ℕ
  next = count_grant grants other

  grant_at : (b : Bool) → eqb other party ≡ b → get_or grants party 0 ≤ 4294967295 → get_or next party 0 ≡ min (get_or grants party 0 + one b) 4294967295
  grant_at true e g =
      let at : get_or next party 0 ≡ one_grant_more (get_or grants party 0) =
      ap (λ (q : ℕ). get_or (count_grant grants q) party 0) (eqb-true other party e) ∙ get_or-set_same grants party (one_grant_more (get_or grants party 0)) 0 h in
      omega (arith, at, g)
  grant_at false e g =
      let at : get_or next party 0 ≡ get_or grants party 0 = get_or-set_other grants other party (one_grant_more (get_or grants other 0)) 0 (λ q. eqb-false other party e (sym q)) in
      omega (arith, at, g)

-- and after any list of grants: so many more as it was granted, up to the stop
pub grants_at : (parties grants : List ℕ) (party : ℕ) → party < length grants → get_or grants party 0 ≤ 4294967295
    → get_or (count_grants grants parties) party 0 ≡ min (get_or grants party 0 + count (λ other. eqb other party) parties) 4294967295
unfolding count_grants count
grants_at [] grants party h g = omega (arith, g)
grants_at (other ∷ parties) grants party h g =
    let long = length-set grants other (one_grant_more (get_or grants other 0)) in
    let at = grant_at grants other party h (eqb other party) refl g in
    let more = grants_at parties (count_grant grants other) party (omega (arith, long, h)) (omega (arith, at)) in
    omega (arith, at, more)

-- ONE STEP counts for the parties that its event granted
abbrev Counts : State → Moved → Type 0
Counts s m = m.state.desk.grants ≡ count_grants s.desk.grants (granted_by m.event)

module _ (s : State) where
  abbrev d : Desk
  d = s.desk

  enter_counts : (party : ℕ) (l : Lock) (o : Option ℕ) → Counts s (after_enter party s (enter_unless o d party l))
  unfolding count_grants granted_by after_enter
  enter_counts party l (some k) = refl
  enter_counts party l none = by (free d l)
    where
      by : (b : Bool) → Counts s (after_enter party s (enter_if b d party l))
      by true = refl
      by false = refl

  get_counts : (party node value : ℕ) (scratch : List ℕ) (o : Option ℕ) → Counts s (after_get party node s (get_unless o d value scratch))
  unfolding count_grants granted_by after_get
  get_counts party node value scratch (some k) = refl
  get_counts party node value scratch none = refl

  put_counts : (party node value : ℕ) (values scratch : List ℕ) (o : Option ℕ) → Counts s (after_put party node value s (put_unless o d node value values scratch))
  unfolding count_grants granted_by after_put
  put_counts party node value values scratch (some k) = refl
  put_counts party node value values scratch none = refl

  add_counts : (party node number sum : ℕ) (values scratch : List ℕ) (o : Option ℕ) → Counts s (after_add party node number s (put_unless o d node sum values scratch))
  unfolding count_grants granted_by after_add
  add_counts party node number sum values scratch (some k) = refl
  add_counts party node number sum values scratch none = refl

  leave_counts : (party : ℕ) (list : List ℕ) (o : Option ℕ) → Counts s (after_leave party s (leave_unless o d party list))
  unfolding count_grants granted_by after_leave listed over
  leave_counts party list (some k) = refl
  leave_counts party list none =
      let granted : List ℕ = (after_leaving d party).granted in
      ap (count_grants d.grants) (sym (take-append_seam granted (drop (length granted) list)))

  call_counts : (H : Hierarchy) (c : Call) → Counts s (move_call H c s)
  unfolding move_call enter_step get_step put_step add_step leave_step
  call_counts H (enter party mode names name_count) = enter_counts party (lock_for H mode (take name_count names)) (enter_refusal H d party names name_count)
  call_counts H (get party node l c) =
      let values : List ℕ = lend s.values l in
      get_counts party node (get_or values node 0) (scratch_left H values c) (refusal (value_checks H d party node values c (get_own d party)))
  call_counts H (put party node value l c) =
      let values : List ℕ = lend s.values l in
      put_counts party node value values (scratch_left H values c) (refusal (value_checks H d party node values c (put_own d party)))
  call_counts H (add party node number l c) =
      let values : List ℕ = lend s.values l in
      add_counts party node number (sum64 (get_or values node 0) number) values (scratch_left H values c) (refusal (value_checks H d party node values c (add_own d party)))
  call_counts H (leave party list) = leave_counts party list (leave_refusal H d party list)

-- and so does a list, from any hierarchy, desk and values, refused steps included
pub run_counts : (xs : List Step) (s : State) → (run xs s).state.desk.grants ≡ count_grants s.desk.grants (granted_in (run xs s).events)
unfolding run also_ran granted_in count_grants move
run_counts [] s = refl
run_counts (x ∷ xs) s =
    let m : Moved = move x s in
    run_counts xs m.state
    ∙ ap (λ (g : List ℕ). count_grants g (granted_in (run xs m.state).events)) (call_counts s (lent_to x s.hierarchy) x.call)
    ∙ sym (grants_append (granted_by m.event) (granted_in (run xs m.state).events) s.desk.grants)
