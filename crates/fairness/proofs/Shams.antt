-- THEOREMS: that nobody is passed over is the rules' doing. It holds by the paper's, and is false of a desk that lets newcomers pass waiters that they conflict with, of one that takes the
-- waiters from the back, and where only the holders count as ahead (02, point 8). Assumes nothing.
use mathlib.Core.Path.{◌≡◌, refl, sym, ap, ◌∙◌, subst}
use mathlib.Core.List.{List, [], ◌∷◌}
use mathlib.Core.Bool.{true, false}
use mathlib.Core.Option.{Option, none, some}
use Prim.Native.Nat.{ℕ}
use lib.ListN.{length, take}
use Rattle.lists.specs.Lists.{all_below, any_below, every, any, keep, over, fold_from, least, greatest}
use Rattle.lists.specs.Answer.{done, refusal}
use Rattle.lists.proofs.Bools.{not_both}
use Rattle.hierarchy.specs.Hierarchy.{some_edge}
use Rattle.covers.specs.Cover.{closest}
use Rattle.naming.specs.Names.{insert, insert_all, rises_from}
use Rattle.locks.specs.declared.Mode.TheVariants.{Reading, Writing}
use Rattle.locks.specs.declared.Lock.{Lock}
use Rattle.locks.specs.declared.Stage.TheVariants.{Waiting, Holding}
use Rattle.locks.specs.Stages.{is_waiting}
use Rattle.locks.specs.Lent.{Hierarchy, lock_for}
use Rattle.parties.specs.Sound.{sound_parties}
use Rattle.sweeps.specs.Sweeps.{offer, sweep}
use Rattle.grants.specs.Grants.{count_grants}
use Rattle.desk.specs.declared.Desk.{Desk}
use Rattle.desk.specs.Desks.{stage_at}
use Rattle.desk.specs.Steps.{granted, waits, EnterResult, enter_refusal, enter_unless, enter_step, leave_refusal, leave_unless, leave_step}
use Rattle.runs.specs.Run.{Call, enter, get, put, add, leave, entered, left, State, after_enter, listed, after_leave, move_call, Ran, also_ran}
use Rattle.runs.proofs.Written.{lock, desk, one, whole}
use Rattle.fairness.specs.AnySteps.{AnyStep, run_any}
use Rattle.fairness.specs.Ahead.{numbers_below, ahead, has_left, all_left}
use Rattle.fairness.specs.Rules.{Rules, paper_rules, newcomers_pass, from_the_back, only_holders, enter_by, leave_by, move_by, run_by, NobodyPassedOver}
use Rattle.fairness.proofs.Fairness.{nobody_passed_over}
use Rattle.fairness.proofs.Written.{at, comes, goes}

-- BY THE PAPER'S RULES a step is the desk's: enter,
enter_same : (o : Option ℕ) (d : Desk) (party : ℕ) (l : Lock) → enter_by paper_rules o d party l ≡ enter_unless o d party l
enter_same (some k) d party l = refl
enter_same none d party l = refl

-- leave,
leave_same : (o : Option ℕ) (d : Desk) (party : ℕ) (list : List ℕ) → leave_by paper_rules o d party list ≡ leave_unless o d party list
leave_same (some k) d party list = refl
leave_same none d party list = refl

-- any,
move_same : (K : Hierarchy) (c : Call) (s : State) → move_by paper_rules K c s ≡ move_call K c s
unfolding move_by move_call enter_step leave_step
move_same K (enter party mode names name_count) s =
    ap (after_enter party s) (enter_same (enter_refusal K s.desk party names name_count) s.desk party (lock_for K mode (take name_count names)))
move_same K (get party node v scratch) s = refl
move_same K (put party node value v scratch) s = refl
move_same K (add party node number v scratch) s = refl
move_same K (leave party list) s = ap (after_leave party s) (leave_same (leave_refusal K s.desk party list) s.desk party list)

-- and a list
pub run_same : (steps : List AnyStep) (s : State) → run_by paper_rules steps s ≡ run_any steps s
unfolding run_by run_any
run_same [] s = refl
run_same (x ∷ xs) s = rw (move_same x.tables x.call s) (ap (also_ran (move_call x.tables x.call s)) (run_same xs (move_call x.tables x.call s).state))

-- THE PAPER'S RULES pass nobody over
pub paper_passes_nobody : NobodyPassedOver paper_rules ahead
unfolding enter_step
paper_passes_nobody K d entries queue p mode names name_count answered s same steps =
    let l = lock_for K mode (take name_count names) in
    let sames = enter_same (enter_refusal K d p names name_count) d p l in
    subst (λ (ran : Ran). all_left (ahead d) ran.events ≡ true → has_left ran.events p ≡ false → stage_at ran.state.desk p ≡ Holding l) (sym (run_same steps s))
    (nobody_passed_over K d (record { entries = entries; queue = queue }) p mode names name_count (ap (λ r. r.answer) (sym sames) ∙ answered) s (same ∙ ap (λ r. r.desk) sames) steps)

-- OTHERS DO, or where others are counted: the claim is false of rules by which a writer of one node begins to wait at some desk, and still waits behind steps in which all those have left who count
-- as ahead, and its own party has not
module _ (rules : Rules) (first : Desk → List ℕ) (d : Desk) (p : ℕ) (s : State) (steps : List AnyStep) where
  abbrev began : EnterResult
  began = enter_by rules (enter_refusal one d p (0 ∷ []) 1) d p (whole Writing)

  abbrev ran : Ran
  ran = run_by rules steps s

  passes_over : length d.entries ≡ 32 → length d.queue ≡ 32 → lock_for one Writing (0 ∷ []) ≡ whole Writing → began.answer ≡ done waits → s.desk ≡ began.desk
      → all_left (first d) ran.events ≡ true → has_left ran.events p ≡ false → is_waiting (stage_at ran.state.desk p) ≡ true → NobodyPassedOver rules first → ⊥
  passes_over entries queue asked answered same all stays still claim =
      let held = claim one d entries queue p Writing (0 ∷ []) 1 (rw asked answered) s (rw asked same) steps all stays in
      not_both (is_waiting (stage_at ran.state.desk p)) still (ap is_waiting held)

-- NEWCOMERS PASS: 0 reads; 1 would write, and waits. 2 comes, reads, and is let in; 0 leaves, and 1 still waits
abbrev reader : Desk
reader = desk (Holding (whole Reading) ∷ []) [] []

abbrev reader_behind : State
reader_behind = at (desk (Holding (whole Reading) ∷ Waiting (whole Writing) ∷ []) (1 ∷ []) [])

abbrev reader_steps : List AnyStep
reader_steps = comes one 2 Reading (0 ∷ []) ∷ goes one 0 32 ∷ []

-- a newcomer that writes is let in, too: over two nodes below the root, 0 writes the one, and 1 would write both; 2 writes the other
abbrev two : Hierarchy
two = record { n = 3; intervals = 1 ∷ 2 ∷ 1 ∷ 1 ∷ 2 ∷ 2 ∷ []; edges = 0 ∷ 1 ∷ 0 ∷ 2 ∷ []; edge_count = 2 }

abbrev both_behind : State
both_behind = at (desk (Holding (lock Writing 1 1 1 (1 ∷ [])) ∷ Waiting (lock Writing 0 1 2 (1 ∷ 2 ∷ [])) ∷ []) (1 ∷ []) [])

pub newcomers_told : ((run_by newcomers_pass reader_steps reader_behind).events ≡ entered 2 (done (granted 0)) ∷ left 0 (done []) ∷ [])
    × ((run_by newcomers_pass (comes two 2 Writing (2 ∷ []) ∷ []) both_behind).events ≡ entered 2 (done (granted 2)) ∷ [])
unfolding all_below any_below every any keep over fold_from least greatest refusal some_edge closest insert insert_all rises_from sound_parties offer sweep count_grants enter_step after_enter listed after_leave
    also_ran numbers_below move_by run_by
newcomers_told = (refl, refl)

pub newcomers_pass_over : NobodyPassedOver newcomers_pass ahead → ⊥
unfolding all_below any_below every any keep over fold_from least greatest refusal some_edge closest insert insert_all rises_from sound_parties offer sweep count_grants enter_step after_enter listed after_leave
    also_ran numbers_below move_by run_by
newcomers_pass_over = passes_over newcomers_pass ahead reader 1 reader_behind reader_steps refl refl refl refl refl refl refl refl

-- WAITERS FROM THE BACK: 0 writes; 1 would, and waits. 2 would, and waits behind it; 0 leaves: 2 is granted, and 1 still waits
abbrev writer : Desk
writer = desk (Holding (whole Writing) ∷ []) [] []

abbrev writer_behind : Desk
writer_behind = desk (Holding (whole Writing) ∷ Waiting (whole Writing) ∷ []) (1 ∷ []) []

abbrev writer_steps : List AnyStep
writer_steps = comes one 2 Writing (0 ∷ []) ∷ goes one 0 32 ∷ []

-- of three readers behind a writer, the last to come is granted first
abbrev readers_behind : State
readers_behind = at (desk (Holding (whole Writing) ∷ Waiting (whole Reading) ∷ Waiting (whole Reading) ∷ Waiting (whole Reading) ∷ []) (3 ∷ 1 ∷ 2 ∷ []) [])

pub back_told : ((run_by from_the_back writer_steps (at writer_behind)).events ≡ entered 2 (done waits) ∷ left 0 (done (2 ∷ [])) ∷ [])
    × ((run_by from_the_back (goes one 0 32 ∷ []) readers_behind).events ≡ left 0 (done (2 ∷ 1 ∷ 3 ∷ [])) ∷ [])
unfolding all_below any_below every any keep over fold_from least greatest refusal some_edge closest insert insert_all rises_from sound_parties offer sweep count_grants enter_step after_enter listed after_leave
    also_ran numbers_below move_by run_by
back_told = (refl, refl)

pub back_passes_over : NobodyPassedOver from_the_back ahead → ⊥
unfolding all_below any_below every any keep over fold_from least greatest refusal some_edge closest insert insert_all rises_from sound_parties offer sweep count_grants enter_step after_enter listed after_leave
    also_ran numbers_below move_by run_by
back_passes_over = passes_over from_the_back ahead writer 1 (at writer_behind) writer_steps refl refl refl refl refl refl refl refl

-- BY THE PAPER'S RULES the same steps let 1 in, in both cases
pub paper_told : ((run_by paper_rules reader_steps reader_behind).events ≡ entered 2 (done waits) ∷ left 0 (done (1 ∷ [])) ∷ [])
    × ((run_by paper_rules writer_steps (at writer_behind)).events ≡ entered 2 (done waits) ∷ left 0 (done (1 ∷ [])) ∷ [])
unfolding all_below any_below every any keep over fold_from least greatest refusal some_edge closest insert insert_all rises_from sound_parties offer sweep count_grants enter_step after_enter listed after_leave
    also_ran numbers_below move_by run_by
paper_told = (refl, refl)

-- ONLY THE HOLDERS COUNT: 0 writes; 1 would, and waits; 2 would, and waits behind it. 0, the only holder, leaves: 1 is granted, and 2 still waits
abbrev two_behind : State
two_behind = at (desk (Holding (whole Writing) ∷ Waiting (whole Writing) ∷ Waiting (whole Writing) ∷ []) (1 ∷ 2 ∷ []) [])

pub holders_told : (only_holders writer_behind ≡ 0 ∷ []) × ((run_by paper_rules (goes one 0 32 ∷ []) two_behind).events ≡ left 0 (done (1 ∷ [])) ∷ [])
unfolding all_below any_below every any keep over fold_from least greatest refusal some_edge closest insert insert_all rises_from sound_parties offer sweep count_grants enter_step after_enter listed after_leave
    also_ran numbers_below move_by run_by
holders_told = (refl, refl)

pub only_holders_pass_over : NobodyPassedOver paper_rules only_holders → ⊥
unfolding all_below any_below every any keep over fold_from least greatest refusal some_edge closest insert insert_all rises_from sound_parties offer sweep count_grants enter_step after_enter listed after_leave
    also_ran numbers_below move_by run_by
only_holders_pass_over = passes_over paper_rules only_holders writer_behind 2 two_behind (goes one 0 32 ∷ []) refl refl refl refl refl refl refl refl
