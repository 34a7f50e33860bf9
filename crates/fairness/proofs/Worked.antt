-- WORKED CASES, by computation: a large writing call behind small ones, with newcomers that come and go meanwhile; and 31 ahead. They meet the hypotheses of the theorems.
-- Assumes nothing.
use mathlib.Core.Path.{◌≡◌, refl}
use mathlib.Core.List.{List, [], ◌∷◌, ◌++◌, map}
use mathlib.Core.Bool.{true, false}
use lib.ListN.{replicate}
use Rattle.lists.specs.Lists.{all_below, any_below, every, any, keep, over, fold_from, least, greatest}
use Rattle.lists.specs.Answer.{done, refused, refusal}
use Rattle.lists.proofs.Members.{head, tail}
use Rattle.hierarchy.specs.Hierarchy.{some_edge}
use Rattle.covers.specs.Cover.{closest}
use Rattle.naming.specs.Names.{insert, insert_all, rises_from}
use Rattle.locks.specs.declared.Mode.TheVariants.{Reading, Writing}
use Rattle.locks.specs.declared.Lock.{Lock}
use Rattle.locks.specs.declared.Stage.{Stage}
use Rattle.locks.specs.declared.Stage.TheVariants.{Out, Waiting, Holding}
use Rattle.locks.specs.Lent.{Hierarchy}
use Rattle.parties.specs.Sound.{sound_parties}
use Rattle.sweeps.specs.Sweeps.{offer, sweep}
use Rattle.grants.specs.Grants.{count_grants}
use Rattle.desk.specs.declared.Desk.{Desk}
use Rattle.desk.specs.Desks.{fresh_desk, stage_at}
use Rattle.desk.specs.Steps.{granted, waits, enter_step, leave_step}
use Rattle.runs.specs.Run.{entered, left, after_enter, listed, after_leave, move_call, also_ran}
use Rattle.runs.proofs.Written.{lock, desk, one, whole, T}
use Rattle.soundness.proofs.Orderly.{Shaped}
use Rattle.fairness.specs.AnySteps.{AnyStep, move_any, run_any}
use Rattle.fairness.specs.Ahead.{numbers_below, ahead, front_of, in_front, others, has_left, visit_left}
use Rattle.fairness.proofs.Fairness.{nobody_passed_over, as_soon_as, waiter_not_passed_over}
use Rattle.fairness.proofs.Written.{at, comes, goes}

-- the small calls: 1 writes 7 and 2 reads 8, both are in; 3 would write 8, and waits for 2
abbrev small : Desk
small =
    desk (Out ∷ Holding (lock Writing 5 3 3 (7 ∷ [])) ∷ Holding (lock Reading 8 4 4 (8 ∷ [])) ∷ Waiting (lock Writing 8 4 4 (8 ∷ [])) ∷ []) (3 ∷ []) (0 ∷ 1 ∷ 1 ∷ [])

-- that is where their enters lead from a fresh desk
pub small_reached : (run_any (comes T 1 Writing (7 ∷ []) ∷ comes T 2 Reading (8 ∷ []) ∷ comes T 3 Writing (8 ∷ []) ∷ []) (at fresh_desk)).state.desk ≡ small
unfolding all_below any_below every any fold_from least greatest refusal some_edge closest insert insert_all rises_from sound_parties enter_step after_enter move_call also_ran run_any
small_reached = refl

-- the large one: 4 would write 7 and 8, whose cover is 2, with the numbers 3 and 4
abbrev large : Lock
large = lock Writing 2 3 4 (7 ∷ 8 ∷ [])

abbrev behind : Desk
behind =
    desk (Out ∷ Holding (lock Writing 5 3 3 (7 ∷ [])) ∷ Holding (lock Reading 8 4 4 (8 ∷ [])) ∷ Waiting (lock Writing 8 4 4 (8 ∷ [])) ∷ Waiting large ∷ []) (3 ∷ 4 ∷ []) (0 ∷ 1 ∷ 1 ∷ [])

-- it waits, behind 1, 2 and 3
pub large_waits : ((enter_step T small 4 Writing (7 ∷ 8 ∷ []) 2).answer ≡ done waits) × (ahead small ≡ 1 ∷ 2 ∷ 3 ∷ [])
unfolding all_below any_below every any keep fold_from least greatest refusal some_edge closest insert insert_all rises_from sound_parties enter_step numbers_below
large_waits = (refl, refl)

-- tables with no node
abbrev none : Hierarchy
none = record { n = 0; intervals = []; edges = []; edge_count = 0 }

-- MEANWHILE: 5 comes and reads 3. 6 would read 8 and waits behind 4. 1 leaves, comes back and would read 7: it waits behind 4. 5 leaves. 2 leaves: 3 is granted. 6 gives up. 7 would
-- read 8 and waits. 8 comes with tables that are refused, and 3 would leave with too short a list
abbrev meanwhile : List AnyStep
meanwhile =
    comes T 5 Reading (3 ∷ []) ∷ comes T 6 Reading (8 ∷ []) ∷ goes T 1 32 ∷ comes T 1 Reading (7 ∷ []) ∷ goes T 5 32 ∷ goes T 2 32 ∷ goes T 6 32
    ∷ comes T 7 Reading (8 ∷ []) ∷ comes none 8 Reading (0 ∷ []) ∷ goes T 3 31 ∷ []

-- what they are answered; and 4 still waits, with 3 the last of those ahead
pub meanwhile_told : ((run_any meanwhile (at behind)).events
    ≡ entered 5 (done (granted 3)) ∷ entered 6 (done waits) ∷ left 1 (done []) ∷ entered 1 (done waits) ∷ left 5 (done []) ∷ left 2 (done (3 ∷ [])) ∷ left 6 (done [])
    ∷ entered 7 (done waits) ∷ entered 8 (refused 5) ∷ left 3 (refused 1) ∷ [])
    × (stage_at (run_any meanwhile (at behind)).state.desk 4 ≡ Waiting large)
unfolding all_below any_below every any keep over fold_from least greatest refusal some_edge closest insert insert_all rises_from sound_parties enter_step offer sweep count_grants leave_step after_enter listed after_leave
    move_call also_ran run_any
meanwhile_told = (refl, refl)

-- THEN 3 LEAVES, and that leave lists 4
pub then_granted : (move_any (goes T 3 32) (run_any meanwhile (at behind)).state).event ≡ left 3 (done (4 ∷ []))
unfolding all_below any_below every any keep over fold_from least greatest refusal some_edge closest insert insert_all rises_from sound_parties enter_step offer sweep count_grants leave_step after_enter listed after_leave
    move_call also_ran run_any
then_granted = refl

shaped : Shaped small
shaped = record { entries = refl; queue = refl }

-- THE THEOREM ON THIS CASE: its hypotheses are met by computation, and its conclusion is that 4 holds what it called for. With the whole list,
pub large_holds : stage_at (run_any (meanwhile ++ (goes T 3 32 ∷ [])) (at behind)).state.desk 4 ≡ Holding large
unfolding all_below any_below every any keep over fold_from least greatest refusal some_edge closest insert insert_all rises_from sound_parties enter_step offer sweep count_grants leave_step after_enter listed after_leave
    move_call also_ran run_any numbers_below
large_holds = nobody_passed_over T small shaped 4 Writing (7 ∷ 8 ∷ []) 2 refl (at behind) refl (meanwhile ++ (goes T 3 32 ∷ [])) refl refl

-- and as the list that ends with the last of these leaves
pub large_soon : stage_at (move_any (goes T 3 32) (run_any meanwhile (at behind)).state).state.desk 4 ≡ Holding large
unfolding all_below any_below every any keep over fold_from least greatest refusal some_edge closest insert insert_all rises_from sound_parties enter_step offer sweep count_grants leave_step after_enter listed after_leave
    move_call also_ran run_any numbers_below
large_soon = as_soon_as T small shaped 4 Writing (7 ∷ 8 ∷ []) 2 refl (at behind) refl meanwhile (goes T 3 32) 3 (tail (tail head)) refl refl refl

-- 1 HAS LEFT AND COME BACK: its visit of before has left, and it waits for a later one. 5, which came later, has left, and had no visit before. 3, whose leave was refused, has not left
pub come_back : (visit_left (run_any meanwhile (at behind)).events 1 ≡ true) × (stage_at (run_any meanwhile (at behind)).state.desk 1 ≡ Waiting (lock Reading 5 3 3 (7 ∷ [])))
    × (has_left (run_any meanwhile (at behind)).events 5 ≡ true) × (visit_left (run_any meanwhile (at behind)).events 5 ≡ false)
    × (has_left (run_any meanwhile (at behind)).events 3 ≡ false)
unfolding all_below any_below every any keep over fold_from least greatest refusal some_edge closest insert insert_all rises_from sound_parties enter_step offer sweep count_grants leave_step after_enter listed after_leave
    move_call also_ran run_any visit_left
come_back = (refl, refl, refl, refl, refl)

-- WHO IS IN FRONT of 4, when 5 is in and 6 waits behind it: those who hold, 5 too, and 3, which waits before it; the others are 6 besides
abbrev later : Desk
later =
    desk
    (Out ∷ Holding (lock Writing 5 3 3 (7 ∷ [])) ∷ Holding (lock Reading 8 4 4 (8 ∷ [])) ∷ Waiting (lock Writing 8 4 4 (8 ∷ [])) ∷ Waiting large
    ∷ Holding (lock Reading 3 1 1 (3 ∷ [])) ∷ Waiting (lock Reading 8 4 4 (8 ∷ [])) ∷ [])
    (3 ∷ 4 ∷ 6 ∷ []) (0 ∷ 1 ∷ 1 ∷ 0 ∷ 0 ∷ 1 ∷ [])

pub in_front_told : ((run_any (comes T 5 Reading (3 ∷ []) ∷ comes T 6 Reading (8 ∷ []) ∷ []) (at behind)).state.desk ≡ later)
    × (in_front 4 later ≡ 1 ∷ 2 ∷ 3 ∷ 5 ∷ []) × (others 4 later ≡ 1 ∷ 2 ∷ 3 ∷ 5 ∷ 6 ∷ [])
unfolding all_below any_below every any keep fold_from least greatest refusal some_edge closest insert insert_all rises_from sound_parties enter_step after_enter move_call also_ran run_any numbers_below front_of
in_front_told = (refl, refl, refl)

-- once these have left it holds, though 6 still waits: by the theorem of a party that waits already
pub later_holds : stage_at (run_any (goes T 1 32 ∷ goes T 2 32 ∷ goes T 5 32 ∷ goes T 3 32 ∷ []) (at later)).state.desk 4 ≡ Holding large
unfolding all_below any_below every any keep over fold_from least greatest refusal some_edge closest insert insert_all rises_from sound_parties offer sweep count_grants leave_step listed after_leave move_call also_ran run_any
    numbers_below front_of
later_holds =
    waiter_not_passed_over T (at later) (record { entries = refl; queue = refl }) refl 4 large refl (goes T 1 32 ∷ goes T 2 32 ∷ goes T 5 32 ∷ goes T 3 32 ∷ []) refl refl

-- 31 AHEAD: one node, which parties 0 to 30 read, and 31 would write
abbrev readers : List Stage
readers = replicate 31 (Holding (whole Reading))

abbrev full : Desk
full = desk readers [] []

abbrev full_behind : Desk
full_behind = desk (readers ++ (Waiting (whole Writing) ∷ [])) (31 ∷ []) []

-- the first and the last party are ahead as the others are
pub ends_ahead : ahead (desk (Holding (whole Reading) ∷ replicate 30 Out ++ (Waiting (whole Writing) ∷ [])) (31 ∷ []) []) ≡ 0 ∷ 31 ∷ []
unfolding keep numbers_below
ends_ahead = refl

-- 30 of them leave: it still waits; with the last of them it holds. So no number below 31 would do
pub thirty_one : ((enter_step one full 31 Writing (0 ∷ []) 1).desk ≡ full_behind) × (ahead full ≡ numbers_below 31)
    × (stage_at (run_any (map (λ party. goes one party 32) (numbers_below 30)) (at full_behind)).state.desk 31 ≡ Waiting (whole Writing))
    × (stage_at (run_any (map (λ party. goes one party 32) (numbers_below 31)) (at full_behind)).state.desk 31 ≡ Holding (whole Writing))
unfolding all_below any_below every any keep over fold_from least greatest refusal some_edge closest insert insert_all rises_from sound_parties enter_step offer sweep count_grants leave_step after_enter listed after_leave
    move_call also_ran run_any numbers_below
thirty_one = (refl, refl, refl, refl)
