-- WORKED CASES, by computation: over table T two lines with gets, puts and adds, in two orders, by themselves and within a longer list; over one node two adds as a host's own calls; and what may not swap. They meet the hypotheses of the theorems.
-- Assumes nothing.
use mathlib.Core.Path.{◌≡◌, refl, sym, ap, ◌∙◌}
use mathlib.Core.Logic.{inr}
use mathlib.Core.List.{List, [], ◌∷◌, ◌++◌, map}
use mathlib.Core.Bool.{Bool, true, false, true≢false}
use Prim.Native.Nat.{ℕ}
use native.Mathlib.Omega.{arith}
use lib.Dec.{eqb}
use lib.ListN.{length, replicate}
use borrow.Author.Tests.{eqb-true}
use Rattle.lists.specs.Lists.{all_below, any_below, every, any, keep, over, fold_from, least, greatest}
use Rattle.lists.specs.Answer.{done, refused, refusal}
use Rattle.lists.proofs.Bools.{bool}
use Rattle.hierarchy.specs.Hierarchy.{some_edge, children, spread, spreads, reach, edge_twice, some_unreached}
use Rattle.intervals.specs.Numbering.{meet, visit, inside, walk, numbering}
use Rattle.intervals.specs.Intervals.{numbers_among, low_of, high_of, intervals_from, interval_table}
use Rattle.intervals.specs.Build.{build_step}
use Rattle.covers.specs.Cover.{closest}
use Rattle.naming.specs.Names.{insert, insert_all, rises_from}
use Rattle.locks.specs.declared.Mode.{Mode}
use Rattle.locks.specs.declared.Mode.TheVariants.{Reading, Writing, Adding}
use Rattle.locks.specs.declared.Stage.TheVariants.{Out, Holding}
use Rattle.parties.specs.Sound.{sound_parties}
use Rattle.sweeps.specs.Sweeps.{offer, sweep}
use Rattle.grants.specs.Grants.{count_grants}
use Rattle.desk.specs.declared.Desk.{Desk}
use Rattle.std.specs.Prelude.{Ok}
use Rattle.desk.specs.Steps.{granted, waits, enter_step, get_step, put_step, add_step, leave_step}
use Rattle.runs.specs.Run.{whole, lend, restored, Call, enter, get, put, add, leave, Step, lent_to, entered, got, stored, added, left, State, start}
use Rattle.runs.specs.Run.{after_enter, after_get, after_put, after_add, listed, after_leave, move_call, move, also_ran, run}
use Rattle.runs.proofs.Written.{lock, desk, one, whole as alone, T, step}
use Rattle.history.specs.Serial.{Built}
use Rattle.history.specs.Results.{add as add_result, Made, AllMeet, told_by_all, last_desk, last_values, call_for, step_for, steps_for}
use Rattle.swaps.specs.Order.{is_access, party_of, event_party, not_refused, scratch_from, tell_all, steps_of, told_of, events_of, cleared, Rearranged, Same, Merged, neither, of_line, of_other, none_on_both}
use Rattle.swaps.proofs.Swaps.{two_lines, two_lines_within}
use Rattle.swaps.proofs.Hosts.{results_rearranged}
use Rattle.swaps.proofs.Shams.{one_built}

abbrev comes : ℕ → Mode → ℕ → Step
comes party mode name = step (enter party mode (name ∷ []) 1)

abbrev scratch : List ℕ
scratch = replicate 256 0

T_built : Built T
unfolding all_below any_below every any keep over fold_from least greatest refusal some_edge children spread spreads reach edge_twice some_unreached meet visit inside walk numbering numbers_among low_of high_of
    intervals_from interval_table build_step
T_built = record { places = replicate 20 0; scratch = replicate 512 0; took = refl; wrote = refl }

-- WHO IS IN: 1 and 2 add in 7, 3 and 31 read 8, and 4 writes 1
abbrev inside_now : Desk
inside_now =
    desk
    (Out ∷ Holding (lock Adding 5 3 3 (7 ∷ [])) ∷ Holding (lock Adding 5 3 3 (7 ∷ [])) ∷ Holding (lock Reading 8 4 4 (8 ∷ [])) ∷ Holding (lock Writing 1 1 2 (1 ∷ []))
    ∷ replicate 26 Out ++ (Holding (lock Reading 8 4 4 (8 ∷ [])) ∷ []))
    [] (0 ∷ 1 ∷ 1 ∷ 1 ∷ 1 ∷ replicate 26 0 ++ (1 ∷ []))

abbrev enters : List Step
enters = comes 1 Adding 7 ∷ comes 2 Adding 7 ∷ comes 3 Reading 8 ∷ comes 4 Writing 1 ∷ comes 31 Reading 8 ∷ []

-- that is where their enters lead from a fresh desk
pub inside_reached : (run enters (start T (replicate 10 0))).state.desk ≡ inside_now
unfolding all_below any_below every any fold_from least greatest refusal some_edge closest insert insert_all rises_from sound_parties enter_step after_enter lend lent_to move_call move also_ran run
inside_reached = refl

abbrev now : State
now = record { hierarchy = T; desk = inside_now; values = replicate 10 0 }

-- THE LINES. On the one 1 adds 10 at 9, 4 puts 77 at 3, 3 gets 8 and 4 gets 3
abbrev line : List Step
line = step (add 1 9 10 whole scratch) ∷ step (put 4 3 77 whole scratch) ∷ step (get 3 8 whole scratch) ∷ step (get 4 3 whole scratch) ∷ []

-- on the other 2 adds 18446744073709551612, which is 4 below 2 to the 64, at 9, 31 gets 8, 2 would get 9, which is refused, and adds 5 at 7
abbrev other : List Step
other =
    step (add 2 9 18446744073709551612 whole scratch) ∷ step (get 31 8 whole scratch) ∷ step (get 2 9 whole scratch) ∷ step (add 2 7 5 whole scratch) ∷ []

-- IN ONE ORDER, the one line and then the other
abbrev in_turn : List Step
in_turn = line ++ other

-- AND IN ANOTHER, in which the two adds at 9 stand the other way round
abbrev mixed : List Step
mixed =
    step (add 2 9 18446744073709551612 whole scratch) ∷ step (add 1 9 10 whole scratch) ∷ step (get 31 8 whole scratch) ∷ step (put 4 3 77 whole scratch) ∷ step (get 2 9 whole scratch)
    ∷ step (add 2 7 5 whole scratch) ∷ step (get 3 8 whole scratch) ∷ step (get 4 3 whole scratch) ∷ []

-- WHAT THEY ARE ANSWERED, and the values left: at 9 the sum passes 2 to the 64, whichever add comes first
abbrev values_left : List ℕ
values_left = 0 ∷ 0 ∷ 0 ∷ 77 ∷ 0 ∷ 0 ∷ 0 ∷ 5 ∷ 0 ∷ 6 ∷ []

pub in_turn_told : ((run in_turn now).events
    ≡ added 1 9 10 (done tt) ∷ stored 4 3 77 (done tt) ∷ got 3 8 (done 0) ∷ got 4 3 (done 77) ∷ added 2 9 18446744073709551612 (done tt) ∷ got 31 8 (done 0) ∷ got 2 9 (refused 18)
    ∷ added 2 7 5 (done tt) ∷ [])
    × ((run in_turn now).state.values ≡ values_left) × ((run in_turn now).state.desk ≡ inside_now)
unfolding all_below any_below every any keep over refusal some_edge spread spreads reach rises_from sound_parties get_step put_step add_step lend restored lent_to after_get after_put after_add move_call move also_ran run
in_turn_told = (refl, refl, refl)

pub mixed_told : ((run mixed now).events
    ≡ added 2 9 18446744073709551612 (done tt) ∷ added 1 9 10 (done tt) ∷ got 31 8 (done 0) ∷ stored 4 3 77 (done tt) ∷ got 2 9 (refused 18) ∷ added 2 7 5 (done tt) ∷ got 3 8 (done 0)
    ∷ got 4 3 (done 77) ∷ [])
    × ((run mixed now).state.values ≡ values_left) × ((run mixed now).state.desk ≡ inside_now)
unfolding all_below any_below every any keep over refusal some_edge spread spreads reach rises_from sound_parties get_step put_step add_step lend restored lent_to after_get after_put after_add move_call move also_ran run
mixed_told = (refl, refl, refl)

-- THE THEOREM ON THIS CASE
in_turn_merged : Merged line other in_turn
in_turn_merged = of_line (of_line (of_line (of_line (of_other (of_other (of_other (of_other neither)))))))

mixed_merged : Merged line other mixed
mixed_merged = of_other (of_line (of_other (of_line (of_other (of_other (of_line (of_line neither)))))))

pub lines_same : Same in_turn mixed now
unfolding every any
lines_same = two_lines now T_built line other in_turn mixed refl refl refl in_turn_merged mixed_merged

-- and from a fresh desk, with the enters before and leaves behind
abbrev leaves : List Step
leaves = step (leave 4 (replicate 32 0)) ∷ step (leave 1 (replicate 32 0)) ∷ []

pub day_same : Same (enters ++ (in_turn ++ leaves)) (enters ++ (mixed ++ leaves)) (start T (replicate 10 0))
unfolding every any
day_same = two_lines_within (start T (replicate 10 0)) T_built enters line other in_turn mixed leaves refl refl refl in_turn_merged mixed_merged

abbrev put4 : Step
put4 = step (put 4 3 77 whole scratch)

abbrev get4 : Step
get4 = step (get 4 3 whole scratch)

-- what is told of 4; and no party has steps on both lines, as 4 would have if its get stood on the other line
pub four_told : (steps_of 4 mixed ≡ put4 ∷ get4 ∷ []) × (map (λ t. t.event) (told_of 4 (tell_all mixed now)) ≡ stored 4 3 77 (done tt) ∷ got 4 3 (done 77) ∷ [])
    × (events_of 4 (run mixed now).events ≡ stored 4 3 77 (done tt) ∷ got 4 3 (done 77) ∷ []) × (none_on_both line other ≡ true) × (none_on_both line (get4 ∷ []) ≡ false)
unfolding all_below any_below every any keep over refusal some_edge spread spreads reach rises_from sound_parties get_step put_step add_step lend restored lent_to after_get after_put after_add move_call move also_ran run
    tell_all
four_told = (refl, refl, refl, refl, refl)

-- WHAT MAY NOT SWAP: two steps of one party. 4 gets 3 behind its own put and before it
pub own_order : ((move get4 (move put4 now).state).event ≡ got 4 3 (done 77)) × ((move get4 now).event ≡ got 4 3 (done 0))
unfolding all_below any_below every any keep over refusal some_edge spread spreads reach rises_from sound_parties get_step put_step lend restored lent_to after_get after_put move_call move
own_order = (refl, refl)

-- so a list with them the other way round is no rearrangement; nor is one that leaves out steps of 2
pub own_kept : (Rearranged (put4 ∷ get4 ∷ []) (get4 ∷ put4 ∷ []) → ⊥) × (Rearranged other (step (get 31 8 whole scratch) ∷ step (get 2 9 whole scratch) ∷ []) → ⊥)
unfolding keep
own_kept = (λ r. true≢false (ap put_first (r 4)), λ r. let e : ◌≡◌ {A = ℕ} 3 1 = ap length (r 2) in omega (arith, e))
  where
    puts : Call → Bool
    puts (enter party mode names name_count) = false
    puts (get party node l c) = false
    puts (put party node value l c) = true
    puts (add party node number l c) = false
    puts (leave party list) = false

    put_first : List Step → Bool
    put_first [] = false
    put_first (x ∷ xs) = puts x.call

-- and an enter and a leave. 5 would write 3: behind 4's leave it is let in, and before that it waits. Neither is a get, put or add
abbrev leaves4 : Step
leaves4 = step (leave 4 (replicate 32 0))

abbrev comes5 : Step
comes5 = comes 5 Writing 3

pub leave_order : ((move comes5 (move leaves4 now).state).event ≡ entered 5 (done (granted 3))) × ((move comes5 now).event ≡ entered 5 (done waits))
    × (is_access comes5 ≡ false) × (is_access leaves4 ≡ false)
unfolding all_below any_below every any keep over fold_from least greatest refusal some_edge closest insert insert_all rises_from sound_parties offer sweep count_grants enter_step leave_step lend lent_to after_enter listed
    after_leave move_call move
leave_order = (refl, refl, refl, refl)

-- nor two enters. When 4 has left, 5 and 6 would write 3: whoever comes first is let in
pub enter_order : let empty = (move leaves4 now).state in let comes6 = comes 6 Writing 3 in
    ((move comes5 empty).event ≡ entered 5 (done (granted 3))) × ((move comes5 (move comes6 empty).state).event ≡ entered 5 (done waits)) × (is_access comes6 ≡ false)
unfolding all_below any_below every any keep over fold_from least greatest refusal some_edge closest insert insert_all rises_from sound_parties offer sweep count_grants enter_step leave_step lend lent_to after_enter listed
    after_leave move_call move
enter_order = (refl, refl, refl)

-- nor a get and a leave that lets its party in: 5 waits to write 3, and gets it behind 4's leave and not before
pub let_in_order : let waiting = (move comes5 now).state in let its = step (get 5 3 whole scratch) in
    ((move its (move leaves4 waiting).state).event ≡ got 5 3 (done 0)) × ((move its waiting).event ≡ got 5 3 (refused 14))
unfolding all_below any_below every any keep over fold_from least greatest refusal some_edge spread spreads reach closest insert insert_all rises_from sound_parties offer sweep count_grants enter_step leave_step get_step lend
    lent_to after_enter after_get listed after_leave move_call move
let_in_order = (refl, refl)

-- WHOSE EACH STEP AND EACH EVENT IS, and which events are refusals
pub parties_told : (map party_of (comes5 ∷ get4 ∷ put4 ∷ step (add 2 7 5 whole scratch) ∷ leaves4 ∷ []) ≡ 5 ∷ 4 ∷ 4 ∷ 2 ∷ 4 ∷ [])
    × (map event_party (entered 5 (done waits) ∷ got 4 3 (done 0) ∷ stored 4 3 77 (done tt) ∷ added 2 7 5 (done tt) ∷ left 4 (done []) ∷ []) ≡ 5 ∷ 4 ∷ 4 ∷ 2 ∷ 4 ∷ [])
    × (map not_refused (entered 5 (done waits) ∷ got 4 3 (done 0) ∷ stored 4 3 77 (done tt) ∷ added 2 7 5 (done tt) ∷ left 4 (done []) ∷ []) ≡ true ∷ true ∷ true ∷ true ∷ true ∷ [])
    × (map not_refused (entered 5 (refused 12) ∷ got 4 3 (refused 16) ∷ stored 4 3 77 (refused 17) ∷ added 2 7 5 (refused 18) ∷ left 4 (refused 13) ∷ [])
    ≡ false ∷ false ∷ false ∷ false ∷ false ∷ [])
parties_told = (refl, refl, refl, refl)

-- the scratch that each leaves: 256 zeros, and what stands behind them; with too short a one, as it was
pub scratch_told : (scratch_from T (get 4 3 whole (replicate 257 9)) now ≡ replicate 256 0 ++ (9 ∷ [])) × (scratch_from T (put 4 3 77 whole (replicate 257 9)) now ≡ replicate 256 0 ++ (9 ∷ []))
    × (scratch_from T (add 2 7 5 whole (replicate 257 9)) now ≡ replicate 256 0 ++ (9 ∷ [])) × (scratch_from T (get 4 3 whole (9 ∷ [])) now ≡ 9 ∷ [])
    × (scratch_from T (enter 5 Writing (3 ∷ []) 1) now ≡ []) × (scratch_from T (leave 4 (replicate 32 9)) now ≡ [])
unfolding all_below any_below every any keep over refusal some_edge spread spreads reach rises_from sound_parties get_step put_step add_step lend
scratch_told = (refl, refl, refl, refl, refl, refl)

-- of each step of a list
pub scratches_told : map (λ t. t.scratch)
    (tell_all (step (get 4 3 whole (replicate 257 9)) ∷ step (put 4 3 77 whole (9 ∷ [])) ∷ step (add 2 7 5 whole (replicate 258 9)) ∷ []) now)
    ≡ (replicate 256 0 ++ (9 ∷ [])) ∷ (9 ∷ []) ∷ (replicate 256 0 ++ (9 ∷ 9 ∷ [])) ∷ []
unfolding all_below any_below every any keep over refusal some_edge spread spreads reach rises_from sound_parties get_step put_step add_step lend restored lent_to after_get after_put after_add move_call move also_ran run
    tell_all
scratches_told = refl

-- A HOST'S OWN CALLS, with one scratch for all: over one node 0 and 1 add, 2 and 3, to a value of 5. In the one order 7 stands between them, in the other 8; both leave 10. Whoever comes first finds the scratch as it was
abbrev adders : Desk
adders = desk (Holding (alone Adding) ∷ Holding (alone Adding) ∷ []) [] []

abbrev used : List ℕ
used = replicate 257 9

abbrev wiped : List ℕ
wiped = replicate 256 0 ++ (9 ∷ [])

abbrev adds : (party number before after : ℕ) → List ℕ → Made
adds party number before after its =
    record { intervals = 1 ∷ 1 ∷ []; edges = []; result = add_result party 0 number (before ∷ []) its (record { desk = adders; answer = Ok tt }) (after ∷ []) wiped }

abbrev zero_first : List Made
zero_first = adds 0 2 5 7 used ∷ adds 1 3 7 10 wiped ∷ []

abbrev one_first : List Made
one_first = adds 1 3 5 8 used ∷ adds 0 2 8 10 wiped ∷ []

-- these results meet the contracts,
pub both_meet : AllMeet one adders (5 ∷ []) zero_first × AllMeet one adders (5 ∷ []) one_first
unfolding all_below any_below every any keep over refusal some_edge spread spreads reach rises_from sound_parties add_step AllMeet
both_meet = (
  (inr refl, inr refl, (inr refl, (refl, refl, refl, refl)), (inr refl, inr refl, (inr refl, (refl, refl, refl, refl)), tt)),
  (inr refl, inr refl, (inr refl, (refl, refl, refl, refl)), (inr refl, inr refl, (inr refl, (refl, refl, refl, refl)), tt)),
)

-- each party makes the same call,
calls_same : Rearranged (map cleared (steps_for one (5 ∷ []) zero_first)) (map cleared (steps_for one (5 ∷ []) one_first))
unfolding keep call_for step_for steps_for
calls_same party = bool (eqb 0 party) (λ t. bool (eqb 1 party) (λ u. both (eqb-true 0 party t) (eqb-true 1 party u)) (λ u. rw (t, u) refl)) (λ t. rw t refl)
  where
    both : {P : Type 0} → 0 ≡ party → 1 ≡ party → P
    both z o = absurd (let e : 0 ≡ 1 = z ∙ sym o in omega (arith, e))

-- and by the theorem the last desk and values are the same, and each was answered the same
pub host_same : (last_desk adders one_first ≡ last_desk adders zero_first) × (last_values (5 ∷ []) one_first ≡ last_values (5 ∷ []) zero_first)
    × ((party : ℕ) → events_of party (told_by_all one_first) ≡ events_of party (told_by_all zero_first))
unfolding every call_for step_for steps_for
host_same = results_rearranged one one_built adders (5 ∷ []) refl zero_first one_first both_meet.0 both_meet.1 refl calls_same
