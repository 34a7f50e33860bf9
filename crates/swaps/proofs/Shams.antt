-- THEOREMS: that neighbours may swap is the rules' doing. It holds by the papers', and is false of a desk on which a get counts itself, of one that sees a writing visit, or an adding one, as a reading one where
-- it asks whether two holds conflict, and of one that lets an adding visit get (02, point 10). Assumes nothing.
use mathlib.Core.Path.{◌≡◌, refl, sym, ap, subst, ◌∙◌}
use mathlib.Core.Logic.{◌≢◌}
use mathlib.Core.List.{List, [], ◌∷◌, map}
use mathlib.Core.Bool.{true}
use mathlib.Core.Option.{Option, none, some}
use Prim.Native.Nat.{ℕ}
use native.Mathlib.Omega.{arith}
use lib.ListN.{get_or, take, replicate}
use lib.Seq.{set-get_or}
use Rattle.lists.specs.Lists.{all_below, any_below, every, any, keep, over, fold_from, least, greatest}
use Rattle.lists.specs.Answer.{done, refused, refusal}
use Rattle.hierarchy.specs.Hierarchy.{some_edge, children, spread, spreads, reach, edge_twice, some_unreached}
use Rattle.intervals.specs.Numbering.{inside, walk, numbering}
use Rattle.intervals.specs.Intervals.{numbers_among, low_of, high_of, intervals_from, interval_table}
use Rattle.intervals.specs.Build.{build_step}
use Rattle.covers.specs.Cover.{closest}
use Rattle.naming.specs.Names.{insert, insert_all, rises_from}
use Rattle.locks.specs.declared.Mode.{Mode}
use Rattle.locks.specs.declared.Mode.TheVariants.{Reading, Writing, Adding}
use Rattle.locks.specs.declared.Lock.{Lock}
use Rattle.locks.specs.declared.Stage.{Stage}
use Rattle.locks.specs.declared.Stage.TheVariants.{Out, Waiting, Holding}
use Rattle.locks.specs.Lent.{Hierarchy, lock_for}
use Rattle.parties.specs.declared.Entry.{Entry}
use Rattle.parties.specs.Parties.{entry_of}
use Rattle.parties.specs.Sound.{sound_parties}
use Rattle.desk.specs.declared.Desk.{Desk}
use Rattle.desk.specs.Steps.{granted, waits, enter_refusal, free, enter_if, enter_unless, enter_step, get_own, get_unless, get_step, put_own, put_unless, put_step, sum64, add_own, add_step, value_checks, scratch_left}
use Rattle.runs.specs.Run.{Lending, whole as all, lend, restored, Call, enter, get, put, add, leave, Step, lent_to, Event, entered, got, stored, added, left, State, after_enter, after_get, after_put, after_add, move_call, move}
use Rattle.runs.proofs.Lends.{restored_lend}
use Rattle.runs.proofs.Written.{desk, one, whole, step}
use Rattle.history.specs.Serial.{Built}
use Rattle.swaps.specs.Order.{is_access, party_of, not_refused, Told}
use Rattle.swaps.specs.Rules.{Rules, paper_rules, gets_count, writers_pass, adders_pass, adders_get, stage_seen, desk_seen, enter_by, get_by, move_by, step_by, NeighboursMaySwap}
use Rattle.swaps.proofs.Swaps.{neighbours_may_swap}

-- BY THE PAPERS' RULES the desk is seen as it is,
entries_same : (es : List Entry) → map (λ e. entry_of (stage_seen paper_rules.seen_as e.stage)) es ≡ es
entries_same [] = refl
entries_same (e ∷ es) = rw (entries_same es) (ap (λ (x : Stage). entry_of x ∷ es) (stage_same e.stage))
  where
    stage_same : (x : Stage) → stage_seen paper_rules.seen_as x ≡ x
    stage_same Out = refl
    stage_same (Waiting l) = refl
    stage_same (Holding l) = refl

desk_same : (d : Desk) → desk_seen paper_rules.seen_as d ≡ d
desk_same d = rw (entries_same d.entries) refl

-- an enter is the desk's,
enter_same : (o : Option ℕ) (d : Desk) (party : ℕ) (l : Lock) → enter_by paper_rules o d party l ≡ enter_unless o d party l
enter_same (some k) d party l = refl
enter_same none d party l = ap (λ (e : Desk). enter_if (free e l) d party l) (desk_same d)

-- a get,
get_same : (o : Option ℕ) (party node : ℕ) (l : Lending) (scratch c : List ℕ) (s : State)
    → get_by paper_rules o party node (lend s.values l) scratch s ≡ after_get party node s (get_unless o s.desk (get_or (lend s.values l) node 0) c)
unfolding after_get
get_same none party node l scratch c s = rw (set-get_or (lend s.values l) node 0, restored_lend s.values l) refl
get_same (some k) party node l scratch c s = rw (restored_lend s.values l) refl

-- a put,
put_same : (o : Option ℕ) (party node value : ℕ) (values scratch c : List ℕ) (s : State)
    → after_put party node value s (put_unless o s.desk node value values scratch) ≡ after_put party node value s (put_unless o s.desk node value values c)
unfolding after_put
put_same none party node value values scratch c s = refl
put_same (some k) party node value values scratch c s = refl

-- an add,
add_same : (o : Option ℕ) (party node number value : ℕ) (values scratch c : List ℕ) (s : State)
    → after_add party node number s (put_unless o s.desk node value values scratch) ≡ after_add party node number s (put_unless o s.desk node value values c)
unfolding after_add
add_same none party node number value values scratch c s = refl
add_same (some k) party node number value values scratch c s = refl

-- and so any step
move_same : (H : Hierarchy) (c : Call) (s : State) → move_by paper_rules H c s ≡ move_call H c s
unfolding move_by move_call enter_step get_step put_step add_step
move_same H (enter party mode names name_count) s =
    let by : Desk → Option ℕ = λ e. enter_refusal H e party names name_count in
    let l = lock_for H mode (take name_count names) in
    ap (λ (e : Desk). after_enter party s (enter_by paper_rules (by e) s.desk party l)) (desk_same s.desk) ∙ ap (after_enter party s) (enter_same (by s.desk) s.desk party l)
move_same H (get party node l scratch) s =
    let v = lend s.values l in
    let by : Desk → Option ℕ = λ e. refusal (value_checks H e party node v scratch (get_own s.desk party)) in
    ap (λ (e : Desk). get_by paper_rules (by e) party node v scratch s) (desk_same s.desk) ∙ get_same (by s.desk) party node l scratch (scratch_left H v scratch) s
move_same H (put party node value l scratch) s =
    let v = lend s.values l in
    let by : Desk → Option ℕ = λ e. refusal (value_checks H e party node v scratch (put_own s.desk party)) in
    ap (λ (e : Desk). after_put party node value s (put_unless (by e) s.desk node value v scratch)) (desk_same s.desk)
    ∙ put_same (by s.desk) party node value v scratch (scratch_left H v scratch) s
move_same H (add party node number l scratch) s =
    let v = lend s.values l in
    let sum = sum64 (get_or v node 0) number in
    let by : Desk → Option ℕ = λ e. refusal (value_checks H e party node v scratch (add_own s.desk party)) in
    ap (λ (e : Desk). after_add party node number s (put_unless (by e) s.desk node sum v scratch)) (desk_same s.desk)
    ∙ add_same (by s.desk) party node number sum v scratch (scratch_left H v scratch) s
move_same H (leave party list) s = refl

pub step_same : (x : Step) (s : State) → step_by paper_rules x s ≡ move x s
unfolding move
step_same x s = move_same (lent_to x s.hierarchy) x.call s

-- THE PAPERS' RULES let neighbours swap
pub papers_swap : NeighboursMaySwap paper_rules
papers_swap s b x y ax ay ne nx ny =
    let w = neighbours_may_swap s b x y ax ay ne in
    record {
      first = rw (step_same x s, step_same y s, step_same x (move y s).state) (ap (λ (t : Told). t.event) w.first);
      second = rw (step_same y s, step_same x s, step_same y (move x s).state) (ap (λ (t : Told). t.event) w.second);
      state = rw (step_same x s, step_same y s, step_same x (move y s).state, step_same y (move x s).state) w.state;
    }

-- OTHERS DO NOT. Over one node,
pub one_built : Built one
unfolding all_below any_below every any keep over fold_from least greatest refusal some_edge children spread spreads reach edge_twice some_unreached inside walk numbering numbers_among low_of high_of intervals_from
    interval_table build_step
one_built = record { places = 0 ∷ 0 ∷ []; scratch = replicate 512 0; took = refl; wrote = refl }

-- with two parties at these stages, and the value 5
abbrev both : Stage → Stage → State
both first second = record { hierarchy = one; desk = desk (first ∷ second ∷ []) [] []; values = 5 ∷ [] }

-- party 1 comes, and would read; each of the two gets the node, party 0 puts 7 there, or adds 2
abbrev reads1 : Step
reads1 = step (enter 1 Reading (0 ∷ []) 1)

abbrev get0 : Step
get0 = step (get 0 0 all (replicate 256 0))

abbrev get1 : Step
get1 = step (get 1 0 all (replicate 256 0))

abbrev put7 : Step
put7 = step (put 0 0 7 all (replicate 256 0))

abbrev add2 : Step
add2 = step (add 0 0 2 all (replicate 256 0))

-- the claim is false of rules by which a step of party 0 is done, and the get of party 1 has one answer behind it and another before it
module _ (rules : Rules) (s : State) (x : Step) where
  abbrev Hangs : Event ℕ → (behind before : ℕ) → Type 0
  Hangs e behind before =
      ((step_by rules x s).event ≡ e) × ((step_by rules get1 (step_by rules x s).state).event ≡ got 1 0 (done behind)) × ((step_by rules get1 s).event ≡ got 1 0 (done before))

  -- the value that a get was answered
  value_of : Event ℕ → ℕ
  value_of (entered party a) = 0
  value_of (got party node (done value)) = value
  value_of (got party node (refused k)) = 0
  value_of (stored party node value a) = 0
  value_of (added party node number a) = 0
  value_of (left party a) = 0

  no_swap : s.hierarchy ≡ one → is_access x ≡ true → party_of x ≡ 0 → (e : Event ℕ) → not_refused e ≡ true → (behind before : ℕ) → behind ≢ before → Hangs e behind before
      → NeighboursMaySwap rules → ⊥
  unfolding value_of
  no_swap over ax zero e done-so behind before other (its, then, first) claim =
      other (ap value_of (sym then ∙ (claim s (subst Built (sym over) one_built) x get1 ax refl (λ same. let n : ◌≡◌ {A = ℕ} 0 1 = sym zero ∙ same in omega (arith, n))
      (ap not_refused its ∙ done-so) (ap not_refused then)).second ∙ first))

-- THE CASES: 0 reads, writes or adds, and 1 reads; and both add
abbrev beside : Mode → State
beside mode = both (Holding (whole mode)) (Holding (whole Reading))

abbrev adders : State
adders = both (Holding (whole Adding)) (Holding (whole Adding))

-- a reader is let in beside one in this mode, which makes the case; and by the papers' rules it waits
abbrev LetIn : Rules → Mode → Type 0
LetIn rules mode =
    let after = step_by rules reads1 (both (Holding (whole mode)) Out) in (after.event ≡ entered 1 (done (granted 0))) × (after.state.desk.entries ≡ (beside mode).desk.entries)

pub readers_let_in : LetIn writers_pass Writing × LetIn adders_pass Adding
unfolding all_below any_below every any keep over fold_from least greatest refusal some_edge closest insert insert_all rises_from sound_parties lend lent_to move_by after_enter
readers_let_in = ((refl, refl), (refl, refl))

pub readers_wait : map (λ mode. (step_by paper_rules reads1 (both (Holding (whole mode)) Out)).event) (Writing ∷ Adding ∷ []) ≡ replicate 2 (entered 1 (done waits))
unfolding all_below any_below every any keep over fold_from least greatest refusal some_edge closest insert insert_all rises_from sound_parties lend lent_to move_by after_enter
readers_wait = refl

-- EACH OTHER DESK, IN ITS OWN CASE: where a get counts itself, both read, and behind 0's get that of 1 is answered 6, and before it 5. Where readers are let in beside a writer, or an adder, 1 is answered 7 behind 0's put, or add, and 5 before it;
-- and where an adding visit gets, both add, and 1 is answered likewise
pub others_told : Hangs gets_count (beside Reading) get0 (got 0 0 (done 5)) 6 5 × Hangs writers_pass (beside Writing) put7 (stored 0 0 7 (done tt)) 7 5
    × Hangs adders_pass (beside Adding) add2 (added 0 0 2 (done tt)) 7 5 × Hangs adders_get adders add2 (added 0 0 2 (done tt)) 7 5
unfolding all_below any_below every any keep over refusal some_edge spread spreads reach rises_from sound_parties lend restored lent_to move_by after_put after_add
others_told = ((refl, refl, refl), (refl, refl, refl), (refl, refl, refl), (refl, refl, refl))

-- so the claim is false of it
pub counts_no_swap : NeighboursMaySwap gets_count → ⊥
counts_no_swap = no_swap gets_count (beside Reading) get0 refl refl refl (got 0 0 (done 5)) refl 6 5 (λ e. omega (arith, e)) others_told.0

pub writers_no_swap : NeighboursMaySwap writers_pass → ⊥
writers_no_swap = no_swap writers_pass (beside Writing) put7 refl refl refl (stored 0 0 7 (done tt)) refl 7 5 (λ e. omega (arith, e)) others_told.1

pub adders_no_swap : NeighboursMaySwap adders_pass → ⊥
adders_no_swap = no_swap adders_pass (beside Adding) add2 refl refl refl (added 0 0 2 (done tt)) refl 7 5 (λ e. omega (arith, e)) others_told.2

pub gets_no_swap : NeighboursMaySwap adders_get → ⊥
gets_no_swap = no_swap adders_get adders add2 refl refl refl (added 0 0 2 (done tt)) refl 7 5 (λ e. omega (arith, e)) others_told.3

-- AND THE OTHERS' CASES IT ANSWERS AS THE PAPERS DO. A get by 1, where 0 writes or adds and 1 reads (10 by the papers: the desk is not sound), where both add (18), and behind a get by 0 where both read (5)
abbrev seen_by : Rules → List (Event ℕ)
seen_by rules =
    (step_by rules get1 (beside Writing)).event ∷ (step_by rules get1 (beside Adding)).event ∷ (step_by rules get1 adders).event
    ∷ (step_by rules get1 (step_by rules get0 (beside Reading)).state).event ∷ []

pub one_place_only : (seen_by paper_rules ≡ got 1 0 (refused 10) ∷ got 1 0 (refused 10) ∷ got 1 0 (refused 18) ∷ got 1 0 (done 5) ∷ [])
    × (seen_by gets_count ≡ got 1 0 (refused 10) ∷ got 1 0 (refused 10) ∷ got 1 0 (refused 18) ∷ got 1 0 (done 6) ∷ [])
    × (seen_by writers_pass ≡ got 1 0 (done 5) ∷ got 1 0 (refused 10) ∷ got 1 0 (refused 18) ∷ got 1 0 (done 5) ∷ [])
    × (seen_by adders_pass ≡ got 1 0 (refused 10) ∷ got 1 0 (done 5) ∷ got 1 0 (refused 18) ∷ got 1 0 (done 5) ∷ [])
    × (seen_by adders_get ≡ got 1 0 (refused 10) ∷ got 1 0 (refused 10) ∷ got 1 0 (done 5) ∷ got 1 0 (done 5) ∷ [])
unfolding all_below any_below every any keep over refusal some_edge spread spreads reach rises_from sound_parties lend restored lent_to move_by after_put after_add
one_place_only = (refl, refl, refl, refl, refl)

-- a desk with an adder beside a writer is sound by none of them
pub none_beside_a_writer : let there = both (Holding (whole Writing)) (Holding (whole Adding)) in map (λ rules. (step_by rules put7 there).event) (paper_rules ∷ gets_count ∷ writers_pass ∷ adders_pass ∷ adders_get ∷ [])
    ≡ replicate 5 (stored 0 0 7 (refused 10))
unfolding all_below any_below every any keep over refusal some_edge spread spreads reach rises_from sound_parties lend restored lent_to move_by after_put after_add
none_beside_a_writer = refl

-- what a waiter waits for is seen so, too: a writer that waits for a reader waits for nobody, where it is seen as a reading one, and then the desk is not sound
pub waiters_seen : let waiting : State = record { hierarchy = one; desk = desk (Holding (whole Reading) ∷ Waiting (whole Writing) ∷ []) (1 ∷ []) []; values = 5 ∷ [] } in
    ((step_by paper_rules get0 waiting).event ≡ got 0 0 (done 5)) × ((step_by writers_pass get0 waiting).event ≡ got 0 0 (refused 10))
unfolding all_below any_below every any keep over refusal some_edge spread spreads reach rises_from sound_parties lend restored lent_to move_by after_put after_add
waiters_seen = (refl, refl)
