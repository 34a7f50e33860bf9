-- THEOREMS: neighbours may swap (02, point 10). Assumes nothing.
use mathlib.Core.Path.{◌≡◌, refl, sym, ap, subst, ◌∙◌}
use mathlib.Core.Logic.{◌⊎◌, inl, inr, ◌≢◌}
use mathlib.Core.List.{List, [], ◌∷◌, ◌++◌, map}
use mathlib.Core.Bool.{true, false, not}
use Prim.Native.Nat.{ℕ}
use lib.Dec.{eqb}
use Rattle.lists.specs.Lists.{every, any, kept_if, keep}
use borrow.Author.Tests.{eqb-true, not-true}
use Rattle.lists.proofs.Bools.{bool, and_left, and_right, and_both}
use Rattle.lists.proofs.Kept.{nothing_there, all_every, keep_nowhere}
use Rattle.runs.specs.Run.{Call, enter, get, put, add, leave, Step, lent_to, State, after_enter, after_get, after_put, after_add, after_leave, move_call, move, Ran, also_ran, run}
use Rattle.runs.proofs.Runs.{run_hierarchy}
use Rattle.history.specs.Serial.{Built}
use Rattle.history.proofs.Nested.{Nested, built_nested}
use Rattle.swaps.specs.Order.{accesses, is_access, call_party, party_of, event_party, events_of, Told, tell, tell_all, Swapped, steps_of, told_of, call_cleared, cleared, Rearranged, Same, Merged, neither, of_line, of_other, none_on_both}
use Rattle.swaps.proofs.Accesses.{either_order, access_keeps, cleared_same}
use Rattle.swaps.proofs.Rearranged.{go_all, say_all, Alike, alike_within, rearranged}

-- NEIGHBOURS MAY SWAP. Over a built hierarchy, from any desk and values: a get, put or add of one party and one of another. In either order both get the same answers and leave the same scratch, and the
-- desk and values left are the same. 02 asks it where both parties hold and neither step is refused; refused ones may swap too, with the same refusal
pub neighbours_may_swap : (s : State) → Built s.hierarchy → (x y : Step) → is_access x ≡ true → is_access y ≡ true → party_of x ≢ party_of y → Swapped x y s
neighbours_may_swap s b x y = either_order s (built_nested s.hierarchy b) x y

-- A LIST OF STEPS, as Rearranged has it
abbrev after : Step → State → State
after x s = (move x s).state

abbrev told_party : Told → ℕ
told_party t = party_of t.step

abbrev tells : (x : Step) (s : State) → told_party (tell x s) ≡ party_of x
tells x s = refl

run_goes : (xs : List Step) (s : State) → (run xs s).state ≡ go_all party_of after tell told_party tells xs s
unfolding run also_ran go_all
run_goes [] s = refl
run_goes (x ∷ xs) s = run_goes xs (after x s)

all_says : (xs : List Step) (s : State) → tell_all xs s ≡ say_all party_of after tell told_party tells xs s
unfolding tell_all say_all
all_says [] s = refl
all_says (x ∷ xs) s = ap (tell x s ∷◌) (all_says xs (after x s))

same_from : (s : State) (one other : List Step) → Alike party_of after tell told_party tells s one other → Same one other s
same_from s one other a = record {
  state = run_goes other s ∙ sym a.leads ∙ sym (run_goes one s);
  told = λ party. ap (told_of party) (all_says other s) ∙ sym (a.said party) ∙ ap (told_of party) (sym (all_says one s));
}

-- gets, puts and adds, at states with a nested hierarchy, which they keep
IsAccess : Step → Type 0
IsAccess x = is_access x ≡ true

OverNested : State → Type 0
OverNested s = Nested s.hierarchy

alike : (one other : List Step) → every is_access one ≡ true → Rearranged one other → (s : State) → Nested s.hierarchy → Alike party_of after tell told_party tells s one other
unfolding IsAccess OverNested
alike one other e same =
    (rearranged party_of after tell told_party tells IsAccess OverNested
    (λ x s a i. subst Nested (sym (access_keeps s x a).0) i)
    (λ x y s a b i ne. let w = either_order s i x y a b ne in (w.state, w.first, w.second))
    one other (all_every is_access one e) same).1

-- ANY REARRANGEMENT that keeps each party's own order, of a list of gets, puts and adds: it leaves the same desk and values, each step gets the same answer and leaves the same scratch
pub any_rearrangement : (s : State) → Built s.hierarchy → (one other : List Step) → every is_access one ≡ true → Rearranged one other → Same one other s
any_rearrangement s b one other e same = same_from s one other (alike one other e same s (built_nested s.hierarchy b))

-- WHAT IS TOLD of a list is its steps with their events in the run
pub all_told : (xs : List Step) (s : State) → (map (λ t. t.step) (tell_all xs s) ≡ xs) × (map (λ t. t.event) (tell_all xs s) ≡ (run xs s).events)
unfolding tell_all run also_ran
all_told [] s = (refl, refl)
all_told (x ∷ xs) s = let (steps, events) = all_told xs (move x s).state in (ap (x ∷◌) steps, ap ((move x s).event ∷◌) events)

-- the answers alone, as the run's events have them
move_party : (x : Step) (s : State) → event_party (move x s).event ≡ party_of x
unfolding move move_call after_enter after_get after_put after_add after_leave
move_party x s = by x.call
  where
    by : (c : Call) → event_party (move_call (lent_to x s.hierarchy) c s).event ≡ call_party c
    by (enter party mode names name_count) = refl
    by (get party node l c) = refl
    by (put party node value l c) = refl
    by (add party node number l c) = refl
    by (leave party list) = refl

told_events : (party : ℕ) (xs : List Step) (s : State) → map (λ t. t.event) (told_of party (tell_all xs s)) ≡ events_of party (run xs s).events
unfolding tell_all run also_ran keep
told_events party [] s = refl
told_events party (x ∷ xs) s =
    rw (move_party x s)
    (bool (eqb (party_of x) party)
    (λ t. rw t (ap ((move x s).event ∷◌) (told_events party xs (move x s).state)))
    (λ t. rw t (told_events party xs (move x s).state)))

pub same_events : (s : State) (one other : List Step) → Same one other s → (party : ℕ) → events_of party (run other s).events ≡ events_of party (run one s).events
same_events s one other same party = sym (told_events party other s) ∙ ap (map (λ t. t.event)) (same.told party) ∙ told_events party one s

-- WHATEVER STANDS IN THE SCRATCHES: a list leaves and answers what it does with zeros there,
pub run_cleared : (xs : List Step) (s : State) → run (map cleared xs) s ≡ run xs s
unfolding run
run_cleared [] s = refl
run_cleared (x ∷ xs) s = rw (cleared_same x s) (ap (also_ran (move x s)) (run_cleared xs (move x s).state))

access_cleared : (xs : List Step) → every is_access xs ≡ true → every is_access (map cleared xs) ≡ true
unfolding every
access_cleared [] e = refl
access_cleared (x ∷ xs) e =
    and_both (is_access (cleared x)) (every is_access (map cleared xs)) (kept x.call (and_left (is_access x) (every is_access xs) e)) (access_cleared xs (and_right (is_access x) (every is_access xs) e))
  where
    kept : (c : Call) → accesses c ≡ true → accesses (call_cleared c) ≡ true
    kept (enter party mode names name_count) h = h
    kept (get party node l c) h = h
    kept (put party node value l c) h = h
    kept (add party node number l c) h = h
    kept (leave party list) h = h

-- so a rearrangement may have other contents in the scratches: one scratch, say, that serves all steps
pub any_scratch : (s : State) → Built s.hierarchy → (one other : List Step) → every is_access one ≡ true → Rearranged (map cleared one) (map cleared other)
    → ((run other s).state ≡ (run one s).state) × ((party : ℕ) → events_of party (run other s).events ≡ events_of party (run one s).events)
any_scratch s b one other e same =
    let w = any_rearrangement s b (map cleared one) (map cleared other) (access_cleared one e) same in (
      ap (λ (r : Ran). r.state) (sym (run_cleared other s)) ∙ w.state ∙ ap (λ (r : Ran). r.state) (run_cleared one s),
      λ party. ap (λ (r : Ran). events_of party r.events) (sym (run_cleared other s)) ∙ same_events s (map cleared one) (map cleared other) w party
          ∙ ap (λ (r : Ran). events_of party r.events) (run_cleared one s),
    )

-- IN A LONGER LIST, of any steps before and behind the run: all that comes behind it, too, is answered the same
pub in_a_list : (s : State) → Built s.hierarchy → (before one other behind : List Step) → every is_access one ≡ true → Rearranged one other
    → Same (before ++ (one ++ behind)) (before ++ (other ++ behind)) s
in_a_list s b before one other behind e same =
    same_from s (before ++ (one ++ behind)) (before ++ (other ++ behind))
    (alike_within party_of after tell told_party tells s before one other behind
    (alike one other e same (go_all party_of after tell told_party tells before s)
    (subst Nested (sym (run_hierarchy before s) ∙ ap (λ (t : State). t.hierarchy) (run_goes before s)) (built_nested s.hierarchy b))))

-- TWO LINES, no party on both: a list that has the steps of both, each line's in its order, has each party's in that party's
merged_first : (party : ℕ) {line other steps : List Step} → Merged line other steps → steps_of party other ≡ [] → steps_of party steps ≡ steps_of party line
unfolding keep
merged_first party neither e = refl
merged_first party (of_line {x = x} m) e = ap (kept_if (eqb (party_of x) party) x) (merged_first party m e)
merged_first party (of_other {x = x} m) e = bool (eqb (party_of x) party) (λ t. nothing_there (rw t at e)) (λ t. rw t (merged_first party m (rw t at e)))

merged_turned : {line other steps : List Step} → Merged line other steps → Merged other line steps
merged_turned neither = neither
merged_turned (of_line m) = of_other (merged_turned m)
merged_turned (of_other m) = of_line (merged_turned m)

merged_access : {line other steps : List Step} → Merged line other steps → every is_access line ≡ true → every is_access other ≡ true → every is_access steps ≡ true
unfolding every
merged_access neither a b = refl
merged_access (of_line {x = x} {line = line} {steps = steps} m) a b =
    and_both (is_access x) (every is_access steps) (and_left (is_access x) (every is_access line) a) (merged_access m (and_right (is_access x) (every is_access line) a) b)
merged_access (of_other {x = x} {other = other} {steps = steps} m) a b =
    and_both (is_access x) (every is_access steps) (and_left (is_access x) (every is_access other) b) (merged_access m a (and_right (is_access x) (every is_access other) b))

-- of a party that has a step on the one line there is none on the other
one_line_only : (party : ℕ) (line other : List Step) → none_on_both line other ≡ true → (steps_of party line ≡ []) ⊎ (steps_of party other ≡ [])
unfolding every keep
one_line_only party [] other e = inl refl
one_line_only party (x ∷ line) other e =
    bool (eqb (party_of x) party)
    (λ t. inr (subst (λ (k : ℕ). steps_of k other ≡ []) (eqb-true (party_of x) party t)
    (keep_nowhere (λ y. eqb (party_of y) (party_of x)) other (not-true (any (λ y. eqb (party_of y) (party_of x)) other) (and_left _ (none_on_both line other) e)))))
    (λ t. by t (one_line_only party line other (and_right (not (any (λ y. eqb (party_of y) (party_of x)) other)) (none_on_both line other) e)))
  where
    by : eqb (party_of x) party ≡ false → (steps_of party line ≡ []) ⊎ (steps_of party other ≡ [])
        → (kept_if (eqb (party_of x) party) x (steps_of party line) ≡ []) ⊎ (steps_of party other ≡ [])
    by t (inl h) = inl (rw t h)
    by t (inr h) = inr h

merged_same : {line other one two : List Step} → none_on_both line other ≡ true → Merged line other one → Merged line other two → Rearranged one two
merged_same {line = line} {other = other} {one = one} {two = two} apart m k party = by (one_line_only party line other apart)
  where
    by : (steps_of party line ≡ []) ⊎ (steps_of party other ≡ []) → steps_of party one ≡ steps_of party two
    by (inl e) = merged_first party (merged_turned m) e ∙ sym (merged_first party (merged_turned k) e)
    by (inr e) = merged_first party m e ∙ sym (merged_first party k e)

-- so a host that handles two lines, each in its order, may take their gets, puts and adds in any order that comes
pub two_lines : (s : State) → Built s.hierarchy → (line other one two : List Step) → every is_access line ≡ true → every is_access other ≡ true → none_on_both line other ≡ true
    → Merged line other one → Merged line other two → Same one two s
two_lines s b line other one two a c apart m k = any_rearrangement s b one two (merged_access m a c) (merged_same apart m k)

-- and within a longer list, of any steps before and behind
pub two_lines_within : (s : State) → Built s.hierarchy → (before line other one two behind : List Step) → every is_access line ≡ true → every is_access other ≡ true
    → none_on_both line other ≡ true → Merged line other one → Merged line other two → Same (before ++ (one ++ behind)) (before ++ (two ++ behind)) s
two_lines_within s b before line other one two behind a c apart m k = in_a_list s b before one two behind (merged_access m a c) (merged_same apart m k)
