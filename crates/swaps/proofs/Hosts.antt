-- THEOREM: a host's own calls may be rearranged, from their results alone (02, point 10). Assumes nothing.
use mathlib.Core.Path.{◌≡◌, sym, ap, ◌∙◌}
use mathlib.Core.List.{List, map}
use mathlib.Core.Bool.{true}
use Prim.Native.Nat.{ℕ}
use lib.ListN.{length}
use Rattle.lists.specs.Lists.{every}
use Rattle.locks.specs.Lent.{Hierarchy}
use Rattle.desk.specs.declared.Desk.{Desk}
use Rattle.runs.specs.Run.{State, Ran}
use Rattle.history.specs.Serial.{Built}
use Rattle.history.specs.Results.{Made, AllMeet, told_by_all, last_desk, last_values, steps_for}
use Rattle.history.proofs.Results.{between, results_run}
use Rattle.swaps.specs.Order.{is_access, events_of, cleared, Rearranged}
use Rattle.swaps.proofs.Swaps.{any_scratch}

-- OF A HOST'S OWN CALLS: gets, puts and adds were made in one order and in another, from one desk and n values over a built hierarchy, each lent the desk and values that the one before left; each result meets the
-- contract of its method; and every party made the same calls in the same order (`steps_for`: lent buffers as long, with the same contents past the table's own places, and a scratch as long, whatever stood in it).
-- Then the last desk and the last values are the same, and each party was answered the same. (What each call leaves in its scratch its contract says, by the scratch that it was lent.)
pub results_rearranged : (H : Hierarchy) → Built H → (d : Desk) (values : List ℕ) → length values ≡ H.n → (one other : List Made) → AllMeet H d values one → AllMeet H d values other
    → every is_access (steps_for H values one) ≡ true → Rearranged (map cleared (steps_for H values one)) (map cleared (steps_for H values other))
    → (last_desk d other ≡ last_desk d one) × (last_values values other ≡ last_values values one) × ((party : ℕ) → events_of party (told_by_all other) ≡ events_of party (told_by_all one))
results_rearranged H b d values sized one other met met' accesses same =
    let s : State = between H d values in
    let r = results_run H b d values sized one met in
    let r' = results_run H b d values sized other met' in
    let (end, events) = any_scratch s b (steps_for H values one) (steps_for H values other) accesses same in
    let state : between H (last_desk d other) (last_values values other) ≡ between H (last_desk d one) (last_values values one)
    = ap (λ (x : Ran). x.state) (sym r') ∙ end ∙ ap (λ (x : Ran). x.state) r in (
      ap (λ (x : State). x.desk) state,
      ap (λ (x : State). x.values) state,
      λ party. ap (λ (x : Ran). events_of party x.events) (sym r') ∙ events party ∙ ap (λ (x : Ran). events_of party x.events) r,
    )
