-- `call_interval` meets its contract: after each name the running values are the bounds of the names so far, after the last those of the call. Assumes
-- nothing.
use mathlib.Core.Path.{sym, ap, ◌∙◌}
use mathlib.Core.List.{List, ◌∷◌}
use Prim.Native.Nat.{ℕ}
use native.Mathlib.Omega.{arith}
use lib.ListN.{get_or, take}
use Rattle.lists.proofs.Loops.{take_step}
use Rattle.covers.specs.Cover.{call_interval}
use Rattle.covers.proofs.Bounds.{no_name, first_name}
use Rattle.covers.proofs.call_interval.Goals as goal

pub returns-in_default : goal.returns-in_default
returns-in_default c = sym (no_name c.args.intervals.now c.args.names.now c.in_default.ensures.cases)

pub loop-name-init : goal.loop-name-init
loop-name-init c = (rw c.from.ensures at c.interval_at-bounds.ensures) ∙ sym (first_name c.args.intervals.now c.in-Some.field-0-0.now)

pub loop-name-preserved : goal.loop-name-preserved
loop-name-preserved c =
    let first : ℕ = c.in-Some.field-0-0.now in
    let others : List ℕ = c.in-Some.others.now in
    let k : ℕ = c.loop-name.name-index in
    c.one_name_more-bounds.ensures.by_index c.args.intervals.now (first ∷ take k others) (get_or others k 0) (omega arith) c.loop-name.invariant
    (rw c.from-in-loop-name.ensures at c.interval_at-next.ensures)
    ∙ ap (λ (names : List ℕ). call_interval c.args.intervals.now (first ∷ names)) (sym (take_step others k 0 c.loop-name-test.true))
