-- `cut_run` meets its contract: 19, then 20, then the shorter file. Assumes nothing.
use mathlib.Core.Path.{◌≡◌, sym, ap, subst, ◌∙◌}
use mathlib.Core.List.{List}
use Prim.Native.Nat.{ℕ, ◌+◌, ◌*◌}
use native.Mathlib.Omega.{arith}
use lib.ListN.{length}
use Rattle.lists.specs.Lists.{every}
use Rattle.lists.proofs.Kept.{every_take}
use Rattle.locks.specs.Lent.{Hierarchy, lent_in}
use Rattle.replay.specs.Replay.{record_list, is_step, values_in}
use Rattle.shorter.specs.Inner.{short_bytes, steps_at, Wrote}
use Rattle.shorter.proofs.Cuts.{steps_at_law, first_steps, too_far, same_values, someone_in_law, nobody_in}
use Rattle.shorter.proofs.cut_run.Goals as goal
use Rattle.shorter.proofs.cut_run.Goals.{Start}

-- the hierarchy that the steps are lent
abbrev over : Start → Hierarchy
over c = lent_in c.args.tables.now

pub returns-then-steps-k : goal.returns-then-steps-k
returns-then-steps-k c = too_far (over (goal.at.returns-then-steps-k c).Start) c.args.records.now c.args.k c.args.room.now (omega (arith, c.if-steps-k.true, c.step_count-steps.ensures.0))

pub perform_steps-desk-requires : goal.perform_steps-desk-requires
perform_steps-desk-requires c = ap (every is_step) (first_steps (over (goal.at.perform_steps-desk-requires c).Start) c.args.records.now c.args.k c.requires.2 c.step_count-steps.ensures.0) ∙ every_take is_step c.args.k _ c.requires.2.right

pub returns-then-someone_in : goal.returns-then-someone_in
returns-then-someone_in c = someone_in_law (over (goal.at.returns-then-someone_in c).Start) c.args.records.now c.args.k c.args.room.now (omega (arith, c.if-steps-k.false, c.step_count-steps.ensures.0))
    (c.values.ensures ∙ ap (λ (m : ℕ). values_in m (record_list c.args.records.now)) c.requires.0)
    (first_steps (over (goal.at.returns-then-someone_in c).Start) c.args.records.now c.args.k c.requires.2 c.step_count-steps.ensures.0) c.perform_steps-desk.ensures (sym c.if-someone_in.true ∙ c.someone_in.ensures)

pub write_short-requires : goal.write_short-requires
write_short-requires c = let long : length c.perform_steps-desk.new.values ≡ c.args.tables.now.n = c.perform_steps-desk.auto.values ∙ c.values.auto.places ∙ c.requires.0 in
    let same = same_values (over (goal.at.write_short-requires c).Start) c.args.records.now c.args.k c.args.room.now (omega (arith, c.if-steps-k.false, c.step_count-steps.ensures.0))
    (c.values.ensures ∙ ap (λ (m : ℕ). values_in m (record_list c.args.records.now)) c.requires.0) (first_steps (over (goal.at.write_short-requires c).Start) c.args.records.now c.args.k c.requires.2 c.step_count-steps.ensures.0) c.perform_steps-desk.ensures in
    let fits = ap (λ (l : List ℕ). length (short_bytes c.args.records.now (16 * (1 + c.args.tables.now.edges.count)) (steps_at c.args.records.now + 16 * c.args.k) l)) same in
    let at = ap (λ (m : ℕ). length (short_bytes c.args.records.now (16 * (1 + c.args.tables.now.edges.count)) m c.perform_steps-desk.new.values)) (steps_at_law c.args.records.now c.args.k c.step_count-steps.ensures.0) in record {
      head_in_bounds = (c.requires.2.head, omega (arith, c.if-steps-k.false, c.step_count-steps.ensures.1), omega (arith, long, c.requires.1));
      values_bound = (omega (arith, long, c.requires.1, c.requires.2.edges_few), omega (arith, at, fits, c.requires.2.short c.args.k));
    }

pub returns : goal.returns
returns c = nobody_in (over (goal.at.returns c).Start) c.args.records.now c.args.k c.args.room.now (omega (arith, c.if-steps-k.false, c.step_count-steps.ensures.0))
    (c.values.ensures ∙ ap (λ (m : ℕ). values_in m (record_list c.args.records.now)) c.requires.0)
    (first_steps (over (goal.at.returns c).Start) c.args.records.now c.args.k c.requires.2 c.step_count-steps.ensures.0) c.perform_steps-desk.ensures c.write_short.result (sym c.if-someone_in.false ∙ c.someone_in.ensures)
    (subst (λ (m : ℕ). Wrote (short_bytes c.args.records.now (16 * (1 + c.args.tables.now.edges.count)) m c.perform_steps-desk.new.values) c.args.room.now c.write_short.result c.write_short.new.room)
    (steps_at_law c.args.records.now c.args.k c.step_count-steps.ensures.0) c.write_short.ensures)
