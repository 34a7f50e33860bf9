-- `perform_steps` meets its contract: the steps left, from the desk and values reached, lead where all of them lead from a fresh desk. Assumes nothing.
use mathlib.Core.Path.{◌≡◌, sym, ap, ◌∙◌}
use mathlib.Core.Bool.{true}
use mathlib.Core.List.{List, ◌∷◌}
use Prim.Native.Nat.{ℕ}
use native.Mathlib.Omega.{arith}
use Rattle.std.specs.Slice.Iter.{chunks_exact_rest, chunks_exact_size}
use Rattle.lists.specs.Lists.{every}
use Rattle.desk.specs.declared.Desk.{Desk}
use Rattle.locks.specs.Lent.{lent_in}
use Rattle.replay.specs.Replay.{record_list, is_step, state_of, perform_all}
use Rattle.replay.proofs.Chunks.{records_cons, records_none}
use Rattle.shorter.proofs.Turns.{steps_left, steps_turn, steps_end}
use Rattle.shorter.proofs.perform_steps.Goals as goal

pub loop-bytes-init : goal.loop-bytes-init
loop-bytes-init c = let items = c.chunks_exact-bytes-items.ensures in
    let given = c.into_iter-bytes-iterator.ensures.into_iter_gives in
    let whole = ap record_list (ap chunks_exact_rest given ∙ items.rest) in (
      ap chunks_exact_size given ∙ items.size,
      ap (every is_step) whole ∙ c.requires,
      ap (λ (rs : List (List ℕ)). (perform_all (state_of (lent_in c.args.tables.now) c.fresh-desk.result c.args.values.now) rs).state) whole
          ∙ ap (λ (d : Desk). (perform_all (state_of (lent_in c.args.tables.now) d c.args.values.now) (record_list c.args.steps.now)).state) c.fresh-desk.ensures,
    )

pub loop-bytes-preserved : goal.loop-bytes-preserved
loop-bytes-preserved c = let step = c.in-Some.ensures.steps in
    let rows = records_cons c.in-Some.bytes.now (chunks_exact_rest c.next.new.self) step.1.0 (step.1.1 ∙ c.loop-bytes.invariant.0) in
    let right : every is_step (c.in-Some.bytes.now ∷ record_list (chunks_exact_rest c.next.new.self)) ≡ true = ap (every is_step) (sym rows) ∙ c.loop-bytes.invariant.1 in (
      step.0 ∙ c.loop-bytes.invariant.0,
      (steps_left c.in-Some.bytes.now _ right).1,
      steps_turn (lent_in c.args.tables.now) c.loop-bytes.desk c.loop-bytes.values c.in-Some.bytes.now _ right c.perform.result c.perform.ensures
          ∙ ap (λ (rs : List (List ℕ)). (perform_all (state_of (lent_in c.args.tables.now) c.loop-bytes.desk c.loop-bytes.values) rs).state) (sym rows)
          ∙ c.loop-bytes.invariant.2,
    )

pub returns : goal.returns
returns c = let none = records_none (chunks_exact_rest c.loop-bytes.bytes-iterator) (omega (arith, c.in-None.ensures.steps.1.0, c.loop-bytes.invariant.0)) in
    steps_end (lent_in c.args.tables.now) c.loop-bytes.desk c.loop-bytes.values
    ∙ ap (λ (rs : List (List ℕ)). (perform_all (state_of (lent_in c.args.tables.now) c.loop-bytes.desk c.loop-bytes.values) rs).state) (sym none)
    ∙ c.loop-bytes.invariant.2
