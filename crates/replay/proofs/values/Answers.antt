-- `values` meets its contract: the values after the records left, from those now, are the values after all records from zeros. Assumes nothing.
use mathlib.Core.Path.{◌≡◌, refl, sym, ap, ◌∙◌}
use mathlib.Core.List.{List}
use Prim.Native.Nat.{ℕ}
use native.Mathlib.Omega.{arith}
use lib.ListN.{length, replicate}
use Rattle.std.specs.Slice.Iter.{chunks_exact_rest, chunks_exact_size}
use Rattle.replay.specs.Replay.{record_list, values_from, values_in}
use Rattle.replay.proofs.Records.{with_length}
use Rattle.replay.proofs.Chunks.{records_cons, records_none}
use Rattle.replay.proofs.values.Goals as goal

pub loop-bytes-init : goal.loop-bytes-init
loop-bytes-init c = let items = c.chunks_exact-bytes-items.ensures in
    let given = c.into_iter-bytes-iterator.ensures.into_iter_gives in
    let zeros : c.fill.new.self ≡ replicate (length c.fill.new.self) 0 = c.fill.ensures.after (λ y e. e) ∙ ap (λ (n : ℕ). replicate n 0) (sym c.fill.ensures.len) in (
      ap chunks_exact_size given ∙ items.size,
      refl,
      ap (λ (bytes : List ℕ). values_from c.fill.new.self (record_list bytes)) (ap chunks_exact_rest given ∙ items.rest) ∙ ap (λ (l : List ℕ). values_from l (record_list c.args.records.now)) zeros,
    )

pub loop-bytes-preserved : goal.loop-bytes-preserved
unfolding values_from
loop-bytes-preserved c = let step = c.in-Some.ensures.steps in
    let rows = records_cons c.in-Some.bytes.now _ step.1.0 (step.1.1 ∙ c.loop-bytes.invariant.0) in (
      step.0 ∙ c.loop-bytes.invariant.0,
      ap length c.put_value.ensures ∙ with_length c.loop-bytes.places c.in-Some.bytes.now ∙ c.loop-bytes.invariant.1,
      ap (λ (l : List ℕ). values_from l (record_list (chunks_exact_rest c.next.new.self))) c.put_value.ensures
          ∙ ap (values_from c.loop-bytes.places) (sym rows)
          ∙ c.loop-bytes.invariant.2,
    )

pub returns : goal.returns
unfolding values_from
returns c = let none = records_none (chunks_exact_rest c.loop-bytes.bytes-iterator) (omega (arith, c.in-None.ensures.steps.1.0, c.loop-bytes.invariant.0)) in
    ap (values_from c.loop-bytes.places) (sym none) ∙ c.loop-bytes.invariant.2 ∙ ap (λ (n : ℕ). values_in n (record_list c.args.records.now)) c.fill.ensures.len
