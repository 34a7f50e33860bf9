-- `after_records` meets its contract: the stage after the records left, from the stage reached, is that of all. Assumes nothing.
use Prim.Native.Nat.{ℕ, ◌*◌, ◌/◌}
use mathlib.Core.Path.{◌≡◌, sym, ap, ◌∙◌}
use mathlib.Core.List.{List}
use native.Mathlib.Omega.{arith}
use lib.ListN.{length, take}
use lib.Seq.{length-take-le}
use Rattle.std.proofs.lemmas.Result.{err_from_is_err_and}
use Rattle.std.specs.Slice.Iter.{chunks_exact_rest, chunks_exact_size}
use Rattle.blocks.specs.Record.{ReadStage}
use Rattle.blocks.specs.Block.{after_records}
use Rattle.blocks.specs.Inner.{stage_of}
use Rattle.blocks.proofs.Stages.{front_records, turn_records, stop_records, end_records}
use Rattle.blocks.proofs.after_records.Goals as goal

pub loop-record-init : goal.loop-record-init
loop-record-init c = let items = c.chunks_exact-record-items.ensures in
    let given = c.into_iter-record-iterator.ensures.into_iter_gives in
    let front : List ℕ = take (16 * c.args.n) c.args.s.now in
    let rest : chunks_exact_rest c.into_iter-record-iterator.result ≡ front = ap chunks_exact_rest given ∙ items.rest in
    let count : length front / 16 ≡ c.args.n = omega (arith, length-take-le (16 * c.args.n) c.args.s.now c.requires) in (
      ap chunks_exact_size given ∙ items.size,
      ap (λ (l : List ℕ). after_records (stage_of c.args.t) (length l / 16) l) rest
          ∙ ap (λ (k : ℕ). after_records (stage_of c.args.t) k front) count
          ∙ front_records c.args.n (stage_of c.args.t) c.args.s.now c.requires,
    )

pub loop-record-preserved : goal.loop-record-preserved
loop-record-preserved c = let step = c.in-Some.ensures.steps in (
  step.0 ∙ c.loop-record.invariant.0,
  ap (λ (t : ReadStage). after_records t (length (chunks_exact_rest c.next.new.self) / 16) (chunks_exact_rest c.next.new.self)) c.in_ok-reached.ensures
      ∙ sym (turn_records (stage_of c.loop-record.reached) _ _ step.1.0 (step.1.1 ∙ c.loop-record.invariant.0))
      ∙ c.loop-record.invariant.1,
)

pub returns-in_err-reached : goal.returns-in_err-reached
returns-in_err-reached c = let step = c.in-Some.ensures.steps in
    let turn = turn_records (stage_of c.loop-record.reached) _ _ step.1.0 (step.1.1 ∙ c.loop-record.invariant.0) in
    let p = err_from_is_err_and c.from_residual.result c.from_residual.ensures.1 in
    rw (p.1, p.2) (stop_records _ _ _ _ c.in_err-reached.ensures (sym turn ∙ c.loop-record.invariant.1))

pub returns : goal.returns
returns c = sym (end_records (stage_of c.loop-record.reached) (chunks_exact_rest c.loop-record.record-iterator) (omega (arith, c.in-None.ensures.steps.1.0, c.loop-record.invariant.0))) ∙ c.loop-record.invariant.1
