-- `after_block` meets its contract: the check is judged first, then all else. Assumes nothing.
use mathlib.Core.Path.{refl, sym, ap, subst, ◌∙◌}
use mathlib.Core.List.{List}
use Prim.Native.Nat.{ℕ}
use native.Mathlib.Omega.{arith}
use lib.ListN.{length-drop, drop}
use lib.Seq.{length-take-le}
use Rattle.std.specs.Prelude.{Err}
use Rattle.refusals.specs.declared.Refusal.TheVariants.{CheckDiffers, Malformed}
use Rattle.blocks.specs.Record.{ReadStage}
use Rattle.blocks.specs.Block.{after_records}
use Rattle.blocks.specs.Inner.{stage_of, Reads}
use Rattle.blocks.proofs.Stages.{block_differs, block_malformed, block_goes, part_to_end, head_facts}
use Rattle.blocks.proofs.after_block.Goals as goal

pub slice_bounds-block_check-end : goal.slice_bounds-block_check-end
slice_bounds-block_check-end c = sym (length-take-le _ c.args.block.now (omega arith))

pub returns-then-number4-computed : goal.returns-then-number4-computed
returns-then-number4-computed c =
    let differs = block_differs c.args.number c.args.last (stage_of c.args.t) c.args.block.now refl (λ e. c.if-number4-computed.true (c.number4.ensures ∙ e ∙ sym c.block_check-computed.ensures)) in
    subst (λ (s : ReadStage). Reads (Err CheckDiffers) s) (sym differs) (refl, omega arith)

pub returns-then-not-head_right : goal.returns-then-not-head_right
returns-then-not-head_right c =
    let malformed = block_malformed c.args.number c.args.last (stage_of c.args.t) c.args.block.now refl
    (sym c.number4.ensures ∙ c.if-number4-computed.false ∙ c.block_check-computed.ensures) (sym c.head_right.ensures ∙ c.if-not-head_right.true) in
    subst (λ (s : ReadStage). Reads (Err Malformed) s) (sym malformed) (refl, omega arith)

pub after_records-requires : goal.after_records-requires
after_records-requires c = rw part_to_end (simp length-drop (omega (arith, (head_facts _ _ _ (sym c.head_right.ensures ∙ c.if-not-head_right.false)).high)))

pub returns : goal.returns
returns c =
    let goes = block_goes c.args.number c.args.last (stage_of c.args.t) c.args.block.now refl
    (sym c.number4.ensures ∙ c.if-number4-computed.false ∙ c.block_check-computed.ensures) (sym c.head_right.ensures ∙ c.if-not-head_right.false) in
    subst (λ (s : ReadStage). Reads c.after_records.result s)
    (ap (λ (l : List ℕ). after_records (stage_of c.args.t) c.number2.result l) (part_to_end c.args.block.now 8)
    ∙ ap (λ (n : ℕ). after_records (stage_of c.args.t) n (drop 8 c.args.block.now)) c.number2.ensures.0
    ∙ sym goes)
    c.after_records.ensures
