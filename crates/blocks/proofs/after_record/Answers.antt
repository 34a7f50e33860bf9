-- `after_record` meets its contract: a record that is not right is refused, and any other leads on by its place. Assumes nothing.
use mathlib.Core.Path.{◌≡◌, refl, sym, ap, subst, ◌∙◌}
use mathlib.Core.Bool.{true}
use mathlib.Core.List.{List}
use Prim.Native.Nat.{ℕ}
use native.Mathlib.Omega.{arith}
use Rattle.std.specs.Prelude.{Result, Err}
use Rattle.refusals.specs.declared.Refusal.{Refusal}
use Rattle.refusals.specs.declared.Refusal.TheVariants.{Malformed}
use Rattle.blocks.specs.declared.Stage.{Stage}
use Rattle.blocks.specs.Record.{ReadStage, Place, kind_of, kinds, row_in, record_right}
use Rattle.blocks.specs.Block.{placed, after_record}
use Rattle.blocks.specs.Inner.{kind_number, stage_of, Reads}
use Rattle.blocks.proofs.Rows.{no_kind, after_at, after_wrong, among_steps_kind}
use Rattle.blocks.proofs.after_record.Goals as goal

-- a record that is right leads on by the place of its kind
leads : (t : Stage) (r : List ℕ) {kind : ℕ} (p : Place) (x : Result Stage Refusal) → true ≡ record_right r → kind ≡ kind_of r → (row_in kinds kind).place ≡ p
    → Reads x (placed p (stage_of t) r) → Reads x (after_record (stage_of t) r)
leads t r p x right kind place reads =
    subst (λ (s : ReadStage). Reads x s) (sym (after_at (stage_of t) r refl (sym right) (sym kind) ∙ ap (λ (p : Place). placed p (stage_of t) r) place)) reads

pub returns-then-not-record_right : goal.returns-then-not-record_right
returns-then-not-record_right c =
    subst (λ (s : ReadStage). Reads (Err Malformed) s) (sym (after_wrong (stage_of c.args.t) c.args.r.now refl (sym c.record_right.ensures ∙ c.if-not-record_right.true))) (refl, omega arith)

pub returns-in-Size : goal.returns-in-Size
unfolding kinds row_in
returns-in-Size c = leads c.args.t c.args.r.now _ _ (sym c.if-not-record_right.false ∙ c.record_right.ensures) (sym (c.in-Some.ensures ∙ ap kind_number c.in-Size.is)) refl c.after_size.ensures

pub returns-in-Edge : goal.returns-in-Edge
unfolding kinds row_in
returns-in-Edge c = leads c.args.t c.args.r.now _ _ (sym c.if-not-record_right.false ∙ c.record_right.ensures) (sym (c.in-Some.ensures ∙ ap kind_number c.in-Edge.is)) refl (c.after_edge.ensures c.args.r.now)

pub returns-in-Value : goal.returns-in-Value
unfolding kinds row_in
returns-in-Value c = leads c.args.t c.args.r.now _ _ (sym c.if-not-record_right.false ∙ c.record_right.ensures) (sym (c.in-Some.ensures ∙ ap kind_number c.in-Value.is)) refl c.after_value.ensures

pub returns-in_default : goal.returns-in_default
returns-in_default c =
    subst (λ (s : ReadStage). Reads (Err Malformed) s) (sym (after_wrong (stage_of c.args.t) c.args.r.now refl (no_kind c.args.r.now c.in_default.ensures))) (refl, omega arith)

pub returns-in_default-kind : goal.returns-in_default-kind
returns-in_default-kind c =
    leads c.args.t c.args.r.now _ _ (sym c.if-not-record_right.false ∙ c.record_right.ensures) refl
    (among_steps_kind c.in-Some.kind (kind_of c.args.r.now) c.in-Some.ensures c.in_default-kind.not-Size c.in_default-kind.not-Edge c.in_default-kind.not-Value)
    (c.after_step.ensures c.args.r.now)
