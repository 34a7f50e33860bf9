-- `perform` meets its contract: what is no step is refused, and a step is performed by its kind. Assumes nothing.
use mathlib.Core.Path.{◌≡◌, refl, sym, ◌∙◌, subst}
use mathlib.Core.Logic.{◌≢◌}
use mathlib.Core.Bool.{true, false}
use mathlib.Core.List.{List}
use Prim.Native.Nat.{ℕ}
use native.Mathlib.Omega.{arith}
use lib.Dec.{eqb}
use borrow.Author.Tests.{ne_eqb}
use Rattle.blocks.specs.Record.{kind_of}
use Rattle.locks.specs.Lent.{lent_in}
use Rattle.runs.specs.Run.{Call}
use Rattle.replay.specs.declared.Step.{Step}
use Rattle.replay.specs.Replay.{call_of, state_of, is_step, perform}
use Rattle.replay.specs.Answers.{Performs}
use Rattle.replay.specs.Inner.{PerformsCall}
use Rattle.replay.proofs.Outcomes.{call_3, call_4, call_5, call_6, call_7, performs_call, performs_some}
use Rattle.replay.proofs.perform.Goals as goal
use Rattle.replay.proofs.perform.Goals.{After-byte}

-- a kind that was read is none of the others
is-not : {kind own k : ℕ} → kind ≡ own → kind ≢ k → eqb own k ≡ false
is-not {k = k} read n = ne_eqb _ k (λ e. n (read ∙ e))

-- a step whose call was performed
by_call : (c : After-byte) → (values' : List ℕ) (r : Step) (k : Call) → call_of c.args.bytes.now ≡ k
    → PerformsCall r (lent_in c.args.tables.now) c.args.desk k c.args.values.now values' → Performs r values' (perform (state_of (lent_in c.args.tables.now) c.args.desk c.args.values.now) c.args.bytes.now)
by_call c values' r k e f =
    let s = state_of (lent_in c.args.tables.now) c.args.desk c.args.values.now in
    let step : is_step c.args.bytes.now ≡ true = sym c.is_step.ensures ∙ c.if-not-is_step.false in
    performs_some s c.args.bytes.now values' r step (subst (Performs r values') (performs_call c.args.bytes.now s k e) f)

pub returns-in-3 : goal.returns-in-3
returns-in-3 c = let e : kind_of c.args.bytes.now ≡ 3 = sym c.byte.ensures ∙ c.in-3.is in
    by_call (goal.at.returns-in-3 c).After-byte _ _ _ (call_3 c.args.bytes.now (rw e refl)) (c.perform_enter.ensures c.args.values.now)

pub returns-in-4 : goal.returns-in-4
returns-in-4 c = let e : kind_of c.args.bytes.now ≡ 4 = sym c.byte.ensures ∙ c.in-4.is in
    by_call (goal.at.returns-in-4 c).After-byte _ _ _ (call_4 c.args.bytes.now (rw e refl) (rw e refl)) c.perform_get.ensures

pub returns-in-5 : goal.returns-in-5
returns-in-5 c = let e : kind_of c.args.bytes.now ≡ 5 = sym c.byte.ensures ∙ c.in-5.is in
    by_call (goal.at.returns-in-5 c).After-byte _ _ _ (call_5 c.args.bytes.now (rw e refl) (rw e refl) (rw e refl)) c.perform_put.ensures

pub returns-in-6 : goal.returns-in-6
returns-in-6 c = let e : kind_of c.args.bytes.now ≡ 6 = sym c.byte.ensures ∙ c.in-6.is in
    by_call (goal.at.returns-in-6 c).After-byte _ _ _ (call_6 c.args.bytes.now (rw e refl) (rw e refl) (rw e refl) (rw e refl)) (c.perform_leave.ensures c.args.values.now)

pub returns-in_default : goal.returns-in_default
returns-in_default c = let a : c.byte.result ≢ 3 = omega arith in
    let b : c.byte.result ≢ 4 = omega arith in
    let d : c.byte.result ≢ 5 = omega arith in
    let e : c.byte.result ≢ 6 = omega arith in
    by_call (goal.at.returns-in_default c).After-byte _ _ _
    (call_7 c.args.bytes.now (is-not c.byte.ensures a) (is-not c.byte.ensures b) (is-not c.byte.ensures d) (is-not c.byte.ensures e)) c.perform_add.ensures
