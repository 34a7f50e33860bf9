-- `put_step` meets its contract: the step of the definition, and its line. Assumes nothing.
use mathlib.Core.Path.{◌≡◌, sym, ◌∙◌}
use borrow.Author.Tests.{not-true, not-false}
use Rattle.locks.specs.Lent.{lent_in}
use native.Mathlib.Omega.{arith}
use Rattle.lines.specs.Pieces.{following}
use Rattle.lines.proofs.Runs.{step_none, step_some}
use Rattle.lines.proofs.put_step.Goals as goal

pub returns-then-not-step_kind : goal.returns-then-not-step_kind
returns-then-not-step_kind c = step_none (lent_in c.args.tables.now) c.args.progress c.args.bytes.now c.args.values.now c.args.text.now c.byte.ensures (sym c.step_kind.ensures ∙ not-true _ c.if-not-step_kind.true-raw)

pub returns : goal.returns
returns c = step_some (lent_in c.args.tables.now) c.args.progress c.args.bytes.now c.args.values.now c.args.text.now
    c.byte.ensures c.perform-step.result
    (sym c.step_kind.ensures ∙ not-false _ c.if-not-step_kind.false-raw) c.perform-step.ensures (let next : c.saturating_add.result ≡ following c.args.progress.number = omega (arith, c.saturating_add.ensures) in next)
    c.put_line-at.ensures
