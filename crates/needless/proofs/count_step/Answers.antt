-- `count_step` meets its contract: a record of a kind that is no step's changes nothing, and any other is counted by its answer. Assumes nothing.
use mathlib.Core.Path.{sym, ◌∙◌}
use borrow.Author.Tests.{not-true, not-false}
use Rattle.locks.specs.Lent.{lent_in}
use Rattle.needless.proofs.Tallies.{record_none, record_step}
use Rattle.needless.proofs.count_step.Goals as goal

pub returns-then-not-step_kind : goal.returns-then-not-step_kind
returns-then-not-step_kind c fine named k = record_none (lent_in c.args.tables.now) c.args.sets.now c.args.bytes.now c.args.progress c.args.values.now c.args.called.now
    c.byte.ensures named k (sym c.step_kind.ensures ∙ not-true _ c.if-not-step_kind.true-raw)

pub returns : goal.returns
returns c fine named k = record_step (lent_in c.args.tables.now) c.args.sets.now c.args.bytes.now c.args.progress c.args.values.now c.args.called.now
    c.byte.ensures named k (sym c.step_kind.ensures ∙ not-false _ c.if-not-step_kind.false-raw) c.requires.bytes_value fine c.perform-step.result c.perform-step.ensures
    c.tally-waits.result c.keep_call.new.called c.tally-waits.ensures c.keep_call.ensures
