-- `perform_get` meets its contract: the bytes read are the record's fields; a value is taken out, and waiting and refusal are handled apart. Assumes nothing.
use mathlib.Core.Path.{sym, ap, ◌∙◌}
use Rattle.locks.specs.Lent.{lent_in}
use Rattle.desk.specs.declared.GetAnswer.{GetAnswer}
use Rattle.desk.specs.Answers.{get_meaning}
use Rattle.replay.specs.declared.Outcome.TheVariants.{Value}
use Rattle.replay.specs.Replay.{get_line}
use Rattle.replay.specs.Answers.{outcome_of}
use Rattle.replay.proofs.Outcomes.{got_performs}
use Rattle.replay.proofs.perform_get.Goals as goal

pub returns-in_default : goal.returns-in_default
returns-in_default c = rw c.plain.ensures (got_performs (lent_in c.args.tables.now) c.args.desk c.args.bytes.now c.from-party.result (c.from-party.ensures ∙ c.byte.ensures)
    c.from-node.result (c.from-node.ensures ∙ c.byte-2.ensures) c.args.values.now _ c.get-step.result c.from.result c.get-step.ensures c.from.ensures)

pub returns : goal.returns
returns c = rw c.plain-2.ensures (got_performs (lent_in c.args.tables.now) c.args.desk c.args.bytes.now c.from-party.result (c.from-party.ensures ∙ c.byte.ensures)
    c.from-node.result (c.from-node.ensures ∙ c.byte-2.ensures) c.args.values.now _ c.get-step.result (Value c.in-Value.v) c.get-step.ensures
    (sym (ap (λ (a : GetAnswer). outcome_of (get_line (get_meaning a))) c.in-Value.is)))
