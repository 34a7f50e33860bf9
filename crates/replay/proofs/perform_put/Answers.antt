-- `perform_put` meets its contract: the bytes read are the record's fields, and the desk's step does the rest. Assumes nothing.
use mathlib.Core.Path.{◌∙◌}
use Rattle.locks.specs.Lent.{lent_in}
use Rattle.replay.proofs.Outcomes.{told_put, stored_performs}
use Rattle.replay.proofs.perform_put.Goals as goal

pub returns : goal.returns
returns c = rw c.plain.ensures (stored_performs (lent_in c.args.tables.now) c.args.desk c.args.bytes.now c.from-party.result (c.from-party.ensures ∙ c.byte.ensures)
    c.from-node.result c.number8-value.result (c.from-node.ensures ∙ c.byte-2.ensures) c.number8-value.ensures c.args.values.now c.put-step.new.values _
    c.put-step.result c.told.result c.put-step.ensures (c.told.ensures ∙ told_put _))
