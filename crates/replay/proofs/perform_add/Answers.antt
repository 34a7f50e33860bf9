-- `perform_add` meets its contract: the bytes read are the record's fields, and the desk's step does the rest. Assumes nothing.
use mathlib.Core.Path.{◌∙◌}
use Rattle.locks.specs.Lent.{lent_in}
use Rattle.replay.proofs.Outcomes.{told_add, added_performs}
use Rattle.replay.proofs.perform_add.Goals as goal

pub returns : goal.returns
returns c = rw c.plain.ensures (added_performs (lent_in c.args.tables.now) c.args.desk c.args.bytes.now c.from-party.result (c.from-party.ensures ∙ c.byte.ensures)
    c.from-node.result c.number8-number.result (c.from-node.ensures ∙ c.byte-2.ensures) c.number8-number.ensures c.args.values.now c.add-step.new.values _
    c.add-step.result c.told.result c.add-step.ensures (c.told.ensures ∙ told_add _))
