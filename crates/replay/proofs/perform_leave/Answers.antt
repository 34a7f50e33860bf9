-- `perform_leave` meets its contract: the byte read is the record's party, and the desk's step does the rest. Assumes nothing.
use mathlib.Core.Path.{◌∙◌}
use Rattle.locks.specs.Lent.{lent_in}
use Rattle.replay.proofs.Outcomes.{left_performs}
use Rattle.replay.proofs.perform_leave.Goals as goal

pub returns : goal.returns
returns c = left_performs (lent_in c.args.tables.now) c.args.desk c.args.bytes.now c.from-party.result (c.from-party.ensures ∙ c.byte.ensures)
    c.leave-step.result c.leave-step.new.list c.left.result c.leave-step.ensures c.left.ensures
