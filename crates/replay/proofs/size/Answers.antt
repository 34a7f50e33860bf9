-- `size` meets its contract: n stands in the first record. Assumes nothing.
use mathlib.Core.Path.{sym, ◌∙◌}
use Rattle.replay.proofs.Records.{size_some, size_none}
use Rattle.replay.proofs.size.Goals as goal

pub returns-then-records-lt-RECORD : goal.returns-then-records-lt-RECORD
returns-then-records-lt-RECORD c = sym (size_none c.args.records.now c.if-records-lt-RECORD.true)

pub returns-else-records-lt-RECORD : goal.returns-else-records-lt-RECORD
returns-else-records-lt-RECORD c = c.number2.ensures.0 ∙ sym (size_some c.args.records.now c.if-records-lt-RECORD.false)
