-- `end_check` meets its contract: an odd last byte is a word with a zero. Assumes nothing.
use mathlib.Core.Path.{◌∙◌}
use Rattle.octets.proofs.Words.{ended, last_byte}
use Rattle.octets.proofs.end_check.Goals as goal

pub returns-then-at-bytes : goal.returns-then-at-bytes
returns-then-at-bytes c = last_byte c.args.bytes.now _ _ c.if-at-bytes.true c.from.ensures c.join.ensures

pub returns-else-at-bytes : goal.returns-else-at-bytes
returns-else-at-bytes c = c.join-else-at-bytes.ensures ∙ ended c.args.bytes.now _ _ _ c.if-at-bytes.false
