-- `intervals_wrong` meets its contract: a table that is too short has a wrong interval. Assumes nothing.
use mathlib.Core.Path.{sym, ◌∙◌}
use borrow.Author.Tests.{lt-ltb}
use Rattle.locks.specs.Lent.{lent_in}
use Rattle.locks.proofs.Tables.{short_wrong}
use Rattle.locks.proofs.intervals_wrong.Goals as goal

pub returns-then-tables : goal.returns-then-tables
returns-then-tables c = lt-ltb _ _ c.if-tables.true ∙ sym (short_wrong (lent_in c.args.tables.now) c.if-tables.true)
