-- `names_wrong` meets its contract: std's test for one is that of the definition. Assumes nothing.
use native.Mathlib.Omega.{arith}
use borrow.Author.Tests.{le-leb}
use Rattle.lists.proofs.Std.{any_std}
use Rattle.locks.proofs.names_wrong.Goals as goal

pub returns-in-1-to-8 : goal.returns-in-1-to-8
returns-in-1-to-8 c = rw (le-leb 1 c.args.name_count (omega arith), le-leb c.args.name_count 8 (omega arith), ← any_std) c.some_name_wrong.ensures
