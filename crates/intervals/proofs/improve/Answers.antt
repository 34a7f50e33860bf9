-- `improve` meets its contract: the store is made just where the value is better. Assumes nothing.
use mathlib.Core.Path.{sym, refl, ◌∙◌}
use Rattle.intervals.proofs.improve.Goals as goal

pub returns-then-better : goal.returns-then-better
returns-then-better c = let e = sym c.better.ensures ∙ c.if-better.true in record { value = sym e; table_after = rw e refl }

pub returns : goal.returns
returns c = let e = sym c.better.ensures ∙ c.if-better.false in record { value = sym e; table_after = rw e refl }
