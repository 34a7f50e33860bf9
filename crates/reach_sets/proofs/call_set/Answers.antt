-- `call_set` meets its contract: the names' sets are joined one after the other. Assumes nothing.
use mathlib.Core.Path.{◌∙◌}
use Rattle.reach_sets.proofs.Calls.{joining_name, joining_last}
use Rattle.reach_sets.proofs.call_set.Goals as goal

pub loop-name-preserved : goal.loop-name-preserved
loop-name-preserved c = joining_name _ _ _ _ c.loop-name.invariant c.loop-name-test.true c.joined-set.result (c.joined-set.ensures ∙ rw (c.set_at.ensures, c.from.ensures))

pub returns : goal.returns
returns c = joining_last _ _ _ _ c.loop-name.invariant c.loop-name-test.false
