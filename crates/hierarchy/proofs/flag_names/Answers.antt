-- `flag_names` meets its contract: the names left, flagged over the flags as they are, give the flags of all. Assumes nothing.
use native.Mathlib.Omega.{arith}
use Rattle.hierarchy.proofs.Spreads.{flagging_more, flagging_end}
use Rattle.hierarchy.proofs.flag_names.Goals as goal

pub loop-name-preserved : goal.loop-name-preserved
loop-name-preserved c = flagging_more _ _ _ _ c.loop-name.invariant (omega arith) _ (rw c.from.ensures at c.flag.ensures.flags_after)

pub returns : goal.returns
returns c = flagging_end _ _ _ _ c.loop-name.invariant (omega arith)
