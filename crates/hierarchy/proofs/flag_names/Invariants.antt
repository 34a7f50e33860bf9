-- `flag_names` meets its contract: the names left, flagged over the flags as they are, give the flags of all. Assumes nothing.
use Rattle.hierarchy.proofs.Spreads.{Flagging}
use Rattle.hierarchy.proofs.flag_names.Given as goal

abbrev pub invariant-loop-name : goal.invariant-loop-name
invariant-loop-name l = Flagging l.names l.initial.flags l.name-index l.flags
