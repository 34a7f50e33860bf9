-- `covers_names` meets its contract: std's test of all is that of the definition. Assumes nothing.
use Rattle.lists.proofs.Std.{every_std}
use Rattle.locks.proofs.covers_names.Goals as goal

pub returns : goal.returns
returns c = rw (← every_std, ← c.listed.ensures) c.names_inside.ensures
