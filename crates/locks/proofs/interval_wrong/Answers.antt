-- `interval_wrong` meets its contract: all five tests, in whichever order. Assumes nothing.
use Rattle.locks.proofs.Tables.{outside_tests}
use Rattle.locks.proofs.interval_wrong.Goals as goal

pub returns : goal.returns
returns c = outside_tests c.args.low c.args.high c.args.least c.args.most
