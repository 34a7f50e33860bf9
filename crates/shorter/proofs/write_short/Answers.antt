-- `write_short` meets its contract: what writing answers and leaves. Assumes nothing.
use mathlib.Core.Path.{sym}
use native.Mathlib.Omega.{arith}
use lib.ListN.{replicate}
use lib.Seq.{length-take-le}
use Rattle.shorter.specs.Inner.{short_bytes}
use Rattle.shorter.proofs.Cuts.{wrote}
use Rattle.shorter.proofs.write_short.Goals as goal

pub slice_bounds-write-end : goal.slice_bounds-write-end
slice_bounds-write-end c = sym (length-take-le _ c.put_short-bytes.new.room (omega (arith, c.put_short-bytes.ensures.0, c.put_short-bytes.auto.room, c.requires.values_bound.1)))

pub returns : goal.returns
returns c = wrote (short_bytes c.args.records.now c.args.head c.args.from c.args.values.now) (replicate 63488 0) c.args.room.now c.put_short-bytes.ensures.1 c.put_short-bytes.ensures.0 c.write.result c.write.ensures.0 c.write.ensures.1
