-- `write_refused` meets its contract: what was put is within the text. Assumes nothing.
use mathlib.Core.Path.{sym}
use Prim.Native.Nat.{◌≤◌}
use native.Mathlib.Omega.{arith}
use lib.ListN.{length}
use lib.Seq.{length-take-le}
use Rattle.lists.specs.Answer.{refused}
use Rattle.texts.specs.Lines.{listing}
use Rattle.texts.proofs.Puts.{puts_within}
use Rattle.listing.proofs.write_refused.Goals as goal

pub slice_bounds-write_all-end : goal.slice_bounds-write_all-end
slice_bounds-write_all-end g c = puts_within 0 (listing (refused c.args.k)) c.args.text.now (omega arith) c.put_refused-at.ensures

pub slice_bounds-write_all-end-2 : goal.slice_bounds-write_all-end-2
slice_bounds-write_all-end-2 g c = let h : c.put_refused-at.result ≤ length c.put_refused-at.new.text = puts_within 0 (listing (refused c.args.k)) c.args.text.now (omega arith) c.put_refused-at.ensures in sym (length-take-le _ _ h)
