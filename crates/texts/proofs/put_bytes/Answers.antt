-- `put_bytes` meets its contract: the first bytes are written, as many as fit, and no others. Assumes nothing.
use Prim.Native.Nat.{ℕ}
use native.Mathlib.Nat.{add-zero}
use native.Mathlib.Omega.{arith}
use lib.ListN.{take}
use lib.Seq.{length-take-le}
use Rattle.texts.proofs.Puts.{put_end, put_front, part_over}
use Rattle.texts.proofs.put_bytes.Goals as goal

pub returns-then-fits-eq0 : goal.returns-then-fits-eq0
returns-then-fits-eq0 c = let none = put_end c.args.bytes.now c.args.text.now c.args.at 0 (omega arith) in rw add-zero at none

pub returns : goal.returns
returns c = let fits : ℕ = c.min-fits.result in let first = length-take-le fits c.args.bytes.now (omega arith) in
    put_front c.args.bytes.now c.args.text.now c.args.at fits (omega arith) (omega arith) (omega (arith, c.text-1.given)) (part_over c.args.at _ (take fits c.args.bytes.now) c.args.text.now c.copy_from_slice.ensures.after (omega arith))
