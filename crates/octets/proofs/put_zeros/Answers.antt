-- `put_zeros` meets its contract: the part that takes the zeros is written with them. Assumes nothing.
use mathlib.Core.Path.{◌≡◌, sym, ap, ◌∙◌}
use Prim.Native.Nat.{ℕ, ◌+◌, ◌-◌, ◌≤◌}
use native.Mathlib.Omega.{arith}
use borrow.Author.Tests.{leb-true}
use lib.ListN.{length, take, drop, replicate, length-replicate, length-take, length-drop}
use Rattle.octets.proofs.Writes.{put_part, put_not}
use Rattle.octets.proofs.put_zeros.Goals as goal

pub returns-then-fits : goal.returns-then-fits
returns-then-fits c = let h = sym c.fits.ensures ∙ c.if-fits.true in
    let fit : c.args.at + c.args.count ≤ length c.args.room.now = leb-true _ _ h in
    let n : length (take (c.args.at + c.args.count - c.args.at) (drop c.args.at c.args.room.now)) ≡ c.args.count = simp (length-take, length-drop) (omega arith) in
    put_part _ _ _ h (length-replicate _ _) (c.fill.ensures.after (λ y e. e) ∙ ap (λ (k : ℕ). replicate k 0) n)

pub returns-else-fits : goal.returns-else-fits
returns-else-fits c = put_not _ _ _ (simp length-replicate (sym c.fits.ensures ∙ c.if-fits.false))
