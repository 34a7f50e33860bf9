-- `cut_opened` meets its contract: the parts of the places that are the file's are within them. Assumes nothing.
use Prim.Native.Nat.{ℕ}
use lib.ListN.{replicate}
use lib.Seq.{length-take-le}
use Rattle.shorter.proofs.cut_opened.Goals as goal

pub cut_run-requires : goal.cut_run-requires
cut_run-requires c = (length-take-le {A = ℕ} c.args.opened.n (replicate 256 0) c.requires.n_bound.0, c.requires.n_bound.0, c.requires.shaped)
