-- `listing` meets its contract: refused with 1 where a place is short, and the listing of the file otherwise. Assumes nothing.
use native.Mathlib.Omega.{arith}
use borrow.Author.Tests.{lt-ltb, le-ltb}
use Rattle.lines.proofs.Files.{list_short, list_narrow, list_done}
use Rattle.lines.proofs.listing.Goals as goal
use Rattle.lines.proofs.listing.Goals.{then-values-lt-VALUES-via-then-values-lt-VALUES, then-values-lt-VALUES-via-else-values-lt-VALUES+then-text-lt-TEXT_BYTES}

pub returns-then-values-lt-VALUES : goal.returns-then-values-lt-VALUES
returns-then-values-lt-VALUES c = elim c.then-values-lt-VALUES.branch [
  | then-values-lt-VALUES-via-then-values-lt-VALUES w ↦ list_short c.args.file.now c.args.values.now c.args.text.now (lt-ltb _ _ w.if-values-lt-VALUES.true)
  | then-values-lt-VALUES-via-else-values-lt-VALUES+then-text-lt-TEXT_BYTES w ↦
      list_narrow c.args.file.now c.args.values.now c.args.text.now (le-ltb _ _ w.if-values-lt-VALUES.false) (lt-ltb _ _ w.if-text-lt-TEXT_BYTES.true)
]

pub returns : goal.returns
returns c = list_done c.args.file.now c.args.values.now c.args.text.now (λ i. omega
    (arith, c.shared_slice_known-1.given i))
    (le-ltb _ _ c.if-values-lt-VALUES.false) (le-ltb _ _ c.if-text-lt-TEXT_BYTES.false)
    c.list_file.ensures
