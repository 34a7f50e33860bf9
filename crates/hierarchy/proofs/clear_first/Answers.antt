-- `clear_first` meets its contract: the part that is cleared is the first bytes, or all. Assumes nothing.
use mathlib.Core.Path.{ap, ◌∙◌}
use Prim.Native.Nat.{ℕ, ◌≤◌, min}
use native.Mathlib.Omega.{arith}
use lib.ListN.{length, replicate}
use lib.Seq.{length-take-le}
use Rattle.lists.proofs.Parts.{laid}
use Rattle.hierarchy.proofs.clear_first.Goals as goal

pub returns : goal.returns
returns c =
    let few : min c.args.count (length c.args.bytes.now) ≤ length c.args.bytes.now = omega arith in
    laid c.min-end.result (replicate (min c.args.count (length c.args.bytes.now)) 0) c.fill.new.self c.args.bytes.now
    (c.fill.ensures.after (λ y h. h) ∙ ap (λ (k : ℕ). replicate k 0) (length-take-le c.min-end.result c.args.bytes.now (omega arith) ∙ c.min-end.ensures))
    (omega arith) c.fill.ensures.len
