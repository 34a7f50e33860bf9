-- `write_steps` meets its contract: the parts left come to the same as all of them. Assumes nothing.
use mathlib.Core.Path.{ap, ◌∙◌}
use Prim.Native.Nat.{ℕ, min}
use lib.ListN.{length}
use Rattle.std.specs.Slice.Iter.{chunks_rest}
use Rattle.locks.specs.Lent.{lent_in}
use Rattle.lines.specs.Pieces.{written_of}
use Rattle.lines.proofs.Parts.{parts_turn, parts_end}
use Rattle.listing.proofs.write_steps.Goals as goal

pub loop-part-init : goal.loop-part-init
loop-part-init g c = (cc, cc)

pub loop-part-preserved : goal.loop-part-preserved
loop-part-preserved g c = let size = c.loop-part.invariant.0 in let steps = c.in-Some.ensures.steps in (
  steps.0 ∙ size,
  parts_turn (written_of (lent_in c.args.tables.now) c.loop-part.progress c.loop-part.values c.loop-part.text) _ c.loop-part.invariant.1 _ _ steps.1.0
      (steps.1.1 ∙ ap (λ (k : ℕ). min k (length (chunks_rest c.loop-part.part-iterator))) size) steps.1.2 c.write_part-wrote.ensures,
)

pub returns : goal.returns
returns g c = parts_end (written_of (lent_in c.args.tables.now) c.loop-part.progress c.loop-part.values c.loop-part.text) _ c.loop-part.invariant.1 c.in-None.ensures.steps.1.0
