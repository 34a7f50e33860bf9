-- `number` meets its contract: cleared tables are ready for the walk of node 0. Assumes nothing.
use Rattle.intervals.proofs.Walks.{fresh_ready, fresh_end}
use Rattle.intervals.proofs.number.Goals as goal

pub walk-requires : goal.walk-requires
walk-requires c = fresh_ready _ _ _ _ _ _ c.requires
    (c.fill.ensures.after (λ y h. h)) (c.fill-2.ensures.after (λ y h. h))

pub returns : goal.returns
returns c = fresh_end _ _ _ _ _ _ c.requires (c.fill.ensures.after (λ y h. h))
    (c.fill-2.ensures.after (λ y h. h)) _ c.walk.ensures
