-- `join_all` meets its contract: passes go on until no edge has anything left to do. Assumes nothing.
use Rattle.lists.proofs.Passes.{went_less}
use Rattle.reach_sets.specs.Inner.{room}
use Rattle.reach_sets.proofs.Joinings.{settling_start, settling_more}
use Rattle.reach_sets.proofs.join_all.Goals as goal

pub loop-on-init : goal.loop-on-init
loop-on-init c = settling_start _ _

pub join_once-on-requires : goal.join_once-on-requires
join_once-on-requires c = rw c.loop-on.invariant.long c.requires

pub loop-on-smaller : goal.loop-on-smaller
loop-on-smaller c = went_less room _ c.join_once-on.result _ c.join_once-on.new.table c.loop-on-test.true c.join_once-on.ensures.went

pub loop-on-preserved : goal.loop-on-preserved
loop-on-preserved c = settling_more _ _ _ c.join_once-on.result _ c.join_once-on.new.table c.loop-on.invariant c.join_once-on.ensures.kept c.join_once-on.ensures.settled

pub shape_of-table : goal.shape_of-table
shape_of-table c = c.loop-on.invariant.long

pub returns : goal.returns
returns c = record { kept = c.loop-on.invariant.kept; settled = c.loop-on.invariant.done c.loop-on-test.false }
