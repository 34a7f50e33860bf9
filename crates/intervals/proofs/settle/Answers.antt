-- `settle` meets its contract: passes go on until no edge has anything left to do. Assumes nothing.
use Rattle.intervals.proofs.Tables.{settling_start, settling_more, settling_end}
use Rattle.intervals.proofs.settle.Goals as goal

pub loop-on-init : goal.loop-on-init
loop-on-init c = settling_start _ _

pub loop-on-preserved : goal.loop-on-preserved
loop-on-preserved c = settling_more _ _ _ c.relax_once-on.result _ c.relax_once-on.new.table c.loop-on.invariant c.relax_once-on.auto.table c.relax_once-on.ensures.kept c.relax_once-on.ensures.kept_2 c.relax_once-on.ensures.settled

pub returns : goal.returns
returns c = let e = settling_end _ _ _ _ c.loop-on.invariant c.loop-on-test.false in record { best = e.0; best_2 = e.1 }
