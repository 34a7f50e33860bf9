-- `spread_all` meets its contract: passes back and on keep what all stable flags have, until one on changes nothing. Assumes nothing.
use Rattle.hierarchy.proofs.Spreads.{reaching_start, reaching_more, reaching_less, reaching_end}
use Rattle.hierarchy.proofs.spread_all.Goals as goal

pub loop-on-init : goal.loop-on-init
loop-on-init c = reaching_start _ _ c.requires

pub spread_back-requires : goal.spread_back-requires
spread_back-requires c = c.loop-on.invariant.grown.bits

pub spread_once-on-requires : goal.spread_once-on-requires
spread_once-on-requires c = c.spread_back.ensures.bits

pub loop-on-smaller : goal.loop-on-smaller
loop-on-smaller c = reaching_less _ _ _ c.spread_once-on.new.flags c.spread_back.ensures c.spread_once-on.ensures.flags_after _ c.spread_once-on.result c.loop-on-test.true c.spread_once-on.ensures.went

pub loop-on-preserved : goal.loop-on-preserved
loop-on-preserved c = reaching_more _ _ _ c.spread_once-on.new.flags c.spread_back.ensures c.spread_once-on.ensures.flags_after _ _ c.spread_once-on.result c.loop-on.invariant c.spread_once-on.ensures.went

pub shape_of-flags : goal.shape_of-flags
shape_of-flags c = c.loop-on.invariant.grown.long

pub returns : goal.returns
returns c = reaching_end _ _ _ _ c.requires c.loop-on.invariant c.loop-on-test.false
