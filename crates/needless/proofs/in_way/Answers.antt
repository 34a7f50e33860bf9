-- `in_way` meets its contract, by those of its callees. Assumes nothing.
use mathlib.Core.Path.{refl}
use Rattle.needless.proofs.in_way.Goals as goal

pub returns : goal.returns
returns c = rw (c.is_here.ensures, c.compatible.ensures, c.mode_of-m.ensures, c.meets.ensures) refl
