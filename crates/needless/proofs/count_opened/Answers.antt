-- `count_opened` meets its contract: the parts of the places that are the file's are within them. Assumes nothing.
use mathlib.Core.Path.{sym}
use lib.Seq.{length-take-le}
use Rattle.needless.proofs.count_opened.Goals as goal

pub slice_bounds-count_built-end : goal.slice_bounds-count_built-end
slice_bounds-count_built-end c = sym (length-take-le _ c.args.records.now c.requires.n_in_bounds.2)
