-- `one_name_more` meets its contract: the less of the lows and the greater of the highs are the bounds of a list and one name more. Assumes nothing.
use mathlib.Core.Path.{sym}
use Rattle.covers.proofs.Bounds.{one_name_more}
use Rattle.covers.proofs.one_name_more.Goals as goal

pub returns-clause-by_index : goal.returns-clause-by_index
returns-clause-by_index c = λ table names name some so_far at. rw (c.min.ensures, c.max.ensures, so_far, at) (sym (one_name_more table names name some))
