-- `put_list` meets its contract: the places over the front of the list. Assumes nothing.
use Rattle.std.proofs.Common.{ℕ, List, ◌++◌, length, take, drop, sym, ap₂, length-take-le}
use Rattle.lists.specs.Lists.{over}
use Rattle.desk.proofs.put_list.Goals as goal

pub returns : goal.returns
unfolding over
returns c = ap₂ (λ (xs : List ℕ) (k : ℕ). xs ++ drop k c.args.list.now) c.copy_from_slice.ensures.after (sym (length-take-le c.args.count c.args.places.now c.requires.0))
