-- `call_interval` meets its contract: after each name the running values are the bounds of the names so far, after the last those of the call. Assumes
-- nothing.
use mathlib.Core.Path.{◌≡◌}
use mathlib.Core.List.{◌∷◌}
use lib.ListN.{take}
use Rattle.covers.specs.Cover.{call_interval}
use Rattle.covers.proofs.call_interval.Given as goal

-- after a further name: the least low and the greatest high of the first and of the further ones up to it
abbrev pub invariant-loop-name : goal.invariant-loop-name
invariant-loop-name l = l.bounds ≡ call_interval l.intervals (l.first ∷ take l.name-index l.others)
