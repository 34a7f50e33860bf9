-- `waiters_held_up` meets its contract: each waiter passed so far is held up, and its call stands. Assumes nothing.
use Rattle.std.specs.Prelude.{◌≡◌, Bool, true, List, ℕ, take}
use Rattle.lists.specs.Lists.{all_below}
use Rattle.arrivals.specs.Arrivals.{listed_in}
use Rattle.parties.specs.declared.Entry.{Entry}
use Rattle.parties.specs.Parties.{stage_in}
use Rattle.parties.specs.Sound.{held_up}
use Rattle.parties.proofs.Holders.{Calling}
use Rattle.parties.proofs.waiters_held_up.Given as goal

abbrev pub test : List Entry → List ℕ → ℕ → Bool
test entries queue k = held_up entries (take k queue) (stage_in entries (listed_in queue k))

abbrev pub invariant-loop-i : goal.invariant-loop-i
invariant-loop-i l = (all_below l.i (test l.entries l.list.places) ≡ true) × Calling l.entries l.list.places l.i l.standing
