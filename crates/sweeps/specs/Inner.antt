-- A term of the contract of a private function only: no definition of the paper is here. Assumes nothing.
use Rattle.std.specs.Prelude.{List, Bool, false, not, ◌||◌, ℕ}
use Rattle.locks.specs.declared.Stage.{Stage}
use Rattle.locks.specs.declared.Stage.TheVariants.{Out, Waiting, Holding}
use Rattle.parties.specs.declared.Entry.{Entry}
use Rattle.parties.specs.Parties.{meets_holder, meets_waiter}

-- a party at this stage waits, and is granted on these entries, with these still waiting before it
abbrev pub may_go : List Entry → List ℕ → Stage → Bool
may_go entries stay Out = false
may_go entries stay (Waiting l) = not (meets_holder entries l || meets_waiter entries stay l)
may_go entries stay (Holding l) = false
