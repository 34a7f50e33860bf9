-- Terms of the contracts of private functions only: no definition of the paper is here. Assumes nothing.
use Rattle.std.specs.Prelude.{List, Bool, true, false, not, ◌&&◌, ◌||◌, ◌≡◌, ℕ, ◌≤◌, take}
use Rattle.std.specs.List.{list_any}
use Rattle.std.specs.Option.{MatchOption}
use Rattle.std.specs.declared.option.Option.{Option}
use Rattle.lists.specs.Lists.{all_below}
use Rattle.locks.specs.declared.Lock.{Lock}
use Rattle.locks.specs.declared.Stage.{Stage}
use Rattle.locks.specs.Locks.{conflict}
use Rattle.locks.specs.Stages.{is_waiting, of_lock}
use Rattle.locks.specs.Lent.{Hierarchy}
use Rattle.locks.specs.Inner.{lock_fits}
use Rattle.arrivals.specs.declared.Listed.{Listed}
use Rattle.parties.specs.declared.Entry.{Entry}
use Rattle.parties.specs.declared.Standing.{Standing}
use Rattle.parties.specs.Parties.{stage_in, meets_holder}
use Rattle.parties.specs.Sound.{is_listed, holders_apart}

-- the locks that stand
abbrev pub locks_in : Standing → List Lock
locks_in r = take r.count r.locks

-- a lock conflicts with one of them
abbrev pub meets : List Lock → Lock → Bool
meets locks l = list_any (λ here. conflict here l) locks

-- those that stand are what the holders hold
pub record HoldsOf (entries : List Entry) (r : Standing) : Type 0 where
  pub few : r.count ≤ 32
  pub meets : (l : Lock) → meets_holder entries l ≡ meets (locks_in r) l

-- a party at this stage is listed if it waits, and its cover and names are right
abbrev pub entry_right : Hierarchy → Listed → ℕ → Stage → Bool
entry_right H list party stage = (not (is_waiting stage) || is_listed list.places list.count party) && of_lock (lock_fits H) stage

-- and so of all
abbrev pub entries_right : Hierarchy → List Entry → Listed → Bool
entries_right H entries list = all_below 32 (λ party. entry_right H list party (stage_in entries party))

-- what one pass over the entries finds: the holds of the holders where the entries are right and no two holds conflict, else nothing
abbrev pub Gathered : Hierarchy → List Entry → Listed → Option Standing → Type 0
Gathered H entries list r =
    MatchOption r
    ((entries_right H entries list && holders_apart entries) ≡ false)
    (λ holds. ((entries_right H entries list && holders_apart entries) ≡ true) × HoldsOf entries holds)
