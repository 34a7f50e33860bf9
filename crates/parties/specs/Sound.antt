-- A *sound desk*: a definition for each clause of the paper's sentence, of the entries and of the arrival list. Assumes nothing.
use Rattle.std.specs.Prelude.{List, Bool, false, not, ◌&&◌, ◌||◌, ℕ, eqb, leb, ltb, take}
use Rattle.lists.specs.Lists.{all_below, any_below}
use Rattle.locks.specs.declared.Lock.{Lock}
use Rattle.locks.specs.declared.Stage.{Stage}
use Rattle.locks.specs.declared.Stage.TheVariants.{Out, Waiting, Holding}
use Rattle.locks.specs.Locks.{real_interval}
use Rattle.locks.specs.Stages.{is_waiting, of_lock, holders_conflict}
use Rattle.locks.specs.Lent.{Hierarchy, cover_right, keeps_names, covers_names}
use Rattle.parties.specs.declared.Entry.{Entry}
use Rattle.parties.specs.Parties.{stage_in, meets_holder, meets_waiter}
use Rattle.arrivals.specs.Arrivals.{listed_in}

-- lists only parties 0 to 31 (and no more of them than its 32 places hold)
abbrev pub lists_parties : List ℕ → ℕ → Bool
lists_parties queue waiting = leb waiting 32 && all_below waiting (λ i. ltb (listed_in queue i) 32)

-- each at most once: no two places of the list have the same party
abbrev pub lists_once : List ℕ → ℕ → Bool
lists_once queue waiting = all_below waiting (λ i. all_below i (λ j. not (eqb (listed_in queue i) (listed_in queue j))))

-- the arrival list has the party
abbrev pub is_listed : List ℕ → ℕ → ℕ → Bool
is_listed queue waiting party = any_below waiting (λ i. eqb (listed_in queue i) party)

-- and in arrival order just the waiting ones: each that is listed waits, and each that waits is listed
abbrev pub lists_waiting : List Entry → List ℕ → ℕ → Bool
lists_waiting entries queue waiting =
    all_below waiting (λ i. is_waiting (stage_in entries (listed_in queue i)))
    && all_below 32 (λ party. not (is_waiting (stage_in entries party)) || is_listed queue waiting party)

-- its intervals lie in 1 to 256, low at most high: of one lock
abbrev pub lock_real : Lock → Bool
lock_real l = real_interval l.low l.high

-- its intervals lie in 1 to 256, low at most high
abbrev pub intervals_real : List Entry → Bool
intervals_real entries = all_below 32 (λ party. of_lock lock_real (stage_in entries party))

-- a cover is below n and has the hold's interval, of all
abbrev pub covers_right : Hierarchy → List Entry → Bool
covers_right H entries = all_below 32 (λ party. of_lock (cover_right H) (stage_in entries party))

-- each hold and each waiting call keeps its names, 1 to 8 of them, each below n, ascending and each once (02, point 6)
abbrev pub names_kept : Hierarchy → List Entry → Bool
names_kept H entries = all_below 32 (λ party. of_lock (keeps_names H) (stage_in entries party))

-- the cover's interval contains those of the names, of all
abbrev pub names_covered : Hierarchy → List Entry → Bool
names_covered H entries = all_below 32 (λ party. of_lock (covers_names H) (stage_in entries party))

-- no two holders conflict
abbrev pub holders_apart : List Entry → Bool
holders_apart entries = all_below 32 (λ party. all_below party (λ other. not (holders_conflict (stage_in entries party) (stage_in entries other))))

-- a waiter conflicts with a holder or a waiter among the earlier ones
abbrev pub held_up : List Entry → List ℕ → Stage → Bool
held_up entries earlier Out = false
held_up entries earlier (Waiting l) = meets_holder entries l || meets_waiter entries earlier l
held_up entries earlier (Holding l) = false

-- each waiter conflicts with a holder or an earlier waiter
abbrev pub waiters_held_up : List Entry → List ℕ → ℕ → Bool
waiters_held_up entries queue waiting = all_below waiting (λ i. held_up entries (take i queue) (stage_in entries (listed_in queue i)))

-- a sound desk, of its entries, the places of its arrival list and the count of the waiting
unfoldable pub sound_parties : Hierarchy → List Entry → List ℕ → ℕ → Bool
sound_parties H entries queue waiting =
    lists_parties queue waiting && lists_once queue waiting && lists_waiting entries queue waiting
    && intervals_real entries && covers_right H entries && names_kept H entries && names_covered H entries
    && holders_apart entries && waiters_held_up entries queue waiting
