-- Desks by hand: locks, and a desk with one thing changed, as the tables of rows have them. Assumes nothing.
use Rattle.std.specs.Prelude.{List, [], ◌∷◌, ℕ, ◌+◌, set}
use Rattle.naming.specs.declared.Names.{Names}
use Rattle.naming.specs.Names.{places_of, names_at, named}
use Rattle.locks.specs.declared.Mode.{Mode}
use Rattle.locks.specs.declared.Lock.{Lock}
use Rattle.locks.specs.declared.Stage.{Stage}
use Rattle.parties.specs.Parties.{entry_of}
use Rattle.desk.specs.declared.Desk.{Desk}

-- names with another count
abbrev pub recounted : Names → ℕ → Names
recounted m count = names_at (places_of m) count

-- a lock, with these names
abbrev pub locked : Mode → ℕ → ℕ → ℕ → List ℕ → Lock
locked mode cover low high names = record { mode = mode; cover = cover; low = low; high = high; names = named names }

-- one that names its cover
abbrev pub lock : Mode → ℕ → ℕ → ℕ → Lock
lock mode cover low high = locked mode cover low high (cover ∷ [])

-- a desk with another stage for a party
abbrev pub seat : Desk → ℕ → Stage → Desk
seat d party stage = record { entries = set d.entries party (entry_of stage); queue = d.queue; waiting = d.waiting; grants = d.grants }

-- with a number more in the arrival list
abbrev pub list : Desk → ℕ → Desk
list d party = record { entries = d.entries; queue = set d.queue d.waiting party; waiting = d.waiting + 1; grants = d.grants }

-- with another count of waiting parties
abbrev pub counting : Desk → ℕ → Desk
counting d waiting = record { entries = d.entries; queue = d.queue; waiting = waiting; grants = d.grants }

-- with another count of a party's grants
abbrev pub granting : Desk → ℕ → ℕ → Desk
granting d party count = record { entries = d.entries; queue = d.queue; waiting = d.waiting; grants = set d.grants party count }
