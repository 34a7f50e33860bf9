-- The desk: the stages of its parties, its arrival list, and a fresh one. Assumes nothing.
use Rattle.std.specs.Prelude.{ℕ, List, [], take, replicate}
use Rattle.locks.specs.declared.Stage.{Stage}
use Rattle.locks.specs.declared.Stage.TheVariants.{Out}
use Rattle.parties.specs.Parties.{entry_of, stage_in}
use Rattle.arrivals.specs.Arrivals.{listed_in, queue_places}
use Rattle.grants.specs.Grants.{no_grants}
use Rattle.desk.specs.declared.Desk.{Desk}

-- the stage of a party at the desk
abbrev pub stage_at : Desk → ℕ → Stage
stage_at d party = stage_in d.entries party

-- the party at a place of the arrival list
abbrev pub listed_at : Desk → ℕ → ℕ
listed_at d i = listed_in d.queue i

-- arrival order: the waiting parties, first come first
abbrev pub queue_of : Desk → List ℕ
queue_of d = take d.waiting d.queue

-- a fresh desk has all parties out and each count 0
abbrev pub fresh_desk : Desk
fresh_desk = record { entries = replicate 32 (entry_of Out); queue = queue_places []; waiting = 0; grants = no_grants }
