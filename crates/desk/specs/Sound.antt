-- A *sound desk*. Assumes nothing.
use Rattle.std.specs.Prelude.{Bool}
use Rattle.locks.specs.Lent.{Hierarchy}
use Rattle.parties.specs.Sound.{sound_parties}
use Rattle.desk.specs.declared.Desk.{Desk}

-- a sound desk: its entries and its arrival list are
abbrev pub sound_desk : Hierarchy → Desk → Bool
sound_desk H d = sound_parties H d.entries d.queue d.waiting
