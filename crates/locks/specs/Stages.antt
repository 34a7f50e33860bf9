-- The stages of a party, and what is asked of one. Assumes nothing.
use Rattle.std.specs.Prelude.{Bool, true, false, []}
use Rattle.naming.specs.declared.Names.{Names}
use Rattle.naming.specs.Names.{named}
use Rattle.locks.specs.declared.Mode.{Mode}
use Rattle.locks.specs.declared.Mode.TheVariants.{Reading, Writing, Adding}
use Rattle.locks.specs.declared.Lock.{Lock}
use Rattle.locks.specs.declared.Stage.{Stage}
use Rattle.locks.specs.declared.Stage.TheVariants.{Out, Waiting, Holding}
use Rattle.locks.specs.Locks.{conflict}

-- the party is out
abbrev pub is_out : Stage → Bool
is_out Out = true
is_out (Waiting l) = false
is_out (Holding l) = false

-- the party is waiting
abbrev pub is_waiting : Stage → Bool
is_waiting Out = false
is_waiting (Waiting l) = true
is_waiting (Holding l) = false

-- the party is holding
abbrev pub is_holding : Stage → Bool
is_holding Out = false
is_holding (Waiting l) = false
is_holding (Holding l) = true

-- CONFLICTS of a lock. With what a party holds
abbrev pub against_holder : Lock → Stage → Bool
against_holder l Out = false
against_holder l (Waiting w) = false
against_holder l (Holding h) = conflict h l

-- with what a party waits for
abbrev pub against_waiter : Lock → Stage → Bool
against_waiter l Out = false
against_waiter l (Waiting w) = conflict w l
against_waiter l (Holding h) = false

-- two parties hold, and their holds conflict
abbrev pub holders_conflict : Stage → Stage → Bool
holders_conflict Out s = false
holders_conflict (Waiting l) s = false
holders_conflict (Holding l) s = against_holder l s

-- the test holds of the lock that a party holds or waits for; of a party that is out nothing is asked
abbrev pub of_lock : (Lock → Bool) → Stage → Bool
of_lock p Out = true
of_lock p (Waiting l) = p l
of_lock p (Holding l) = p l

-- the mode is reading
abbrev pub is_reading : Mode → Bool
is_reading Reading = true
is_reading Writing = false
is_reading Adding = false

-- the mode is adding
abbrev pub is_adding : Mode → Bool
is_adding Reading = false
is_adding Writing = false
is_adding Adding = true

-- 17: put in a reading visit
abbrev pub reads_only : Stage → Bool
reads_only Out = false
reads_only (Waiting l) = false
reads_only (Holding l) = is_reading l.mode

-- 18: get or put in an adding visit; or add where this is false
abbrev pub adds_only : Stage → Bool
adds_only Out = false
adds_only (Waiting l) = false
adds_only (Holding l) = is_adding l.mode

-- the names of what a party holds; one that does not hold has none
abbrev pub held_names : Stage → Names
held_names Out = named []
held_names (Waiting l) = named []
held_names (Holding l) = l.names

-- what a waiter waits for, held; another stage stays
abbrev pub held : Stage → Stage
held Out = Out
held (Waiting l) = Holding l
held (Holding l) = Holding l
