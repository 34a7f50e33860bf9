-- The entries of the parties, and who conflicts with whom. Assumes nothing.
use Rattle.std.specs.Prelude.{List, Bool, not, cond, ◌||◌, ℕ, ltb, get_or}
use Rattle.lists.specs.Lists.{any_below, any}
use Rattle.locks.specs.declared.Lock.{Lock}
use Rattle.locks.specs.declared.Stage.{Stage}
use Rattle.locks.specs.declared.Stage.TheVariants.{Out}
use Rattle.locks.specs.Stages.{is_out, against_holder, against_waiter}
use Rattle.parties.specs.declared.Entry.{Entry}

-- the entry of a party at a stage
abbrev pub entry_of : Stage → Entry
entry_of stage = record { stage = stage }

-- the stage of a party in the entries; parties are 0 to 31, and any other is out
abbrev pub stage_in : List Entry → ℕ → Stage
stage_in entries party = (get_or entries party (entry_of Out)).stage

-- some party holds or waits
abbrev pub someone_in : List Entry → Bool
someone_in entries = any_below 32 (λ party. not (is_out (stage_in entries party)))

-- the place of a party's entry; that of party 0 for a party over 31
abbrev pub place_of : ℕ → ℕ
place_of party = cond (ltb party 32) party 0

-- the stage of a party by what stands at its place; a party over 31 is out
abbrev pub seated_at : ℕ → Stage → Stage
seated_at party stage = cond (ltb party 32) stage Out

-- CONFLICTS of a lock with those at the desk. With a holder
abbrev pub meets_holder : List Entry → Lock → Bool
meets_holder entries l = any_below 32 (λ party. against_holder l (stage_in entries party))

-- with a waiter among the parties
abbrev pub meets_waiter : List Entry → List ℕ → Lock → Bool
meets_waiter entries parties l = any (λ party. against_waiter l (stage_in entries party)) parties

-- with no holder and no waiter
abbrev pub is_free : List Entry → Lock → Bool
is_free entries l = not (any_below 32 (λ other. against_holder l (stage_in entries other) || against_waiter l (stage_in entries other)))
