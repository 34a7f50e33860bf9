-- WHO IS AHEAD of a call that waits, and WHO HAS LEFT since (02, point 8). Assumes nothing.
use Rattle.std.specs.Prelude.{◌≡◌, ◌⊎◌, List, [], ◌∷◌, ◌++◌, Bool, false, not, cond, ◌&&◌, ◌||◌, ℕ, zero, suc, eqb}
use Rattle.lists.specs.Lists.{every, any, keep}
use Rattle.lists.specs.Answer.{done, refused}
use Rattle.locks.specs.declared.Lock.{Lock}
use Rattle.locks.specs.declared.Stage.{Stage}
use Rattle.locks.specs.declared.Stage.TheVariants.{Waiting, Holding}
use Rattle.locks.specs.Stages.{is_out, is_holding}
use Rattle.desk.specs.declared.Desk.{Desk}
use Rattle.desk.specs.Desks.{stage_at, queue_of}
use Rattle.runs.specs.Run.{Event, entered, got, stored, added, left}

-- the numbers below n, lowest first: the parties are those below 32
unfoldable pub numbers_below : ℕ → List ℕ
numbers_below zero = []
numbers_below (suc n) = numbers_below n ++ (n ∷ [])

-- the party is holding or waiting
abbrev pub is_present : Desk → ℕ → Bool
is_present d party = not (is_out (stage_at d party))

-- a party at this stage holds this lock, or waits for it
abbrev pub IsFor : Lock → Stage → Type 0
IsFor l x = (x ≡ Holding l) ⊎ (x ≡ Waiting l)

-- WHO IS AHEAD of a call that begins to wait at the desk: the parties that are holding or waiting there, each with the one visit that it has there. A visit begins with its enter
-- here, also where that is answered `waits`, and ends with its leave
abbrev pub ahead : Desk → List ℕ
ahead d = keep (is_present d) (numbers_below 32)

-- the part of a list that stands before a number
unfoldable pub front_of : ℕ → List ℕ → List ℕ
front_of p [] = []
front_of p (x ∷ xs) = cond (eqb x p) [] (x ∷ front_of p xs)

-- of a party that waits at the desk already: those that hold there, and those that wait before it in arrival order
abbrev pub in_front : ℕ → Desk → List ℕ
in_front p d = keep (λ party. is_holding (stage_at d party) || any (eqb party) (front_of p (queue_of d))) (numbers_below 32)

-- all parties but this one that are holding or waiting at the desk
abbrev pub others : ℕ → Desk → List ℕ
others p d = keep (λ party. not (eqb party p)) (ahead d)

-- the event is this: the party leaves, and the leave is not refused
abbrev pub is_leave : ℕ → Event ℕ → Bool
is_leave p (entered party a) = false
is_leave p (got party node a) = false
is_leave p (stored party node value a) = false
is_leave p (added party node number a) = false
is_leave p (left party (done granted)) = eqb party p
is_leave p (left party (refused k)) = false

-- the event is this: the party enters, and the enter is not refused; so a visit of its begins
abbrev pub is_enter : ℕ → Event ℕ → Bool
is_enter p (entered party (done a)) = eqb party p
is_enter p (entered party (refused k)) = false
is_enter p (got party node a) = false
is_enter p (stored party node value a) = false
is_enter p (added party node number a) = false
is_enter p (left party a) = false

-- the party has left: among the events is a leave of its that was not refused
abbrev pub has_left : List (Event ℕ) → ℕ → Bool
has_left events p = any (is_leave p) events

-- all of these parties have left
abbrev pub all_left : List ℕ → List (Event ℕ) → Bool
all_left parties events = every (has_left events) parties

-- WHO HAS LEFT, by visits: the visit that the party had before these events has. A leave of its that was not refused stands among them, and no enter of its that was not refused
-- stands before that: such an enter would begin a later visit, and the leave would be of that one
unfoldable pub visit_left : List (Event ℕ) → ℕ → Bool
visit_left [] p = false
visit_left (e ∷ es) p = is_leave p e || (not (is_enter p e) && visit_left es p)
