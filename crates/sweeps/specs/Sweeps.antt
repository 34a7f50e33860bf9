-- A party leaves, and the waiters are taken: a function of the entries and the arrival list. Assumes nothing.
use Rattle.std.specs.Prelude.{◌≡◌, List, [], ◌∷◌, ◌++◌, Bool, true, false, not, ◌||◌, ℕ, eqb, set}
use Rattle.lists.specs.Lists.{keep}
use Rattle.locks.specs.declared.Lock.{Lock}
use Rattle.locks.specs.declared.Stage.{Stage}
use Rattle.locks.specs.declared.Stage.TheVariants.{Out, Waiting, Holding}
use Rattle.arrivals.specs.Arrivals.{Lists}
use Rattle.parties.specs.declared.Entry.{Entry}
use Rattle.parties.specs.Parties.{entry_of, stage_in, meets_holder, meets_waiter}
use Rattle.sweeps.specs.declared.Swept.{Swept}

-- how far the pass over the waiters has come: the entries, the parties that stay waiting, and those granted, each in order
pub record Sweep : Type 0 where
  pub entries : List Entry
  pub stay : List ℕ
  pub granted : List ℕ

-- a waiter stays waiting
abbrev pub stays_waiting : Sweep → ℕ → Sweep
stays_waiting s party = record { entries = s.entries; stay = s.stay ++ (party ∷ []); granted = s.granted }

-- a waiter is granted what it waits for
abbrev pub is_granted : Sweep → ℕ → Lock → Sweep
is_granted s party l =
    record { entries = set s.entries party (entry_of (Holding l)); stay = s.stay; granted = s.granted ++ (party ∷ []) }

-- the one or the other
abbrev pub offer_if : Bool → Sweep → ℕ → Lock → Sweep
offer_if true s party l = is_granted s party l
offer_if false s party l = stays_waiting s party

-- a waiter that conflicts with no holder, those just granted included, and with no earlier party still waiting, is granted. A party that is listed and does
-- not wait, which no sound desk has, stays listed
abbrev pub offer_to : Sweep → ℕ → Stage → Sweep
offer_to s party Out = stays_waiting s party
offer_to s party (Waiting l) = offer_if (not (meets_holder s.entries l || meets_waiter s.entries s.stay l)) s party l
offer_to s party (Holding l) = stays_waiting s party

-- one waiter is taken
unfoldable pub offer : Sweep → ℕ → Sweep
offer s party = offer_to s party (stage_in s.entries party)

-- waiters are taken once, in arrival order
unfoldable pub sweep : Sweep → List ℕ → Sweep
sweep s [] = s
sweep s (party ∷ parties) = sweep (offer s party) parties

-- the pass from these entries over the waiters
abbrev pub sweep_of : List Entry → List ℕ → Sweep
sweep_of entries parties = sweep (record { entries = entries; stay = []; granted = [] }) parties

-- a holder gives up its hold, a waiter its call; the others in the arrival list are then taken. So they are where the party is out, or none of the 32
abbrev pub leaving_of : List Entry → List ℕ → ℕ → Sweep
leaving_of entries list party = sweep_of (set entries party (entry_of Out)) (keep (λ other. not (eqb other party)) list)

-- what a pass over the waiters hands back
pub record Sweeps (s : Sweep) (r : Swept) : Type 0 where
  pub entries : r.entries ≡ s.entries
  pub stay : Lists r.stay s.stay
  pub granted : Lists r.granted s.granted
