-- Terms of the contracts of private functions only: no definition of the paper is here. Assumes nothing.
use Rattle.std.specs.Prelude.{◌≡◌, ℕ, Bool, not, List, [], ◌∷◌, slice_index, Result, Ok, Err}
use Rattle.std.proofs.Math.Option.{Option, none, some}
use Rattle.lists.specs.Answer.{Check, ◌when◌, refusal}
use Rattle.refusals.specs.declared.Refusal.{Refusal}
use Rattle.refusals.specs.Refusals.{refusal_number}
use Rattle.locks.specs.declared.Stage.{Stage}
use Rattle.locks.specs.Stages.{reads_only, adds_only}
use Rattle.locks.specs.Lent.{Hierarchy}
use Rattle.arrivals.specs.declared.Listed.{Listed}
use Rattle.arrivals.specs.Arrivals.{list_of}
use Rattle.grants.specs.Grants.{count_grants}
use Rattle.sweeps.specs.declared.Swept.{Swept}
use Rattle.desk.specs.declared.Desk.{Desk}
use Rattle.desk.specs.declared.Access.{Access}
use Rattle.desk.specs.declared.Access.TheVariants.{Get, Put, Add}
use Rattle.desk.specs.Desks.{stage_at}
use Rattle.desk.specs.Steps.{size_checks, step_checks, node_checks, value_checks, scratch_left, PutResult, put_unless, sum64}

-- the arrival list of a desk
abbrev pub list_at : Desk → Listed
list_at d = record { places = d.queue; count = d.waiting }

-- the refusal that a result gives
abbrev pub refused_with : Result (Unit {0}) Refusal → Option ℕ
refused_with (Ok _) = none
refused_with (Err k) = some (refusal_number k)

-- the same where more is looked at behind what gave it
abbrev pub refused_or : Result (Unit {0}) Refusal → Option ℕ → Option ℕ
refused_or (Ok _) own = own
refused_or (Err k) own = some (refusal_number k)

-- a step is refused by what is asked of lengths and counts, or by none of that
abbrev pub SizesJudged : Hierarchy → Bool → Result (Unit {0}) Refusal → Type 0
SizesJudged H short r = (own : List Check) → refusal (size_checks H short own) ≡ refused_or r (refusal own)

-- a step is refused before it looks at its own checks, or by none of those before
abbrev pub Judged : Hierarchy → Desk → ℕ → Bool → Result (Unit {0}) Refusal → Type 0
Judged H d party short r = (own : List Check) → refusal (step_checks H d party short own) ≡ refused_or r (refusal own)

-- what get, put and add alone look at, of a party at this stage
abbrev pub own_at : Access → Stage → List Check
own_at Get s = 18 when adds_only s ∷ []
own_at (Put number) s = 17 when reads_only s ∷ 18 when adds_only s ∷ []
own_at (Add number) s = 18 when not (adds_only s) ∷ []

-- the value after it
abbrev pub changed_by : Access → ℕ → ℕ
changed_by Get value = value
changed_by (Put number) value = number
changed_by (Add number) value = sum64 value number

-- what get, put and add look at besides what every step does
abbrev pub NodeJudged : Hierarchy → Desk → ℕ → ℕ → Access → Result (Unit {0}) Refusal → Type 0
NodeJudged H d party node access r = refusal (node_checks H d party node (own_at access (stage_at d party))) ≡ refused_with r

-- and all that they look at
abbrev pub ValueJudged : Hierarchy → Desk → ℕ → ℕ → Access → Bool → Result (Unit {0}) Refusal → Type 0
ValueJudged H d party node access short r = refusal (step_checks H d party short (node_checks H d party node (own_at access (stage_at d party)))) ≡ refused_with r

-- what a step leaves that changes a value so: put and add
abbrev pub change_step : Hierarchy → Desk → ℕ → ℕ → Access → (values scratch : List ℕ) → PutResult
change_step H d party node access values scratch =
    put_unless (refusal (value_checks H d party node values scratch (own_at access (stage_at d party)))) d node (changed_by access (slice_index values node)) values
    (scratch_left H values scratch)

-- the desk as a pass over the waiters has left it
abbrev pub left_by : Desk → Swept → Desk
left_by d s = record { entries = s.entries; queue = s.stay.places; waiting = s.stay.count; grants = count_grants d.grants (list_of s.granted) }
