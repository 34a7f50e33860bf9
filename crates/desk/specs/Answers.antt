-- What each case of the steps' answers is in the paper: its number and values. Assumes nothing.
use Rattle.std.specs.Prelude.{◌≡◌, ℕ, Bool, true, not, List, ◌==◌, Result}
use Rattle.lists.specs.Answer.{Answer, done, refused}
use Rattle.refusals.specs.declared.Refusal.{Refusal}
use Rattle.refusals.specs.Refusals.{refusal_number, meaning}
use Rattle.desk.specs.declared.EnterAnswer.{EnterAnswer}
use Rattle.desk.specs.declared.EnterAnswer.TheVariants.{Granted, Waits, Refused as EnterRefused}
use Rattle.desk.specs.declared.GetAnswer.{GetAnswer}
use Rattle.desk.specs.declared.GetAnswer.TheVariants.{Value, Waiting, Refused as GetRefused}
use Rattle.desk.specs.declared.Step.{Step}
use Rattle.desk.specs.Steps.{Admission, granted, waits, EnterResult, GetResult, PutResult, LeaveResult}
use Rattle.desk.specs.Link.{LinkResult}

-- granted with the cover, waits, or refused
abbrev pub enter_meaning : EnterAnswer → Answer Admission
enter_meaning (Granted cover) = done (granted cover)
enter_meaning Waits = done waits
enter_meaning (EnterRefused k) = refused (refusal_number k)

-- a caller that finds itself waiting is refused with 14
abbrev pub get_meaning : GetAnswer → Answer ℕ
get_meaning (Value value) = done value
get_meaning Waiting = refused 14
get_meaning (GetRefused k) = refused (refusal_number k)

-- stored, or refused
abbrev pub put_meaning : Result (Unit {0}) Refusal → Answer (Unit {0})
put_meaning r = meaning r

-- added, or refused
abbrev pub add_meaning : Result (Unit {0}) Refusal → Answer (Unit {0})
add_meaning r = meaning r

-- left, with the count of the parties granted, or refused
abbrev pub leave_meaning : Result ℕ Refusal → Answer ℕ
leave_meaning r = meaning r

-- linked, or refused
abbrev pub link_meaning : Result (Unit {0}) Refusal → Answer (Unit {0})
link_meaning r = meaning r

-- the case of get's answer is the one for its meaning: two cases mean 14, and Waiting is the one
abbrev pub get_case : GetAnswer → Bool
get_case (Value value) = true
get_case Waiting = true
get_case (GetRefused k) = not (refusal_number k == 14)

-- WHAT A METHOD PROMISES: it hands back the desk of the definition, and its answer means the definition's. Of enter
abbrev pub Enters : Step EnterAnswer → EnterResult → Type 0
Enters r s = (r.desk ≡ s.desk) × (enter_meaning r.answer ≡ s.answer)

-- of get, with the scratch that it leaves; the case is pinned too
abbrev pub Gets : Step GetAnswer → (scratch : List ℕ) → GetResult → Type 0
Gets r scratch s = (r.desk ≡ s.desk) × (get_meaning r.answer ≡ s.answer) × (get_case r.answer ≡ true) × (scratch ≡ s.scratch)

-- of put, with the values and the scratch that it leaves
abbrev pub Puts : Step (Result (Unit {0}) Refusal) → (values scratch : List ℕ) → PutResult → Type 0
Puts r values scratch s = (r.desk ≡ s.desk) × (put_meaning r.answer ≡ s.answer) × (values ≡ s.values) × (scratch ≡ s.scratch)

-- of add, likewise
abbrev pub Adds : Step (Result (Unit {0}) Refusal) → (values scratch : List ℕ) → PutResult → Type 0
Adds r values scratch s = (r.desk ≡ s.desk) × (add_meaning r.answer ≡ s.answer) × (values ≡ s.values) × (scratch ≡ s.scratch)

-- of leave, with the list that it leaves
abbrev pub Leaves : Step (Result ℕ Refusal) → List ℕ → LeaveResult → Type 0
Leaves r list s = (r.desk ≡ s.desk) × (leave_meaning r.answer ≡ s.answer) × (list ≡ s.list)

-- of link, with the intervals, the edges and the scratch that it leaves
abbrev pub Links : Step (Result (Unit {0}) Refusal) → (intervals edges scratch : List ℕ) → LinkResult → Type 0
Links r intervals edges scratch s =
    (r.desk ≡ s.desk) × (link_meaning r.answer ≡ s.answer) × (intervals ≡ s.tables.intervals) × (edges ≡ s.tables.edges) × (scratch ≡ s.scratch)
