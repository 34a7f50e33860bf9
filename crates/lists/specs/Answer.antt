-- What a call of the paper answers, and how a refusal is picked. Assumes nothing.
use Rattle.std.specs.Prelude.{List, [], ◌∷◌, Bool, true, false, ℕ}
use Rattle.std.proofs.Math.Option.{Option, none, some}
use Rattle.lists.specs.Lists.{over}

infix 70 ◌when◌
-- an answer: done, with what the call gives, or refused, with the number of the refusal
pub data Answer (A : Type 0) : Type 0 where
  done : A → Answer A
  refused : ℕ → Answer A

-- it is done
abbrev pub is_done : {A : Type 0} → Answer A → Bool
is_done (done a) = true
is_done (refused k) = false

-- a refusal's number, and whether its condition holds
pub record Check : Type 0 where
  pub number : ℕ
  pub holds : Bool

-- a row of the table of refusals: the number, when the condition holds
abbrev pub ◌when◌ : ℕ → Bool → Check
k when b = record { number = k; holds = b }

-- where several apply, the lowest number is given: rows stand in rising order, and the first that holds decides
unfoldable pub refusal : List Check → Option ℕ
refusal [] = none
refusal (c ∷ cs) = elim c.holds [ true ↦ some c.number | false ↦ refusal cs ]

-- done unless refused
abbrev pub answer_of : {A : Type 0} → Option ℕ → A → Answer A
answer_of none a = done a
answer_of (some k) a = refused k

-- what a call writes goes from the first place of a lent room on; a refusal changes nothing
abbrev pub room_after : Option ℕ → List ℕ → List ℕ → List ℕ
room_after none xs room = over xs room
room_after (some k) xs room = room

-- the number of a refusal, 0 for none
abbrev pub number_of : Option ℕ → ℕ
number_of none = 0
number_of (some k) = k
