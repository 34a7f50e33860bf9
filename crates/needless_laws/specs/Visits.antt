-- Where the report's second number is 0 (02, point 2): each visit names one node. Assumes nothing.
use Rattle.std.specs.Prelude.{◌≡◌, List, [], ◌∷◌, Bool, true, not, ◌&&◌, ◌||◌, ℕ, eqb}
use Rattle.lists.specs.Lists.{any_below, every}
use Rattle.hierarchy.specs.Hierarchy.{flagged, reach}
use Rattle.blocks.specs.Record.{names_in}
use Rattle.runs.specs.Run.{State}
use Rattle.replay.specs.Replay.{StepAnswer, performed, perform_step, step_records, built_of, start_of}
use Rattle.needless.specs.Waits.{makes_visit, named_after}

-- ONE NODE. The names are one node; a name given twice counts once. Without a name, which enter refuses, nothing is asked
abbrev pub one_node : List ℕ → Bool
one_node [] = true
one_node (name ∷ names) = every (λ other. eqb other name) names

-- a step answered so makes no visit, or one that names one node: an enter makes one where it is granted or waits
abbrev pub visits_one : StepAnswer → List ℕ → Bool
visits_one answer names = not (makes_visit answer) || one_node names

-- each visit of the step records, one after the other, names one node: each enter that is not refused
unfoldable pub visits_name_one : State → List (List ℕ) → Bool
visits_name_one s [] = true
visits_name_one s (r ∷ rs) = visits_one (performed (perform_step s r)).answer (names_in r) && visits_name_one (performed (perform_step s r)).state rs

-- each visit of a file's records names one node
abbrev pub OneEach : List (List ℕ) → Type 0
OneEach rs = visits_name_one (start_of (built_of rs) rs) (step_records rs) ≡ true

-- WHAT THE PARTIES HAVE NAMED after the step records
unfoldable pub named_after_steps : State → List (List ℕ) → List (List ℕ) → List (List ℕ)
named_after_steps s named [] = named
named_after_steps s named (r ∷ rs) = named_after_steps (performed (perform_step s r)).state (named_after r (performed (perform_step s r)).answer named) rs

-- THE REACHES OF TWO NODES meet: some node is in both
abbrev pub nodes_meet : ℕ → List ℕ → ℕ → ℕ → Bool
nodes_meet n es a b = any_below n (λ node. flagged (reach n es a) node && flagged (reach n es b) node)
