-- Steps performed one after the other. Assumes nothing.
use mathlib.Core.Path.{◌≡◌, refl, ap, ◌∙◌}
use mathlib.Core.Bool.{Bool, true}
use mathlib.Core.List.{List, [], ◌∷◌}
use Prim.Native.Nat.{ℕ}
use Rattle.lists.specs.Lists.{every}
use Rattle.lists.proofs.Bools.{and_left, and_right}
use Rattle.desk.specs.declared.Desk.{Desk}
use Rattle.locks.specs.Lent.{Hierarchy}
use Rattle.runs.specs.Run.{State, also_ran, run}
use Rattle.replay.specs.declared.Step.{Step}
use Rattle.replay.specs.Answers.{Performs}
use Rattle.replay.specs.Replay.{is_step, state_of, perform_if, perform, perform_all}
use Rattle.replay.proofs.Outcomes.{performs_state}

-- the first of these is a step, and so are those behind it
pub steps_left : (x : List ℕ) (rs : List (List ℕ)) → every is_step (x ∷ rs) ≡ true → (is_step x ≡ true) × (every is_step rs ≡ true)
unfolding every
steps_left x rs e = (and_left _ _ e, and_right _ _ e)

module _ (H : Hierarchy) (d : Desk) (values : List ℕ) where
  -- one step is performed
  pub steps_turn : (x : List ℕ) (rs : List (List ℕ)) {values' : List ℕ} → every is_step (x ∷ rs) ≡ true → (r : Step) → Performs r values' (perform (state_of H d values) x)
      → (perform_all (state_of H r.desk values') rs).state ≡ (perform_all (state_of H d values) (x ∷ rs)).state
  unfolding run also_ran
  steps_turn x rs {values'} right r f =
      ap (λ (s : State). (perform_all s rs).state)
      (performs_state H d values x values' r f ∙ ap (λ (b : Bool). (perform_if b (state_of H d values) x).state) (steps_left x rs right).0)

  -- and all are
  pub steps_end : state_of H d values ≡ (perform_all (state_of H d values) []).state
  unfolding run
  steps_end = refl
