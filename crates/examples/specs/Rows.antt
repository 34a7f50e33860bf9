-- Rows of the tables: what a definition gives, beside the figure that the papers say. Assumes nothing.
use Rattle.std.specs.Prelude.{List, Bool, ℕ, eqb}
use Rattle.replay.specs.Replay.{StepAnswer}
use Rattle.examples.specs.Cases.{same_numbers, same_answers}

-- a row: a number, numbers, or answers of steps; of a condition 1 where it holds and 0 where it does not
pub data Row : Type 0 where
  is : (given figure : ℕ) → Row
  are : (given figures : List ℕ) → Row
  answer : (given figures : List StepAnswer) → Row

-- THE TEST of a row
unfoldable pub right : Row → Bool
right (is given figure) = eqb given figure
right (are given figures) = same_numbers given figures
right (answer given figures) = same_answers given figures
