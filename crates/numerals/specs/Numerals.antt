-- A decimal number in text: its digits, the first worth most. Assumes nothing.
use Rattle.std.specs.Prelude.{Bool, not, ◌&&◌, List, [], ◌∷◌, ℕ, ◌+◌, ◌*◌, ◌-◌, eqb, leb, length}
use Rattle.lists.specs.Lists.{every}

-- a digit, 0 to 9, as text has it
abbrev pub is_digit : ℕ → Bool
is_digit b = leb 48 b && leb b 57

-- digits, one at least
abbrev pub is_decimal : List ℕ → Bool
is_decimal text = not (eqb (length text) 0) && every is_digit text

-- the number that digits stand for, those before them standing for x
unfoldable pub decimal_from : ℕ → List ℕ → ℕ
decimal_from x [] = x
decimal_from x (b ∷ text) = decimal_from (10 * x + (b - 48)) text

-- the number
abbrev pub decimal_number : List ℕ → ℕ
decimal_number text = decimal_from 0 text
