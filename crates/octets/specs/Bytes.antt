-- Numbers in bytes, low byte first throughout, and bytes that are zero. Assumes nothing.
use Rattle.std.specs.Prelude.{Bool, List, [], ◌∷◌, ◌++◌, ℕ, ◌+◌, ◌*◌, ◌/◌, ◌%◌, eqb, get_or, take, drop}
use Rattle.lists.specs.Lists.{every}

-- the byte at a place. Past the end, of which document 01 says nothing, stands zero, and so in each number below
abbrev pub byte : ℕ → List ℕ → ℕ
byte at s = get_or s at 0

-- the number in two bytes from a place on
abbrev pub number2 : ℕ → List ℕ → ℕ
number2 at s = byte at s + 256 * byte (at + 1) s

-- the number in four bytes
abbrev pub number4 : ℕ → List ℕ → ℕ
number4 at s = number2 at s + 65536 * number2 (at + 2) s

-- the number in eight bytes
abbrev pub number8 : ℕ → List ℕ → ℕ
number8 at s = number4 at s + 4294967296 * number4 (at + 4) s

-- a number as two bytes
abbrev pub bytes2 : ℕ → List ℕ
bytes2 x = x % 256 ∷ x / 256 ∷ []

-- a number as four bytes
abbrev pub bytes4 : ℕ → List ℕ
bytes4 x = x % 256 ∷ x / 256 % 256 ∷ x / 65536 % 256 ∷ x / 16777216 ∷ []

-- a number as eight bytes
abbrev pub bytes8 : ℕ → List ℕ
bytes8 x = bytes4 (x % 4294967296) ++ bytes4 (x / 4294967296)

-- the bytes from a place on are zero
abbrev pub zero_from : ℕ → List ℕ → Bool
zero_from at s = every (eqb 0) (drop at s)

-- the bytes from a place up to the one before another are zero
abbrev pub zero_between : ℕ → ℕ → List ℕ → Bool
zero_between at end s = zero_from at (take end s)
