-- Terms of the contracts of private functions, of `kept`, and of `locks::lock_called` that calls it: no definition of the paper is here. Assumes nothing.
use Rattle.std.specs.Prelude.{◌≡◌, List, ◌∷◌, ◌++◌, map, Bool, ◌&&◌, ℕ, ◌%◌, ◌<◌, eqb, ltb, get_or, take, drop}
use Rattle.naming.specs.declared.Names.{Names}
use Rattle.naming.specs.Names.{ascending, named, names_of}

-- a number as a byte
abbrev pub low_byte : ℕ → ℕ
low_byte x = x % 256

-- what is kept of any list of numbers: of the first eight, each as a byte. Names that enter has not refused are eight at most and below 256, and so kept as they are (`kept_named`, proofs/Sorting)
abbrev pub kept_names : List ℕ → Names
kept_names names = named (ascending (map low_byte (take 8 names)))

-- x put in at a place
abbrev pub put_in : ℕ → ℕ → List ℕ → List ℕ
put_in at x l = take at l ++ (x ∷ drop at l)

-- x stands at a place below the count
abbrev pub is_at : List ℕ → ℕ → ℕ → ℕ → Bool
is_at places count at x = ltb at count && eqb (get_or places at 0) x

-- the names stand as they are kept, and there is room for one more
pub record Roomy (m : Names) : Type 0 where
  pub form : m ≡ named (names_of m)
  pub room : m.count < 8
