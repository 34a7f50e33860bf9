-- Locks (the paper's holds and waiting calls), and their conflict. Assumes nothing.
use Rattle.std.specs.Prelude.{Bool, true, false, not, cond, ◌&&◌, ◌||◌, ℕ, eqb, leb, []}
use Rattle.lists.specs.Lists.{one}
use Rattle.naming.specs.Names.{named}
use Rattle.locks.specs.declared.Mode.{Mode}
use Rattle.locks.specs.declared.Mode.TheVariants.{Reading, Writing, Adding}
use Rattle.locks.specs.declared.Lock.{Lock}

-- which modes go together: both are reading, or both are adding (02, point 5)
abbrev pub compatible : Mode → Mode → Bool
compatible Reading Reading = true
compatible Reading Writing = false
compatible Reading Adding = false
compatible Writing Reading = false
compatible Writing Writing = false
compatible Writing Adding = false
compatible Adding Reading = false
compatible Adding Writing = false
compatible Adding Adding = true

-- the intervals share a number: low of each is at most high of the other. Low above high, which no sound desk has, is judged by the same two tests
abbrev pub share : Lock → Lock → Bool
share a b = leb a.low b.high && leb b.low a.high

-- two holds *conflict* if their intervals share a number and their modes do not go together
abbrev pub conflict : Lock → Lock → Bool
conflict a b = share a b && not (compatible a.mode b.mode)

-- an interval lies in 1 to 256, low at most high
abbrev pub real_interval : ℕ → ℕ → Bool
real_interval low high = leb 1 low && leb low high && leb high 256

-- THE CONFLICT CALL of the office's C host, on numbers. A mode is 1, reading, 2, writing, or 3, adding
abbrev pub is_mode : ℕ → Bool
is_mode m = eqb m 1 || eqb m 2 || eqb m 3

-- one of the three: reading, or else writing, or else adding
abbrev pub mode_when : (reading writing : Bool) → Mode
mode_when reading writing = cond reading Reading (cond writing Writing Adding)

-- the mode of a number that is one: 1 reading, 2 writing, 3 adding. What is no mode is refused before it comes here
abbrev pub mode_numbered : ℕ → Mode
mode_numbered m = mode_when (eqb m 1) (eqb m 2)

-- the number of a mode
abbrev pub mode_number : Mode → ℕ
mode_number Reading = 1
mode_number Writing = 2
mode_number Adding = 3

-- the hold of mode, low and high; its cover and its names play no part
abbrev pub lock_numbered : ℕ → ℕ → ℕ → Lock
lock_numbered m low high = record { mode = mode_numbered m; cover = 0; low = low; high = high; names = named [] }

-- a mode of 1, 2 or 3, and an interval in 1 to 256 with low at most high
abbrev pub is_hold : ℕ → ℕ → ℕ → Bool
is_hold m low high = is_mode m && real_interval low high

-- 10 for a mode other than 1, 2 or 3 or an interval outside 1 to 256 or with low above high; 0 for no, 1 for yes
abbrev pub conflict_call : ℕ → ℕ → ℕ → ℕ → ℕ → ℕ → ℕ
conflict_call m low high m' low' high' =
    cond (is_hold m low high && is_hold m' low' high')
    (one (conflict (lock_numbered m low high) (lock_numbered m' low' high')))
    10
