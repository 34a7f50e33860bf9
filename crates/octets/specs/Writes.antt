-- What a write leaves in a lent buffer. Assumes nothing.
use Rattle.std.specs.Prelude.{cond, List, ◌++◌, ℕ, ◌+◌, leb, length, take, drop}

-- a buffer with the list written from a place on
unfoldable pub over_at : ℕ → List ℕ → List ℕ → List ℕ
over_at at xs buffer = take at buffer ++ xs ++ drop (at + length xs) buffer

-- the same where the list fits, and the buffer as it is where it does not
unfoldable pub put_at : ℕ → List ℕ → List ℕ → List ℕ
put_at at xs buffer = cond (leb (at + length xs) (length buffer)) (over_at at xs buffer) buffer
