-- The check: Fletcher-32 of a string of bytes. Assumes nothing.
use Rattle.std.specs.Prelude.{List, [], ◌∷◌, ℕ, ◌+◌, ◌*◌, ◌%◌}

-- the sixteen-bit words of a string, low byte first; an odd last byte is followed by a zero
unfoldable pub words : List ℕ → List ℕ
words [] = []
words (x ∷ []) = x ∷ []
words (x ∷ y ∷ bytes) = (x + 256 * y) ∷ words bytes

-- a becomes (a + w) mod 65,535, then b becomes (b + a) mod 65,535; the check is a + 65,536 × b
unfoldable pub sums : ℕ → ℕ → List ℕ → ℕ
sums a b [] = a + 65536 * b
sums a b (w ∷ ws) = sums ((a + w) % 65535) ((b + (a + w) % 65535) % 65535) ws

-- from a = b = 0
unfoldable pub fletcher : List ℕ → ℕ
fletcher bytes = sums 0 0 (words bytes)
