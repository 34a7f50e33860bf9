-- The records of a file of bytes are bytes. Assumes nothing.
use mathlib.Core.List.{List, [], ◌∷◌, ◌++◌}
use Prim.Native.Nat.{ℕ, zero, suc, ◌*◌}
use native.Mathlib.Omega.{arith}
use lib.ListN.{take, drop}
use Rattle.lists.specs.Lists.{Below}
use Rattle.blocks.specs.Block.{count_in, records_in}
use Rattle.blocks.specs.File.{records_of}
use Rattle.block_laws.proofs.Pieces.{bytes_take, bytes_drop}
use Rattle.replay.specs.Replay.{each_record}

-- two lists whose numbers are below a bound, one behind the other
pub below_append : (m : ℕ) (xs ys : List ℕ) → Below m xs → Below m ys → Below m (xs ++ ys)
below_append m [] ys f g i = g i
below_append m (x ∷ xs) ys f g zero = f 0
below_append m (x ∷ xs) ys f g (suc i) = below_append m xs ys (λ j. f (suc j)) g i

-- records of bytes
abbrev pub AllBytes : List (List ℕ) → Type 0
AllBytes [] = Unit {0}
AllBytes (r ∷ rs) = Below 256 r × AllBytes rs

pub each_bytes : (k : ℕ) (bytes : List ℕ) → Below 256 bytes → AllBytes (each_record k bytes)
unfolding each_record
each_bytes zero bytes b = tt
each_bytes (suc k) bytes b = (bytes_take 16 bytes b, each_bytes k (drop 16 bytes) (bytes_drop 16 bytes b))

pub records_bytes : (k : ℕ) (s : List ℕ) → Below 256 s → Below 256 (records_of k s)
unfolding records_of records_in
records_bytes zero s b = λ i. omega arith
records_bytes (suc k) s b =
    below_append 256 (records_in (take 512 s)) (records_of k (drop 512 s)) (bytes_take (16 * count_in (take 512 s)) (drop 8 (take 512 s)) (bytes_drop 8 (take 512 s) (bytes_take 512 s b)))
    (records_bytes k (drop 512 s) (bytes_drop 512 s b))
