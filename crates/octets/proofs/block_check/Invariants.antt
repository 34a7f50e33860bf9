-- `block_check` meets its contract: the sums over the words left, from those reached, are the check of the string. Assumes nothing.
use Prim.Native.Nat.{◌<◌, ◌*◌, ◌/◌, min}
use mathlib.Core.Path.{◌≡◌}
use lib.ListN.{length, drop}
use Rattle.octets.specs.Fletcher.{words, sums, fletcher}
use Rattle.octets.proofs.block_check.Given as goal

abbrev pub invariant-loop-run : goal.invariant-loop-run
invariant-loop-run l = (l.reached.0 < 65535) × (l.reached.1.0 < 65535)
    × (sums l.reached.0 l.reached.1.0 (words (drop (2 * min (4096 * l.run) (length l.bytes / 2)) l.bytes)) ≡ fletcher l.bytes)
