-- `add_words` meets its contract: the sums go on without remainders, and the bounds on them grow with the words taken in. Assumes nothing.
use Prim.Native.Nat.{◌≤◌, ◌+◌, ◌*◌, ◌%◌}
use mathlib.Core.Path.{◌≡◌}
use lib.ListN.{drop}
use Rattle.octets.specs.Fletcher.{words, sums}
use Rattle.octets.proofs.add_words.Given as goal

abbrev pub invariant-loop-k : goal.invariant-loop-k
invariant-loop-k l = (l.low ≤ 65536 * (l.k + 1)) × (l.high ≤ 268500992 * (l.k + 1))
    × (sums (l.low % 65535) (l.high % 65535) (words (drop (l.at + 2 * l.k) l.bytes)) ≡ sums l.fn.before.a l.fn.before.b (words (drop l.at l.bytes)))
