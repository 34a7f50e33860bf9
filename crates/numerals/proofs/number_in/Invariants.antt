-- `number_in` meets its contract: the number behind the digits left, from the one so far, is that of all, as far as it fits. Assumes nothing.
use mathlib.Core.Path.{◌≡◌}
use Prim.Native.Nat.{◌≤◌, min}
use lib.ListN.{drop}
use Rattle.numerals.specs.Numerals.{decimal_from, decimal_number}
use Rattle.numerals.proofs.number_in.Given as goal

abbrev pub invariant-loop-b : goal.invariant-loop-b
invariant-loop-b l = (l.x ≤ 18446744073709551615) × (min (decimal_from l.x (drop l.b-index l.text)) 18446744073709551615 ≡ min (decimal_number l.text) 18446744073709551615)
