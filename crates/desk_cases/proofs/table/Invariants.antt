-- The table keeps its length.
use Rattle.std.proofs.Common.{◌≡◌, length}
use Rattle.desk_cases.proofs.table.Given as goal

abbrev pub invariant-loop-i : goal.invariant-loop-i
invariant-loop-i l = 2050 ≡ length l.places
