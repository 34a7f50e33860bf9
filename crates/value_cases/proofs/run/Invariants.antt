-- Each line's end lies behind its start, and the values keep their count.
use Rattle.std.proofs.Common.{◌≡◌, ◌-◌, length}
use Rattle.value_cases.proofs.run.Given as goal

abbrev pub invariant-loop-at : goal.invariant-loop-at
invariant-loop-at g l = 257 ≡ length l.values

abbrev pub decreases-loop-at : goal.decreases-loop-at
decreases-loop-at g l = length l.text - l.at
