-- Each line's end lies behind its start, and the records keep their length.
use Rattle.std.proofs.Common.{◌≡◌, ◌-◌, length}
use Rattle.file_cases.proofs.run.Given as goal

abbrev pub invariant-loop-at : goal.invariant-loop-at
invariant-loop-at g l = 66048 ≡ length l.records

abbrev pub decreases-loop-at : goal.decreases-loop-at
decreases-loop-at g l = length l.text - l.at
