-- `span` meets its contract: the numbers of the set's nodes are taken in one by one. Assumes nothing.
use mathlib.Core.List.{List}
use Prim.Native.Nat.{ℕ}
use Rattle.reach_sets.proofs.Spans.{Flags, Spanning}
use Rattle.reach_sets.proofs.span.Given as goal

abbrev pub invariant-loop-y : goal.invariant-loop-y
invariant-loop-y l = (flags : List ℕ) → Flags l.set l.numbers flags → Spanning l.numbers flags l.y l.low l.high
