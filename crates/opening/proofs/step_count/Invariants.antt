-- `step_count` meets its contract: the steps counted, and those left, are all. Assumes nothing.
use mathlib.Core.Path.{◌≡◌}
use mathlib.Core.Bool.{Bool}
use mathlib.Core.List.{List}
use Prim.Native.Nat.{ℕ, ◌+◌}
use Rattle.std.specs.Slice.Iter.{chunks_exact_rest, chunks_exact_size}
use Rattle.lists.specs.Lists.{count}
use Rattle.blocks.specs.Record.{kind_of, step_kind}
use Rattle.replay.specs.Replay.{record_list}
use Rattle.opening.proofs.step_count.Given as goal

-- a step's record
abbrev pub of_step : List ℕ → Bool
of_step r = step_kind (kind_of r)

abbrev pub invariant-loop-bytes : goal.invariant-loop-bytes
invariant-loop-bytes l = (chunks_exact_size l.bytes-iterator ≡ 16) × (l.count + count of_step (record_list (chunks_exact_rest l.bytes-iterator)) ≡ count of_step (record_list l.records))
