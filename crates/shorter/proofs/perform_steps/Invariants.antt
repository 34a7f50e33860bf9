-- `perform_steps` meets its contract: the steps left, from the desk and values reached, lead where all of them lead from a fresh desk. Assumes nothing.
use mathlib.Core.Path.{◌≡◌}
use mathlib.Core.Bool.{true}
use Rattle.std.specs.Slice.Iter.{chunks_exact_rest, chunks_exact_size}
use Rattle.lists.specs.Lists.{every}
use Rattle.desk.specs.Desks.{fresh_desk}
use Rattle.locks.specs.Lent.{lent_in}
use Rattle.replay.specs.Replay.{record_list, is_step, state_of, perform_all}
use Rattle.shorter.proofs.perform_steps.Given as goal

abbrev pub invariant-loop-bytes : goal.invariant-loop-bytes
invariant-loop-bytes l = (chunks_exact_size l.bytes-iterator ≡ 16) × (every is_step (record_list (chunks_exact_rest l.bytes-iterator)) ≡ true)
    × ((perform_all (state_of (lent_in l.tables) l.desk l.values) (record_list (chunks_exact_rest l.bytes-iterator))).state
    ≡ (perform_all (state_of (lent_in l.tables) fresh_desk l.initial.values) (record_list l.steps)).state)
