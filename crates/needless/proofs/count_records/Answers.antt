-- `count_records` meets its contract: the values that the steps start from are those of the records. Assumes nothing.
use mathlib.Core.Path.{ap, ◌∙◌}
use Prim.Native.Nat.{ℕ}
use Rattle.replay.specs.Replay.{record_list, values_in}
use Rattle.needless.proofs.count_records.Goals as goal

pub count_steps-requires : goal.count_steps-requires
count_steps-requires c = record { records_value = c.requires.records_value; sets = c.requires.sets; called_value = c.requires.called_value; values_value = c.values.ensures ∙ ap (λ (n : ℕ). values_in n (record_list c.args.records.now)) c.requires.values_len }
