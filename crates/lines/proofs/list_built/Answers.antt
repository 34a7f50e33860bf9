-- `list_built` meets its contract: from the values of the records, the steps, and the lines after them. Assumes nothing.
use mathlib.Core.Path.{ap, ◌∙◌}
use mathlib.Core.List.{List}
use Prim.Native.Nat.{ℕ}
use native.Mathlib.Omega.{arith}
use Rattle.desk.specs.declared.Desk.{Desk}
use Rattle.locks.specs.Lent.{Hierarchy, lent_in}
use Rattle.replay.specs.Replay.{record_list, values_in}
use Rattle.replay.proofs.Records.{records_length}
use Rattle.lines.specs.declared.Progress.{Progress}
use Rattle.lines.specs.Pieces.{written_of, records_written}
use Rattle.lines.proofs.Runs.{run_listed}
use Rattle.lines.proofs.list_built.Goals as goal

pub returns : goal.returns
returns c = let start : Progress = record { desk = c.fresh.result; number = 1; at = 0 } in
    let H : Hierarchy = lent_in c.args.tables.now in let rs : List (List ℕ) = record_list c.args.records.now in
    run_listed H rs c.args.text.now (omega (
      arith,
      records_length
          c.args.records.now,
      c.well_formed,
    ))
    c.requires.records_value
    (ap (λ (d : Desk). record { desk = d; number = 1; at = 0 }) c.fresh.ensures)
    (c.put_steps-last.ensures ∙ ap (λ (v : List ℕ). records_written (written_of H start v c.args.text.now) rs)
    (c.values.ensures
    ∙ ap (λ (n : ℕ). values_in n rs) c.requires.values_len)) c.put_end.ensures
