-- DEMAND 3 OF A SHORTER FILE: serial execution from the values after the first k steps. Assumes nothing.
use mathlib.Core.Path.{subst}
use mathlib.Core.List.{List}
use Prim.Native.Nat.{ℕ}
use Rattle.history.specs.Serial.{SerialSteps}
use Rattle.replay.specs.Replay.{FileRun, file_run}
use Rattle.opening.specs.Opening.{file_rows}
use Rattle.file_laws.specs.Files.{file_events}
use Rattle.file_laws.proofs.Laws.{file_serial}
use Rattle.cutting.specs.Cut.{after_first}
use Rattle.shorter_laws.specs.Share.{ran_all, CutWell}

-- the values after the shorter file, which are those after the whole, and what its gets answered, equal serial execution of the visits granted from the cut on, from the values at the cut
pub cut_file_serial : (file : List ℕ) (k : ℕ) (short : List ℕ) → CutWell file k short → let end = file_run (ran_all (file_rows short)) in
    SerialSteps (after_first (file_rows file) k).values (file_events (file_rows short) end) end.values
cut_file_serial file k short w =
    let end : FileRun = file_run (ran_all (file_rows short)) in
    subst (λ (values : List ℕ). SerialSteps values (file_events (file_rows short) end) end.values) w.starts (file_serial short end w.short_runs)
