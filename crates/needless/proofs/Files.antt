-- A file that is refused has no wait, and one that was opened has those of its steps. Assumes nothing.
use mathlib.Core.Path.{◌≡◌, refl, sym, ap, ◌∙◌}
use mathlib.Core.List.{List}
use mathlib.Core.Bool.{true}
use mathlib.Core.Option.{Option, none, some}
use Prim.Native.Nat.{ℕ, ◌*◌}
use lib.ListN.{take}
use Rattle.lists.specs.Answer.{refused, refusal}
use Rattle.lists.proofs.Bools.{not_both}
use Rattle.hierarchy.specs.Hierarchy.{hierarchy_checks}
use Rattle.blocks.specs.File.{file_checks}
use Rattle.locks.specs.Lent.{Hierarchy, lent}
use Rattle.replay.specs.Replay.{record_list, size_of, edge_table, edge_count_of, step_records, built_of, start_of, run_unless, run_records, file_unless as run_file_unless, run_file}
use Rattle.opening.specs.Opening.{file_rows}
use Rattle.opening.proofs.Opens.{Ready}
use Rattle.needless.specs.declared.Waits.{Waits}
use Rattle.needless.specs.Waits.{no_waits, nothing_named, waits_of_steps, records_unless, waits_of_records, waits_unless, waits_of}

-- REFUSED, as a file or as a hierarchy
pub refused_waits : (file : List ℕ) (k : ℕ) → run_file file ≡ refused k → waits_of file ≡ no_waits
unfolding run_file run_records waits_of waits_of_records
refused_waits file k e = by (refusal (file_checks file)) e
  where
    built : (o : Option ℕ) → run_unless o (file_rows file) ≡ refused k → records_unless o (file_rows file) ≡ no_waits
    built (some j) q = refl
    built none q = not_both true refl cc

    by : (o : Option ℕ) → run_file_unless o file ≡ refused k → waits_unless o file ≡ no_waits
    by (some j) q = refl
    by none q = built (refusal (hierarchy_checks (size_of (file_rows file)) (edge_table (file_rows file)) (edge_count_of (file_rows file)))) q

-- OPENED. The waits of the steps, from what opening left in its places
pub opened_waits : (file : List ℕ) (n count total : ℕ) (records edges places : List ℕ) → Ready file n count total records edges places
    → waits_of_steps (start_of (lent n (take (2 * n) places) (take (2 * count) edges) count) (record_list (take (16 * total) records))) nothing_named (step_records (record_list (take (16 * total) records))) ≡ waits_of file
unfolding waits_of waits_of_records
opened_waits file n count total records edges places r =
    ap (λ (H : Hierarchy). over H (take (16 * total) records)) r.built
    ∙ ap (over (built_of (file_rows file))) r.read
    ∙ ap (λ (o : Option ℕ). records_unless o (file_rows file)) (sym r.built_fine)
    ∙ ap (λ (o : Option ℕ). waits_unless o file) (sym r.file_fine)
  where
    over : Hierarchy → List ℕ → Waits
    over H bytes = waits_of_steps (start_of H (record_list bytes)) nothing_named (step_records (record_list bytes))
