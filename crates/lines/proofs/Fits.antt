-- THE LISTING OF A FILE FITS ITS ROOM: 160 bytes for each of 3,968 steps and for `end`, and 20 for each of 32 parties. Assumes nothing.
use mathlib.Core.Path.{◌≡◌, refl}
use mathlib.Core.Bool.{Bool, true, false, cond}
use mathlib.Core.List.{List, [], ◌∷◌, ◌++◌}
use mathlib.Core.Option.{Option, none, some}
use Prim.Native.Nat.{ℕ, suc, ◌+◌, ◌*◌, ◌/◌, ◌≤◌, ◌<◌}
use native.Mathlib.Nat.{pow-zero, pow-suc}
use native.Mathlib.Omega.{arith}
use lib.Dec.{eqb}
use lib.ListN.{length, set, replicate, length-append}
use Rattle.lists.proofs.Loops.{count_most, keep_few}
use Rattle.lists.proofs.Marks.{set_get, zero_at}
use Rattle.grants.proofs.Counts.{sum_most}
use Rattle.lists.specs.Lists.{every, kept_if, keep, sum, Below}
use Rattle.lists.specs.Answer.{done, refused, refusal}
use Rattle.hierarchy.specs.Hierarchy.{hierarchy_checks}
use Rattle.blocks.specs.Record.{kind_of, value_node_in, value_in, step_kind}
use Rattle.blocks.specs.File.{whole_blocks, file_records, file_checks}
use Rattle.parties.specs.declared.Entry.{Entry}
use Rattle.desk.specs.declared.Desk.{Desk}
use Rattle.locks.specs.Stages.{is_holding}
use Rattle.locks.specs.Lent.{Hierarchy}
use Rattle.runs.specs.Run.{State, Ran, also_ran, run}
use Rattle.replay.specs.Replay.{StepAnswer, answer_in, answers_of, record_list, step_records, size_of, edge_table, edge_count_of, built_of, with_value, values_from}
use Rattle.replay.specs.Replay.{start_of, perform_step, perform_all, holders_at, file_run, run_unless, run_records, file_unless, run_file}
use Rattle.replay.proofs.Records.{records_length}
use Rattle.opening.proofs.Bytes.{AllBytes, each_bytes, records_bytes}
use Rattle.opening.proofs.Opens.{records_whole}
use Rattle.texts.specs.Text.{decimal, space, newline, answer_text, refused_word, end_word, party_word}
use Rattle.texts.specs.Lines.{step_line, step_lines, end_line, party_line, line_if_granted, party_lines, end_lines, listing}
use Rattle.texts.proofs.Puts.{decimal_most}
use Rattle.lines.proofs.Bounds.{digits_most, Short, AtMost, refusal_low, Bounded, Fine, number_wide, perform_fine, fresh_bounded}

-- A LINE has at most 160 bytes
line_most : (k : ℕ) → k < 18446744073709551616 → (a : StepAnswer) → Short a → length (step_line k a) ≤ 160
line_most k h a s =
    omega (arith, length-append (decimal k ++ space) (answer_text a ++ newline), length-append (decimal k) space, length-append (answer_text a) newline, digits_most k h)

-- the steps' lines, and what the steps leave
pub steps_most : (rs : List (List ℕ)) (s : State) (k : ℕ) → k + length rs ≤ 18446744073709551615 → AllBytes rs → Fine s
    → Fine (perform_all s rs).state × (length (step_lines k (answers_of (perform_all s rs))) ≤ 160 * length rs)
unfolding run also_ran step_lines
steps_most [] s k h b f = (f, omega arith)
steps_most (r ∷ rs) s k h b f =
    let one = perform_fine s r b.0 f in
    let more = steps_most rs (perform_step s r).state (suc k) (omega arith) b.1 one.0 in
    let line = line_most k (omega arith) (answer_in (perform_step s r).event) one.1 in
    (more.0, omega (arith, length-append (step_line k (answer_in (perform_step s r).event)) (step_lines (suc k) (answers_of (perform_all (perform_step s r).state rs))), line, more.1))

-- the steps of records of bytes are such
pub steps_bytes : (rs : List (List ℕ)) → AllBytes rs → AllBytes (step_records rs)
unfolding keep
steps_bytes [] b = tt
steps_bytes (r ∷ rs) b = by (step_kind (kind_of r)) (steps_bytes rs b.1)
  where
    by : (t : Bool) → AllBytes (step_records rs) → AllBytes (kept_if t r (step_records rs))
    by true more = (b.0, more)
    by false more = more

-- AFTER THE STEPS: the line `end`,
end_most : (h w g : ℕ) → h < 18446744073709551616 → w < 18446744073709551616 → g < 18446744073709551616 → length (end_line h w g) ≤ 160
end_most h w g a b c =
    omega (
      arith,
      length-append ((end_word ++ decimal h) ++ (space ++ decimal w)) ((space ++ decimal g) ++ newline),
      length-append (end_word ++ decimal h) (space ++ decimal w),
      length-append (space ++ decimal g) newline,
      digits_most h a,
      digits_most w b,
      digits_most g c,
    )

-- the line of a party, with a number of two digits and a count of ten,
party_most : (party count : ℕ) → party < 32 → count < 4294967296 → length (line_if_granted party count) ≤ 20
party_most party count h g = by (eqb count 0)
  where
    by : (b : Bool) → length (cond b [] (party_line party count)) ≤ 20
    by true = omega arith
    by false =
        omega (
          arith,
          length-append (party_word ++ decimal party) ((space ++ decimal count) ++ newline),
          length-append (space ++ decimal count) newline,
          decimal_most (suc party) 2 party (omega (arith, pow-suc 10 1, pow-suc 10 0, pow-zero 10)) (omega arith),
          decimal_most (suc count) 10 count (omega (arith, g)) (omega arith),
        )

-- those of all parties,
parties_most : (grants : List ℕ) (k : ℕ) → k + length grants ≤ 32 → Below 4294967296 grants → length (party_lines k grants) ≤ 20 * length grants
unfolding party_lines
parties_most [] k h b = omega arith
parties_most (count ∷ rest) k h b =
    omega (
      arith,
      length-append (line_if_granted k count) (party_lines (suc k) rest),
      party_most k count (omega arith) (b 0),
      parties_most rest (suc k) (omega arith) (λ i. b (suc i)),
    )

-- and all of it, of a desk whose numbers are bounded
pub desk_end_most : (d : Desk) → Bounded d → length (end_lines (holders_at d) d.waiting d.grants) ≤ 800
desk_end_most d b =
    let end : List ℕ = end_line (holders_at d) d.waiting (sum d.grants) in
    let few : length end ≤ 160 = end_most (holders_at d) d.waiting (sum d.grants)
    (omega (arith, count_most (λ (e : Entry). is_holding e.stage) d.entries, b.entries)) (omega (arith, b.waiting)) (omega (arith, sum_most d.grants b.grants, b.grants_long)) in
    omega (arith, length-append end (party_lines 0 d.grants), few, parties_most d.grants 0 (omega (arith, b.grants_long)) b.grants, b.grants_long)

-- A RUN over records of bytes starts with a fresh desk and values that fit eight bytes
values_fit : (rs : List (List ℕ)) (values : List ℕ) → AllBytes rs → Below 18446744073709551616 values → Below 18446744073709551616 (values_from values rs)
unfolding values_from
values_fit [] values b v = v
values_fit (r ∷ rs) values b v = values_fit rs (with_value values r) b.1 (by (eqb (kind_of r) 8))
  where
    by : (t : Bool) → Below 18446744073709551616 (cond t (set values (value_node_in r) (value_in r)) values)
    by true = λ i. set_get (λ (k : ℕ). k < 18446744073709551616) values (value_node_in r) (value_in r) i 0 (number_wide r b.0) (v i)
    by false = v

pub start_fine : (H : Hierarchy) (rs : List (List ℕ)) → AllBytes rs → Fine (start_of H rs)
start_fine H rs b = record { desk = fresh_bounded; values = values_fit rs (replicate H.n 0) b (λ i. omega (arith, zero_at H.n i)) }

run_most : (H : Hierarchy) (rs : List (List ℕ)) → length rs ≤ 3968 → AllBytes rs → length (listing (done (file_run (perform_all (start_of H rs) (step_records rs))))) ≤ 635680
run_most H rs few b =
    let whole : Ran = perform_all (start_of H rs) (step_records rs) in
    let steps = keep_few (λ (r : List ℕ). step_kind (kind_of r)) rs in
    let all = steps_most (step_records rs) (start_of H rs) 1 (omega (arith, steps, few)) (steps_bytes rs b) (start_fine H rs b) in
    let d : Desk = whole.state.desk in
    omega (arith, length-append (step_lines 1 (answers_of whole)) (end_lines (holders_at d) d.waiting d.grants), all.1, desk_end_most d all.0.desk, steps, few)

-- REFUSED, or run
refused_most : (k : ℕ) → k ≤ 99 → length (listing (refused k)) ≤ 635680
refused_most k h = omega (arith, length-append (refused_word ++ decimal k) newline, digits_most k (omega arith))

records_most : (rs : List (List ℕ)) → length rs ≤ 3968 → AllBytes rs → length (listing (run_records rs)) ≤ 635680
unfolding run_records every
records_most rs few b = by (refusal (hierarchy_checks (size_of rs) (edge_table rs) (edge_count_of rs))) (refusal_low _ refl)
  where
    by : (o : Option ℕ) → AtMost o → length (listing (run_unless o rs)) ≤ 635680
    by (some k) low = refused_most k low
    by none low = run_most (built_of rs) rs few b

pub listing_most : (file : List ℕ) → Below 256 file → length (listing (run_file file)) ≤ 635680
unfolding run_file every
listing_most file b = by (refusal (file_checks file)) refl (refusal_low _ refl)
  where
    by : (o : Option ℕ) → refusal (file_checks file) ≡ o → AtMost o → length (listing (file_unless o file)) ≤ 635680
    by (some k) e low = refused_most k low
    by none e low =
        records_most (record_list (file_records file)) (omega (arith, records_length (file_records file), (records_whole file e).1))
        (each_bytes (length (file_records file) / 16) (file_records file) (records_bytes (whole_blocks file) file b))
