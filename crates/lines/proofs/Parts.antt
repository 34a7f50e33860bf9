-- THEOREM: the pieces of a file's listing, one behind the other, are its listing. Assumes nothing.
use mathlib.Core.Path.{◌≡◌, refl, sym, ap, ap₂, subst, ◌∙◌}
use mathlib.Core.Bool.{Bool, true}
use mathlib.Core.List.{List, [], ◌∷◌, ◌++◌, append_assoc, append-nil}
use Prim.Native.Nat.{ℕ, zero, suc, ◌+◌, ◌-◌, ◌*◌, ◌/◌, ◌≤◌, ◌<◌, min}
use native.Mathlib.Nat.{zero-add, add-zero, suc-add}
use native.Mathlib.Omega.{arith}
use lib.Dec.{leb}
use lib.ListN.{length, take, drop, length-append, length-take, length-drop, drop_of_length-le}
use lib.Seq.{take_at, drop_at, take-take, take_all, length-take-le, drop-drop}
use borrow.Author.Tests.{leb-true, leb-false}
use Rattle.std.proofs.lemmas.List.{nil_from_length}
use Rattle.lists.proofs.Loops.{keep_append, keep_few}
use Rattle.lists.specs.Lists.{every, keep, Below}
use Rattle.lists.proofs.Bools.{bool, and_left, and_right}
use Rattle.blocks.specs.Record.{kind_of, step_kind}
use Rattle.octets.specs.Writes.{over_at}
use Rattle.block_laws.proofs.Pieces.{bytes_take}
use Rattle.desk.specs.declared.Desk.{Desk}
use Rattle.locks.specs.Lent.{Hierarchy, lent}
use Rattle.desk.specs.Desks.{fresh_desk}
use Rattle.runs.specs.Run.{State, Ran, also_ran, run}
use Rattle.replay.specs.Replay.{StepAnswer, answer_in, answers_of, is_record, perform_step, perform_all, record_list, step_records, holders_at, values_in, start_of, run_file, each_record}
use Rattle.replay.proofs.Outcomes.{answers_length}
use Rattle.replay.proofs.Records.{records_length}
use Rattle.texts.specs.Lines.{step_line, step_lines, end_lines, listing}
use Rattle.texts.specs.Pages.{Page, page_of, put}
use Rattle.lines.specs.Pieces.{Written, written_of, records_written, anew, parts_written, shown, in_pieces, joined, parts_of, parts_in}
use Rattle.texts.proofs.Puts.{put_fits, put_within}
use Rattle.lines.proofs.Runs.{records_ran}
use Rattle.lines.proofs.Bounds.{Fine}
use Rattle.opening.proofs.Bytes.{AllBytes, each_bytes}
use Rattle.lines.proofs.Fits.{steps_most, steps_bytes, desk_end_most, start_fine}
use Rattle.opening.proofs.Opens.{Ready}

-- WHAT FITS is shown whole
shown_all : (bytes text : List ℕ) → length bytes ≤ length text → shown (put bytes (page_of text 0)) ≡ bytes
unfolding over_at
shown_all bytes text h =
    ap shown (put_fits bytes text 0 (omega arith)) ∙ take_at bytes (drop (0 + length bytes) text) (0 + length bytes) (sym (zero-add (length bytes)))

-- STEPS one behind the other
abbrev Joins : Ran → Ran → Ran → Type 0
Joins one two all = (all.state ≡ two.state) × (answers_of all ≡ answers_of one ++ answers_of two)

ran_append : (xs bs : List (List ℕ)) (s : State) → Joins (perform_all s xs) (perform_all (perform_all s xs).state bs) (perform_all s (xs ++ bs))
unfolding run also_ran
ran_append [] bs s = (refl, refl)
ran_append (a ∷ xs) bs s =
    let more = ran_append xs bs (perform_step s a).state in (more.0, ap (λ (l : List StepAnswer). answer_in (perform_step s a).event ∷ l) more.1)

lines_append : (k : ℕ) (xs bs : List StepAnswer) → step_lines k (xs ++ bs) ≡ step_lines k xs ++ step_lines (k + length xs) bs
unfolding step_lines
lines_append k [] bs = ap (λ (m : ℕ). step_lines m bs) (sym (add-zero k))
lines_append k (a ∷ xs) bs =
    let next : suc k + length xs ≡ k + suc (length xs) = omega arith in
    ap (λ (l : List ℕ). step_line k a ++ l) (lines_append (suc k) xs bs ∙ ap (λ (m : ℕ). step_lines (suc k) xs ++ step_lines m bs) next)
    ∙ sym (append_assoc (step_line k a) (step_lines (suc k) xs) (step_lines (k + suc (length xs)) bs))

bytes_apart : (xs bs : List (List ℕ)) → AllBytes (xs ++ bs) → AllBytes xs × AllBytes bs
bytes_apart [] bs f = (tt, f)
bytes_apart (a ∷ xs) bs f = let more = bytes_apart xs bs f.1 in ((f.0, more.0), more.1)

every_apart : {A : Type 0} (p : A → Bool) (xs bs : List A) → every p (xs ++ bs) ≡ true → (every p xs ≡ true) × (every p bs ≡ true)
unfolding every
every_apart p [] bs e = (refl, e)
every_apart p (a ∷ xs) bs e = let more = every_apart p xs bs (and_right (p a) _ e) in (rw (and_left (p a) _ e, more.0) refl, more.1)

-- the lines of a run's steps from number k on, and those after them
abbrev told : ℕ → Ran → List ℕ
told k ran = step_lines k (answers_of ran) ++ end_lines (holders_at ran.state.desk) ran.state.desk.waiting ran.state.desk.grants

told_append : (s : State) (k : ℕ) (xs bs : List (List ℕ))
    → step_lines k (answers_of (perform_all s xs)) ++ told (k + length (answers_of (perform_all s xs))) (perform_all (perform_all s xs).state bs) ≡ told k (perform_all s (xs ++ bs))
told_append s k xs bs =
    let one : Ran = perform_all s xs in
    let two : Ran = perform_all one.state bs in
    let all : Ran = perform_all s (xs ++ bs) in
    let end : Desk → List ℕ = λ d. end_lines (holders_at d) d.waiting d.grants in
    let join = ran_append xs bs s in
    sym (append_assoc (step_lines k (answers_of one)) (step_lines (k + length (answers_of one)) (answers_of two)) (end two.state.desk))
    ∙ ap (λ (l : List ℕ). l ++ end two.state.desk) (sym (lines_append k (answers_of one) (answers_of two)))
    ∙ ap (λ (l : List StepAnswer). step_lines k l ++ end two.state.desk) (sym join.1)
    ∙ ap (λ (x : State). step_lines k (answers_of all) ++ end x.desk) (sym join.0)

-- PARTS whose lines fit a text of so many bytes
abbrev pub Fitting : ℕ → List (List (List ℕ)) → Type 0
Fitting room [] = Unit {0}
Fitting room (part ∷ parts) = (160 * length part ≤ room) × Fitting room parts

-- one part
module _ (w : Written) (part : List (List ℕ)) (few : w.number + length part ≤ 18446744073709551615) (right : every is_record part ≡ true) (b : AllBytes part) (f : Fine w.state)
    (fits : 160 * length part ≤ length w.page.text) where
  abbrev after : Written
  after = records_written (anew w) part

  abbrev went : Ran
  went = perform_all w.state (step_records part)

  comes : (after.state ≡ went.state) × (after.page ≡ put (step_lines w.number (answers_of went)) (page_of w.page.text 0)) × (after.number ≡ w.number + length (answers_of went))
  comes = records_ran (anew w) part few right

  part_fine : Fine went.state × (length (step_lines w.number (answers_of went)) ≤ length w.page.text)
  part_fine =
      let steps = keep_few (λ (r : List ℕ). step_kind (kind_of r)) part in
      let most = steps_most (step_records part) w.state w.number (omega (arith, steps, few)) (steps_bytes part b) f in
      (most.0, omega (arith, most.1, steps, fits))

  part_shown : shown after.page ≡ step_lines w.number (answers_of went)
  part_shown = ap shown comes.1 ∙ shown_all (step_lines w.number (answers_of went)) w.page.text part_fine.1

  part_text : length after.page.text ≡ length w.page.text
  part_text = ap (λ (p : Page). length p.text) comes.1 ∙ (put_within (step_lines w.number (answers_of went)) (page_of w.page.text 0) (omega arith)).1

  part_number : after.number ≤ w.number + length part
  part_number = omega (arith, comes.2, answers_length (step_records part) w.state, keep_few (λ (r : List ℕ). step_kind (kind_of r)) part)

pieces_told : (parts : List (List (List ℕ))) (w : Written) → w.number + length (joined parts) ≤ 18446744073709551615 → every is_record (joined parts) ≡ true → AllBytes (joined parts)
    → Fine w.state
    → 800 ≤ length w.page.text → Fitting (length w.page.text) parts → in_pieces w parts ≡ told w.number (perform_all w.state (step_records (joined parts)))
unfolding in_pieces joined run step_lines keep
pieces_told [] w few right b f long fits =
    shown_all (end_lines (holders_at w.state.desk) w.state.desk.waiting w.state.desk.grants) w.page.text (omega (arith, desk_end_most w.state.desk f.desk))
pieces_told (part ∷ parts) w few right b f long fits =
    let split = bytes_apart part (joined parts) b in
    let ok = every_apart is_record part (joined parts) right in
    let n = length-append part (joined parts) in
    let start : w.number + length part ≤ 18446744073709551615 = omega (arith, n) in
    let one = comes w part start ok.0 split.0 f fits.0 in
    let fine = part_fine w part start ok.0 split.0 f fits.0 in
    let text = part_text w part start ok.0 split.0 f fits.0 in
    let w₁ : Written = records_written (anew w) part in
    let rest : List (List ℕ) = step_records (joined parts) in
    let went₁ : Ran = perform_all w.state (step_records part) in
    let more = pieces_told parts w₁ (omega (arith, n, part_number w part start ok.0 split.0 f fits.0)) ok.1 split.1 (subst Fine (sym one.0) fine.0) (omega (arith, text))
    (subst (λ (k : ℕ). Fitting k parts) (sym text) fits.1) in
    ap (λ (l : List ℕ). l ++ in_pieces w₁ parts) (part_shown w part start ok.0 split.0 f fits.0)
    ∙ ap (λ (l : List ℕ). step_lines w.number (answers_of went₁) ++ l) (more ∙ ap (λ (x : State). told w₁.number (perform_all x rest)) one.0
    ∙ ap (λ (k : ℕ). told k (perform_all went₁.state rest)) one.2)
    ∙ told_append w.state w.number (step_records part) rest
    ∙ ap (λ (rs : List (List ℕ)). told w.number (perform_all w.state rs)) (sym (keep_append (λ (r : List ℕ). step_kind (kind_of r)) part (joined parts)))

-- THE THEOREM: an opened file, its records in any parts that fit the text
pub pieces_listing : (file : List ℕ) (n count total : ℕ) (records edges places text : List ℕ) (parts : List (List (List ℕ))) → Ready file n count total records edges places → Below 256 records
    → joined parts ≡ record_list (take (16 * total) records) → 800 ≤ length text → Fitting (length text) parts
    → in_pieces (written_of (lent n (take (2 * n) places) (take (2 * count) edges) count) (record { desk = fresh_desk; number = 1; at = 0 }) (values_in n (record_list (take (16 * total) records))) text) parts ≡ listing (run_file file)
pieces_listing file n count total records edges places text parts r b e long fits =
    let H : Hierarchy = lent n (take (2 * n) places) (take (2 * count) edges) count in
    let bytes : List ℕ = take (16 * total) records in
    let few : length (record_list bytes) ≤ 3968 = omega (arith, records_length bytes, length-take (16 * total) records, r.records_most) in
    let each : AllBytes (joined parts) = subst AllBytes (sym e) (each_bytes (length bytes / 16) bytes (bytes_take (16 * total) records b)) in
    pieces_told parts (written_of H (record { desk = fresh_desk; number = 1; at = 0 }) (values_in n (record_list bytes)) text) (omega (arith, ap length e, few))
    (ap (every is_record) e ∙ r.right) each (start_fine H (record_list bytes) (subst AllBytes e each)) long fits
    ∙ ap (λ (rs : List (List ℕ)). told 1 (perform_all (start_of H (record_list bytes)) (step_records rs))) e
    ∙ ap listing (sym r.ran)

-- THE PROGRAM'S PARTS. Of a front that is taken, and of what is behind it
drop_take : (n m : ℕ) (l : List ℕ) → drop n (take (n + m) l) ≡ take m (drop n l)
drop_take zero m l = ap (λ (k : ℕ). take k l) (zero-add m)
drop_take (suc n) m [] = ap (λ (k : ℕ). drop (suc n) (take k [])) (suc-add n m) ∙ sym (none m)
  where
    none : (k : ℕ) → take {A = ℕ} k [] ≡ []
    none zero = refl
    none (suc k) = refl
drop_take (suc n) m (x ∷ xs) = ap (λ (k : ℕ). drop (suc n) (take k (x ∷ xs))) (suc-add n m) ∙ drop_take n m xs

each_take : (k : ℕ) (bytes : List ℕ) → each_record k (take (16 * k) bytes) ≡ each_record k bytes
unfolding each_record
each_take zero bytes = refl
each_take (suc k) bytes =
    let n : 16 * suc k ≡ 16 + 16 * k = omega arith in
    let first : take 16 (take (16 * suc k) bytes) ≡ take 16 bytes = take-take 16 (16 * suc k) bytes (omega arith) in
    let rest : drop 16 (take (16 * suc k) bytes) ≡ take (16 * k) (drop 16 bytes) = ap (λ (m : ℕ). drop 16 (take m bytes)) n ∙ drop_take 16 (16 * k) bytes in
    ap (λ (l : List ℕ). l ∷ each_record k (drop 16 (take (16 * suc k) bytes))) first
    ∙ ap (λ (l : List ℕ). take 16 bytes ∷ each_record k l) rest
    ∙ ap (λ (l : List (List ℕ)). take 16 bytes ∷ l) (each_take k (drop 16 bytes))

each_append : (k m : ℕ) (bytes : List ℕ) → each_record (k + m) bytes ≡ each_record k bytes ++ each_record m (drop (16 * k) bytes)
unfolding each_record
each_append zero m bytes = ap (λ (j : ℕ). each_record j bytes) (zero-add m)
each_append (suc k) m bytes =
    let far : 16 + 16 * k ≡ 16 * suc k = omega arith in
    ap (λ (j : ℕ). each_record j bytes) (suc-add k m)
    ∙ ap (λ (l : List (List ℕ)). take 16 bytes ∷ l) (each_append k m (drop 16 bytes))
    ∙ ap (λ (l : List ℕ). (take 16 bytes ∷ each_record k (drop 16 bytes)) ++ each_record m l) (drop-drop (16 * k) 16 bytes ∙ ap (λ (j : ℕ). drop j bytes) far)

-- a part, and the others, are all
part_joined : (bytes : List ℕ) → record_list (take 1600 bytes) ++ record_list (drop 1600 bytes) ≡ record_list bytes
unfolding each_record
part_joined bytes = bool (leb 1600 (length bytes)) (λ e. many (leb-true 1600 (length bytes) e)) (λ e. few (leb-false 1600 (length bytes) e))
  where
    few : length bytes < 1600 → record_list (take 1600 bytes) ++ record_list (drop 1600 bytes) ≡ record_list bytes
    few h =
        ap (λ (l : List ℕ). record_list l ++ record_list (drop 1600 bytes)) (take_all 1600 bytes (omega arith))
        ∙ ap (λ (l : List ℕ). record_list bytes ++ record_list l) (drop_of_length-le bytes {i = 1600} (omega arith))
        ∙ append-nil (record_list bytes)

    many : 1600 ≤ length bytes → record_list (take 1600 bytes) ++ record_list (drop 1600 bytes) ≡ record_list bytes
    many h =
        let a : length (take 1600 bytes) / 16 ≡ 100 = omega (arith, length-take-le 1600 bytes h) in
        let b : 100 + length (drop 1600 bytes) / 16 ≡ length bytes / 16 = omega (arith, length-drop 1600 bytes) in
        ap (λ (k : ℕ). each_record k (take 1600 bytes) ++ record_list (drop 1600 bytes)) a
        ∙ ap (λ (l : List (List ℕ)). l ++ record_list (drop 1600 bytes)) (each_take 100 bytes)
        ∙ sym (each_append 100 (length (drop 1600 bytes) / 16) bytes)
        ∙ ap (λ (k : ℕ). each_record k bytes) b

parts_joined : (k : ℕ) (bytes : List ℕ) → length bytes ≤ 1600 * k → joined (parts_of k bytes) ≡ record_list bytes
unfolding joined parts_of each_record
parts_joined zero bytes h = let z : length bytes / 16 ≡ 0 = omega arith in ap (λ (m : ℕ). each_record m bytes) (sym z)
parts_joined (suc k) bytes h =
    ap (λ (l : List (List ℕ)). record_list (take 1600 bytes) ++ l) (parts_joined k (drop 1600 bytes) (omega (arith, length-drop 1600 bytes))) ∙ part_joined bytes

parts_fit : (k : ℕ) (bytes : List ℕ) (room : ℕ) → 16000 ≤ room → Fitting room (parts_of k bytes)
unfolding parts_of
parts_fit zero bytes room h = tt
parts_fit (suc k) bytes room h =
    (omega (arith, records_length (take 1600 bytes), length-take 1600 bytes), parts_fit k (drop 1600 bytes) room h)

-- 1,600 bytes, or all where there are fewer
first_part : (part rest : List ℕ) → length part ≡ min 1600 (length (part ++ rest)) → (take 1600 (part ++ rest) ≡ part) × (drop 1600 (part ++ rest) ≡ rest)
first_part part rest h = bool (leb 1600 (length part))
    (λ t. let n : length part ≡ 1600 = omega (arith, leb-true 1600 (length part) t) in (take_at part rest 1600 n, drop_at part rest 1600 n))
    (λ t. let few = leb-false 1600 (length part) t in
    let none : rest ≡ [] = nil_from_length rest (omega (arith, length-append part rest)) in
    let all : part ++ rest ≡ part = ap (λ (l : List ℕ). part ++ l) none ∙ append-nil part in (
      ap (take 1600) all ∙ take_all 1600 part (omega arith),
      ap (drop 1600) all ∙ drop_of_length-le part {i = 1600} (omega arith) ∙ sym none,
    ))

-- a part that the program takes, and the others
parts_cons : (part rest : List ℕ) {left : List ℕ} → left ≡ part ++ rest → length part ≡ min 1600 (length left) → 0 < length left → parts_in left ≡ record_list part ∷ parts_in rest
unfolding parts_of
parts_cons part rest {left} e h some =
    let cut = first_part part rest (h ∙ ap (λ (l : List ℕ). min 1600 (length l)) e) in
    let more : (length left + 1599) / 1600 ≡ suc ((length rest + 1599) / 1600) = omega (arith, ap length e, length-append part rest) in
    ap (λ (k : ℕ). parts_of k left) more
    ∙ ap (λ (l : List ℕ). record_list (take 1600 l) ∷ parts_of ((length rest + 1599) / 1600) (drop 1600 l)) e
    ∙ ap₂ (λ (a b : List ℕ). record_list a ∷ parts_of ((length rest + 1599) / 1600) b) cut.0 cut.1

-- parts left come to the same as all of them
module _ (w : Written) (left : List ℕ) {whole : Written} (inv : parts_written w (parts_in left) ≡ whole) where
  pub parts_turn : (part rest : List ℕ) {w' : Written} → left ≡ part ++ rest → length part ≡ min 1600 (length left) → 0 < length left → w' ≡ records_written (anew w) (record_list part)
      → parts_written w' (parts_in rest) ≡ whole
  unfolding parts_written
  parts_turn part rest e h some s = ap (λ (x : Written). parts_written x (parts_in rest)) s ∙ ap (parts_written w) (sym (parts_cons part rest e h some)) ∙ inv

  pub parts_end : length left ≡ 0 → w ≡ whole
  unfolding parts_written parts_of
  parts_end h = ap (λ (l : List ℕ). parts_written w (parts_in l)) (sym (nil_from_length left h)) ∙ inv

-- the theorem, of these parts, and a text of 16,000 bytes
pub program_listing : (file : List ℕ) (n count total : ℕ) (records edges places text : List ℕ) → Ready file n count total records edges places → Below 256 records → 16000 ≤ length text
    → in_pieces (written_of (lent n (take (2 * n) places) (take (2 * count) edges) count) (record { desk = fresh_desk; number = 1; at = 0 }) (values_in n (record_list (take (16 * total) records))) text) (parts_in (take (16 * total) records))
    ≡ listing (run_file file)
program_listing file n count total records edges places text r b long =
    let bytes : List ℕ = take (16 * total) records in
    let k : ℕ = (length bytes + 1599) / 1600 in
    pieces_listing file n count total records edges places text (parts_in bytes) r b (parts_joined k bytes (omega arith)) (omega arith) (parts_fit k bytes (length text) long)
