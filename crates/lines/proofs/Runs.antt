-- Records listed one after the other: what the steps come to, and their lines. Assumes nothing.
use mathlib.Core.Path.{◌≡◌, refl, sym, ap, subst, ◌∙◌}
use mathlib.Core.Bool.{Bool, true, false, cond}
use mathlib.Core.List.{List, [], ◌∷◌, ◌++◌}
use Prim.Native.Nat.{ℕ, suc, ◌+◌, ◌≤◌, ◌<◌}
use native.Mathlib.Omega.{arith}
use lib.ListN.{length, get_or, drop, drop_of_length-le}
use Rattle.lists.specs.Lists.{every, kept_if, keep}
use Rattle.lists.proofs.Bools.{and_left, and_right}
use Rattle.lists.proofs.Loops.{drop_step}
use Rattle.octets.specs.Bytes.{byte}
use Rattle.blocks.specs.Record.{kind_of, step_kind}
use Rattle.desk.specs.declared.Desk.{Desk}
use Rattle.locks.specs.Lent.{Hierarchy}
use Rattle.desk.specs.Desks.{fresh_desk}
use Rattle.replay.specs.declared.Step.{Step}
use Rattle.runs.specs.Run.{State, Ran, also_ran, run}
use Rattle.replay.proofs.Outcomes.{performs_state}
use Rattle.replay.proofs.Chunks.{records_cons, records_none}
use Rattle.replay.specs.Replay.{StepAnswer, record_list, answer_in, answers_of, state_of, values_in, start_of, step_records, is_record, is_step, perform_step, Performed, performed, perform_if, perform}
use Rattle.replay.specs.Replay.{perform_all, holders_at}
use Rattle.replay.specs.Answers.{step_meaning, Performs}
use Rattle.lines.specs.declared.Progress.{Progress}
use Rattle.texts.specs.Lines.{step_line, step_lines, end_lines}
use Rattle.texts.specs.Pages.{Page, page_of, put, Puts}
use Rattle.lines.specs.Pieces.{following, Written, written_of, step_written, record_written, records_written}
use Rattle.lines.specs.Inner.{RunListed}
use Rattle.texts.proofs.Puts.{put_two, put_within}

-- ONE RECORD. One that is no step
module _ (H : Hierarchy) (p : Progress) (bytes values text : List ℕ) {k : ℕ} (e : k ≡ byte 0 bytes) where
  pub step_none : step_kind k ≡ false → written_of H p values text ≡ record_written (written_of H p values text) bytes
  step_none h =
      ap (λ (b : Bool). cond b (step_written (written_of H p values text) bytes) (written_of H p values text)) (sym (ap step_kind (sym e) ∙ h))

  -- and a step
  pub step_some : {number at' : ℕ} {values' text' : List ℕ} (s : Step) → step_kind k ≡ true → Performs s values' (perform (state_of H p.desk values) bytes) → number ≡ following p.number
      → Puts p.at (step_line p.number (step_meaning s.outcome s.parties)) text text' at'
      → written_of H (record { desk = s.desk; number = number; at = at' }) values' text' ≡ record_written (written_of H p values text) bytes
  step_some {number} {at'} {values'} {text'} s h f m q =
      let done : Performed = perform (state_of H p.desk values) bytes in
      let state : state_of H s.desk values' ≡ done.state = performs_state H p.desk values bytes _ s f in
      let page : page_of text' at' ≡ put (step_line p.number done.answer) (page_of text p.at) = q ∙ ap
      (λ (a : StepAnswer). put (step_line p.number a) (page_of text p.at)) f.meaning in
      ap (λ (x : State). made x number (page_of text' at')) state
      ∙ ap (λ (x : ℕ). made done.state x (page_of text' at')) m
      ∙ ap (made done.state (following p.number)) page
      ∙ ap (λ (b : Bool). cond b (step_written (written_of H p values text) bytes) (written_of H p values text)) (sym (ap step_kind (sym e) ∙ h))
    where
      made : State → ℕ → Page → Written
      made state number page = record { state = state; number = number; page = page }

-- RECORDS LEFT come to the same as all of them
module _ (w : Written) (left : List ℕ) {whole : Written} (inv : records_written w (record_list left) ≡ whole) where
  pub records_turn : (r rest : List ℕ) {w' : Written} → left ≡ r ++ rest → length r ≡ 16 → w' ≡ record_written w r → records_written w' (record_list rest) ≡ whole
  unfolding records_written
  records_turn r rest e h s = ap (λ (x : Written). records_written x (record_list rest)) s ∙ ap (records_written w) (sym (records_cons r rest e h)) ∙ inv

  pub records_end : length left < 16 → w ≡ whole
  unfolding records_written
  records_end h = ap (records_written w) (sym (records_none left h)) ∙ inv

-- THE PLACE stays within the text
pub records_within : (rs : List (List ℕ)) (w : Written) → w.page.at ≤ length w.page.text
    → (records_written w rs).page.at ≤ length (records_written w rs).page.text
unfolding records_written
records_within [] w h = h
records_within (r ∷ rs) w h = by (step_kind (kind_of r)) (λ b. records_within rs (cond b (step_written w r) w))
  where
    by : (b : Bool) → ((t : Bool) → (cond t (step_written w r) w).page.at ≤ length (cond t (step_written w r) w).page.text
        → (records_written (cond t (step_written w r) w) rs).page.at ≤ length (records_written (cond t (step_written w r) w) rs).page.text)
        → (records_written (cond b (step_written w r) w) rs).page.at ≤ length (records_written (cond b (step_written w r) w) rs).page.text
    by true more = more true (put_within (step_line w.number (perform w.state r).answer) w.page h).0
    by false more = more false h

-- a call that lists records leaves it within the text
pub steps_within : (H : Hierarchy) (rs : List (List ℕ)) (p : Progress) (values text : List ℕ) {q : Progress} {values' text' : List ℕ} → p.at ≤ length text
    → written_of H q values' text' ≡ records_written (written_of H p values text) rs → q.at ≤ length text'
steps_within H rs p values text h e =
    let w = records_within rs (written_of H p values text) h in
    omega (arith, ap (λ (x : Written). x.page.at) e, ap (λ (x : Written). length x.page.text) e, w)

-- a step's line is put, from what performing it came to
abbrev written : Performed → Written → Written
written m w = record { state = m.state; number = following w.number; page = put (step_line w.number m.answer) w.page }

-- a step that is right is performed
abbrev steadily : Written → List ℕ → Written
steadily w r = written (performed (perform_step w.state r)) w

step_right : (w : Written) (r : List ℕ) → is_record r ≡ true → step_kind (kind_of r) ≡ true → step_written w r ≡ steadily w r
step_right w r e h = ap (λ (m : Performed). written m w) (performed_right w.state r e h)
  where
    performed_right : (s : State) (x : List ℕ) → is_record x ≡ true → step_kind (kind_of x) ≡ true → perform s x ≡ performed (perform_step s x)
    performed_right s x f g = let e : is_step x ≡ true = rw (f, g) refl in ap (λ (b : Bool). perform_if b s x) e

-- THE STEPS of records that are right are those that are performed, and their lines are numbered from the first one's number on
module _ where
  abbrev ran : Written → List (List ℕ) → Ran
  ran w rs = perform_all w.state (step_records rs)

  abbrev Comes : Written → Written → Ran → Type 0
  Comes w w' whole =
      (w'.state ≡ whole.state) × (w'.page ≡ put (step_lines w.number (answers_of whole)) w.page) × (w'.number ≡ w.number + length (answers_of whole))

  pub records_ran : (w : Written) (rs : List (List ℕ)) → w.number + length rs ≤ 18446744073709551615 → every is_record rs ≡ true → Comes w (records_written w rs) (ran w rs)
  unfolding records_written run also_ran step_lines keep put every
  records_ran w [] h right = (refl, refl, omega arith)
  records_ran w (r ∷ rs) h right =
      let rest = and_right (is_record r) _ right in
      by (step_kind (kind_of r)) refl (records_ran (steadily w r) rs (omega arith) rest) (records_ran w rs (omega arith) rest)
    where
      some_ran : Comes (steadily w r) (records_written (steadily w r) rs) (ran (steadily w r) rs) → Comes w (records_written (steadily w r) rs) (perform_all w.state (r ∷ step_records rs))
      some_ran more =
          let next : following w.number ≡ suc w.number = omega arith in
          let line : List ℕ = step_line w.number (answer_in (perform_step w.state r).event) in
          let answers : List StepAnswer = answers_of (ran (steadily w r) rs) in (
            more.0,
            more.1 ∙ ap (λ (k : ℕ). put (step_lines k answers) (put line w.page)) next ∙ sym (put_two line (step_lines (suc w.number) answers) w.page),
            more.2 ∙ (let e : following w.number + length answers ≡ w.number + suc (length answers) = omega (arith, next) in e),
          )

      by : (b : Bool) → step_kind (kind_of r) ≡ b → Comes (steadily w r) (records_written (steadily w r) rs) (ran (steadily w r) rs) → Comes w (records_written w rs) (ran w rs)
          → Comes w (records_written (cond b (step_written w r) w) rs) (perform_all w.state (kept_if b r (step_records rs)))
      by true e more same =
          subst (λ (x : Written). Comes w (records_written x rs) (perform_all w.state (r ∷ step_records rs))) (sym (step_right w r (and_left (is_record r) _ right) e))
          (some_ran more)
      by false e more same = same

-- A WHOLE RUN: the lines of the steps, and those after them
module _ (H : Hierarchy) (rs : List (List ℕ)) (text : List ℕ) {q start : Progress} {values' text₁ text₂ : List ℕ} {r : ℕ} where
  pub run_listed : 1 + length rs ≤ 18446744073709551615 → every is_record rs ≡ true → start ≡ record { desk = fresh_desk; number = 1; at = 0 }
      → written_of H q values' text₁ ≡ records_written (written_of H start (values_in H.n rs) text) rs
      → Puts q.at (end_lines (holders_at q.desk) q.desk.waiting q.desk.grants) text₁ text₂ r → RunListed (perform_all (start_of H rs) (step_records rs)) text values' text₂ r
  run_listed few right s e p =
      let fresh : Written = written_of H (record { desk = fresh_desk; number = 1; at = 0 }) (values_in H.n rs) text in
      let whole : Ran = perform_all (start_of H rs) (step_records rs) in
      let all = records_ran fresh rs few right in
      let f = e ∙ ap (λ (x : Progress). records_written (written_of H x (values_in H.n rs) text) rs) s in
      let state = ap (λ (x : Written). x.state) f ∙ all.0 in
      let lines = ap (λ (x : Written). x.page) f ∙ all.1 in
      let end : Desk → List ℕ = λ d. end_lines (holders_at d) d.waiting d.grants in (
        ap (λ (x : State). x.values) state,
        p
            ∙ ap (put (end q.desk)) lines
            ∙ ap (λ (x : State). put (end x.desk) (put (step_lines 1 (answers_of whole)) (page_of text 0))) state
            ∙ sym (put_two (step_lines 1 (answers_of whole)) (end whole.state.desk) (page_of text 0)),
      )
