-- What a record adds to the waits, and what is left to count after it. Assumes nothing.
use mathlib.Core.Path.{◌≡◌, refl, sym, ap, ◌∙◌}
use mathlib.Core.List.{List, [], ◌∷◌, ◌++◌}
use mathlib.Core.Bool.{Bool, true, false, not, ◌&&◌}
use Prim.Native.Nat.{ℕ, ◌+◌, ◌≤◌, ◌<◌}
use native.Mathlib.Omega.{arith}
use lib.ListN.{length, replicate}
use Rattle.lists.specs.Lists.{one, kept_if, keep, every}
use Rattle.lists.proofs.Bools.{and_left, and_right}
use Rattle.lists.proofs.Loops.{keep_few}
use Rattle.replay.proofs.Chunks.{records_cons, records_none}
use Rattle.hierarchy.specs.Hierarchy.{edges_of}
use Rattle.octets.specs.Bytes.{byte}
use Rattle.blocks.specs.Record.{kind_of, party_in, mode_in, names_in, step_kind}
use Rattle.locks.specs.Locks.{mode_numbered}
use Rattle.locks.specs.Lent.{Hierarchy}
use Rattle.runs.specs.Run.{State}
use Rattle.replay.specs.declared.Outcome.{Outcome}
use Rattle.replay.specs.declared.Step.{Step}
use Rattle.replay.specs.Replay.{StepAnswer, granted, waits, value, stored, added, left, refused, state_of, values_in, start_of, step_records, record_list}
use Rattle.replay.specs.Replay.{is_record, is_step, perform_step, Performed, performed, perform_if, perform}
use Rattle.replay.specs.Answers.{outcome_of, Performs}
use Rattle.replay.proofs.Outcomes.{performs_state}
use Rattle.reach_sets.specs.Sets.{call_set}
use Rattle.needless.specs.declared.Waits.{Waits}
use Rattle.needless.specs.declared.Progress.{Progress}
use Rattle.needless.specs.Waits.{no_waits, plus, nothing_named, named_after, is_needless, waits_by, waits_of_step, waits_of_steps}
use Rattle.needless.specs.Inner.{some_in_way, visits, waited, waits_if, called_after, Sets, Called, waits_left, Counted}
use Rattle.needless.proofs.Ways.{some_way, called_start, called_more}

-- ---- sums

plus_none : (a : Waits) → plus a no_waits ≡ a
plus_none a = let x : a.all + 0 ≡ a.all = omega arith in let y : a.needless + 0 ≡ a.needless = omega arith in rw (x, y) refl

none_plus : (a : Waits) → plus no_waits a ≡ a
none_plus a = let x : 0 + a.all ≡ a.all = omega arith in let y : 0 + a.needless ≡ a.needless = omega arith in rw (x, y) refl

plus_assoc : (a b c : Waits) → plus (plus a b) c ≡ plus a (plus b c)
plus_assoc a b c =
    let x : (a.all + b.all) + c.all ≡ a.all + (b.all + c.all) = omega arith in
    let y : (a.needless + b.needless) + c.needless ≡ a.needless + (b.needless + c.needless) = omega arith in
    rw (x, y) refl

-- a tally where there is no wait, and where there is one
pub tally_none : (a : Waits) (b needless : Bool) → b ≡ false → a ≡ plus a (waits_if b needless)
tally_none a b needless e = rw e (sym (plus_none a))

pub tally_one : (a : Waits) (b needless : Bool) {k : ℕ} → b ≡ true → k ≡ a.needless + one needless → record { all = a.all + 1; needless = k } ≡ plus a (waits_if b needless)
tally_one a b needless e f = rw (e, f) refl

-- ---- an answer

answer_waits : (a : StepAnswer) (needless : Bool) → waits_if (waited (outcome_of a)) needless ≡ waits_by a needless
answer_waits (granted cover) needless = refl
answer_waits waits needless = refl
answer_waits (value number) needless = refl
answer_waits stored needless = refl
answer_waits added needless = refl
answer_waits (left parties) needless = refl
answer_waits (refused number) needless = refl

answer_called : (sets r : List ℕ) (a : StepAnswer) (named : List (List ℕ)) (called : List ℕ) → Called sets named called
    → Called sets (named_after r a named) (called_after (visits (outcome_of a)) (party_in r) (call_set sets (names_in r)) called)
answer_called sets r (granted cover) named called c = called_more sets named called c (party_in r) (names_in r)
answer_called sets r waits named called c = called_more sets named called c (party_in r) (names_in r)
answer_called sets r (value number) named called c = c
answer_called sets r stored named called c = c
answer_called sets r added named called c = c
answer_called sets r (left parties) named called c = c
answer_called sets r (refused number) named called c = c

-- ---- a record

module _ (H : Hierarchy) (sets bytes : List ℕ) (p : Progress) (values called : List ℕ) {k : ℕ} (e : k ≡ byte 0 bytes) (named : List (List ℕ)) (c : Called sets named called) where
  -- one that is no step
  pub record_none : step_kind k ≡ false → Counted H sets bytes p values named p values called
  unfolding keep
  record_none h =
      record {
        named' = named;
        called_for = c;
        left = λ rs. ap (λ (b : Bool). plus p.waits (waits_of_steps (state_of H p.desk values) named (kept_if b bytes (step_records rs)))) (sym (ap step_kind (sym e) ∙ h));
      }

  -- and a step
  module _ (h : step_kind k ≡ true) (right : is_record bytes ≡ true) (fine : Sets H.n (edges_of H.edges H.edge_count) sets) (s : Step) {values' : List ℕ}
      (f : Performs s values' (perform (state_of H p.desk values) bytes)) where
    is_step_law : step_kind (kind_of bytes) ≡ true
    is_step_law = ap step_kind (sym e) ∙ h

    abbrev made : Performed
    made = performed (perform_step (state_of H p.desk values) bytes)

    -- it is performed as the definition performs it
    performs : perform (state_of H p.desk values) bytes ≡ made
    performs = let g : is_step bytes ≡ true = rw (right, is_step_law) refl in ap (λ (b : Bool). perform_if b (state_of H p.desk values) bytes) g

    answers : s.outcome ≡ outcome_of made.answer
    answers = f.outcome ∙ ap (λ (m : Performed). outcome_of m.answer) performs

    state : state_of H s.desk values' ≡ made.state
    state = performs_state H p.desk values bytes values' s f ∙ ap (λ (m : Performed). m.state) performs

    pub record_step : (counts : Waits) (called' : List ℕ)
        → counts ≡ plus p.waits (waits_if (waited s.outcome) (not (some_in_way p.desk.entries called (mode_numbered (mode_in bytes)) (call_set sets (names_in bytes)))))
        → called' ≡ called_after (visits s.outcome) (party_in bytes) (call_set sets (names_in bytes)) called
        → Counted H sets bytes p values named (record { desk = s.desk; waits = counts }) values' called'
    unfolding keep waits_of_steps
    record_step counts called' a b =
        record {
          named' = named_after bytes made.answer named;
          called_for = rw (b, answers) (answer_called sets bytes made.answer named called c);
          left = λ rs.
              let here : counts ≡ plus p.waits (waits_of_step (state_of H p.desk values) named bytes made.answer)
              = a
              ∙ ap (λ (o : Outcome). plus p.waits (waits_if (waited o) (not (some_in_way p.desk.entries called (mode_numbered (mode_in bytes)) (call_set sets (names_in bytes)))))) answers
              ∙ ap (plus p.waits) (answer_waits made.answer (not (some_in_way p.desk.entries called (mode_numbered (mode_in bytes)) (call_set sets (names_in bytes)))))
              ∙ ap (λ (t : Bool). plus p.waits (waits_by made.answer (not t)))
              (some_way H.n (edges_of H.edges H.edge_count) sets fine p.desk.entries named called c (mode_numbered (mode_in bytes)) (names_in bytes)) in
              ap (λ (w : Waits). plus w (waits_of_steps (state_of H s.desk values') (named_after bytes made.answer named) (step_records rs))) here
              ∙ ap (λ (x : State). plus (plus p.waits (waits_of_step (state_of H p.desk values) named bytes made.answer))
              (waits_of_steps x (named_after bytes made.answer named) (step_records rs))) state
              ∙ plus_assoc p.waits (waits_of_step (state_of H p.desk values) named bytes made.answer) (waits_of_steps made.state (named_after bytes made.answer named) (step_records rs))
              ∙ ap (λ (b : Bool). plus p.waits (waits_of_steps (state_of H p.desk values) named (kept_if b bytes (step_records rs)))) (sym is_step_law);
        }

-- ---- the records

-- at most one wait a step
step_few : (a : StepAnswer) (needless : Bool) → ((waits_by a needless).all ≤ 1) × ((waits_by a needless).needless ≤ 1)
step_few (granted cover) needless = (omega arith, omega arith)
step_few waits true = (omega arith, omega arith)
step_few waits false = (omega arith, omega arith)
step_few (value number) needless = (omega arith, omega arith)
step_few stored needless = (omega arith, omega arith)
step_few added needless = (omega arith, omega arith)
step_few (left parties) needless = (omega arith, omega arith)
step_few (refused number) needless = (omega arith, omega arith)

steps_few : (s : State) (named rs : List (List ℕ)) → ((waits_of_steps s named rs).all ≤ length rs) × ((waits_of_steps s named rs).needless ≤ length rs)
unfolding waits_of_steps
steps_few s named [] = (omega arith, omega arith)
steps_few s named (r ∷ rs) =
    let m : Performed = performed (perform_step s r) in
    let f = step_few m.answer (is_needless s.hierarchy s.desk named (mode_numbered (mode_in r)) (names_in r)) in
    let g = steps_few m.state (named_after r m.answer named) rs in
    (omega (arith, f.0, g.0), omega (arith, f.1, g.1))

-- between two records, of all of them: those left are right and come to the same
pub record Counting (H : Hierarchy) (sets records ahead : List ℕ) (p : Progress) (values called : List ℕ) : Type 0 where
  pub right : every is_record (record_list ahead) ≡ true
  pub named : List (List ℕ)
  pub called_for : Called sets named called
  pub rest : waits_left H p values named (record_list ahead) ≡ waits_of_steps (start_of H (record_list records)) nothing_named (step_records (record_list records))

module _ (H : Hierarchy) (sets records : List ℕ) where
  pub counting_start : (ahead : List ℕ) (p : Progress) (values called : List ℕ) → ahead ≡ records → every is_record (record_list records) ≡ true
      → p ≡ record { desk = (start_of H (record_list records)).desk; waits = no_waits } → values ≡ values_in H.n (record_list records) → called ≡ replicate 128 0
      → Counting H sets records ahead p values called
  counting_start ahead p values called l right e v g =
      record {
        right = ap (λ (x : List ℕ). every is_record (record_list x)) l ∙ right;
        named = nothing_named;
        called_for = rw g (called_start sets);
        rest = rw (l, e, v) (none_plus (waits_of_steps (start_of H (record_list records)) nothing_named (step_records (record_list records))));
      }

  module _ (ahead : List ℕ) (p : Progress) (values called : List ℕ) (k : Counting H sets records ahead p values called) where
    -- no count passes that of the records
    pub counting_few : (p.waits.all ≤ length (record_list records)) × (p.waits.needless ≤ length (record_list records))
    counting_few =
        let f = steps_few (start_of H (record_list records)) nothing_named (step_records (record_list records)) in
        let n = keep_few (λ r. step_kind (kind_of r)) (record_list records) in
        (omega (arith, ap (λ (w : Waits). w.all) k.rest, f.0, n), omega (arith, ap (λ (w : Waits). w.needless) k.rest, f.1, n))

    -- the first record left, and the others
    module _ (bytes rest : List ℕ) (e : ahead ≡ bytes ++ rest) (h : length bytes ≡ 16) where
      rights : is_record bytes && every is_record (record_list rest) ≡ true
      unfolding every
      rights = ap (every is_record) (sym (records_cons bytes rest e h)) ∙ k.right

      pub counting_right : is_record bytes ≡ true
      counting_right = and_left (is_record bytes) _ rights

      pub counting_more : (p' : Progress) (values' called' : List ℕ)
          → ((named : List (List ℕ)) → Called sets named called → Counted H sets bytes p values named p' values' called') → Counting H sets records rest p' values' called'
      counting_more p' values' called' f =
          let d = f k.named k.called_for in
          record {
            right = and_right (is_record bytes) _ rights;
            named = d.named';
            called_for = d.called_for;
            rest = d.left (record_list rest) ∙ ap (waits_left H p values k.named) (sym (records_cons bytes rest e h)) ∙ k.rest;
          }

    pub counting_end : length ahead < 16 → p.waits ≡ waits_of_steps (start_of H (record_list records)) nothing_named (step_records (record_list records))
    unfolding keep waits_of_steps
    counting_end h = sym (plus_none p.waits) ∙ ap (waits_left H p values k.named) (sym (records_none ahead h)) ∙ k.rest
