-- What cutting answers and leaves, by what its code found out. Assumes nothing.
use mathlib.Core.Path.{◌≡◌, sym, ap, subst, ◌∙◌}
use mathlib.Core.Bool.{Bool, true, false, cond}
use mathlib.Core.List.{List}
use Prim.Native.Nat.{ℕ, ◌+◌, ◌-◌, ◌*◌, ◌/◌, ◌<◌, ◌≤◌}
use native.Mathlib.Omega.{arith}
use borrow.Author.Tests.{lt-ltb, le-ltb}
use lib.ListN.{length, take, drop}
use lib.Seq.{take_at}
use Rattle.lists.specs.Lists.{over}
use Rattle.lists.specs.Answer.{refused}
use Rattle.std.specs.Prelude.{Result, Err}
use Rattle.refusals.specs.declared.Refusal.{Refusal}
use Rattle.refusals.specs.Refusals.{meaning}
use Rattle.blocks.specs.File.{FileResult, write_file}
use Rattle.refusals.specs.declared.Refusal.TheVariants.{FewSteps, SomeoneIn}
use Rattle.locks.specs.Lent.{Hierarchy}
use Rattle.desk.specs.declared.Desk.{Desk}
use Rattle.desk.specs.Desks.{fresh_desk}
use Rattle.runs.specs.Run.{State}
use Rattle.replay.specs.Replay.{record_list, step_records, state_of, values_in, start_of, perform_all}
use Rattle.parties.specs.Parties.{someone_in}
use Rattle.shorter.specs.Inner.{short_bytes, ran_over, steps_at, kept_bytes, Shaped, cut_run, Wrote, Runs}

-- WRITING the records that stand first in an array
module _ (bytes places room : List ℕ) {short room' : List ℕ} {n : ℕ} (laid : short ≡ over bytes places) (size : n ≡ length bytes) (a : Result ℕ Refusal)
    (answers : meaning a ≡ (write_file (take n short) (n / 16) room).answer) (leaves : room' ≡ (write_file (take n short) (n / 16) room).room) where
  same : write_file (take n short) (n / 16) room ≡ write_file bytes (length bytes / 16) room
  unfolding over
  same =
      ap (λ (t : List ℕ). write_file (take n t) (n / 16) room) laid
      ∙ ap (λ (t : List ℕ). write_file t (n / 16) room) (take_at bytes (drop (length bytes) places) n (sym size))
      ∙ ap (λ (k : ℕ). write_file bytes (k / 16) room) size

  pub wrote : Wrote bytes room a room'
  wrote = (answers ∙ ap (λ (x : FileResult). x.answer) same, leaves ∙ ap (λ (x : FileResult). x.room) same)

-- where the steps begin, by how many there are
pub steps_at_law : (bytes : List ℕ) (k : ℕ) {many : ℕ} → many ≡ length (step_records (record_list bytes)) → 16 * (length bytes / 16 - many) + 16 * k ≡ steps_at bytes + 16 * k
steps_at_law bytes k e = ap (λ (m : ℕ). 16 * (length bytes / 16 - m) + 16 * k) e

-- the first k of them, as the code takes them
pub first_steps : (H : Hierarchy) (bytes : List ℕ) (k : ℕ) {many : ℕ} → Shaped H bytes → many ≡ length (step_records (record_list bytes))
    → let at = 16 * (length bytes / 16 - many) in record_list (take (at + 16 * k - at) (drop at bytes)) ≡ take k (step_records (record_list bytes))
first_steps H bytes k {many} s e =
    let at : ℕ = 16 * (length bytes / 16 - many) in
    let width : at + 16 * k - at ≡ 16 * k = omega arith in
    ap (λ (n : ℕ). record_list (take n (drop at bytes))) width
    ∙ ap (λ (m : ℕ). record_list (take (16 * k) (drop (16 * (length bytes / 16 - m)) bytes))) e
    ∙ s.steps k

-- AN OPENED FILE
module _ (H : Hierarchy) (bytes : List ℕ) (k : ℕ) (room : List ℕ) where
  pub too_far : length (step_records (record_list bytes)) < k → Runs H bytes k room (Err FewSteps) room
  too_far h =
      let e : cut_run H bytes k room ≡ record { answer = refused 19; room = room } = ap (λ (b : Bool). cut_by b (someone_in (ran_over H bytes k).state.desk.entries)) (lt-ltb _ _ h) in
      (sym (ap (λ (x : FileResult). x.answer) e), sym (ap (λ (x : FileResult). x.room) e))
    where
      cut_by : Bool → Bool → FileResult
      cut_by a b =
          cond a (record { answer = refused 19; room = room })
          (cond b (record { answer = refused 20; room = room }) (write_file (kept_bytes H bytes k) (length (kept_bytes H bytes k) / 16) room))

  module _ (near : k ≤ length (step_records (record_list bytes))) where
    picked : (b : Bool) → someone_in (ran_over H bytes k).state.desk.entries ≡ b
        → cut_run H bytes k room ≡ cond b (record { answer = refused 20; room = room }) (write_file (kept_bytes H bytes k) (length (kept_bytes H bytes k) / 16) room)
    picked b e =
        ap (λ (a : Bool). cond a (record { answer = refused 19; room = room })
        (cond (someone_in (ran_over H bytes k).state.desk.entries) (record { answer = refused 20; room = room }) (write_file (kept_bytes H bytes k) (length (kept_bytes H bytes k) / 16) room)))
        (le-ltb _ _ near)
        ∙ ap (λ (a : Bool). cond a (record { answer = refused 20; room = room }) (write_file (kept_bytes H bytes k) (length (kept_bytes H bytes k) / 16) room)) e

    -- the desk and the values after the first k steps, by what performing them left
    module _ {values values' : List ℕ} {steps : List (List ℕ)} {d : Desk} (start : values ≡ values_in H.n (record_list bytes)) (are : steps ≡ take k (step_records (record_list bytes)))
        (went : state_of H d values' ≡ (perform_all (state_of H fresh_desk values) steps).state) where
      pub reached : state_of H d values' ≡ (ran_over H bytes k).state
      reached =
          went ∙ ap (λ (v : List ℕ). (perform_all (state_of H fresh_desk v) steps).state) start
          ∙ ap (λ (rs : List (List ℕ)). (perform_all (start_of H (record_list bytes)) rs).state) are

      tested : {b : Bool} → b ≡ someone_in d.entries → someone_in (ran_over H bytes k).state.desk.entries ≡ b
      tested e = sym (e ∙ ap (λ (s : State). someone_in s.desk.entries) reached)

      pub someone_in_law : true ≡ someone_in d.entries → Runs H bytes k room (Err SomeoneIn) room
      someone_in_law e =
          let p = picked true (tested e) in (sym (ap (λ (x : FileResult). x.answer) p), sym (ap (λ (x : FileResult). x.room) p))

      pub same_values : values' ≡ (ran_over H bytes k).state.values
      same_values = ap (λ (s : State). s.values) reached

      pub nobody_in : (r : Result ℕ Refusal) {room' : List ℕ} → false ≡ someone_in d.entries → Wrote (short_bytes bytes (16 * (1 + H.edge_count)) (steps_at bytes + 16 * k) values') room r room'
          → Runs H bytes k room r room'
      nobody_in r {room'} e w =
          let p = picked false (tested e) in
          let v = subst (λ (v : List ℕ). Wrote (short_bytes bytes (16 * (1 + H.edge_count)) (steps_at bytes + 16 * k) v) room r room') same_values w in
          (v.0 ∙ sym (ap (λ (x : FileResult). x.answer) p), v.1 ∙ sym (ap (λ (x : FileResult). x.room) p))
