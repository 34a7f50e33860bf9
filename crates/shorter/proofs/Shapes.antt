-- An accepted file as cutting finds it: where its steps stand, and that the records of the shorter file fit. Then what cutting it comes to. Assumes nothing.
use mathlib.Core.Path.{◌≡◌, refl, sym, ap, subst, ◌∙◌}
use mathlib.Core.Bool.{Bool, true, false, cond}
use mathlib.Core.List.{List, [], ◌∷◌, ◌++◌, append_assoc}
use mathlib.Core.Option.{Option, none, some}
use Prim.Native.Nat.{ℕ, zero, suc, ◌+◌, ◌-◌, ◌*◌, ◌/◌, ◌<◌, ◌≤◌}
use native.Mathlib.Omega.{arith}
use borrow.Author.Tests.{ltb-false, lt-ltb, le-ltb}
use lib.ListN.{length, take, drop, length-drop}
use lib.Seq.{drop-drop, drop-nil, take-nil}
use Rattle.lists.specs.Lists.{every, count}
use Rattle.lists.proofs.Kept.{every_both, every_drop, every_keep, every_kept, every_take}
use Rattle.lists.proofs.Loops.{keep_count}
use Rattle.lists.specs.Answer.{Check, ◌when◌, refused, refusal}
use Rattle.lists.proofs.Numbers.{onward}
use Rattle.lists.proofs.Refusals.{refusal_nil, refused_here, refused_later, refusal_none}
use Rattle.blocks.specs.File.{file_checks, file_records, FileResult, leaving, blocks_for, write_file}
use Rattle.locks.specs.Lent.{Hierarchy, lent}
use Rattle.replay.specs.Replay.{each_record, record_list, edge_count_of, step_records, is_record, built_of}
use Rattle.replay.proofs.Records.{records_length}
use Rattle.opening.specs.Opening.{file_rows, built_checks}
use Rattle.opening.proofs.Opens.{refusal_front, Ready}
use Rattle.std.specs.Prelude.{Result, Err}
use Rattle.refusals.specs.declared.Refusal.{Refusal}
use Rattle.refusals.specs.declared.Refusal.TheVariants.{Short}
use Rattle.refusals.specs.Refusals.{refusal_number}
use Rattle.cutting.specs.Cut.{after_first, head_records, value_records, cut_records, too_far, someone_after, cut_refusal, bytes_of, blocks_of_all, cut_file}
use Rattle.shorter.specs.Inner.{steps_at, kept_bytes, Shaped, cut_run, Left, Runs}
use Rattle.cutting.proofs.Parts.{of_head, of_value, of_step, three_kinds}
use Rattle.cutting.proofs.Orders.{Taken, head_count, steps_behind}
use Rattle.cutting.proofs.Writing.{sixteen, each_back, bytes_length, bytes_front, Accepted, accepted, cut_bytes, writable, cut_writes}

-- the bytes of a part of the records
bytes_part : (m k n : ℕ) (bytes : List ℕ) → length bytes ≡ 16 * n → bytes_of (take k (drop m (each_record n bytes))) ≡ take (16 * k) (drop (16 * m) bytes)
unfolding each_record bytes_of
bytes_part zero k n bytes l = bytes_front k n bytes l
bytes_part (suc m) k zero [] l = ap bytes_of (take-nil {A = List ℕ} k) ∙ sym (ap (take (16 * k)) (drop-nil {A = ℕ} (16 * suc m)) ∙ take-nil {A = ℕ} (16 * k))
bytes_part (suc m) k zero (x ∷ bytes) l = absurd (omega arith)
bytes_part (suc m) k (suc n) bytes l =
    let more : 16 + 16 * m ≡ 16 * suc m = omega arith in
    bytes_part m k n (drop 16 bytes) (simp length-drop (omega arith)) ∙ ap (take (16 * k)) (drop-drop (16 * m) 16 bytes ∙ ap (λ (j : ℕ). drop j bytes) more)

module _ (file : List ℕ) (a : Accepted file) where
  abbrev bytes : List ℕ
  bytes = file_records file

  abbrev rs : List (List ℕ)
  rs = file_rows file

  -- the records that are no steps
  abbrev before : ℕ
  before = 1 + edge_count_of rs + count of_value rs

  heads : length (head_records rs) ≡ 1 + edge_count_of rs
  heads = by rs a.taken a.some
    where
      by : (l : List (List ℕ)) → Taken l → 1 ≤ length l → length (head_records l) ≡ 1 + edge_count_of l
      by [] t h = absurd (omega arith)
      by (r ∷ l) t h = head_count r l t

  before_is : length bytes / 16 - length (step_records rs) ≡ before
  before_is = omega (arith, records_length bytes, three_kinds rs, keep_count of_step rs, keep_count of_head rs, heads)

  -- records taken apart from their bytes
  part : (m k : ℕ) → record_list (take (16 * k) (drop (16 * m) bytes)) ≡ take k (drop m rs)
  part m k =
      let n : ℕ = length bytes / 16 in
      let l : length bytes ≡ 16 * n = omega (arith, a.bytes) in
      let ls : List (List ℕ) = take k (drop m rs) in
      let six : every sixteen ls ≡ true = every_take sixteen k (drop m rs) (every_drop sixteen m rs a.each) in
      let b : bytes_of ls ≡ take (16 * k) (drop (16 * m) bytes) = bytes_part m k n bytes l in
      let long = bytes_length ls six in
      let many : length (bytes_of ls) / 16 ≡ length ls = omega (arith, long) in
      sym (ap record_list b) ∙ ap (λ (j : ℕ). each_record j (bytes_of ls)) many ∙ each_back ls six

  pub steps_apart : (k : ℕ) → record_list (take (16 * k) (drop (steps_at bytes) bytes)) ≡ take k (step_records rs)
  steps_apart k =
      ap (λ (m : ℕ). record_list (take (16 * k) (drop (16 * m) bytes))) before_is
      ∙ part before k
      ∙ ap (take k) (sym (steps_behind rs a.taken))

  -- the records of the shorter file
  pub kept_bytes_law : (k : ℕ) → kept_bytes (built_of rs) bytes k ≡ bytes_of (cut_records rs k)
  kept_bytes_law k =
      let at : steps_at bytes + 16 * k ≡ 16 * (before + k) = omega (arith, before_is) in
      ap (λ (m : ℕ). take (16 * (1 + edge_count_of rs)) bytes ++ (bytes_of (value_records 0 (after_first rs k).values) ++ drop m bytes)) at ∙ sym (cut_bytes file k a)

  -- what cutting needs to know of it
  pub shaped : every is_record rs ≡ true → refusal (built_checks rs) ≡ none → Shaped (built_of rs) bytes
  shaped right built =
      record {
        few = omega (arith, a.bytes, a.few);
        edges_few = ltb-false 1024 (edge_count_of rs) (refusal_none _ built).1.0;
        head = omega (arith, a.bytes, heads, keep_count of_head rs, three_kinds rs);
        right = every_both is_record of_step (step_records rs) (every_kept is_record of_step rs right) (every_keep of_step rs);
        steps = steps_apart;
        short = λ k. let w = writable file k a in omega (arith, ap length (kept_bytes_law k), w.long, w.few);
      }

-- CUTTING a file. Its refusals, the lowest first
module _ (file : List ℕ) (k : ℕ) (room : List ℕ) where
  refused_by : (j : ℕ) → cut_refusal file k room ≡ some j → cut_file file k room ≡ record { answer = refused j; room = room }
  unfolding cut_file
  refused_by j e = ap (λ (o : Option ℕ). leaving o (blocks_for (length (cut_records (file_rows file) k))) (blocks_of_all (cut_records (file_rows file) k)) room) e

  turned : (j : Refusal) → cut_refusal file k room ≡ some (refusal_number j) → Left (Err j) room (cut_file file k room)
  turned j e = let g = refused_by (refusal_number j) e in (sym (ap (λ (x : FileResult). x.answer) g), sym (ap (λ (x : FileResult). x.room) g))

  pub cut_short : length room < length file → Left (Err Short) room (cut_file file k room)
  cut_short h = turned Short (refused_here _ _ (lt-ltb _ _ h))

  module _ (long : length file ≤ length room) where
    abbrev rows : List (List ℕ)
    rows = file_rows file

    abbrev own : List Check
    own = 19 when too_far rows k ∷ 20 when someone_after rows k ∷ []

    past_room : cut_refusal file k room ≡ refusal ((file_checks file ++ built_checks rows) ++ own)
    past_room = refused_later _ _ (le-ltb _ _ long) ∙ ap refusal (sym (append_assoc (file_checks file) (built_checks rows) own))

    -- as a file or as a hierarchy
    pub cut_turned : (j : Refusal) → refusal (file_checks file ++ built_checks rows) ≡ some (refusal_number j) → Left (Err j) room (cut_file file k room)
    cut_turned j e = turned j (past_room ∙ refusal_front (file_checks file ++ built_checks rows) own e)

    -- neither: 19, 20, or the shorter file
    module _ (read : refusal (file_checks file) ≡ none) (built : refusal (built_checks rows) ≡ none) where
      past_all : cut_refusal file k room ≡ refusal own
      past_all = past_room ∙ onward (file_checks file ++ built_checks rows) own (onward (file_checks file) (built_checks rows) read ∙ built)

      abbrev kept : List ℕ
      kept = kept_bytes (built_of rows) (file_records file) k

      writes : too_far rows k ≡ false → someone_after rows k ≡ false → cut_file file k room ≡ write_file kept (length kept / 16) room
      writes e f =
          let a = accepted file read in
          let cs : List (List ℕ) = cut_records rows k in
          let same = kept_bytes_law file a k in
          let many : length kept / 16 ≡ length cs = omega (arith, ap length same, (writable file k a).long) in
          cut_writes file k room (past_all ∙ refused_later _ _ e ∙ refused_later _ _ f ∙ refusal_nil)
          ∙ sym (ap (λ (n : ℕ). write_file kept n room) many ∙ ap (λ (l : List ℕ). write_file l (length cs) room) same)

      -- by its two tests
      abbrev tested : Bool → Bool → FileResult
      tested x y = cond x (record { answer = refused 19; room = room }) (cond y (record { answer = refused 20; room = room }) (write_file kept (length kept / 16) room))

      cut_by : (x y : Bool) → too_far rows k ≡ x → someone_after rows k ≡ y → cut_file file k room ≡ tested x y
      cut_by true y e f = refused_by 19 (past_all ∙ refused_here _ _ e)
      cut_by false true e f = refused_by 20 (past_all ∙ refused_later _ _ e ∙ refused_here _ _ f)
      cut_by false false e f = writes e f

      pub cut_is : cut_file file k room ≡ cut_run (built_of rows) (file_records file) k room
      cut_is = cut_by (too_far rows k) (someone_after rows k) refl refl

-- AN OPENED FILE, from what opening left in its places
module _ (file : List ℕ) (n edge_count total : ℕ) (records edges places : List ℕ) (r : Ready file n edge_count total records edges places) where
  abbrev H : Hierarchy
  H = lent n (take (2 * n) places) (take (2 * edge_count) edges) edge_count

  abbrev opened : List ℕ
  opened = take (16 * total) records

  pub ready_shaped : Shaped H opened
  ready_shaped =
      subst (λ (l : List ℕ). Shaped H l) (sym r.read)
      (subst (λ (K : Hierarchy). Shaped K (file_records file)) (sym r.built)
      (shaped file (accepted file r.file_fine) (sym (ap (λ (l : List ℕ). every is_record (record_list l)) r.read) ∙ r.right) r.built_fine))

  pub ready_cut : (k : ℕ) (room : List ℕ) (a : Result ℕ Refusal) {room' : List ℕ} → length file ≤ length room → Runs H opened k room a room' → Left a room' (cut_file file k room)
  ready_cut k room a {room'} long w =
      subst (λ (x : FileResult). Left a room' x)
      (ap (λ (K : Hierarchy). cut_run K opened k room) r.built ∙ ap (λ (l : List ℕ). cut_run (built_of (file_rows file)) l k room) r.read
      ∙ sym (cut_is file k room long r.file_fine r.built_fine)) w
