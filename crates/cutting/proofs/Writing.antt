-- What the code of cutting rests on: reading takes the records of the cut, and their blocks fit the room, so that writing them is not refused. Assumes nothing.
use mathlib.Core.Path.{◌≡◌, refl, sym, ap, subst, ◌∙◌}
use mathlib.Core.List.{List, [], ◌∷◌, ◌++◌, append_assoc}
use mathlib.Core.Bool.{Bool, true, false, not}
use mathlib.Core.Option.{Option, none}
use Prim.Native.Nat.{ℕ, zero, suc, ◌+◌, ◌*◌, ◌/◌, ◌≤◌}
use native.Mathlib.Omega.{arith}
use borrow.Author.Tests.{ltb-false, eqb-true, eq-eqb}
use lib.Dec.{eqb, ltb}
use lib.ListN.{length, take, drop, length-append, length-drop, take-append-drop}
use lib.Seq.{take-nil, drop-nil, drop_at, take_at, take-add, drop-drop, length-take-le}
use Rattle.lists.specs.Lists.{every, keep, kept_if, count}
use Rattle.lists.proofs.Kept.{every_append, every_drop, every_kept}
use Rattle.lists.specs.Answer.{Check, ◌when◌, done, refusal}
use Rattle.lists.proofs.Bools.{bool, not_both, and_left, and_right, and_both}
use Rattle.lists.proofs.Refusals.{refusal_none, refusal_nil, refused_here, refused_later}
use Rattle.blocks.specs.Record.{ReadStage, kind_of, begun}
use Rattle.blocks.specs.Block.{after_record, after_records}
use Rattle.blocks.specs.File.{whole_blocks, file_records, file_checks, leaving, blocks_for, write_file}
use Rattle.blocks.proofs.Answers.{blocks_facts, right_records, write_none}
use Rattle.block_laws.proofs.ManyBlocks.{read_accepts, total}
use Rattle.block_laws.proofs.Laws.{accepted_none}
use Rattle.replay.specs.Replay.{each_record, edge_count_of, step_records}
use Rattle.replay.proofs.Records.{records_length}
use Rattle.opening.specs.Opening.{file_rows, built_checks}
use Rattle.opening.proofs.Opens.{done_by}
use Rattle.cutting.specs.Cut.{after_first, head_records, value_record, value_records, cut_records, too_far, someone_after, cut_checks, cut_refusal, bytes_of, blocks_of_all, cut_file}
use Rattle.cutting.proofs.Parts.{of_head, of_step}
use Rattle.cutting.proofs.Orders.{after_each, Taken, first_head, head_front, steps_behind, parts_taken}
use Rattle.cutting.proofs.Doing.{values_long}
use Rattle.cutting.proofs.Sizes.{cut_length}

-- reading takes the records of the cut
pub cut_taken : (rs : List (List ℕ)) (k : ℕ) → Taken rs → Taken (cut_records rs k)
unfolding cut_records keep value_records after_each
cut_taken [] k h = by (after_first [] k).values (values_long [] k)
  where
    by : (values : List ℕ) → length values ≡ 0 → Taken (value_records 0 values ++ drop k [])
    by [] e = ap (λ (l : List (List ℕ)). (after_each begun l).wrong) (drop-nil {A = List ℕ} k)
    by (v ∷ vs) e = absurd (omega arith)
cut_taken (r ∷ rs) k h = parts_taken r rs (after_first (r ∷ rs) k).values k h (values_long (r ∷ rs) k)

-- where there is a record, the cut has one
cut_some : (rs : List (List ℕ)) (k : ℕ) → Taken rs → 1 ≤ length rs → 1 ≤ length (cut_records rs k)
unfolding cut_records keep
cut_some [] k h l = absurd (omega arith)
cut_some (r ∷ rs) k h l =
    subst (λ (b : Bool). 1 ≤ length (kept_if b r (head_records rs) ++ (value_records 0 (after_first (r ∷ rs) k).values ++ drop k (step_records (r ∷ rs))))) (sym (first_head r rs h)) (omega arith)

-- BYTES. Records of 16 bytes, one behind the other
abbrev pub sixteen : List ℕ → Bool
sixteen r = eqb (length r) 16

each_sixteen : (n : ℕ) (bytes : List ℕ) → length bytes ≡ 16 * n → every sixteen (each_record n bytes) ≡ true
unfolding each_record every
each_sixteen zero bytes l = refl
each_sixteen (suc n) bytes l =
    and_both (sixteen (take 16 bytes)) (every sixteen (each_record n (drop 16 bytes)))
    (eq-eqb (length (take 16 bytes)) 16 (length-take-le 16 bytes (omega arith)))
    (each_sixteen n (drop 16 bytes) (simp length-drop (omega arith)))

values_sixteen : (node : ℕ) (values : List ℕ) → every sixteen (value_records node values) ≡ true
unfolding value_records every
values_sixteen node [] = refl
values_sixteen node (v ∷ values) = by (not (eqb v 0)) (values_sixteen (suc node) values)
  where
    by : (b : Bool) → every sixteen (value_records (suc node) values) ≡ true → every sixteen (kept_if b (value_record node v) (value_records (suc node) values)) ≡ true
    by true h = h
    by false h = h

pub cut_sixteen : (rs : List (List ℕ)) (k : ℕ) → every sixteen rs ≡ true → every sixteen (cut_records rs k) ≡ true
unfolding cut_records
cut_sixteen rs k h =
    every_append sixteen (head_records rs) (value_records 0 (after_first rs k).values ++ drop k (step_records rs)) (every_kept sixteen of_head rs h)
    (every_append sixteen (value_records 0 (after_first rs k).values) (drop k (step_records rs)) (values_sixteen 0 (after_first rs k).values)
    (every_drop sixteen k (step_records rs) (every_kept sixteen of_step rs h)))

pub bytes_length : (rs : List (List ℕ)) → every sixteen rs ≡ true → length (bytes_of rs) ≡ 16 * length rs
unfolding bytes_of every
bytes_length [] h = refl
bytes_length (r ∷ rs) h =
    let l : length r ≡ 16 = eqb-true (length r) 16 (and_left (sixteen r) (every sixteen rs) h) in
    simp length-append (omega (arith, bytes_length rs (and_right (sixteen r) (every sixteen rs) h)))

-- taken apart, they are the records
pub each_back : (rs : List (List ℕ)) → every sixteen rs ≡ true → each_record (length rs) (bytes_of rs) ≡ rs
unfolding bytes_of every each_record
each_back [] h = refl
each_back (r ∷ rs) h =
    let l : length r ≡ 16 = eqb-true (length r) 16 (and_left (sixteen r) (every sixteen rs) h) in
    ap (λ (x : List ℕ). x ∷ each_record (length rs) (drop 16 (r ++ bytes_of rs))) (take_at r (bytes_of rs) 16 l)
    ∙ ap (λ (x : List ℕ). r ∷ each_record (length rs) x) (drop_at r (bytes_of rs) 16 l)
    ∙ ap (λ (x : List (List ℕ)). r ∷ x) (each_back rs (and_right (sixteen r) (every sixteen rs) h))

-- and reading them as bytes is reading them one by one
bytes_read : (n : ℕ) (t : ReadStage) (bytes : List ℕ) → after_records t n bytes ≡ after_each t (each_record n bytes)
unfolding after_records after_each each_record
bytes_read zero t bytes = refl
bytes_read (suc n) t bytes = bytes_read n (after_record t (take 16 bytes)) (drop 16 bytes)

-- the bytes of records in front, and of those behind
bytes_append : (xs ys : List (List ℕ)) → bytes_of (xs ++ ys) ≡ bytes_of xs ++ bytes_of ys
unfolding bytes_of
bytes_append [] ys = refl
bytes_append (r ∷ xs) ys = ap (λ (l : List ℕ). r ++ l) (bytes_append xs ys) ∙ sym (append_assoc r (bytes_of xs) (bytes_of ys))

pub bytes_front : (k n : ℕ) (bytes : List ℕ) → length bytes ≡ 16 * n → bytes_of (take k (each_record n bytes)) ≡ take (16 * k) bytes
unfolding bytes_of each_record
bytes_front zero n bytes l = refl
bytes_front (suc k) zero [] l = sym (take-nil (16 * suc k))
bytes_front (suc k) zero (b ∷ bytes) l = absurd (omega arith)
bytes_front (suc k) (suc n) bytes l =
    let more : 16 * suc k ≡ 16 + 16 * k = omega arith in
    ap (λ (t : List ℕ). take 16 bytes ++ t) (bytes_front k n (drop 16 bytes) (simp length-drop (omega arith)))
    ∙ sym (ap (λ (m : ℕ). take m bytes) more ∙ take-add 16 (16 * k) bytes)

pub bytes_behind : (k n : ℕ) (bytes : List ℕ) → length bytes ≡ 16 * n → bytes_of (drop k (each_record n bytes)) ≡ drop (16 * k) bytes
unfolding bytes_of each_record
bytes_behind zero zero [] l = refl
bytes_behind zero (suc n) bytes l =
    ap (λ (t : List ℕ). take 16 bytes ++ t) (bytes_behind zero n (drop 16 bytes) (simp length-drop (omega arith))) ∙ take-append-drop 16 bytes
bytes_behind (suc k) zero [] l = sym (drop-nil (16 * suc k))
bytes_behind k zero (b ∷ bytes) l = absurd (omega arith)
bytes_behind (suc k) (suc n) bytes l =
    let more : 16 + 16 * k ≡ 16 * suc k = omega arith in
    bytes_behind k n (drop 16 bytes) (simp length-drop (omega arith)) ∙ drop-drop (16 * k) 16 bytes ∙ ap (λ (m : ℕ). drop m bytes) more

-- FILES. What no refusal says of one
pub record Accepted (file : List ℕ) : Type 0 where
  pub whole : length file ≡ 512 * whole_blocks file
  pub some : 1 ≤ length (file_rows file)
  pub few : length (file_rows file) ≤ 3968
  pub bytes : length (file_records file) ≡ 16 * length (file_rows file)
  pub fill : blocks_for (length (file_rows file)) ≡ whole_blocks file
  pub each : every sixteen (file_rows file) ≡ true
  pub taken : Taken (file_rows file)

pub accepted : (file : List ℕ) → refusal (file_checks file) ≡ none → Accepted file
accepted file e =
    let f = refusal_none (file_checks file) e in
    let b = blocks_facts file f.0 in
    let right = accepted_none file f.1.0 f.1.1.0 in
    let r = read_accepts (whole_blocks file) 0 begun file b.0 right in
    let bytes : List ℕ = file_records file in
    let n : ℕ = length bytes / 16 in
    let all : n ≡ total (whole_blocks file) file = omega (arith, r.0) in
    let many = records_length bytes in
    record {
      whole = b.0;
      some = omega (arith, all, many, r.2, b.1);
      few = omega (arith, all, many, r.1, b.2);
      bytes = omega (arith, r.0, all, many);
      fill = omega (arith, all, many, r.1, r.2);
      each = each_sixteen n bytes (omega (arith, r.0, all));
      taken = ap (λ (t : ReadStage). t.wrong)
          (sym (bytes_read n begun bytes) ∙ ap (λ (m : ℕ). after_records begun m bytes) all ∙ r.3) ∙ right;
    }

-- THE BYTES OF THE CUT: the file's records up to the last edge, the value records, and the file's records from the first step kept on
pub cut_bytes : (file : List ℕ) (k : ℕ) → Accepted file → let rs = file_rows file in
    bytes_of (cut_records rs k)
    ≡ take (16 * (1 + edge_count_of rs)) (file_records file)
    ++ (bytes_of (value_records 0 (after_first rs k).values) ++ drop (16 * (1 + edge_count_of rs + count (λ r. eqb (kind_of r) 8) rs + k)) (file_records file))
unfolding cut_records
cut_bytes file k a =
    let bytes : List ℕ = file_records file in
    let rs : List (List ℕ) = file_rows file in
    let n : ℕ = length bytes / 16 in
    let l : length bytes ≡ 16 * n = omega (arith, a.bytes) in
    let values : List (List ℕ) = value_records 0 (after_first rs k).values in
    let steps : List (List ℕ) = drop k (step_records rs) in
    let from : ℕ = 1 + edge_count_of rs + count (λ r. eqb (kind_of r) 8) rs in
    let kept : bytes_of steps ≡ drop (16 * (from + k)) bytes =
    ap (λ (x : List (List ℕ)). bytes_of (drop k x)) (steps_behind rs a.taken) ∙ ap bytes_of (drop-drop k from rs) ∙ bytes_behind (from + k) n bytes l in
    bytes_append (head_records rs) (values ++ steps)
    ∙ ap (λ (x : List ℕ). x ++ bytes_of (values ++ steps)) (ap bytes_of (head_front rs a.taken) ∙ bytes_front (1 + edge_count_of rs) n bytes l)
    ∙ ap (λ (x : List ℕ). take (16 * (1 + edge_count_of rs)) bytes ++ x) (bytes_append values steps ∙ ap (λ (x : List ℕ). bytes_of values ++ x) kept)

-- THE RECORDS OF THE CUT, as they are written
pub record Writable (file : List ℕ) (k : ℕ) : Type 0 where
  pub long : length (bytes_of (cut_records (file_rows file) k)) ≡ 16 * length (cut_records (file_rows file) k)
  pub some : 1 ≤ length (cut_records (file_rows file) k)
  pub few : length (cut_records (file_rows file) k) ≤ 3968
  pub right : (after_records begun (length (cut_records (file_rows file) k)) (bytes_of (cut_records (file_rows file) k))).wrong ≡ 0
  pub blocks : blocks_for (length (cut_records (file_rows file) k)) ≤ whole_blocks file

pub writable : (file : List ℕ) (k : ℕ) → Accepted file → Writable file k
writable file k a =
    let rs : List (List ℕ) = file_rows file in
    let cs : List (List ℕ) = cut_records rs k in
    let sixteens = cut_sixteen rs k a.each in
    let fewer = cut_length rs k in
    record {
      long = bytes_length cs sixteens;
      some = cut_some rs k a.taken a.some;
      few = omega (arith, fewer, a.few);
      right = ap (λ (t : ReadStage). t.wrong) (bytes_read (length cs) begun (bytes_of cs) ∙ ap (after_each begun) (each_back cs sixteens)) ∙ cut_taken rs k a.taken;
      blocks = omega (arith, fewer, a.fill);
    }

-- WHERE NOTHING IS REFUSED. Two lists of checks, one behind the other
both_none : (cs ds : List Check) → refusal (cs ++ ds) ≡ none → (refusal cs ≡ none) × (refusal ds ≡ none)
both_none [] ds e = (refusal_nil, e)
both_none (c ∷ cs) ds e =
    bool c.holds
    (λ h. not_both true refl (let s = refused_here c (cs ++ ds) h in cc))
    (λ h. let b = both_none cs ds (sym (refused_later c (cs ++ ds) h) ∙ e) in (refused_later c cs h ∙ b.0, b.1))

pub record Uncut (file : List ℕ) (k : ℕ) (room : List ℕ) : Type 0 where
  pub long : length file ≤ length room
  pub read : refusal (file_checks file) ≡ none
  pub legal : refusal (built_checks (file_rows file)) ≡ none
  pub near : too_far (file_rows file) k ≡ false
  pub idle : someone_after (file_rows file) k ≡ false

pub uncut : (file : List ℕ) (k : ℕ) (room : List ℕ) → cut_refusal file k room ≡ none → Uncut file k room
uncut file k room e =
    let own : List Check = 19 when too_far (file_rows file) k ∷ 20 when someone_after (file_rows file) k ∷ [] in
    let f = both_none (1 when ltb (length room) (length file) ∷ []) (file_checks file ++ cut_checks (file_rows file) k) e in
    let g = both_none (file_checks file) (cut_checks (file_rows file) k) f.1 in
    let h = both_none (built_checks (file_rows file)) own g.1 in
    let last = refusal_none own h.1 in
    record {
      long = ltb-false (length room) (length file) (refusal_none _ f.0).0;
      read = g.0;
      legal = h.0;
      near = last.0;
      idle = last.1.0;
    }

-- cutting is writing the records of the cut, which is not refused: what the last lines of its code do
pub cut_writes : (file : List ℕ) (k : ℕ) (room : List ℕ) → cut_refusal file k room ≡ none
    → cut_file file k room ≡ write_file (bytes_of (cut_records (file_rows file) k)) (length (cut_records (file_rows file) k)) room
unfolding cut_file write_file
cut_writes file k room e =
    let cs : List (List ℕ) = cut_records (file_rows file) k in
    let u = uncut file k room e in
    let a = accepted file u.read in
    let w = writable file k a in
    let o = write_none (bytes_of cs) (length cs) room (omega (arith, w.long)) (omega (arith, w.blocks, u.long, a.whole)) w.few
    (right_records (bytes_of cs) (length cs) w.some refl w.right) in
    ap (λ (why : Option ℕ). leaving why (blocks_for (length cs)) (blocks_of_all cs) room) (e ∙ sym o)

-- where nothing is refused, the blocks that are written fit the room
pub cut_fits : (file : List ℕ) (k : ℕ) (room : List ℕ) (m : ℕ) → (cut_file file k room).answer ≡ done m → 512 * m ≤ length room
unfolding cut_file
cut_fits file k room m e =
    let d = done_by (cut_refusal file k room) (blocks_for (length (cut_records (file_rows file) k))) e in
    let u = uncut file k room d.0 in
    let a = accepted file u.read in
    omega (arith, d.1, (writable file k a).blocks, a.whole, u.long)
