-- THEOREMS: the two round trips of block files, over the definitions that the contracts of `read` and `write` cite. Assumes nothing.
use mathlib.Core.Path.{◌≡◌, refl, sym, ap, ◌∙◌}
use mathlib.Core.Bool.{Bool, true, false, cond, not}
use mathlib.Core.List.{List, ◌++◌}
use mathlib.Core.Option.{Option, none, some}
use Prim.Native.Nat.{ℕ, zero, suc, ◌+◌, ◌*◌, ◌/◌, ◌%◌, ◌<◌, ◌≤◌}
use native.Mathlib.Omega.{arith}
use borrow.Author.Tests.{ltb-true, ltb-false, eqb-true, eqb-false, eq-eqb, le-leb, not-false}
use lib.Dec.{eqb, ltb}
use lib.ListN.{length, take, drop, length-append, length-take, take-append-drop}
use lib.Seq.{length-take-le, take_at}
use Rattle.lists.specs.Lists.{over, Below}
use Rattle.lists.specs.Answer.{done, refused, answer_of}
use Rattle.lists.proofs.Bools.{bool, or_left, or_right}
use Rattle.lists.proofs.Refusals.{refusal_none}
use Rattle.blocks.specs.Record.{ReadStage, begun, record_right}
use Rattle.blocks.specs.Block.{after_record, after_records, block_of}
use Rattle.blocks.specs.File.{after_blocks, records_of, blocks_of, whole_blocks, file_stage, file_records, not_blocks, read_refusal}
use Rattle.blocks.specs.File.{FileResult, read_file, blocks_for, file_of, records_wrong, write_refusal, write_file}
use Rattle.blocks.proofs.Rows.{after_wrong}
use Rattle.blocks.proofs.Stages.{file_known}
use Rattle.blocks.proofs.Making.{length_block}
use Rattle.blocks.proofs.Answers.{blocks_facts, read_refuses, read_gives, read_1, read_none, write_refuses, write_gives, write_room, write_none, right_records}
use Rattle.block_laws.proofs.Pieces.{records_front, records_before}
use Rattle.block_laws.proofs.ManyBlocks.{read_write, read_accepts, write_read, total}

-- WHAT ACCEPTANCE SAYS
taken : (r : Option ℕ) (a : ℕ) {n : ℕ} → answer_of r a ≡ done n → (r ≡ none) × (a ≡ n)
taken none a e = (refl, cc)
taken (some k) a e = let z : ◌≡◌ {A = ℕ} 0 1 = cc in absurd (omega arith)

record Wrote (records : List ℕ) (n : ℕ) (room : List ℕ) (k : ℕ) : Type 0 where
  has : 16 * n ≤ length records
  most : n ≤ 3968
  some_of : 1 ≤ n
  right : (after_records begun n records).wrong ≡ 0
  count : blocks_for n ≡ k
  left : (write_file records n room).room ≡ over (file_of records n) room

wrote : (records : List ℕ) (n : ℕ) (room : List ℕ) (k : ℕ) → (write_file records n room).answer ≡ done k → Wrote records n room k
unfolding write_file
wrote records n room k e =
    let t = taken (write_refusal records n room) (blocks_for n) e in
    let f = refusal_none _ t.0 in
    let wrong : Bool = not (eqb (after_records begun n records).wrong 0) in
    let z : n ≡ 0 → ⊥ = eqb-false n 0 (or_left (eqb n 0) wrong f.1.1.0) in
    record {
      has = ltb-false _ _ (or_left (ltb (length records) (16 * n)) (ltb (length room) (512 * blocks_for n)) f.0);
      most = ltb-false _ _ f.1.0;
      some_of = omega (arith, z);
      right = eqb-true _ _ (not-false (eqb (after_records begun n records).wrong 0) (or_right (eqb n 0) wrong f.1.1.0));
      count = t.1;
      left = ap (λ (x : FileResult). x.room) (write_gives records n room t.0);
    }

record Read (file room : List ℕ) (n : ℕ) : Type 0 where
  long : 496 * whole_blocks file ≤ length room
  whole : not_blocks file ≡ false
  good : (file_stage file).wrong ≡ 0
  count : length (file_records file) / 16 ≡ n
  left : (read_file file room).room ≡ over (file_records file) room

-- neither 3 nor 4 is none
pub accepted_none : (file : List ℕ) → eqb (file_stage file).wrong 3 ≡ false → eqb (file_stage file).wrong 4 ≡ false → (file_stage file).wrong ≡ 0
accepted_none file three four =
    bool (eqb (file_stage file).wrong 0)
    (λ e. eqb-true (file_stage file).wrong 0 e)
    (λ e. absurd (eqb-false _ _ four (file_known file (whole_blocks file) _ refl (eqb-false _ _ e) (eqb-false _ _ three))))

read : (file room : List ℕ) (n : ℕ) → (read_file file room).answer ≡ done n → Read file room n
unfolding read_file
read file room n e =
    let t = taken (read_refusal file room) (length (file_records file) / 16) e in
    let f = refusal_none _ t.0 in
    record {
      long = ltb-false _ _ f.0;
      whole = f.1.0;
      good = accepted_none file f.1.1.0 f.1.1.1.0;
      count = t.1;
      left = ap (λ (x : FileResult). x.room) (read_gives file room t.0);
    }

-- a file that reading accepts: its record bytes are whole records, at most 3,968, and the room begins with them
pub read_whole : (file room : List ℕ) (n : ℕ) → (read_file file room).answer ≡ done n
    → (length (file_records file) ≡ 16 * n) × (n ≤ 3968) × ((read_file file room).room ≡ over (file_records file) room)
read_whole file room n e =
    let r = read file room n e in
    let b = blocks_facts file r.whole in
    let a = read_accepts (whole_blocks file) 0 begun file b.0 r.good in (omega (arith, a.0, r.count), omega (arith, a.0, a.1, b.2, r.count), r.left)

-- and they are records that writing takes
pub read_stage : (file room : List ℕ) (n : ℕ) → (read_file file room).answer ≡ done n → (after_records begun n (file_records file)).wrong ≡ 0
read_stage file room n e =
    let r = read file room n e in
    let b = blocks_facts file r.whole in
    let a = read_accepts (whole_blocks file) 0 begun file b.0 r.good in
    let same : total (whole_blocks file) file ≡ n = omega (arith, a.0, r.count) in
    ap (λ (k : ℕ). (after_records begun k (file_records file)).wrong) (sym same) ∙ ap (λ (t : ReadStage). t.wrong) a.3 ∙ r.good

-- each of records that do not lead to a refusal is right
pub record_right_law : (k : ℕ) (t : ReadStage) (s : List ℕ) → (after_records t (suc k) s).wrong ≡ 0
    → (record_right (take 16 s) ≡ true) × ((after_records (after_record t (take 16 s)) k (drop 16 s)).wrong ≡ 0)
unfolding after_records
record_right_law k t s h = (bool (record_right (take 16 s)) (λ e. e) (λ e. absurd (wrong e)), h)
  where
    next : (after_record t (take 16 s)).wrong ≡ 0
    next = records_before k (after_record t (take 16 s)) (drop 16 s) h

    first : t.wrong ≡ 0
    first = records_before 1 t s next

    wrong : record_right (take 16 s) ≡ false → ⊥
    wrong e = omega (arith, sym (ap (λ (u : ReadStage). u.wrong) (after_wrong t (take 16 s) first e)) ∙ next)

-- a result under other names of its count and bytes
same_result : {m n : ℕ} {xs ys : List ℕ} (room : List ℕ) → m ≡ n → xs ≡ ys
    → ◌≡◌ {A = FileResult} (record { answer = done m; room = over xs room }) (record { answer = done n; room = over ys room })
same_result room p q = rw (p, q)

-- LENGTHS
pub length_blocks : (k number : ℕ) (r : List ℕ) → length (blocks_of k number r) ≡ 512 * k
unfolding blocks_of
length_blocks zero number r = refl
length_blocks (suc k) number r =
    let a = length_block number (take 496 r) (simp length-take (omega arith)) in
    let b = length_blocks k (suc number) (drop 496 r) in
    length-append (block_of number (take 496 r)) (blocks_of k (suc number) (drop 496 r)) ∙ (omega (arith, a, b))

blocks_are : (file : List ℕ) (k : ℕ) → length file ≡ 512 * k → 1 ≤ k → k ≤ 128 → not_blocks file ≡ false
unfolding not_blocks
blocks_are file k l low high =
    let b : whole_blocks file ≡ k = omega arith in
    let z : length file % 512 ≡ 0 = omega arith in
    simp (eq-eqb _ _ z, b, le-leb _ _ low, le-leb _ _ high)

-- the front of a room after a write is what was written
pub over_front : (bytes room : List ℕ) (n : ℕ) → length bytes ≡ n → take n (over bytes room) ≡ bytes
unfolding over
over_front bytes room n h = take_at bytes (drop (length bytes) room) n h

-- WRITTEN, THEN READ. Where writing accepts n records and answers k blocks, these blocks, read into any room, give the count n and the same record bytes;
-- a room shorter than the 496 k bytes that reading needs is refused with 1, and left as it is
pub write_then_read : (records : List ℕ) (n : ℕ) (room room' : List ℕ) (k : ℕ) → (write_file records n room).answer ≡ done k
    → read_file (take (512 * k) (write_file records n room).room) room'
    ≡ cond (ltb (length room') (496 * k))
    (record { answer = refused 1; room = room' })
    (record { answer = done n; room = over (take (16 * n) records) room' })
write_then_read records n room room' k e =
    let w = wrote records n room k e in
    let f : List ℕ = file_of records n in
    let has : 16 * n ≤ length records = w.has in
    let some : 1 ≤ n = w.some_of in
    let most : n ≤ 3968 = w.most in
    let count : blocks_for n ≡ k = w.count in
    let lf : length f ≡ 512 * blocks_for n = length_blocks (blocks_for n) 0 (take (16 * n) records) in
    let nb : whole_blocks f ≡ blocks_for n = omega arith in
    let lr : length (take (16 * n) records) ≡ 16 * n = length-take-le (16 * n) records has in
    let high : (after_records begun n (take (16 * n) records)).wrong ≡ 0 = rw (records_front n records has) w.right in
    let wr = write_read (blocks_for n) 0 begun n (take (16 * n) records) lr (omega arith) (omega arith) (omega arith) high in
    let st : file_stage f ≡ after_records begun n (take (16 * n) records) = ap (λ (j : ℕ). after_blocks j 0 begun f) nb ∙ wr.0 in
    let rec : file_records f ≡ take (16 * n) records = ap (λ (j : ℕ). records_of j f) nb ∙ wr.1 in
    let good : (file_stage f).wrong ≡ 0 = ap (λ (t : ReadStage). t.wrong) st ∙ high in
    let whole : not_blocks f ≡ false = blocks_are f (blocks_for n) lf (omega arith) (omega arith) in
    let cnt : length (file_records f) / 16 ≡ n = ap (λ (t : List ℕ). length t / 16) rec ∙ omega arith in
    let front : take (512 * k) (write_file records n room).room ≡ f = ap (λ (t : List ℕ). take (512 * k) t) w.left ∙ over_front f room (512 * k) (omega arith) in
    ap (λ (t : List ℕ). read_file t room') front
    ∙ bool (ltb (length room') (496 * k))
    (λ b. let h : length room' < 496 * k = ltb-true _ _ b in rw b (read_refuses f room' (read_1 f room' (omega arith))))
    (λ b. let h : 496 * k ≤ length room' = ltb-false _ _ b in rw b (read_gives f room' (read_none f room' (omega arith) whole good) ∙ same_result room' cnt rec))

-- READ, THEN WRITTEN. Where reading accepts a file and answers n records, these, with anything behind them, written into any room, give the same file, all its bytes;
-- a room shorter than the file is refused with 1, and left as it is. `Below 256 file`: the file is a list of bytes, as what stands behind any `&[u8]` is
pub read_then_write : (file room : List ℕ) (n : ℕ) (rest room' : List ℕ) → Below 256 file → (read_file file room).answer ≡ done n
    → write_file (take (16 * n) (read_file file room).room ++ rest) n room'
    ≡ cond (ltb (length room') (length file))
    (record { answer = refused 1; room = room' })
    (record { answer = done (whole_blocks file); room = over file room' })
read_then_write file room n rest room' bytes e =
    let r = read file room n e in
    let wf = blocks_facts file r.whole in
    let l : length file ≡ 512 * whole_blocks file = wf.0 in
    let b1 : 1 ≤ whole_blocks file = wf.1 in
    let b128 : whole_blocks file ≤ 128 = wf.2 in
    let good : (file_stage file).wrong ≡ 0 = r.good in
    let ra = read_accepts (whole_blocks file) 0 begun file l good in
    let tl : length (file_records file) ≡ 16 * total (whole_blocks file) file = ra.0 in
    let tm : total (whole_blocks file) file ≤ 31 * whole_blocks file = ra.1 in
    let tx : 31 * whole_blocks file < total (whole_blocks file) file + 31 = ra.2 in
    let cnt : length (file_records file) / 16 ≡ n = r.count in
    let tn : total (whole_blocks file) file ≡ n = omega arith in
    let bf : blocks_for n ≡ whole_blocks file = omega arith in
    let given : List ℕ = take (16 * n) (read_file file room).room ++ rest in
    let are : take (16 * n) (read_file file room).room ≡ file_records file =
    ap (λ (t : List ℕ). take (16 * n) t) r.left ∙ over_front (file_records file) room (16 * n) (omega arith) in
    let has : 16 * n ≤ length given = rw are (simp length-append (omega arith)) in
    let front : take (16 * n) given ≡ file_records file =
    take_at (take (16 * n) (read_file file room).room) rest (16 * n) (rw are (omega arith)) ∙ are in
    let same : file_of given n ≡ file =
    ap (λ (j : ℕ). blocks_of j 0 (take (16 * n) given)) bf
    ∙ ap (λ (t : List ℕ). blocks_of (whole_blocks file) 0 t) front
    ∙ read_write (whole_blocks file) 0 begun file l bytes good in
    let st : after_records begun n given ≡ file_stage file =
    sym (records_front n given has)
    ∙ ap (λ (t : List ℕ). after_records begun n t) front
    ∙ ap (λ (j : ℕ). after_records begun j (file_records file)) (sym tn)
    ∙ ra.3 in
    let right : records_wrong given n ≡ false = right_records given n (omega arith) refl (ap (λ (t : ReadStage). t.wrong) st ∙ good) in
    bool (ltb (length room') (length file))
    (λ b. let h : length room' < length file = ltb-true _ _ b in rw b (write_refuses given n room' (write_room given n room' has (omega arith))))
    (λ b. let h : length file ≤ length room' = ltb-false _ _ b in rw b (write_gives given n room' (write_none given n room' has (omega arith) (omega arith) right) ∙ same_result room' bf same))

-- the same straight from the room that reading left
pub read_then_write_room : (file room : List ℕ) (n : ℕ) (room' : List ℕ) → Below 256 file → (read_file file room).answer ≡ done n
    → write_file (read_file file room).room n room'
    ≡ cond (ltb (length room') (length file))
    (record { answer = refused 1; room = room' })
    (record { answer = done (whole_blocks file); room = over file room' })
read_then_write_room file room n room' bytes e =
    ap (λ (t : List ℕ). write_file t n room') (sym (take-append-drop (16 * n) (read_file file room).room))
    ∙ read_then_write file room n (drop (16 * n) (read_file file room).room) room' bytes e
