-- THEOREM: a file cut after no steps is the same file, to the byte. Assumes nothing.
use mathlib.Core.Path.{◌≡◌, refl, sym, ap, ap₂, subst, ◌∙◌}
use mathlib.Core.List.{List, [], ◌∷◌, ◌++◌}
use mathlib.Core.Bool.{Bool, true, false, not, cond, ◌&&◌, ◌||◌}
use mathlib.Core.Option.{Option, none}
use Prim.Native.Nat.{ℕ, zero, suc, ◌+◌, ◌*◌, ◌/◌, ◌%◌, ◌≤◌, ◌<◌}
use native.Mathlib.Omega.{arith}
use borrow.Author.Tests.{eqb-true, eqb-false, ne_eqb, leb-true, ltb-true, not-true}
use lib.Dec.{eqb, leb, ltb}
use lib.ListN.{length, take, drop, replicate, length-drop}
use lib.Seq.{drop-cons, take_all}
use Rattle.lists.specs.Lists.{every, keep, kept_if, over, Below}
use Rattle.lists.specs.Answer.{done}
use Rattle.lists.proofs.Bools.{bool, and_left, and_right}
use Rattle.lists.proofs.Refusals.{refusal_none}
use Rattle.octets.specs.Bytes.{byte, number4, bytes4, bytes8, zero_from}
use Rattle.blocks.specs.Record.{ReadStage, kind_of, size_in, value_node_in, value_in, begun, reached, record_right}
use Rattle.blocks.specs.File.{blocks_of, whole_blocks, file_records, file_checks, leaving, blocks_for}
use Rattle.block_laws.proofs.Pieces.{zeros_are, four}
use Rattle.block_laws.proofs.ByKind.{one_of_eight, past_record, right_by_kind}
use Rattle.block_laws.proofs.ManyBlocks.{read_write}
use Rattle.block_laws.proofs.Laws.{accepted_none}
use Rattle.runs.specs.Run.{run}
use Rattle.replay.specs.Replay.{size_of, step_records, values_from, values_in}
use Rattle.opening.specs.Opening.{file_rows}
use Rattle.opening.proofs.Bytes.{AllBytes, each_bytes, records_bytes}
use Rattle.cutting.specs.Cut.{head_records, value_record, value_records, cut_records, cut_refusal, bytes_of, blocks_of_all, cut_file}
use Rattle.cutting.proofs.Parts.{of_value, head_no_value}
use Rattle.cutting.proofs.Orders.{after_each, Taken, went, order_later, first, first_head, shape}
use Rattle.cutting.proofs.Writing.{sixteen, bytes_behind, accepted, uncut}
use Rattle.shorter_laws.proofs.Cuts.{values_kept, values_over}

-- A VALUE RECORD. The byte at a place, and those behind it
one_from : (at next : ℕ) (r : List ℕ) → suc at ≡ next → at < length r → drop at r ≡ byte at r ∷ drop next r
one_from at next r e l = drop-cons r at 0 l ∙ ap (λ (n : ℕ). byte at r ∷ drop n r) e

-- four bytes are those of their number
four_from : (at : ℕ) (r : List ℕ) → Below 256 r → at + 4 ≤ length r → drop at r ≡ bytes4 (number4 at r) ++ drop (at + 4) r
four_from at r b l =
    let end : List ℕ = drop (at + 4) r in
    one_from at (at + 1) r (omega arith) (omega arith)
    ∙ ap (λ (t : List ℕ). byte at r ∷ t) (one_from (at + 1) (at + 2) r (omega arith) (omega arith))
    ∙ ap (λ (t : List ℕ). byte at r ∷ byte (at + 1) r ∷ t) (one_from (at + 2) (at + 2 + 1) r (omega arith) (omega arith))
    ∙ ap (λ (t : List ℕ). byte at r ∷ byte (at + 1) r ∷ byte (at + 2) r ∷ t) (one_from (at + 2 + 1) (at + 4) r (omega arith) (omega arith))
    ∙ ap (λ (t : List ℕ). t ++ end) (four (byte at r) (byte (at + 1) r) (byte (at + 2) r) (byte (at + 2 + 1) r) (b at) (b (at + 1)) (b (at + 2)) (b (at + 2 + 1)))

four_low : (at : ℕ) (r : List ℕ) → Below 256 r → number4 at r < 4294967296
four_low at r b = omega (arith, b at, b (at + 1), b (at + 2), b (at + 2 + 1))

-- eight bytes are those of their number
eight : (low high : ℕ) → low < 4294967296 → bytes8 (low + 4294967296 * high) ≡ bytes4 low ++ bytes4 high
eight low high h =
    let x : ℕ = low + 4294967296 * high in
    let p : x % 4294967296 ≡ low = omega arith in
    let q : x / 4294967296 ≡ high = omega arith in
    ap₂ (λ (a b : ℕ). bytes4 a ++ bytes4 b) p q

-- what is right of one
record Right (r : List ℕ) : Type 0 where
  two : byte 2 r ≡ 0
  three : byte 3 r ≡ 0
  rest : zero_from 12 r ≡ true
  some : eqb (value_in r) 0 ≡ false

right : (r : List ℕ) → kind_of r ≡ 8 → record_right r ≡ true → Right r
right r k h =
    let a : Bool = eqb (byte 2 r) 0 in
    let b : Bool = eqb (byte 3 r) 0 in
    let c : Bool = zero_from 12 r in
    let d : Bool = not (eqb (value_in r) 0) in
    let all : (a && b && c && d) ≡ true = sym (ap (λ (n : ℕ). one_of_eight n r) k) ∙ sym (right_by_kind r) ∙ h in
    let three = and_left (a && b && c) d all in
    let two = and_left (a && b) c three in
    record {
      two = eqb-true (byte 2 r) 0 (and_left a b two);
      three = eqb-true (byte 3 r) 0 (and_right a b two);
      rest = and_right (a && b) c three;
      some = not-true (eqb (value_in r) 0) (and_right (a && b && c) d all);
    }

-- its value, and four zeros
value_end : (r : List ℕ) → length r ≡ 16 → Below 256 r → zero_from 12 r ≡ true → drop 4 r ≡ bytes8 (value_in r) ++ (0 ∷ 0 ∷ 0 ∷ 0 ∷ [])
value_end r l b z =
    let left : length (drop 12 r) ≡ 4 = length-drop 12 r ∙ omega arith in
    let end : drop 12 r ≡ 0 ∷ 0 ∷ 0 ∷ 0 ∷ [] = zeros_are (drop 12 r) z ∙ ap (λ (n : ℕ). replicate n 0) left in
    four_from 4 r b (omega arith)
    ∙ ap (λ (t : List ℕ). bytes4 (number4 4 r) ++ t) (four_from 8 r b (omega arith) ∙ ap (λ (t : List ℕ). bytes4 (number4 8 r) ++ t) end)
    ∙ sym (ap (λ (t : List ℕ). t ++ (0 ∷ 0 ∷ 0 ∷ 0 ∷ [])) (eight (number4 4 r) (number4 8 r) (four_low 4 r b)))

-- a record by its first four bytes and those behind
four_first : {k a b : ℕ} {end : List ℕ} (r : List ℕ) → 4 ≤ length r → byte 0 r ≡ k → byte 2 r ≡ a → byte 3 r ≡ b → drop 4 r ≡ end → r ≡ k ∷ byte 1 r ∷ a ∷ b ∷ end
four_first {k} {a} {b} r l p q s e =
    drop-cons r 0 0 (omega arith)
    ∙ ap₂ (λ (x : ℕ) (t : List ℕ). x ∷ t) p (drop-cons r 1 0 (omega arith))
    ∙ ap (λ (t : List ℕ). k ∷ byte 1 r ∷ t) (drop-cons r 2 0 (omega arith))
    ∙ ap₂ (λ (x : ℕ) (t : List ℕ). k ∷ byte 1 r ∷ x ∷ t) q (drop-cons r 3 0 (omega arith))
    ∙ ap₂ (λ (x : ℕ) (t : List ℕ). k ∷ byte 1 r ∷ a ∷ x ∷ t) s e

-- so it is that of its node and its value
value_is : (r : List ℕ) → length r ≡ 16 → Below 256 r → kind_of r ≡ 8 → Right r → r ≡ value_record (value_node_in r) (value_in r)
value_is r l b k w = four_first r (omega arith) k w.two w.three (value_end r l b w.rest)

-- RISING VALUE RECORDS: from a node on, and below another
record Valued (low n : ℕ) (r : List ℕ) : Type 0 where
  same : r ≡ value_record (value_node_in r) (value_in r)
  some : eqb (value_in r) 0 ≡ false
  from : low ≤ value_node_in r
  below : value_node_in r < n

abbrev Rising : ℕ → ℕ → List (List ℕ) → Type 0
Rising low n [] = Unit {0}
Rising low n (r ∷ rs) = Valued low n r × Rising (suc (value_node_in r)) n rs

-- those of records that reading takes are such
rising : (rs : List (List ℕ)) (t : ReadStage) → 1 ≤ t.at → (after_each t rs).wrong ≡ 0 → every sixteen rs ≡ true → AllBytes rs → Rising t.next t.size (keep of_value rs)
unfolding keep every
rising [] t h k l b = tt
rising (r ∷ rs) t h k l b =
    let w = went t r rs k in
    let o = order_later t (kind_of r) h w.order in
    let u : ReadStage = past_record t (kind_of r) r in
    let ih = rising rs u (omega (arith, o.1)) w.on (and_right (sixteen r) (every sixteen rs) l) b.1 in
    let size : u.size ≡ t.size = ap (λ (c : Bool). cond c (size_in r) t.size) (ne_eqb (kind_of r) 1 (λ e. omega (arith, o.0))) in
    let more : (c : Bool) → of_value r ≡ c → Rising (cond c (suc (value_node_in r)) t.next) t.size (keep of_value rs) =
    λ c e. subst (λ (n : ℕ). Rising (cond c (suc (value_node_in r)) t.next) n (keep of_value rs)) size
    (subst (λ (d : Bool). Rising (cond d (suc (value_node_in r)) t.next) u.size (keep of_value rs)) e ih) in
    bool (of_value r)
    (λ e. let kind = eqb-true (kind_of r) 8 e in
    let x = right r kind w.right in
    let from : Bool = leb t.next (value_node_in r) in
    let below : Bool = ltb (value_node_in r) t.size in
    let turn : (from && below) ≡ true = sym (ap (λ (c : Bool). not c || from && below) e) ∙ w.turn in
    subst (λ (c : Bool). Rising t.next t.size (kept_if c r (keep of_value rs))) (sym e) (
      record {
        same = value_is r (eqb-true (length r) 16 (and_left (sixteen r) (every sixteen rs) l)) b.0 kind x;
        some = x.some;
        from = leb-true t.next (value_node_in r) (and_left from below turn);
        below = ltb-true (value_node_in r) t.size (and_right from below turn);
      },
      more true e,
    ))
    (λ e. subst (λ (c : Bool). Rising t.next t.size (kept_if c r (keep of_value rs))) (sym e) (more false e))

-- and they are the value records of some m values
record Spread (m node : ℕ) (rs : List (List ℕ)) : Type 0 where
  values : List ℕ
  long : length values ≡ m
  same : value_records node values ≡ rs

spread : (m node n : ℕ) (rs : List (List ℕ)) → node + m ≡ n → Rising node n rs → Spread m node rs
unfolding value_records
spread zero node n [] e h = record { values = []; long = refl; same = refl }
spread zero node n (r ∷ rs) e h = absurd (omega (arith, h.0.from, h.0.below))
spread (suc m) node n [] e h = let s = spread m (suc node) n [] (omega arith) tt in record { values = 0 ∷ s.values; long = ap suc s.long; same = s.same }
spread (suc m) node n (r ∷ rs) e h =
    let v = h.0 in
    bool (eqb node (value_node_in r))
    (λ q. let here = eqb-true node (value_node_in r) q in
    let s = spread m (suc node) n rs (omega arith) (subst (λ (x : ℕ). Rising (suc x) n rs) (sym here) h.1) in
    record {
      values = value_in r ∷ s.values;
      long = ap suc s.long;
      same = ap (λ (c : Bool). kept_if (not c) (value_record node (value_in r)) (value_records (suc node) s.values)) v.some
          ∙ ap₂ (λ (x : List ℕ) (xs : List (List ℕ)). x ∷ xs) (ap (λ (x : ℕ). value_record x (value_in r)) here ∙ sym v.same) s.same;
    })
    (λ q. let s = spread m (suc node) n (r ∷ rs) (omega arith) (
      record { same = v.same; some = v.some; from = omega (arith, v.from, eqb-false node (value_node_in r) q); below = v.below },
      h.1,
    ) in
    record { values = 0 ∷ s.values; long = ap suc s.long; same = s.same })

-- THE VALUES of records that reading takes, written again, are the value records
again : (n : ℕ) (rs : List (List ℕ)) → Rising 0 n (keep of_value rs) → value_records 0 (values_in n rs) ≡ keep of_value rs
again n rs h =
    let s = spread n 0 n (keep of_value rs) (omega arith) h in
    ap (value_records 0)
    (sym (values_kept rs (replicate n 0))
    ∙ ap (values_from (replicate n 0)) (sym s.same)
    ∙ ap (λ (m : ℕ). values_from (replicate m 0) (value_records 0 s.values)) (sym s.long)
    ∙ values_over [] s.values)
    ∙ s.same

taken_rising : (rs : List (List ℕ)) → Taken rs → every sixteen rs ≡ true → AllBytes rs → Rising 0 (size_of rs) (keep of_value rs)
unfolding keep every
taken_rising [] h l b = tt
taken_rising (r ∷ rs) h l b =
    subst (λ (c : Bool). Rising 0 (size_in r) (kept_if c r (keep of_value rs))) (sym (head_no_value r (first_head r rs h)))
    (rising rs (reached 1 (size_in r) 0) (omega arith) (first r rs h).on (and_right (sixteen r) (every sixteen rs) l) b.1)

-- OF RECORDS: cut after no steps they are the same
pub cut_none : (rs : List (List ℕ)) → Taken rs → every sixteen rs ≡ true → AllBytes rs → cut_records rs 0 ≡ rs
unfolding cut_records run
cut_none rs h l b =
    ap (λ (vs : List (List ℕ)). head_records rs ++ (vs ++ step_records rs)) (again (size_of rs) rs (taken_rising rs h l b)) ∙ sym (shape rs h)

-- THE THEOREM: a file cut after no steps is the same file, to the byte
pub cut_nothing : (file room : List ℕ) → Below 256 file → cut_refusal file 0 room ≡ none → cut_file file 0 room ≡ record { answer = done (whole_blocks file); room = over file room }
unfolding cut_file
cut_nothing file room b e =
    let bytes : List ℕ = file_records file in
    let rs : List (List ℕ) = file_rows file in
    let n : ℕ = length bytes / 16 in
    let read = (uncut file 0 room e).read in
    let a = accepted file read in
    let f = refusal_none (file_checks file) read in
    let all : take (16 * length rs) (bytes_of rs) ≡ bytes =
    ap (take (16 * length rs)) (bytes_behind 0 n bytes (omega (arith, a.bytes))) ∙ take_all (16 * length rs) bytes (omega (arith, a.bytes)) in
    let same : blocks_of_all rs ≡ file =
    ap₂ (λ (k : ℕ) (t : List ℕ). blocks_of k 0 t) a.fill all ∙ read_write (whole_blocks file) 0 begun file a.whole b (accepted_none file f.1.0 f.1.1.0) in
    ap₂ (λ (o : Option ℕ) (cs : List (List ℕ)). leaving o (blocks_for (length cs)) (blocks_of_all cs) room) e
    (cut_none rs a.taken a.each (each_bytes n bytes (records_bytes (whole_blocks file) file b)))
    ∙ ap₂ (λ (k : ℕ) (t : List ℕ). leaving none k t room) a.fill same
