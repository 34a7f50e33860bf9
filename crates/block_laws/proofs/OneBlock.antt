-- One block: a block that reading takes is the block of its records, and the block of records, read, gives them back. Assumes nothing.
use mathlib.Core.Path.{◌≡◌, refl, sym, ap, ◌∙◌}
use mathlib.Core.Bool.{Bool, true, ◌||◌}
use mathlib.Core.List.{List, [], ◌∷◌, ◌++◌, append_assoc}
use Prim.Native.Nat.{ℕ, ◌+◌, ◌*◌, ◌-◌, ◌/◌, ◌^◌, ◌<◌, ◌≤◌}
use native.Mathlib.Omega.{arith}
use borrow.Author.Tests.{eq-eqb, le-leb}
use lib.Dec.{eqb}
use lib.ListN.{length, take, drop, replicate, length-drop, length-take, take-append-drop}
use lib.Seq.{take-take, drop-drop, length-take-le, take_at, drop_at}
use Rattle.lists.specs.Lists.{every, Below}
use Rattle.octets.specs.Fletcher.{fletcher}
use Rattle.octets.specs.Bytes.{number4, bytes2, bytes4, zero_from}
use Rattle.blocks.specs.Record.{ReadStage}
use Rattle.blocks.specs.Block.{after_records, count_in, check_in, count_right, head_right, after_block, records_in, block_body, block_of}
use Rattle.blocks.proofs.Stages.{Head, Good}
use Rattle.blocks.proofs.Making.{length_body}
use Rattle.block_laws.proofs.Pieces.{zeros_are, zeros_pass, records_prefix, four, four_are, two, value4, number4_drop, bytes_drop, check_fits}

-- DECODED, THEN ENCODED. The records and zeros of a block, from byte 8 to byte 507
filled : (r : List ℕ) (n : ℕ) → length r ≡ 504 → n ≤ 31 → every (eqb 0) (drop (16 * n) (take 500 r)) ≡ true
    → take (16 * n) r ++ replicate (500 - 16 * n) 0 ≡ take 500 r
filled r n l h z =
    let m : length (drop (16 * n) (take 500 r)) ≡ 500 - 16 * n = simp (length-drop, length-take) (omega arith) in
    let e : drop (16 * n) (take 500 r) ≡ replicate (500 - 16 * n) 0 = rw m at (zeros_are (drop (16 * n) (take 500 r)) z) in
    ap (λ (t : List ℕ). t ++ replicate (500 - 16 * n) 0) (sym (take-take (16 * n) 500 r (omega arith)))
    ∙ ap (λ (t : List ℕ). take (16 * n) (take 500 r) ++ t) (sym e)
    ∙ take-append-drop (16 * n) (take 500 r)

-- the first 508 bytes of a block whose head is right are the body of its records
body_is : (number : ℕ) (last : Bool) (b : List ℕ) → length b ≡ 512 → Below 256 b → Head number last b → block_body number (records_in b) ≡ take 508 b
unfolding block_body records_in
body_is number last (x0 ∷ x1 ∷ x2 ∷ x3 ∷ x4 ∷ x5 ∷ x6 ∷ x7 ∷ r) l h d =
    let n : ℕ = x4 + 256 * x5 in
    let b0 : x0 < 256 = h 0 in
    let b1 : x1 < 256 = h 1 in
    let b2 : x2 < 256 = h 2 in
    let b3 : x3 < 256 = h 3 in
    let b4 : x4 < 256 = h 4 in
    let b5 : x5 < 256 = h 5 in
    let few : n ≤ 31 = d.high in
    let len : length (take (16 * n) r) ≡ 16 * n = length-take-le (16 * n) r (omega arith) in
    let count : 16 * n / 16 ≡ n = omega arith in
    let z6 : x6 ≡ 0 = omega (arith, d.gap) in
    let z7 : x7 ≡ 0 = omega (arith, d.gap) in
    let e4 : bytes4 number ≡ x0 ∷ x1 ∷ x2 ∷ x3 ∷ [] = ap bytes4 (sym d.is) ∙ sym (four x0 x1 x2 x3 b0 b1 b2 b3) in
    let e2 : bytes2 n ≡ x4 ∷ x5 ∷ [] = sym (two x4 x5 b4 b5) in
    let f : take (16 * n) r ++ replicate (500 - 16 * n) 0 ≡ take 500 r =
    filled r n (omega arith) few (ap (every (eqb 0)) (drop-drop (16 * n) 8 (x0 ∷ x1 ∷ x2 ∷ x3 ∷ x4 ∷ x5 ∷ x6 ∷ x7 ∷ take 500 r)) ∙ d.zeros) in
    ap (λ (t : List ℕ). t ++ bytes2 (length (take (16 * n) r) / 16) ++ (0 ∷ 0 ∷ []) ++ take (16 * n) r ++ replicate (500 - length (take (16 * n) r)) 0) e4
    ∙ ap (λ (k : ℕ). (x0 ∷ x1 ∷ x2 ∷ x3 ∷ []) ++ bytes2 (k / 16) ++ (0 ∷ 0 ∷ []) ++ take (16 * n) r ++ replicate (500 - k) 0) len
    ∙ ap (λ (k : ℕ). (x0 ∷ x1 ∷ x2 ∷ x3 ∷ []) ++ bytes2 k ++ (0 ∷ 0 ∷ []) ++ take (16 * n) r ++ replicate (500 - 16 * n) 0) count
    ∙ ap (λ (t : List ℕ). (x0 ∷ x1 ∷ x2 ∷ x3 ∷ []) ++ t ++ (0 ∷ 0 ∷ []) ++ take (16 * n) r ++ replicate (500 - 16 * n) 0) e2
    ∙ ap (λ (t : List ℕ). x0 ∷ x1 ∷ x2 ∷ x3 ∷ x4 ∷ x5 ∷ 0 ∷ 0 ∷ t) f
    ∙ ap (λ (k : ℕ). x0 ∷ x1 ∷ x2 ∷ x3 ∷ x4 ∷ x5 ∷ k ∷ 0 ∷ take 500 r) (sym z6)
    ∙ ap (λ (k : ℕ). x0 ∷ x1 ∷ x2 ∷ x3 ∷ x4 ∷ x5 ∷ x6 ∷ k ∷ take 500 r) (sym z7)
body_is number last [] l h d = absurd (omega arith)
body_is number last (x0 ∷ []) l h d = absurd (omega arith)
body_is number last (x0 ∷ x1 ∷ []) l h d = absurd (omega arith)
body_is number last (x0 ∷ x1 ∷ x2 ∷ []) l h d = absurd (omega arith)
body_is number last (x0 ∷ x1 ∷ x2 ∷ x3 ∷ []) l h d = absurd (omega arith)
body_is number last (x0 ∷ x1 ∷ x2 ∷ x3 ∷ x4 ∷ []) l h d = absurd (omega arith)
body_is number last (x0 ∷ x1 ∷ x2 ∷ x3 ∷ x4 ∷ x5 ∷ []) l h d = absurd (omega arith)
body_is number last (x0 ∷ x1 ∷ x2 ∷ x3 ∷ x4 ∷ x5 ∷ x6 ∷ []) l h d = absurd (omega arith)

-- a block that reading took is the block of its number and records
pub block_is : (number : ℕ) (last : Bool) (t : ReadStage) (b : List ℕ) → length b ≡ 512 → Below 256 b → Good number last t b → block_of number (records_in b) ≡ b
unfolding block_of
block_is number last t b l h g =
    let len : length (drop 508 b) ≡ 4 = simp length-drop (omega arith) in
    ap (λ (t : List ℕ). t ++ bytes4 (fletcher t)) (body_is number last b l h g.head)
    ∙ ap (λ (k : ℕ). take 508 b ++ bytes4 k) (sym g.check ∙ sym (number4_drop b))
    ∙ ap (λ (t : List ℕ). take 508 b ++ t) (sym (four_are (drop 508 b) (bytes_drop 508 b h) len))
    ∙ take-append-drop 508 b

-- ENCODED, THEN DECODED
head_back : (number : ℕ) (last : Bool) (b : List ℕ) → Head number last b → head_right number last b ≡ true
unfolding head_right count_right
head_back number last b d =
    simp (eq-eqb _ _ d.is, le-leb _ _ d.low, le-leb _ _ d.high, d.full, eq-eqb _ _ d.gap, d.zeros)

block_back : (number : ℕ) (last : Bool) (t : ReadStage) (b : List ℕ) → t.wrong ≡ 0 → check_in b ≡ fletcher (take 508 b) → Head number last b
    → after_block number last t b ≡ after_records t (count_in b) (drop 8 b)
unfolding after_block
block_back number last t b small check d =
    simp (small, eq-eqb _ _ check, head_back number last b d)

module _ (number : ℕ) (c : List ℕ) (m : ℕ) (len : length c ≡ 16 * m) (most : m ≤ 31) where
  few : length c ≤ 496
  few = omega arith

  take_block : take 508 (block_of number c) ≡ block_body number c
  unfolding block_of
  take_block = take_at (block_body number c) (bytes4 (fletcher (block_body number c))) 508 (length_body number c few)

  check_block : check_in (block_of number c) ≡ fletcher (take 508 (block_of number c))
  unfolding block_of
  check_block =
      sym (number4_drop (block_of number c))
      ∙ ap (λ (t : List ℕ). number4 0 t) (drop_at (block_body number c) (bytes4 (fletcher (block_body number c))) 508 (length_body number c few))
      ∙ value4 (fletcher (block_body number c)) (check_fits (block_body number c))
      ∙ sym (ap fletcher take_block)

  count_block : count_in (block_of number c) ≡ m
  unfolding block_of block_body
  count_block =
      let n : length c / 16 ≡ m = omega arith in
      rw n (omega arith)

  rest_block : drop 8 (block_of number c) ≡ c ++ (replicate (500 - length c) 0 ++ bytes4 (fletcher (block_body number c)))
  unfolding block_of block_body
  rest_block = append_assoc c (replicate (500 - length c) 0) (bytes4 (fletcher (block_body number c)))

  zeros_block : zero_from (8 + 16 * m) (block_body number c) ≡ true
  unfolding block_body
  zeros_block =
      ap (every (eqb 0)) (sym (drop-drop (16 * m) 8 (block_body number c)) ∙ drop_at c (replicate (500 - length c) 0) (16 * m) len)
      ∙ zeros_pass (500 - length c)

  head_block : (last : Bool) → number < 2 ^ 32 → 1 ≤ m → (last || eqb m 31) ≡ true → Head number last (block_of number c)
  unfolding block_of block_body
  head_block last fits some full = record {
    is = value4 number fits;
    low = rw count_block some;
    high = rw count_block most;
    full = rw count_block full;
    gap = refl;
    zeros = rw (count_block, take_block) zeros_block;
  }

  -- the block of m records, read, gives the stage after them
  pub block_reads : (last : Bool) (t : ReadStage) → number < 2 ^ 32 → 1 ≤ m → (last || eqb m 31) ≡ true → t.wrong ≡ 0
      → after_block number last t (block_of number c) ≡ after_records t m c
  block_reads last t fits some full small =
      block_back number last t (block_of number c) small check_block (head_block last fits some full)
      ∙ ap (λ (n : ℕ). after_records t n (drop 8 (block_of number c))) count_block
      ∙ ap (λ (d : List ℕ). after_records t m d) rest_block
      ∙ records_prefix m t c (replicate (500 - length c) 0 ++ bytes4 (fletcher (block_body number c))) len

  -- and its records
  pub records_block : records_in (block_of number c) ≡ c
  unfolding records_in
  records_block =
      ap (λ (n : ℕ). take (16 * n) (drop 8 (block_of number c))) count_block
      ∙ ap (λ (t : List ℕ). take (16 * m) t) rest_block
      ∙ take_at c (replicate (500 - length c) 0 ++ bytes4 (fletcher (block_body number c))) (16 * m) len
