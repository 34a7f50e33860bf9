-- A block, written from its front to its back, and the blocks of records, one by one. Assumes nothing.
use mathlib.Core.Path.{◌≡◌, sym, ap, ◌∙◌}
use mathlib.Core.List.{List, [], ◌∷◌, ◌++◌}
use Prim.Native.Nat.{ℕ, suc, ◌+◌, ◌*◌, ◌-◌, ◌/◌, ◌%◌, ◌<◌, ◌≤◌, min}
use native.Mathlib.Numerals.{add-one}
use native.Mathlib.Omega.{arith}
use borrow.Author.Tests.{leb-true, leb-false}
use lib.Dec.{leb}
use lib.ListN.{length, take, drop, replicate, length-append, length-replicate, length-drop, length-take}
use lib.Seq.{drop-drop, take_all}
use Rattle.lists.specs.Lists.{over}
use Rattle.lists.proofs.Bools.{bool}
use Rattle.octets.specs.Fletcher.{fletcher}
use Rattle.octets.specs.Bytes.{bytes2, bytes4}
use Rattle.blocks.specs.Block.{block_body, block_of}
use Rattle.blocks.specs.File.{blocks_of}
use Rattle.octets.specs.Writes.{over_at, put_at}
use Rattle.octets.proofs.Writes.{over_over, over_none, over_first, part_back, put_put, put_front, put_all}

pub length_body : (number : ℕ) (records : List ℕ) → length records ≤ 496 → length (block_body number records) ≡ 508
unfolding block_body
length_body number records h = simp (length-append, length-replicate) (omega arith)

pub length_block : (number : ℕ) (records : List ℕ) → length records ≤ 496 → length (block_of number records) ≡ 512
unfolding block_of
length_block number records h = simp (length-append, length_body number records h) (omega arith)

-- the count of records and the two zeros behind it are one number of four bytes
count_and_zeros : (n : ℕ) → n < 65536 → bytes4 n ≡ bytes2 n ++ (0 ∷ 0 ∷ [])
count_and_zeros n h =
    let second : n / 256 % 256 ≡ n / 256 = omega arith in
    let third : n / 65536 % 256 ≡ 0 = omega arith in
    let fourth : n / 16777216 ≡ 0 = omega arith in
    rw (second, third, fourth)

-- the five writes of a block
module _ (b : List ℕ) (number : ℕ) (records : List ℕ) (len : length b ≡ 512) (few : length records ≤ 496) where
  -- the count of records
  n : ℕ
  n = length records / 16

  -- the eight bytes before them
  head : List ℕ
  head = bytes4 number ++ bytes2 n ++ (0 ∷ 0 ∷ [])

  written_body : {d1 d2 d3 d4 : List ℕ}
      → d1 ≡ put_at 0 (bytes4 number) b
      → d2 ≡ put_at 4 (bytes4 (length records / 16)) d1
      → d3 ≡ put_at 8 records d2
      → d4 ≡ put_at (8 + length records) (replicate (508 - (8 + length records)) 0) d3
      → d4 ≡ put_at 0 (block_body number records) b
  unfolding block_body n head
  written_body {d1} {d2} {d3} {d4} p1 p2 p3 p4 =
      let zeros : List ℕ = replicate (500 - length records) 0 in
      let w : 508 - (8 + length records) ≡ 500 - length records = omega arith in
      let at : 8 + length records ≡ 0 + length (head ++ records) = simp length-append (omega arith) in
      let all : 0 + length (head ++ records) + length zeros ≤ length b = simp (length-append, length-replicate) (omega arith) in
      let h2 : d2 ≡ put_at 0 head b =
      p2 ∙ ap (λ (t : List ℕ). put_at 4 (bytes4 n) t) p1
      ∙ put_put b 0 (bytes4 number) (bytes4 n) (omega arith)
      ∙ ap (λ (t : List ℕ). put_at 0 (bytes4 number ++ t) b) (count_and_zeros n (omega arith)) in
      let h3 : d3 ≡ put_at 0 (head ++ records) b = p3 ∙ ap (λ (t : List ℕ). put_at 8 records t) h2 ∙ put_put b 0 head records (omega arith) in
      p4
      ∙ ap (λ (k : ℕ). put_at (8 + length records) (replicate k 0) d3) w
      ∙ ap (λ (t : List ℕ). put_at (8 + length records) zeros t) h3
      ∙ ap (λ (k : ℕ). put_at k zeros (put_at 0 (head ++ records) b)) at
      ∙ put_put b 0 (head ++ records) zeros all

  pub written_block : {d1 d2 d3 d4 d5 : List ℕ} {check : ℕ}
      → d1 ≡ put_at 0 (bytes4 number) b
      → d2 ≡ put_at 4 (bytes4 (length records / 16)) d1
      → d3 ≡ put_at 8 records d2
      → d4 ≡ put_at (8 + length records) (replicate (508 - (8 + length records)) 0) d3
      → check ≡ fletcher (take 508 d4)
      → d5 ≡ put_at 508 (bytes4 check) d4
      → d5 ≡ block_of number records
  unfolding block_of
  written_block {d4 = d4} {check = check} p1 p2 p3 p4 pc p5 =
      let body : List ℕ = block_body number records in
      let l : length body ≡ 508 = length_body number records few in
      let h4 : d4 ≡ put_at 0 body b = written_body p1 p2 p3 p4 in
      let c : check ≡ fletcher body = pc ∙ ap fletcher (ap (λ (t : List ℕ). take 508 t) h4 ∙ put_front b body 508 l (omega arith)) in
      let at : 508 ≡ 0 + length body = omega arith in
      p5
      ∙ ap (λ (k : ℕ). put_at 508 (bytes4 k) d4) c
      ∙ ap (λ (t : List ℕ). put_at 508 (bytes4 (fletcher body)) t) h4
      ∙ ap (λ (k : ℕ). put_at k (bytes4 (fletcher body)) (put_at 0 body b)) at
      ∙ put_put b 0 body (bytes4 (fletcher body)) (omega arith)
      ∙ put_all b (body ++ bytes4 (fletcher body)) (simp length-append (omega arith))

-- the code's part of the records is the next 31 of them, or what is left
next_part : (r : List ℕ) (a : ℕ) {to : ℕ} → to ≡ min (a + 496) (length r) → a ≤ length r → take (to - a) (drop a r) ≡ take 496 (drop a r)
next_part r a {to} e h =
    bool (leb (a + 496) (length r))
    (λ p. let q : a + 496 ≤ length r = leb-true _ _ p in
    let w : to - a ≡ 496 = omega arith in
    ap (λ (n : ℕ). take n (drop a r)) w)
    (λ p. let q : length r < a + 496 = leb-false _ _ p in
    take_all (to - a) (drop a r) (simp length-drop (omega arith))
    ∙ sym (take_all 496 (drop a r) (simp length-drop (omega arith))))

pub make_start : (d r : List ℕ) (k : ℕ) → over_at 0 (blocks_of (k - 0) 0 r) d ≡ over (blocks_of k 0 r) d
make_start d r k = let z : k - 0 ≡ k = omega arith in rw z (over_first (blocks_of k 0 r) d)

make_step : (d r : List ℕ) (k i : ℕ) → i < k → 512 * i + length (block_of i (take 496 (drop (496 * i) r))) ≤ length d → length (block_of i (take 496 (drop (496 * i) r))) ≡ 512
    → over_at (512 * (i + 1)) (blocks_of (k - (i + 1)) (i + 1) (drop (496 * (i + 1)) r)) (over_at (512 * i) (block_of i (take 496 (drop (496 * i) r))) d)
    ≡ over_at (512 * i) (blocks_of (k - i) i (drop (496 * i) r)) d
unfolding blocks_of
make_step d r k i h room len =
    let m : k - i ≡ suc (k - (i + 1)) = omega arith in
    let p : 512 * (i + 1) ≡ 512 * i + length (block_of i (take 496 (drop (496 * i) r))) = omega arith in
    let q : 496 * (i + 1) ≡ 496 * i + 496 = omega arith in
    ap (λ (n : ℕ). over_at n (blocks_of (k - (i + 1)) (i + 1) (drop (496 * (i + 1)) r)) (over_at (512 * i) (block_of i (take 496 (drop (496 * i) r))) d)) p
    ∙ over_over d (512 * i) (block_of i (take 496 (drop (496 * i) r))) (blocks_of (k - (i + 1)) (i + 1) (drop (496 * (i + 1)) r)) room
    ∙ rw (m, q, add-one, ← drop-drop 496 (496 * i) r)

pub make_end : (d r : List ℕ) (k i : ℕ) → k ≤ i → d ≡ over_at (512 * i) (blocks_of (k - i) i (drop (496 * i) r)) d
unfolding blocks_of
make_end d r k i h = let z : k - i ≡ 0 = omega arith in rw z (sym (over_none d (512 * i)))

-- one block is written in its part of the room
module _ (d r : List ℕ) (k i : ℕ) {to : ℕ} {ys : List ℕ} (h : i < k) (room : 512 * k ≤ length d) (some : 496 * i ≤ length r)
    (e : to ≡ min (496 * i + 496) (length r)) (wrote : ys ≡ block_of i (take (to - 496 * i) (drop (496 * i) r))) where
  few : length (take 496 (drop (496 * i) r)) ≤ 496
  few = simp length-take (omega arith)

  back : take (512 * i) d ++ (ys ++ drop (512 * i + 512 - 512 * i) (drop (512 * i) d)) ≡ over_at (512 * i) (block_of i (take 496 (drop (496 * i) r))) d
  back =
      let w : 512 * i + 512 - 512 * i ≡ 512 = omega arith in
      ap (λ (n : ℕ). take (512 * i) d ++ (ys ++ drop n (drop (512 * i) d))) w
      ∙ part_back d (512 * i) 512 (wrote ∙ ap (block_of i) (next_part r (496 * i) e some)) (length_block i (take 496 (drop (496 * i) r)) few)

  fits : 512 * i + length (block_of i (take 496 (drop (496 * i) r))) ≤ length d
  fits = omega (arith, length_block i (take 496 (drop (496 * i) r)) few)

  pub make_turn : over_at (512 * (i + 1)) (blocks_of (k - (i + 1)) (i + 1) (drop (496 * (i + 1)) r)) (take (512 * i) d ++ (ys ++ drop (512 * i + 512 - 512 * i) (drop (512 * i) d)))
      ≡ over_at (512 * i) (blocks_of (k - i) i (drop (496 * i) r)) d
  make_turn =
      ap (λ (t : List ℕ). over_at (512 * (i + 1)) (blocks_of (k - (i + 1)) (i + 1) (drop (496 * (i + 1)) r)) t) back
      ∙ make_step d r k i h fits (length_block i (take 496 (drop (496 * i) r)) few)
