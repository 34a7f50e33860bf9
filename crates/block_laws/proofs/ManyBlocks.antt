-- The blocks of a file: a file that reading takes is that of its records, and the file of records, read, gives them back. Assumes nothing.
use mathlib.Core.Path.{◌≡◌, refl, sym, ap, ◌∙◌}
use mathlib.Core.Bool.{Bool, true, ◌||◌}
use mathlib.Core.List.{List, [], ◌∷◌, ◌++◌, append-nil}
use Prim.Native.Nat.{ℕ, zero, suc, ◌+◌, ◌*◌, ◌-◌, ◌^◌, ◌<◌, ◌≤◌, min}
use native.Mathlib.Omega.{arith}
use borrow.Author.Tests.{eqb-true, eq-eqb}
use lib.Dec.{eqb, eqb-suc-zero}
use lib.ListN.{length, take, drop, length-append, length-drop, length-take, take-append-drop, drop_of_length-le}
use lib.Seq.{length-take-le, take_at, drop_at, take_all}
use Rattle.lists.specs.Lists.{Below}
use Rattle.blocks.specs.Record.{ReadStage}
use Rattle.blocks.specs.Block.{count_in, after_records, after_block, records_in, block_of}
use Rattle.blocks.specs.File.{after_blocks, records_of, blocks_of}
use Rattle.blocks.proofs.Stages.{Good, first_good}
use Rattle.blocks.proofs.Making.{length_block}
use Rattle.block_laws.proofs.Pieces.{records_prefix, records_append, records_before, bytes_drop, bytes_take}
use Rattle.block_laws.proofs.OneBlock.{block_is, block_reads, records_block}

-- the records of a good block
length_in : (number : ℕ) (last : Bool) (t : ReadStage) (b : List ℕ) → length b ≡ 512 → Good number last t b → length (records_in b) ≡ 16 * count_in b
unfolding records_in
length_in number last t b l g =
    length-take-le (16 * count_in b) (drop 8 b) (simp length-drop (omega (arith, g.head.high)))

-- the first block's records are what the first 31 of all records are
chunk : (k n : ℕ) (c t : List ℕ) → length c ≡ 16 * n → n ≤ 31 → (eqb k 0 || eqb n 31) ≡ true → (k ≡ 0 → t ≡ [])
    → (take 496 (c ++ t) ≡ c) × (drop 496 (c ++ t) ≡ t)
chunk zero n c t l h f none =
    let e : t ≡ [] = none refl in
    let a : c ++ t ≡ c = rw e (append-nil c) in
    let m : length c ≤ 496 = omega arith in
    (ap (λ (x : List ℕ). take 496 x) a ∙ take_all 496 c m, ap (λ (x : List ℕ). drop 496 x) a ∙ drop_of_length-le c m ∙ sym e)
chunk (suc k) n c t l h f none =
    let e : n ≡ 31 = eqb-true n 31 (rw eqb-suc-zero at f) in
    let m : length c ≡ 496 = omega arith in
    (take_at c t 496 m, drop_at c t 496 m)

none_of : (k : ℕ) (s : List ℕ) → k ≡ 0 → records_of k s ≡ []
unfolding records_of
none_of zero s e = refl
none_of (suc k) s e = absurd (omega arith)

read_step : (k number : ℕ) (t : ReadStage) (s : List ℕ) → length s ≡ 512 * suc k → Below 256 s → Good number (eqb k 0) t (take 512 s)
    → blocks_of k (suc number) (records_of k (drop 512 s)) ≡ drop 512 s
    → block_of number (take 496 (records_in (take 512 s) ++ records_of k (drop 512 s))) ++ blocks_of k (suc number) (drop 496 (records_in (take 512 s) ++ records_of k (drop 512 s))) ≡ s
read_step k number t s l h g ih =
    let lb : length (take 512 s) ≡ 512 = length-take-le 512 s (omega arith) in
    let ch = chunk k (count_in (take 512 s)) (records_in (take 512 s)) (records_of k (drop 512 s))
    (length_in number (eqb k 0) t (take 512 s) lb g) g.head.high g.head.full (none_of k (drop 512 s)) in
    ap (λ (x : List ℕ). block_of number x ++ blocks_of k (suc number) (drop 496 (records_in (take 512 s) ++ records_of k (drop 512 s)))) ch.0
    ∙ ap (λ (x : List ℕ). block_of number (records_in (take 512 s)) ++ blocks_of k (suc number) x) ch.1
    ∙ ap (λ (x : List ℕ). x ++ blocks_of k (suc number) (records_of k (drop 512 s))) (block_is number (eqb k 0) t (take 512 s) lb (bytes_take 512 s h) g)
    ∙ ap (λ (x : List ℕ). take 512 s ++ x) ih
    ∙ take-append-drop 512 s

-- FROM THE FILE. A file that reading takes is written back byte for byte
pub read_write : (k number : ℕ) (t : ReadStage) (s : List ℕ) → length s ≡ 512 * k → Below 256 s → (after_blocks k number t s).wrong ≡ 0 → blocks_of k number (records_of k s) ≡ s
unfolding blocks_of records_of after_blocks
read_write zero number t [] l h good = refl
read_write zero number t (x ∷ s) l h good = absurd (omega arith)
read_write (suc k) number t s l h ok = read_step k number t s l h (first_good k number t s ok)
    (read_write k (suc number) (after_block number (eqb k 0) t (take 512 s)) (drop 512 s) (simp length-drop (omega arith)) (bytes_drop 512 s h) ok)

-- the number of records in k blocks
unfoldable pub total : ℕ → List ℕ → ℕ
total zero s = 0
total (suc k) s = count_in (take 512 s) + total k (drop 512 s)

-- the stage after a good block is the stage after its records
stage_in_law : (number : ℕ) (last : Bool) (t : ReadStage) (b : List ℕ) → length b ≡ 512 → Good number last t b → after_records t (count_in b) (records_in b) ≡ after_block number last t b
unfolding records_in
stage_in_law number last t b l g =
    sym (records_prefix (count_in b) t (take (16 * count_in b) (drop 8 b)) (drop (16 * count_in b) (drop 8 b)) (length_in number last t b l g))
    ∙ ap (λ (x : List ℕ). after_records t (count_in b) x) (take-append-drop (16 * count_in b) (drop 8 b))
    ∙ g.then

least_step : (k n t : ℕ) → (eqb k 0 || eqb n 31) ≡ true → 1 ≤ n → 31 * k < t + 31 → 31 * suc k < n + t + 31
least_step zero n t f h i = omega arith
least_step (suc k) n t f h i = let e : n ≡ 31 = eqb-true n 31 (rw eqb-suc-zero at f) in omega arith

-- the records of a file that reading takes are records that writing takes: the same stage, and as many as fill k blocks
pub read_accepts : (k number : ℕ) (t : ReadStage) (s : List ℕ) → length s ≡ 512 * k → (after_blocks k number t s).wrong ≡ 0
    → (length (records_of k s) ≡ 16 * total k s) × (total k s ≤ 31 * k) × (31 * k < total k s + 31) × (after_records t (total k s) (records_of k s) ≡ after_blocks k number t s)
unfolding total records_of after_blocks after_records
read_accepts zero number t s l ok = (omega arith, omega arith, omega arith, refl)
read_accepts (suc k) number t s l ok =
    let g = first_good k number t s ok in
    let lb : length (take 512 s) ≡ 512 = length-take-le 512 s (omega arith) in
    let c = length_in number (eqb k 0) t (take 512 s) lb g in
    let ih = read_accepts k (suc number) (after_block number (eqb k 0) t (take 512 s)) (drop 512 s) (simp length-drop (omega arith)) ok in (
      simp length-append (omega (arith, c, ih.0)),
      omega (arith, g.head.high, ih.1),
      least_step k (count_in (take 512 s)) (total k (drop 512 s)) g.head.full g.head.low ih.2,
      records_append (count_in (take 512 s)) (total k (drop 512 s)) t (records_in (take 512 s)) (records_of k (drop 512 s)) c
          ∙ ap (λ (x : ReadStage). after_records x (total k (drop 512 s)) (records_of k (drop 512 s))) (stage_in_law number (eqb k 0) t (take 512 s) lb g)
          ∙ ih.3,
    )

-- FROM THE RECORDS
full_of : (k n : ℕ) → 31 * suc k < n + 31 → (eqb k 0 || eqb (min 31 n) 31) ≡ true
full_of zero n h = refl
full_of (suc k) n h = let e : min 31 n ≡ 31 = omega arith in rw (eqb-suc-zero, eq-eqb (min 31 n) 31 e)

module _ (k number : ℕ) (t : ReadStage) (n m : ℕ) (r : List ℕ) (len : length (take 496 r) ≡ 16 * m) (most : m ≤ 31) (within : m ≤ n)
    (some : 1 ≤ m) (full : (eqb k 0 || eqb m 31) ≡ true) (fits : number < 2 ^ 32) (ok : (after_records t n r).wrong ≡ 0) where
  split : after_records t n r ≡ after_records (after_records t m (take 496 r)) (n - m) (drop 496 r)
  split =
      let e : n ≡ m + (n - m) = omega arith in
      ap (λ (x : ℕ). after_records t x r) e
      ∙ ap (λ (x : List ℕ). after_records t (m + (n - m)) x) (sym (take-append-drop 496 r))
      ∙ records_append m (n - m) t (take 496 r) (drop 496 r) len

  ok_rest : (after_records (after_records t m (take 496 r)) (n - m) (drop 496 r)).wrong ≡ 0
  ok_rest = sym (ap (λ (u : ReadStage). u.wrong) split) ∙ ok

  front : take 512 (block_of number (take 496 r) ++ blocks_of k (suc number) (drop 496 r)) ≡ block_of number (take 496 r)
  front = take_at (block_of number (take 496 r)) (blocks_of k (suc number) (drop 496 r)) 512 (length_block number (take 496 r) (omega arith))

  behind : drop 512 (block_of number (take 496 r) ++ blocks_of k (suc number) (drop 496 r)) ≡ blocks_of k (suc number) (drop 496 r)
  behind = drop_at (block_of number (take 496 r)) (blocks_of k (suc number) (drop 496 r)) 512 (length_block number (take 496 r) (omega arith))

  step_stage : after_blocks k (suc number) (after_records t m (take 496 r)) (blocks_of k (suc number) (drop 496 r)) ≡ after_records (after_records t m (take 496 r)) (n - m) (drop 496 r)
      → after_blocks (suc k) number t (block_of number (take 496 r) ++ blocks_of k (suc number) (drop 496 r)) ≡ after_records t n r
  unfolding after_blocks
  step_stage ih =
      ap (λ (x : List ℕ). after_blocks k (suc number) (after_block number (eqb k 0) t x) (drop 512 (block_of number (take 496 r) ++ blocks_of k (suc number) (drop 496 r)))) front
      ∙ ap (λ (x : List ℕ). after_blocks k (suc number) (after_block number (eqb k 0) t (block_of number (take 496 r))) x) behind
      ∙ ap (λ (x : ReadStage). after_blocks k (suc number) x (blocks_of k (suc number) (drop 496 r))) (block_reads number (take 496 r) m len most (eqb k 0) t fits some full (records_before n t r ok))
      ∙ ih
      ∙ sym split

  step_records_law : records_of k (blocks_of k (suc number) (drop 496 r)) ≡ drop 496 r
      → records_of (suc k) (block_of number (take 496 r) ++ blocks_of k (suc number) (drop 496 r)) ≡ r
  unfolding records_of
  step_records_law ih =
      ap (λ (x : List ℕ). records_in x ++ records_of k (drop 512 (block_of number (take 496 r) ++ blocks_of k (suc number) (drop 496 r)))) front
      ∙ ap (λ (x : List ℕ). records_in (block_of number (take 496 r)) ++ records_of k x) behind
      ∙ ap (λ (x : List ℕ). x ++ records_of k (blocks_of k (suc number) (drop 496 r))) (records_block number (take 496 r) m len most)
      ∙ ap (λ (x : List ℕ). take 496 r ++ x) ih
      ∙ take-append-drop 496 r

-- records that writing takes are read back the same
pub write_read : (k number : ℕ) (t : ReadStage) (n : ℕ) (r : List ℕ) → length r ≡ 16 * n → n ≤ 31 * k → 31 * k < n + 31 → number + k ≤ 2 ^ 32 → (after_records t n r).wrong ≡ 0
    → (after_blocks k number t (blocks_of k number r) ≡ after_records t n r) × (records_of k (blocks_of k number r) ≡ r)
unfolding blocks_of records_of after_blocks after_records
write_read zero number t zero [] l most least fits ok = (refl, refl)
write_read zero number t zero (x ∷ r) l most least fits ok = absurd (omega arith)
write_read zero number t (suc n) r l most least fits ok = absurd (omega arith)
write_read (suc k) number t n r l most least fits ok =
    let m : ℕ = min 31 n in
    let len : length (take 496 r) ≡ 16 * m = simp length-take (omega arith) in
    let m31 : m ≤ 31 = omega arith in
    let mn : m ≤ n = omega arith in
    let some : 1 ≤ m = omega arith in
    let full : (eqb k 0 || eqb m 31) ≡ true = full_of k n least in
    let fit : number < 2 ^ 32 = omega arith in
    let ih = write_read k (suc number) (after_records t m (take 496 r)) (n - m) (drop 496 r) (simp length-drop (omega arith)) (omega arith) (omega arith) (omega arith)
    (ok_rest k number t n m r len m31 mn some full fit ok) in
    (step_stage k number t n m r len m31 mn some full fit ok ih.0, step_records_law k number t n m r len m31 mn some full fit ok ih.1)
