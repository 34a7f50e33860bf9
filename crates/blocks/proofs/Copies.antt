-- The records of a file, written block by block. Assumes nothing.
use mathlib.Core.Path.{◌≡◌, sym, ap, ◌∙◌}
use mathlib.Core.List.{List, ◌++◌}
use Prim.Native.Nat.{ℕ, suc, ◌+◌, ◌*◌, ◌-◌, ◌<◌, ◌≤◌}
use native.Mathlib.Omega.{arith}
use lib.ListN.{length, take, drop, length-append, length-drop}
use lib.Seq.{drop-drop, length-take-le}
use Rattle.lists.specs.Lists.{over}
use Rattle.blocks.specs.Block.{count_in, records_in}
use Rattle.blocks.specs.File.{records_of}
use Rattle.octets.specs.Writes.{over_at}
use Rattle.octets.proofs.Writes.{over_over, over_none, over_first}

-- the records of one block, as the code finds them
pub in_block : (b : List ℕ) {n : ℕ} → n ≡ count_in b → take (8 + 16 * n - 8) (drop 8 b) ≡ records_in b
unfolding records_in
in_block b {n} e = let w : 8 + 16 * n - 8 ≡ 16 * n = omega arith in rw (w, e)

pub in_length : (b : List ℕ) {n : ℕ} → n ≡ count_in b → length b ≡ 512 → count_in b ≤ 31 → 16 * n ≡ length (records_in b)
unfolding records_in
in_length b {n} e l h = rw e (sym (length-take-le (16 * count_in b) (drop 8 b) (simp length-drop (omega arith))))

-- what is left to be written: the next block's records, and then the rest
next_records : (s : List ℕ) (k i : ℕ) → i < k
    → records_of (k - i) (drop (512 * i) s) ≡ records_in (take (512 * i + 512 - 512 * i) (drop (512 * i) s)) ++ records_of (k - (i + 1)) (drop (512 * (i + 1)) s)
unfolding records_of
next_records s k i h =
    let m : k - i ≡ suc (k - (i + 1)) = omega arith in
    let w : 512 * i + 512 - 512 * i ≡ 512 = omega arith in
    let d : 512 * (i + 1) ≡ 512 * i + 512 = omega arith in
    rw (w, m, d, ← drop-drop 512 (512 * i) s)

pub copy_start : (d s : List ℕ) (k : ℕ) → over_at 0 (records_of (k - 0) s) d ≡ over (records_of k s) d
copy_start d s k = let z : k - 0 ≡ k = omega arith in rw z (over_first (records_of k s) d)

pub copy_start_length : (s : List ℕ) (k : ℕ) → 0 + length (records_of (k - 0) s) ≡ length (records_of k s)
copy_start_length s k = let z : k - 0 ≡ k = omega arith in rw z (omega arith)

-- one block's records are written
module _ (s : List ℕ) (k i : ℕ) (h : i < k) (d d' : List ℕ) (to n : ℕ)
    (room : to + 496 ≤ length d) (few : n ≤ 496)
    (size : n ≡ length (records_in (take (512 * i + 512 - 512 * i) (drop (512 * i) s))))
    (wrote : d' ≡ over_at to (records_in (take (512 * i + 512 - 512 * i) (drop (512 * i) s))) d) where
  pub copy_step : over_at (to + n) (records_of (k - (i + 1)) (drop (512 * (i + 1)) s)) d' ≡ over_at to (records_of (k - i) (drop (512 * i) s)) d
  copy_step =
      ap (λ (x : List ℕ). over_at (to + n) (records_of (k - (i + 1)) (drop (512 * (i + 1)) s)) x) wrote
      ∙ ap (λ (x : ℕ). over_at (to + x) (records_of (k - (i + 1)) (drop (512 * (i + 1)) s)) (over_at to (records_in (take (512 * i + 512 - 512 * i) (drop (512 * i) s))) d)) size
      ∙ over_over d to (records_in (take (512 * i + 512 - 512 * i) (drop (512 * i) s))) (records_of (k - (i + 1)) (drop (512 * (i + 1)) s)) (omega arith)
      ∙ ap (λ (x : List ℕ). over_at to x d) (sym (next_records s k i h))

  pub copy_length : to + n + length (records_of (k - (i + 1)) (drop (512 * (i + 1)) s)) ≡ to + length (records_of (k - i) (drop (512 * i) s))
  copy_length = rw (next_records s k i h) (simp length-append (omega arith))

pub copy_end : (s d : List ℕ) (k i to : ℕ) → k ≤ i → d ≡ over_at to (records_of (k - i) (drop (512 * i) s)) d
unfolding records_of
copy_end s d k i to h = let z : k - i ≡ 0 = omega arith in rw z (sym (over_none d to))

pub copy_end_length : (s : List ℕ) (k i to : ℕ) → k ≤ i → to ≡ to + length (records_of (k - i) (drop (512 * i) s))
unfolding records_of
copy_end_length s k i to h = let z : k - i ≡ 0 = omega arith in rw z (omega arith)
