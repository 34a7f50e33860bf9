-- The table that relaxing starts from: each number twice, as a low and as a high, from the last node down. Assumes nothing.
use mathlib.Core.Path.{◌≡◌, refl, sym, ap, ◌∙◌}
use mathlib.Core.List.{List, ◌∷◌}
use Prim.Native.Nat.{ℕ, suc, ◌+◌, ◌*◌, ◌-◌, ◌≤◌, ◌<◌}
use native.Mathlib.Omega.{arith}
use lib.ListN.{length, get_or, set, take, drop, length-set, drop_of_length-le}
use lib.Seq.{drop-cons, drop-set-lt, get_or-set_same, get_or-take, length-take-le}
use Rattle.intervals.specs.Inner.{or_most, doubled}

-- two stores, side by side
pub two_set : (l : List ℕ) (i low high : ℕ) → 2 * i + 1 < length l → drop (2 * i) (set (set l (2 * i + 1) high) (2 * i) low) ≡ low ∷ high ∷ drop (2 * (i + 1)) l
two_set l i low high h =
    let a : length (set l (2 * i + 1) high) ≡ length l = length-set l (2 * i + 1) high in
    let b : length (set (set l (2 * i + 1) high) (2 * i) low) ≡ length l = length-set (set l (2 * i + 1) high) (2 * i) low ∙ a in
    let m : suc (2 * i) ≡ 2 * i + 1 = omega arith in
    let n : suc (2 * i + 1) ≡ 2 * (i + 1) = omega arith in
    drop-cons (set (set l (2 * i + 1) high) (2 * i) low) (2 * i) 0 (omega arith)
    ∙ rw (get_or-set_same (set l (2 * i + 1) high) (2 * i) low 0 (omega arith), drop-set-lt (suc (2 * i)) (set l (2 * i + 1) high) (2 * i) low (omega arith), m)
    (ap (λ (t : List ℕ). low ∷ t)
    (drop-cons (set l (2 * i + 1) high) (2 * i + 1) 0 (omega arith)
    ∙ rw (get_or-set_same l (2 * i + 1) high 0 h, drop-set-lt (suc (2 * i + 1)) l (2 * i + 1) high (omega arith), n) refl))

-- the loop, at a node: from its place on all is done
pub record Doubling (n : ℕ) (numbers table₀ : List ℕ) (node : ℕ) (table : List ℕ) : Type 0 where
  pub so_far : node ≤ n
  pub long : length table ≡ length table₀
  pub back : drop (2 * node) table ≡ doubled (drop node (take n numbers))

module _ (n : ℕ) (numbers table₀ : List ℕ) (enough : n ≤ length numbers) (whole : length table₀ ≡ 2 * n) where
  front : length (take n numbers) ≡ n
  front = length-take-le n numbers enough

  pub doubling_start : Doubling n numbers table₀ n table₀
  unfolding doubled
  doubling_start =
      record {
        so_far = omega arith;
        long = refl;
        back = rw (drop_of_length-le table₀ {i = 2 * n} (omega arith), drop_of_length-le (take n numbers) {i = n} (omega (arith, front))) refl;
      }

  module _ (node : ℕ) (table : List ℕ) (d : Doubling n numbers table₀ node table) where
    pub doubling_more : (low : ℕ) → 0 < node → low ≡ or_most (get_or numbers (node - 1) 0)
        → Doubling n numbers table₀ (node - 1) (set (set table (2 * (node - 1) + 1) (get_or numbers (node - 1) 0)) (2 * (node - 1)) low)
    unfolding doubled
    doubling_more low h e =
        let k : ℕ = node - 1 in
        let x : ℕ = get_or numbers k 0 in
        let s : k + 1 ≡ node = omega arith in
        let r : suc k ≡ node = omega arith in
        let same : x ≡ get_or (take n numbers) k 0 = sym (get_or-take n numbers k 0 (omega (arith, d.so_far))) in
        record {
          so_far = omega (arith, d.so_far);
          long = length-set (set table (2 * k + 1) x) (2 * k) low ∙ length-set table (2 * k + 1) x ∙ d.long;
          back =
              two_set table k low x (omega (arith, d.long, d.so_far))
              ∙ rw (s, d.back, e, same) (sym (ap doubled (drop-cons (take n numbers) k 0 (omega (arith, front, d.so_far)) ∙ ap (λ (j : ℕ). get_or (take n numbers) k 0 ∷ drop j (take n numbers)) r)));
        }

    pub doubling_end : node ≡ 0 → table ≡ doubled (take n numbers)
    doubling_end z = rw z at d.back
