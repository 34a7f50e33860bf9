-- The table that relaxing leaves, of a legal hierarchy, is the table of its intervals. Assumes nothing.
use mathlib.Core.Path.{◌≡◌, refl, sym, ap, ◌∙◌}
use mathlib.Core.List.{List, [], ◌∷◌}
use mathlib.Core.Bool.{true, false}
use Prim.Native.Nat.{ℕ, zero, suc, ◌+◌, ◌*◌, ◌≤◌, ◌<◌}
use native.Mathlib.Omega.{arith}
use lib.Dec.{eqb}
use lib.ListN.{length, get_or}
use borrow.Author.Tests.{eqb-true, eqb-false, ne_eqb, ltb-false}
use Rattle.lists.specs.Lists.{Below}
use Rattle.hierarchy.specs.Hierarchy.{Reach, Legal}
use Rattle.intervals.specs.Numbering.{numbering}
use Rattle.intervals.specs.Intervals.{low_of, high_of, intervals_from, interval_table}
use Rattle.hierarchy.specs.Inner.{Edges}
use Rattle.intervals.specs.Inner.{Best, lows, highs, or_most, doubled}
use Rattle.lists.proofs.Bools.{bool}
use Rattle.hierarchy.proofs.Reaches.{reach_within}
use Rattle.hierarchy.proofs.Legals.{Promise, promised}
use Rattle.intervals.proofs.Extremes.{numbering_long, low_most, low_is, high_least, high_is}
use Rattle.intervals.proofs.Tables.{lows_long, lows_at, highs_at}

-- the edges of a legal hierarchy
pub legal_edges : (n : ℕ) (edges : List ℕ) (count : ℕ) → Legal n edges count → 2 * count ≤ length edges → Edges n count edges
legal_edges n edges count legal h =
    let promise = promised n edges count legal in
    record { table = h; below = λ p c e. ((promise.edge p c e).parent_below, (promise.edge p c e).child_below) }

-- ---- what relaxing starts from

low_start : (ns : List ℕ) (i : ℕ) → i < length ns → get_or (lows (doubled ns)) i 0 ≡ or_most (get_or ns i 0)
unfolding lows doubled
low_start [] i h = absurd (omega arith)
low_start (x ∷ xs) zero h = refl
low_start (x ∷ xs) (suc i) h = low_start xs i (omega arith)

high_start : (ns : List ℕ) → highs (doubled ns) ≡ ns
unfolding highs doubled
high_start [] = refl
high_start (x ∷ xs) = ap (λ (l : List ℕ). x ∷ l) (high_start xs)

small_start : (k : ℕ) (ns : List ℕ) → 1 ≤ k → Below k (doubled ns) → Below k ns
unfolding doubled
small_start k [] h b i = b i
small_start k (x ∷ xs) h b zero = b 1
small_start k (x ∷ xs) h b (suc i) = small_start k xs h (λ j. b (suc (suc j))) i

or_most_some_law : (x : ℕ) → 1 ≤ x → or_most x ≡ x
or_most_some_law x h = rw (ne_eqb x 0 (λ e. omega arith)) refl

or_most_least_law : (x y : ℕ) → y ≤ 65535 → (1 ≤ x → y ≤ x) → y ≤ or_most x
or_most_least_law x y h f =
    bool (eqb x 0)
    (λ e. rw e h)
    (λ e. let d = eqb-false x 0 e in rw e (f (omega (arith, d))))

-- ---- a table by its places

table_is : (n : ℕ) (es : List ℕ) (k node : ℕ) (t : List ℕ) → length t ≡ 2 * k
    → ((i : ℕ) → i < k → (get_or t (2 * i) 0 ≡ low_of n es (node + i)) × (get_or t (2 * i + 1) 0 ≡ high_of n es (node + i)))
    → t ≡ intervals_from n es k node
unfolding intervals_from
table_is n es zero node [] h f = refl
table_is n es zero node (a ∷ t) h f = absurd (omega arith)
table_is n es (suc k) node [] h f = absurd (omega arith)
table_is n es (suc k) node (a ∷ []) h f = absurd (omega arith)
table_is n es (suc k) node (a ∷ b ∷ t) h f =
    let z : node + 0 ≡ node = omega arith in
    rw (← table_is n es k (suc node) t (omega arith) (λ i l. later i (f (suc i) (omega arith))), ← z, ← (f 0 (omega arith)).0, ← (f 0 (omega arith)).1) refl
  where
    later : (i : ℕ) → (get_or (a ∷ b ∷ t) (2 * suc i) 0 ≡ low_of n es (node + suc i)) × (get_or (a ∷ b ∷ t) (2 * suc i + 1) 0 ≡ high_of n es (node + suc i))
        → (get_or t (2 * i) 0 ≡ low_of n es (suc node + i)) × (get_or t (2 * i + 1) 0 ≡ high_of n es (suc node + i))
    later i g =
        let p : 2 * suc i ≡ suc (suc (2 * i)) = omega arith in
        let q : suc (suc (2 * i)) + 1 ≡ suc (suc (2 * i + 1)) = omega arith in
        let r : node + suc i ≡ suc node + i = omega arith in
        rw (p, q, r) at g

-- ---- what relaxing leaves

module _ (n : ℕ) (es : List ℕ) (promise : Promise n es) (start table : List ℕ) (is : start ≡ doubled (numbering n es)) (small : Below 65536 start)
    (long : length table ≡ 2 * n) (lowest : Best false es (lows start) (lows table)) (highest : Best true es (highs start) (highs table)) where
  abbrev number : ℕ → ℕ
  number x = get_or (numbering n es) x 0

  few : (x : ℕ) → number x < 65536
  few = small_start 65536 (numbering n es) (omega arith) (rw is at small)

  half : length (lows table) ≡ n
  half = omega (arith, lows_long table)

  within : (node x : ℕ) → node < n → Reach es node x → x < n
  within node x h w = reach_within n (λ p c e. (promise.edge p c e).child_below) w h

  low_value : (x : ℕ) → x < n → get_or (lows start) x 0 ≡ or_most (number x)
  low_value x h = rw is (low_start (numbering n es) x (omega (arith, numbering_long n es promise)))

  high_value : (x : ℕ) → get_or (highs start) x 0 ≡ number x
  high_value x = ap (λ (l : List ℕ). get_or l x 0) (ap highs is ∙ high_start (numbering n es))

  is_low : (node : ℕ) → node < n → get_or (lows table) node 0 ≡ low_of n es node
  is_low node h =
      let f = lowest.from node in
      let a : low_of n es node ≤ or_most (number f.of) =
      or_most_least_law (number f.of) (low_of n es node) (low_is n es promise node h (λ k. k ≤ 65535) (λ x w k. omega (arith, few x))) (low_most n es promise node h f.of f.way) in
      let b : get_or (lows table) node 0 ≤ low_of n es node =
      low_is n es promise node h (λ k. get_or (lows table) node 0 ≤ k)
      (λ x w k. omega (arith, ltb-false (get_or (lows start) x 0) (get_or (lows table) node 0) (lowest.over node x w), low_value x (within node x h w), or_most_some_law (number x) k)) in
      omega (arith, f.same, low_value f.of (within node f.of h f.way))

  is_high : (node : ℕ) → node < n → get_or (highs table) node 0 ≡ high_of n es node
  is_high node h =
      let f = highest.from node in
      let a : high_of n es node ≤ get_or (highs table) node 0 =
      high_is n es promise node h (λ k. k ≤ get_or (highs table) node 0)
      (λ x w k. omega (arith, ltb-false (get_or (highs table) node 0) (get_or (highs start) x 0) (highest.over node x w), high_value x)) in
      let b : number f.of ≤ high_of n es node =
      bool (eqb (number f.of) 0)
      (λ e. omega (arith, eqb-true (number f.of) 0 e))
      (λ e. let d = eqb-false (number f.of) 0 e in high_least n es promise node h f.of f.way (omega (arith, d))) in
      omega (arith, f.same, high_value f.of)

  pub written : table ≡ interval_table n es
  unfolding interval_table
  written =
      table_is n es n 0 table long
      (λ i l.
      let e : i ≡ 0 + i = omega arith in (
        sym (lows_at table i (omega (arith, half))) ∙ is_low i l ∙ ap (low_of n es) e,
        sym (highs_at table i (omega (arith, half))) ∙ is_high i l ∙ ap (high_of n es) e,
      ))
