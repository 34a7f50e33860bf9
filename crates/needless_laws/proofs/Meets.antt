-- The reaches of named nodes meet just where those of two of them do. Assumes nothing.
use mathlib.Core.Path.{◌≡◌, refl, sym, ◌∙◌}
use mathlib.Core.List.{List}
use mathlib.Core.Bool.{Bool, true, ◌&&◌}
use Prim.Native.Nat.{ℕ, ◌<◌}
use native.Mathlib.Omega.{arith}
use lib.Dec.{ltb}
use borrow.Author.Tests.{ltb-true, ltb-false}
use Rattle.lists.specs.Lists.{any}
use Rattle.lists.proofs.Bools.{bool, not_both, both_ways, and_left, and_right, and_both}
use Rattle.lists.proofs.Bounded.{any_stop}
use Rattle.lists.proofs.Members.{In}
use Rattle.lists.proofs.Distinct.{any_some, any_in, any_found}
use Rattle.hierarchy.specs.Hierarchy.{edges_of, Reach, flagged, reach, in_reach, Legal}
use Rattle.hierarchy.proofs.Reaches.{reach_within}
use Rattle.hierarchy.proofs.Legals.{promised}
use Rattle.interval_laws.proofs.Laws.{reach_agrees}
use Rattle.reach_sets.specs.Sets.{has, set_at, set_table}
use Rattle.reach_sets.proofs.Nodes.{has_past}
use Rattle.reach_sets.proofs.Fills.{on_flag, flag_on}
use Rattle.reach_sets.proofs.Calls.{reach_set}
use Rattle.needless.specs.Waits.{reaches_meet}
use Rattle.needless_laws.specs.Visits.{nodes_meet}

-- of names that are one node, however often, it is that node's
any_one : (p : ℕ → Bool) (xs : List ℕ) (x : ℕ) → In x xs → ((r : ℕ) → In r xs → r ≡ x) → any p xs ≡ p x
any_one p xs x i same =
    both_ways (any p xs) (p x)
    (λ t. let m = any_found p xs t in rw (same m.0 m.1) at m.2)
    (any_in p i)

module _ (n : ℕ) (es : List ℕ) where
  -- THE REACH OF THE NAMES MEETS THAT OF OTHERS where the reach of one of the names meets that of one of the others
  pub meet_pairs : (names others : List ℕ) → reaches_meet n es names others ≡ any (λ a. any (λ b. nodes_meet n es a b) others) names
  meet_pairs names others =
      both_ways (reaches_meet n es names others) (any (λ a. any (λ b. nodes_meet n es a b) others) names)
      (λ t.
      let (z, h, c) = any_some (λ node. in_reach n es names node && in_reach n es others node) n t in
      let (a, i, p) = any_found (λ name. flagged (reach n es name) z) names (and_left (in_reach n es names z) (in_reach n es others z) c) in
      let (b, j, q) = any_found (λ name. flagged (reach n es name) z) others (and_right (in_reach n es names z) (in_reach n es others z) c) in
      any_in (λ a. any (λ b. nodes_meet n es a b) others) i
      (any_in (λ b. nodes_meet n es a b) j
      (any_stop (λ node. flagged (reach n es a) node && flagged (reach n es b) node) n z h (and_both (flagged (reach n es a) z) (flagged (reach n es b) z) p q))))
      (λ t.
      let (a, i, c) = any_found (λ a. any (λ b. nodes_meet n es a b) others) names t in
      let (b, j, d) = any_found (λ b. nodes_meet n es a b) others c in
      let (z, h, e) = any_some (λ node. flagged (reach n es a) node && flagged (reach n es b) node) n d in
      any_stop (λ node. in_reach n es names node && in_reach n es others node) n z h
      (and_both (in_reach n es names z) (in_reach n es others z)
      (any_in (λ name. flagged (reach n es name) z) i (and_left (flagged (reach n es a) z) (flagged (reach n es b) z) e))
      (any_in (λ name. flagged (reach n es name) z) j (and_right (flagged (reach n es a) z) (flagged (reach n es b) z) e))))

  -- so, of names that are one node on each side, where the reaches of these two do
  pub meet_one : (names others : List ℕ) (x y : ℕ) → In x names → ((r : ℕ) → In r names → r ≡ x) → In y others → ((r : ℕ) → In r others → r ≡ y)
      → reaches_meet n es names others ≡ nodes_meet n es x y
  meet_one names others x y i same j same' =
      meet_pairs names others
      ∙ any_one (λ a. any (λ b. nodes_meet n es a b) others) names x i same
      ∙ any_one (λ b. nodes_meet n es x b) others y j same'

-- BY WAYS. In a legal hierarchy
module _ (n : ℕ) (table : List ℕ) (edge_count : ℕ) (legal : Legal n table edge_count) where
  abbrev ways : List ℕ
  ways = edges_of table edge_count

  -- a node has a flag where it is reached
  pub flag_reached : (a z : ℕ) → a < n → Reach ways a z → flagged (reach n ways a) z ≡ true
  flag_reached a z h w = on_flag (reach n ways a) z ((reach_agrees n table edge_count legal a z h).0 w)

  pub reached_flag : (a z : ℕ) → a < n → flagged (reach n ways a) z ≡ true → Reach ways a z
  reached_flag a z h e = (reach_agrees n table edge_count legal a z h).1 (flag_on (reach n ways a) z e)

  -- the plain engine's set of a node has just the nodes that it reaches
  pub set_reach : (x y : ℕ) → x < n → (Reach ways x y → has (set_at (set_table n ways) x) y ≡ true) × (has (set_at (set_table n ways) x) y ≡ true → Reach ways x y)
  set_reach x y h = (
    λ w.
        let l : y < n = reach_within n (λ p c e. ((promised n table edge_count legal).edge p c e).child_below) w h in
        reach_set n ways x y (omega (arith, l, (promised n table edge_count legal).few)) ∙ flag_reached x y h w,
    λ t. bool (ltb y 256)
        (λ e. reached_flag x y h (sym (reach_set n ways x y (ltb-true y 256 e)) ∙ t))
        (λ e. not_both (has (set_at (set_table n ways) x) y) t (has_past (set_at (set_table n ways) x) y refl (ltb-false y 256 e))),
  )

  -- THE REACH OF NAMED NODES MEETS THAT OF OTHERS just where a way leads from one of the names and a way from one of the others to one node
  pub meet_reach : (names others : List ℕ) → ((r : ℕ) → In r names → r < n) → ((r : ℕ) → In r others → r < n)
      → (reaches_meet n ways names others ≡ true → (a b z : ℕ) × In a names × In b others × Reach ways a z × Reach ways b z)
      × ((a b z : ℕ) × In a names × In b others × Reach ways a z × Reach ways b z → reaches_meet n ways names others ≡ true)
  meet_reach names others below below' = (
    λ t.
        let (z, h, e) = any_some (λ node. in_reach n ways names node && in_reach n ways others node) n t in
        let (a, i, p) = any_found (λ name. flagged (reach n ways name) z) names (and_left (in_reach n ways names z) (in_reach n ways others z) e) in
        let (b, j, q) = any_found (λ name. flagged (reach n ways name) z) others (and_right (in_reach n ways names z) (in_reach n ways others z) e) in
        (a, b, z, i, j, reached_flag a z (below a i) p, reached_flag b z (below' b j) q),
    λ m.
        let (a, b, z, i, j, v, w) = m in
        any_stop (λ node. in_reach n ways names node && in_reach n ways others node) n z
        (reach_within n (λ p c e. ((promised n table edge_count legal).edge p c e).child_below) v (below a i))
        (and_both (in_reach n ways names z) (in_reach n ways others z)
        (any_in (λ name. flagged (reach n ways name) z) i (flag_reached a z (below a i) v))
        (any_in (λ name. flagged (reach n ways name) z) j (flag_reached b z (below' b j) w))),
  )
