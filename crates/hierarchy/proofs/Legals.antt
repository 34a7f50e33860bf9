-- What a legal hierarchy promises of its nodes and edges. Assumes nothing.
use mathlib.Core.Path.{◌≡◌}
use mathlib.Core.List.{List, [], ◌∷◌}
use mathlib.Core.Bool.{Bool, false, not, ◌&&◌, ◌||◌}
use Prim.Native.Nat.{ℕ, zero, suc, ◌≤◌, ◌<◌}
use native.Mathlib.Omega.{arith}
use lib.Dec.{eqb, leb, ltb}
use lib.ListN.{length, get_or}
use borrow.Author.Tests.{eqb-false, leb-true, ltb-true, not-false}
use Rattle.lists.specs.Lists.{any}
use Rattle.hierarchy.specs.Hierarchy.{edges_of, some_edge, Edge, Reach, edge_wrong, size_wrong, some_unreached, hierarchy_checks, reach, Legal}
use Rattle.hierarchy.specs.Hierarchy.Edge.{first, later}
use Rattle.lists.proofs.Bools.{and_left, and_right, or_left, or_right}
use Rattle.lists.proofs.Refusals.{refusal_none}
use Rattle.hierarchy.proofs.Reaches.{reach_only, reach_long}

-- a test that holds at no edge
pub no_edge : (p : ℕ → ℕ → Bool) {es : List ℕ} {a b : ℕ} → some_edge p es ≡ false → Edge es a b → p a b ≡ false
unfolding some_edge
no_edge p {a = a} {b = b} h (first {es = es}) = or_left (p a b) (some_edge p es) h
no_edge p h (later {a = a} {b = b} {es = es} e) = no_edge p (or_right (p a b) (some_edge p es) h) e

-- a test that holds at no element
pub none_at : (p : ℕ → Bool) (l : List ℕ) (i : ℕ) → any p l ≡ false → i < length l → p (get_or l i 0) ≡ false
unfolding any
none_at p [] i h l = absurd (omega arith)
none_at p (x ∷ xs) zero h l = or_left (p x) (any p xs) h
none_at p (x ∷ xs) (suc i) h l = none_at p xs i (or_right (p x) (any p xs) h) (omega arith)

-- an edge that is not wrong
pub record Sound_edge (n parent child : ℕ) : Type 0 where
  pub parent_below : parent < n
  pub child_below : child < n
  pub not_root : child ≡ 0 → ⊥
  pub not_same : parent ≡ child → ⊥

pub right_edge : (n parent child : ℕ) → edge_wrong n parent child ≡ false → Sound_edge n parent child
right_edge n p c h =
    let a = or_left (not (ltb p n) || not (ltb c n) || eqb c 0) (eqb p c) h in
    let b = or_left (not (ltb p n) || not (ltb c n)) (eqb c 0) a in
    record {
      parent_below = ltb-true p n (not-false (ltb p n) (or_left (not (ltb p n)) (not (ltb c n)) b));
      child_below = ltb-true c n (not-false (ltb c n) (or_right (not (ltb p n)) (not (ltb c n)) b));
      not_root = eqb-false c 0 (or_right (not (ltb p n) || not (ltb c n)) (eqb c 0) a);
      not_same = eqb-false p c (or_right (not (ltb p n) || not (ltb c n) || eqb c 0) (eqb p c) h);
    }

-- a legal hierarchy of n nodes with the edges es
pub record Promise (n : ℕ) (es : List ℕ) : Type 0 where
  pub some : 1 ≤ n
  pub few : n ≤ 256
  pub edge : (p c : ℕ) → Edge es p c → Sound_edge n p c
  pub reached : (node : ℕ) → node < n → Reach es 0 node

-- what n in 1 to 256 says
pub right_size : (n : ℕ) → size_wrong n ≡ false → (1 ≤ n) × (n ≤ 256)
right_size n h =
    let a = not-false (leb 1 n && leb n 256) h in
    (leb-true 1 n (and_left (leb 1 n) (leb n 256) a), leb-true n 256 (and_right (leb 1 n) (leb n 256) a))

-- every node is reached where no flag is 0
pub all_reached : (n : ℕ) (es : List ℕ) → ((p c : ℕ) → Edge es p c → c < n) → some_unreached n es ≡ false → (node : ℕ) → node < n → Reach es 0 node
unfolding some_unreached
all_reached n es ends h node l =
    let d = eqb-false 0 (get_or (reach n es 0) node 0) (none_at (eqb 0) (reach n es 0) node h (omega (arith, reach_long n es 0))) in
    reach_only es n ends 0 node (omega (arith, d))

pub promised : (n : ℕ) (table : List ℕ) (edge_count : ℕ) → Legal n table edge_count → Promise n (edges_of table edge_count)
promised n table edge_count legal =
    let f = refusal_none (hierarchy_checks n table edge_count) legal in
    let size = right_size n f.0 in
    let edge : (p c : ℕ) → Edge (edges_of table edge_count) p c → Sound_edge n p c = λ p c e. right_edge n p c (no_edge (edge_wrong n) f.1.1.0 e) in
    record {
      some = size.0;
      few = size.1;
      edge = edge;
      reached = all_reached n (edges_of table edge_count) (λ p c e. (edge p c e).child_below) f.1.1.1.1.0;
    }
