-- The edges of a table as pairs. Assumes nothing.
use mathlib.Core.Path.{◌≡◌, refl, ap, ◌∙◌}
use mathlib.Core.List.{List, [], ◌∷◌, ◌++◌}
use mathlib.Core.Bool.{Bool, false, not, ◌||◌}
use Prim.Native.Nat.{ℕ, zero, suc, ◌-◌, ◌*◌, ◌/◌, ◌≤◌, ◌<◌, min}
use native.Mathlib.Omega.{arith}
use lib.ListN.{length, get_or, take, drop, length-append, get_or-append}
use lib.Dec.{eqb}
use borrow.Author.Tests.{le-ltb, ne_eqb}
use lib.Seq.{take_all}
use Rattle.std.specs.Simd.{first_chunks}
use Rattle.lists.specs.Lists.{set_if}
use Rattle.hierarchy.specs.Hierarchy.{edges_of, Edge, some_edge, flagged, spread, same_edge, edge_twice, edge_wrong}
use Rattle.hierarchy.specs.Hierarchy.Edge.{first, later}
use Rattle.hierarchy.specs.Inner.{pairs, some_pair}

-- the pairs that std cuts a list into
cuts : (xs : List ℕ) (k : ℕ) → k ≡ length xs / 2 → first_chunks 2 k xs ≡ pairs xs
unfolding pairs
cuts [] zero e = refl
cuts [] (suc k) e = absurd (omega arith)
cuts (a ∷ []) zero e = refl
cuts (a ∷ []) (suc k) e = absurd (omega arith)
cuts (a ∷ b ∷ xs) zero e = absurd (omega arith)
cuts (a ∷ b ∷ xs) (suc k) e = ap (λ (t : List (List ℕ)). (a ∷ b ∷ []) ∷ t) (cuts xs k (omega arith))

-- the first of them, so many or all
firsts : (k n : ℕ) (xs : List ℕ) → n ≡ min k (length xs / 2) → take n (pairs xs) ≡ pairs (take (2 * k) xs)
unfolding pairs
firsts zero n xs e = let z : n ≡ 0 = omega arith in rw z refl
firsts (suc k) n [] e = let p : 2 * suc k ≡ suc (suc (2 * k)) = omega arith in let z : n ≡ 0 = omega arith in rw (p, z) refl
firsts (suc k) n (a ∷ []) e = let p : 2 * suc k ≡ suc (suc (2 * k)) = omega arith in let z : n ≡ 0 = omega arith in rw (p, z) refl
firsts (suc k) zero (a ∷ b ∷ xs) e = absurd (omega arith)
firsts (suc k) (suc n) (a ∷ b ∷ xs) e =
    let p : 2 * suc k ≡ suc (suc (2 * k)) = omega arith in
    rw p (ap (λ (t : List (List ℕ)). (a ∷ b ∷ []) ∷ t) (firsts k n xs (omega arith)))

pub table_pairs : (count n : ℕ) (xs : List ℕ) → n ≡ min count (length xs / 2) → take n (first_chunks 2 (length xs / 2) xs) ≡ pairs (edges_of xs count)
table_pairs count n xs e = ap (take n) (cuts xs (length xs / 2) refl) ∙ firsts count n xs e

-- a test of some edge
pub some_pairs : (p : ℕ → ℕ → Bool) (es : List ℕ) → some_pair p (pairs es) ≡ some_edge p es
unfolding pairs some_edge
some_pairs p [] = refl
some_pairs p (a ∷ []) = refl
some_pairs p (a ∷ b ∷ es) = ap (λ t. p a b || t) (some_pairs p es)

-- an edge that stands twice
unfoldable pub twice : List (List ℕ) → Bool
twice [] = false
twice (edge ∷ es) = some_pair (same_edge (get_or edge 0 0) (get_or edge 1 0)) es || twice es

pub twice_pairs : (es : List ℕ) → twice (pairs es) ≡ edge_twice es
unfolding pairs twice edge_twice
twice_pairs [] = refl
twice_pairs (a ∷ []) = refl
twice_pairs (a ∷ b ∷ es) = rw (some_pairs (same_edge a b) es, twice_pairs es) refl

-- a pass over the edges
unfoldable pub pass : List (List ℕ) → List ℕ → List ℕ
pass [] flags = flags
pass (edge ∷ es) flags = pass es (set_if (flagged flags (get_or edge 0 0)) flags (get_or edge 1 0) 1)

pub pass_pairs : (es flags : List ℕ) → pass (pairs es) flags ≡ spread es flags
unfolding pairs pass spread
pass_pairs [] flags = refl
pass_pairs (a ∷ []) flags = refl
pass_pairs (a ∷ b ∷ es) flags = pass_pairs es (set_if (flagged flags a) flags b 1)

-- of no node any edge is wrong
pub no_node : (n : ℕ) (es : List ℕ) → n < 1 → not (eqb (length (pairs es)) 0) ≡ some_edge (edge_wrong n) es
unfolding pairs some_edge
no_node n [] h = refl
no_node n (a ∷ []) h = refl
no_node n (a ∷ b ∷ es) h = rw (le-ltb a n (omega arith), ne_eqb (suc (length (pairs es))) 0 (λ e. absurd (omega arith))) refl

-- the first edge of what is left stands again behind it, or one of the others does
pub twice_turn : (es : List (List ℕ)) {t r : Bool} → 1 ≤ length es → twice es ≡ r
    → t ≡ some_pair (same_edge (get_or (get_or es 0 []) 0 0) (get_or (get_or es 0 []) 1 0)) (take (length es - 1) (drop 1 es))
    → (t || twice (take (length es - 1) (drop 1 es))) ≡ r
unfolding twice
twice_turn [] h e f = absurd (omega arith)
twice_turn (edge ∷ es) {t = t} h e f = let k : take (suc (length es) - 1) es ≡ es = take_all (suc (length es) - 1) es (omega arith) in rw (f, k) e

pub twice_end : (es : List (List ℕ)) {r : Bool} → length es < 1 → twice es ≡ r → false ≡ r
unfolding twice
twice_end [] h e = e
twice_end (edge ∷ es) h e = absurd (omega arith)

-- each of these pairs is an edge
pub record Whole (es : List ℕ) (edges : List (List ℕ)) : Type 0 where
  pub each : (i : ℕ) → i < length edges → Edge es (get_or (get_or edges i []) 0 0) (get_or (get_or edges i []) 1 0)

pair_edge : (es : List ℕ) (i : ℕ) → i < length (pairs es) → Edge es (get_or (get_or (pairs es) i []) 0 0) (get_or (get_or (pairs es) i []) 1 0)
unfolding pairs
pair_edge [] i h = absurd (omega arith)
pair_edge (a ∷ []) i h = absurd (omega arith)
pair_edge (a ∷ b ∷ es) zero h = first
pair_edge (a ∷ b ∷ es) (suc i) h = later (pair_edge es i (omega arith))

pub whole : (es : List ℕ) → Whole es (pairs es)
whole es = record { each = pair_edge es }

-- the last of them is, and so are those before it
module _ (es : List ℕ) (edge : List ℕ) where
  pub whole_last : (before : List (List ℕ)) → Whole es (before ++ (edge ∷ [])) → Edge es (get_or edge 0 0) (get_or edge 1 0)
  whole_last [] w = w.each 0 (omega arith)
  whole_last (x ∷ before) w = whole_last before (record { each = λ i h. w.each (suc i) (omega arith) })

  pub whole_before : (before : List (List ℕ)) → Whole es (before ++ (edge ∷ [])) → Whole es before
  whole_before before w =
      record { each = λ i h. rw (get_or-append before (edge ∷ []) [] i h) at (w.each i (omega (arith, length-append before (edge ∷ [])))) }
