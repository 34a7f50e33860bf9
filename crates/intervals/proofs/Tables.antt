-- Low and high in turn in one table: each is relaxed by itself, both in one pass over the edges. Assumes nothing.
use mathlib.Core.Path.{◌≡◌, refl, sym, ap, ◌∙◌, subst}
use mathlib.Core.List.{List, [], ◌∷◌}
use mathlib.Core.Bool.{Bool, true, false, ◌||◌}
use Prim.Native.Nat.{ℕ, zero, suc, ◌+◌, ◌-◌, ◌*◌, ◌≤◌, ◌<◌}
use native.Mathlib.Omega.{arith}
use lib.Dec.{eqb}
use lib.ListN.{length, get_or, set}
use borrow.Author.Tests.{eqb-true, eqb-false}
use Rattle.lists.specs.Lists.{Below, Went, set_if}
use Rattle.hierarchy.specs.Hierarchy.{Edge, edges_of}
use Rattle.hierarchy.specs.Inner.{ends_at, Edges}
use Rattle.intervals.specs.Inner.{is_better, improved, turn_at, Ok, Kept, Settled, Best, lows, highs, table_weight}
use Rattle.hierarchy.specs.declared.Ends.{Ends}
use Rattle.lists.proofs.Bools.{bool, not_both, or_left, or_right}
use Rattle.hierarchy.proofs.EdgeLoops.{edges_all, edge_here, turn}
use Rattle.lists.proofs.Passes.{went_both}
use Rattle.intervals.proofs.Relaxes.{kept_start, kept_trans, kept_one, still_best, weight_set}

-- ---- the lows and the highs of a table

two_more : (i : ℕ) → 2 * suc i ≡ suc (suc (2 * i))
two_more i = omega arith

two_next : (i : ℕ) → 2 * suc i + 1 ≡ suc (suc (2 * i + 1))
two_next i = omega arith

pub lows_long : (t : List ℕ) → (2 * length (lows t) ≤ length t) × (length t ≤ 2 * length (lows t) + 1)
unfolding lows
lows_long [] = (omega arith, omega arith)
lows_long (a ∷ []) = (omega arith, omega arith)
lows_long (a ∷ b ∷ t) = let r = lows_long t in (omega arith, omega arith)

pub highs_long : (t : List ℕ) → length (highs t) ≡ length (lows t)
unfolding lows highs
highs_long [] = refl
highs_long (a ∷ []) = refl
highs_long (a ∷ b ∷ t) = ap suc (highs_long t)

pub lows_at : (t : List ℕ) (i : ℕ) → i < length (lows t) → get_or (lows t) i 0 ≡ get_or t (2 * i) 0
unfolding lows
lows_at [] i h = absurd (omega arith)
lows_at (a ∷ []) i h = absurd (omega arith)
lows_at (a ∷ b ∷ t) zero h = refl
lows_at (a ∷ b ∷ t) (suc i) h = rw (two_more i) (lows_at t i (omega arith))

pub highs_at : (t : List ℕ) (i : ℕ) → i < length (lows t) → get_or (highs t) i 0 ≡ get_or t (2 * i + 1) 0
unfolding lows highs
highs_at [] i h = absurd (omega arith)
highs_at (a ∷ []) i h = absurd (omega arith)
highs_at (a ∷ b ∷ t) zero h = refl
highs_at (a ∷ b ∷ t) (suc i) h = rw (two_next i) (highs_at t i (omega arith))

-- a store of a low, and of a high
lows_low : (t : List ℕ) (i v : ℕ) → lows (set t (2 * i) v) ≡ set (lows t) i v
unfolding lows
lows_low [] i v = refl
lows_low (a ∷ []) zero v = refl
lows_low (a ∷ []) (suc i) v = rw (two_more i) refl
lows_low (a ∷ b ∷ t) zero v = refl
lows_low (a ∷ b ∷ t) (suc i) v = rw (two_more i) (ap (λ (l : List ℕ). a ∷ l) (lows_low t i v))

highs_low : (t : List ℕ) (i v : ℕ) → highs (set t (2 * i) v) ≡ highs t
unfolding highs
highs_low [] i v = refl
highs_low (a ∷ []) zero v = refl
highs_low (a ∷ []) (suc i) v = rw (two_more i) refl
highs_low (a ∷ b ∷ t) zero v = refl
highs_low (a ∷ b ∷ t) (suc i) v = rw (two_more i) (ap (λ (l : List ℕ). b ∷ l) (highs_low t i v))

lows_high : (t : List ℕ) (i v : ℕ) → lows (set t (2 * i + 1) v) ≡ lows t
unfolding lows
lows_high [] i v = refl
lows_high (a ∷ []) zero v = refl
lows_high (a ∷ []) (suc i) v = rw (two_next i) refl
lows_high (a ∷ b ∷ t) zero v = refl
lows_high (a ∷ b ∷ t) (suc i) v = rw (two_next i) (ap (λ (l : List ℕ). a ∷ l) (lows_high t i v))

highs_high : (t : List ℕ) (i v : ℕ) → highs (set t (2 * i + 1) v) ≡ set (highs t) i v
unfolding highs
highs_high [] i v = refl
highs_high (a ∷ []) zero v = refl
highs_high (a ∷ []) (suc i) v = rw (two_next i) refl
highs_high (a ∷ b ∷ t) zero v = refl
highs_high (a ∷ b ∷ t) (suc i) v = rw (two_next i) (ap (λ (l : List ℕ). b ∷ l) (highs_high t i v))

-- ---- one edge

module _ (t : List ℕ) (p c : ℕ) (hp : p < length (lows t)) (hc : c < length (lows t)) where
  -- a parent takes its child's low
  if_low : (b : Bool) (v : ℕ) → (lows (set_if b t (2 * p) v) ≡ set_if b (lows t) p v) × (highs (set_if b t (2 * p) v) ≡ highs t)
  if_low true v = (lows_low t p v, highs_low t p v)
  if_low false v = (refl, refl)

  pub low_taken : (lows (improved false (2 * p) (2 * c) t) ≡ improved false p c (lows t)) × (highs (improved false (2 * p) (2 * c) t) ≡ highs t)
  low_taken = rw (lows_at t c hc, lows_at t p hp) (if_low (is_better false (get_or t (2 * c) 0) (get_or t (2 * p) 0)) (get_or t (2 * c) 0))

  low_went : (b : Bool) (v : ℕ) → is_better false v (get_or t (2 * p) 0) ≡ b → v < 65536 → Went table_weight b t (set_if b t (2 * p) v)
  unfolding table_weight
  low_went true v e h =
      let w = weight_set false (lows t) p v hp (rw (lows_at t p hp) e) h in
      rw (lows_low t p v, highs_low t p v) (omega arith)
  low_went false v e h = refl

  -- and its high
  if_high : (b : Bool) (v : ℕ) → (lows (set_if b t (2 * p + 1) v) ≡ lows t) × (highs (set_if b t (2 * p + 1) v) ≡ set_if b (highs t) p v)
  if_high true v = (lows_high t p v, highs_high t p v)
  if_high false v = (refl, refl)

  pub high_taken : (lows (improved true (2 * p + 1) (2 * c + 1) t) ≡ lows t) × (highs (improved true (2 * p + 1) (2 * c + 1) t) ≡ improved true p c (highs t))
  high_taken = rw (highs_at t c hc, highs_at t p hp) (if_high (is_better true (get_or t (2 * c + 1) 0) (get_or t (2 * p + 1) 0)) (get_or t (2 * c + 1) 0))

  high_went : (b : Bool) (v : ℕ) → is_better true v (get_or t (2 * p + 1) 0) ≡ b → v < 65536 → Went table_weight b t (set_if b t (2 * p + 1) v)
  unfolding table_weight
  high_went true v e h =
      let w = weight_set true (highs t) p v (omega (arith, highs_long t)) (rw (highs_at t p hp) e) h in
      rw (lows_high t p v, highs_high t p v) (omega arith)
  high_went false v e h = refl

-- ---- a pass

-- a pass takes edges of the table
pub turn_below : (back : Bool) (count turn : ℕ) → turn < count → turn_at back count turn < count
turn_below true count turn h = omega arith
turn_below false count turn h = h

-- and takes each
turn_all : (P : ℕ → Type 0) (back : Bool) (count : ℕ) → ((k : ℕ) → k < count → P (turn_at back count k)) → (e : ℕ) → e < count → P e
turn_all P true count f e h = let q : count - 1 - (count - 1 - e) ≡ e = omega arith in rw q at (f (count - 1 - e) (omega arith))
turn_all P false count f e h = f e h

-- an edge has nothing to do
abbrev Even : List ℕ → Ends → Type 0
Even table ends =
    Ok false (get_or table (2 * ends.parent) 0) (get_or table (2 * ends.child) 0)
    × Ok true (get_or table (2 * ends.parent + 1) 0) (get_or table (2 * ends.child + 1) 0)

pub record Relaxing (back : Bool) (edges : List ℕ) (count : ℕ) (table₀ : List ℕ) (turn : ℕ) (changed : Bool) (table : List ℕ) : Type 0 where
  pub long : length table ≡ length table₀
  pub small : Below 65536 table
  pub lower : Kept false (edges_of edges count) (lows table₀) (lows table)
  pub higher : Kept true (edges_of edges count) (highs table₀) (highs table)
  pub went : Went table_weight changed table₀ table
  pub even : changed ≡ false → (k : ℕ) → k < turn → Even table (ends_at edges (turn_at back count k))

pub relaxing_start : (back : Bool) (edges : List ℕ) (count : ℕ) (table : List ℕ) → Below 65536 table → Relaxing back edges count table 0 false table
relaxing_start back edges count table b =
    record {
      long = refl;
      small = b;
      lower = kept_start false (edges_of edges count) (lows table);
      higher = kept_start true (edges_of edges count) (highs table);
      went = refl;
      even = λ f k h. absurd (omega arith);
    }

module _ (back : Bool) (edges : List ℕ) (count : ℕ) (table₀ : List ℕ) (fits : Edges (length (lows table₀)) count edges) (at : ℕ) (changed : Bool) (table : List ℕ)
    (k : Relaxing back edges count table₀ at changed table) where
  fits_now : Edges (length (lows table)) count edges
  fits_now = rw k.lower.long fits

  module _ (h : at < count) (e : ℕ) (it : e ≡ turn_at back count at) (ends : Ends) (is : ends ≡ ends_at edges e) where
    -- the edge that the turn reads
    here : Edge (edges_of edges count) ends.parent ends.child
    here = rw is (edge_here edges count e (turn (length (lows table)) count edges fits_now e (rw it (turn_below back count at h))))

    here_parent : ends.parent < length (lows table)
    here_parent = (fits_now.below _ _ here).0

    here_child : ends.child < length (lows table)
    here_child = (fits_now.below _ _ here).1

    pub in_table : (2 * ends.parent + 1 < length table) × (2 * ends.child + 1 < length table)
    in_table = (omega (arith, here_parent, lows_long table), omega (arith, here_child, lows_long table))

    -- where nothing changed, this edge has nothing to do, nor has one before
    even_more : (table' table'' : List ℕ) (low high : Bool)
        → low ≡ is_better false (get_or table (2 * ends.child) 0) (get_or table (2 * ends.parent) 0)
        → high ≡ is_better true (get_or table' (2 * ends.child + 1) 0) (get_or table' (2 * ends.parent + 1) 0)
        → Went table_weight low table table' → Went table_weight high table' table''
        → (changed || (low || high)) ≡ false → (j : ℕ) → j < at + 1 → Even table'' (ends_at edges (turn_at back count j))
    even_more table' table'' low high la ha w x f j a =
        let f' = or_right changed (low || high) f in
        let l = or_left low high f' in
        let g = or_right low high f' in
        let s : table'' ≡ table' = rw g at x in
        let s' : table' ≡ table = rw l at w in
        bool (eqb j at)
        (λ t. subst (Even table'') (is ∙ ap (ends_at edges) (it ∙ ap (turn_at back count) (sym (eqb-true j at t)))) (rw s (rw s' (sym la ∙ l), sym ha ∙ g)))
        (λ t. let d = eqb-false j at t in rw (s ∙ s') (k.even (or_left changed (low || high) f) j (omega (arith, d))))

    pub relaxing_more : (table' table'' : List ℕ) (low high : Bool)
        → low ≡ is_better false (get_or table (2 * ends.child) 0) (get_or table (2 * ends.parent) 0)
        → table' ≡ improved false (2 * ends.parent) (2 * ends.child) table
        → high ≡ is_better true (get_or table' (2 * ends.child + 1) 0) (get_or table' (2 * ends.parent + 1) 0)
        → table'' ≡ improved true (2 * ends.parent + 1) (2 * ends.child + 1) table'
        → Below 65536 table' → Below 65536 table'' → length table' ≡ length table → length table'' ≡ length table'
        → Relaxing back edges count table₀ (at + 1) (changed || (low || high)) table''
    relaxing_more table' table'' low high la lt ha ht small' small'' long' long'' =
        let hp : ends.parent < length (lows table') = omega (arith, here_parent, lows_long table, lows_long table', long') in
        let hc : ends.child < length (lows table') = omega (arith, here_child, lows_long table, lows_long table', long') in
        let a = low_taken table ends.parent ends.child here_parent here_child in
        let b = high_taken table' ends.parent ends.child hp hc in
        let w : Went table_weight low table table' =
        rw (lt, ← la) (low_went table ends.parent ends.child here_parent here_child low (get_or table (2 * ends.child) 0) (sym la) (k.small (2 * ends.child))) in
        let x : Went table_weight high table' table'' =
        rw (ht, ← ha) (high_went table' ends.parent ends.child hp hc high (get_or table' (2 * ends.child + 1) 0) (sym ha) (small' (2 * ends.child + 1))) in
        record {
          long = long'' ∙ long' ∙ k.long;
          small = small'';
          lower =
              rw (ap lows ht ∙ b.0 ∙ ap lows lt ∙ a.0)
              (kept_one false (edges_of edges count) (lows table₀) (lows table) ends.parent ends.child here k.lower);
          higher =
              rw (ap highs ht ∙ b.1 ∙ ap (improved true ends.parent ends.child) (ap highs lt ∙ a.1))
              (kept_one true (edges_of edges count) (highs table₀) (highs table) ends.parent ends.child here k.higher);
          went = went_both table_weight changed (low || high) table₀ table table'' k.went (went_both table_weight low high table table' table'' w x);
          even = even_more table' table'' low high la ha w x;
        }

  pub relaxing_end : count ≤ at → changed ≡ false → Settled false (edges_of edges count) (lows table) × Settled true (edges_of edges count) (highs table)
  relaxing_end h f =
      let all : (p c : ℕ) → Edge (edges_of edges count) p c → Even table (record { parent = p; child = c }) =
      λ p c. edges_all (Even table) edges count (turn_all (λ e. Even table (ends_at edges e)) back count (λ j a. k.even f j (omega arith))) in (
        λ p c d. let b = fits_now.below p c d in rw (lows_at table p b.0, lows_at table c b.1) (all p c d).0,
        λ p c d. let b = fits_now.below p c d in rw (highs_at table p b.0, highs_at table c b.1) (all p c d).1,
      )

-- ---- the passes

pub record Settling (es table₀ : List ℕ) (on : Bool) (table : List ℕ) : Type 0 where
  pub long : length table ≡ length table₀
  pub lower : Kept false es (lows table₀) (lows table)
  pub higher : Kept true es (highs table₀) (highs table)
  pub done : on ≡ false → Settled false es (lows table) × Settled true es (highs table)

pub settling_start : (es table : List ℕ) → Settling es table true table
settling_start es table =
    record { long = refl; lower = kept_start false es (lows table); higher = kept_start true es (highs table); done = λ f. not_both true refl f }

pub settling_more : (es table₀ : List ℕ) (on b : Bool) (table table' : List ℕ) → Settling es table₀ on table → length table' ≡ length table
    → Kept false es (lows table) (lows table') → Kept true es (highs table) (highs table') → (b ≡ false → Settled false es (lows table') × Settled true es (highs table'))
    → Settling es table₀ b table'
settling_more es table₀ on b table table' s n l h d =
    record {
      long = n ∙ s.long;
      lower = kept_trans false es (lows table₀) (lows table) (lows table') s.lower l;
      higher = kept_trans true es (highs table₀) (highs table) (highs table') s.higher h;
      done = d;
    }

pub settling_end : (es table₀ : List ℕ) (on : Bool) (table : List ℕ) → Settling es table₀ on table → on ≡ false
    → Best false es (lows table₀) (lows table) × Best true es (highs table₀) (highs table)
settling_end es table₀ on table s f = (
  still_best false es (lows table₀) (lows table) s.lower (s.done f).0,
  still_best true es (highs table₀) (highs table) s.higher (s.done f).1,
)
