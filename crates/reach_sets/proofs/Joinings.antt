-- Passes over the edges in which a parent's set takes its child's in: what they keep, and where they end. Assumes nothing.
use mathlib.Core.Path.{◌≡◌, refl, sym, ap, ap₂, ◌∙◌, subst}
use mathlib.Core.List.{List}
use mathlib.Core.Bool.{Bool, true, false, ◌&&◌, ◌||◌, or-true}
use Prim.Native.Nat.{ℕ, ◌+◌, ◌-◌, ◌*◌, ◌/◌, ◌^◌, ◌≤◌, ◌<◌}
use native.Mathlib.Omega.{arith}
use lib.Dec.{eqb}
use lib.Bits.{bit_or, or_lt}
use lib.Pointwise.{pointwise}
use lib.ListN.{length, get_or}
use lib.Seq.{ext_get_or}
use borrow.Author.Tests.{eqb-true, eqb-false}
use Rattle.lists.specs.Lists.{Below, Went}
use Rattle.lists.proofs.Bools.{bool, not_both, or_left, or_right, or_either}
use Rattle.lists.proofs.Passes.{went_both}
use Rattle.hierarchy.specs.Hierarchy.{edges_of, Edge}
use Rattle.hierarchy.specs.Hierarchy.Reach.{self, step}
use Rattle.hierarchy.specs.Inner.{ends_at, Edges}
use Rattle.hierarchy.specs.declared.Ends.{Ends}
use Rattle.hierarchy.proofs.EdgeLoops.{edges_all, edge_here, turn}
use Rattle.hierarchy.proofs.Reaches.{onto}
use Rattle.reach_sets.specs.declared.NodeSet.{NodeSet}
use Rattle.reach_sets.specs.Sets.{word_at, has, joined, set_at, set_to}
use Rattle.reach_sets.specs.Inner.{room, Joins, Has, From, Kept, Settled}
use Rattle.reach_sets.proofs.Nodes.{four, same_words, same_words_law, has_joined}
use Rattle.reach_sets.proofs.Stores.{put_is, put_same, put_other, put_long, or_more, room_falls}

-- ---- one edge

module _ (p c : ℕ) (t : List ℕ) where
  -- a set that has its child's already
  joined_same : same_words (set_at t p) (joined (set_at t p) (set_at t c)) ≡ true → Joins p c t t
  joined_same e =
      let w : (k : ℕ) → k < 4 → word_at (set_at t p) k ≡ word_at (joined (set_at t p) (set_at t c)) k = same_words_law (set_at t p) (joined (set_at t p) (set_at t c)) e in
      record {
        long = refl;
        here = ap (λ (ws : List ℕ). record { words = ws }) (ext_get_or 0 (set_at t p).words (joined (set_at t p) (set_at t c)).words refl w);
        others = λ x d. refl;
      }

  -- one that grows
  module _ (h : 4 * p + 3 < length t) (small : Below (2 ^ 64) t) where
    abbrev grown : NodeSet
    grown = joined (set_at t p) (set_at t c)

    joined_more : same_words (set_at t p) grown ≡ false → Joins p c t (set_to t p grown) × (room (set_to t p grown) < room t)
    joined_more e =
        let l : p < length t / 4 = omega arith in
        let fits : (k : ℕ) → k < 4 → word_at grown k < 2 ^ 64
        = four (λ k. word_at grown k < 2 ^ 64)
        (or_lt 64 (get_or t (4 * p) 0) (get_or t (4 * c) 0) (small (4 * p)) (small (4 * c)))
        (or_lt 64 (get_or t (4 * p + 1) 0) (get_or t (4 * c + 1) 0) (small (4 * p + 1)) (small (4 * c + 1)))
        (or_lt 64 (get_or t (4 * p + 2) 0) (get_or t (4 * c + 2) 0) (small (4 * p + 2)) (small (4 * c + 2)))
        (or_lt 64 (get_or t (4 * p + 3) 0) (get_or t (4 * c + 3) 0) (small (4 * p + 3)) (small (4 * c + 3))) in
        let more : (k : ℕ) → k < 4 → word_at (set_at t p) k ≤ word_at grown k
        = four (λ k. word_at (set_at t p) k ≤ word_at grown k)
        (or_more (get_or t (4 * p) 0) (get_or t (4 * c) 0)) (or_more (get_or t (4 * p + 1) 0) (get_or t (4 * c + 1) 0))
        (or_more (get_or t (4 * p + 2) 0) (get_or t (4 * c + 2) 0)) (or_more (get_or t (4 * p + 3) 0) (get_or t (4 * c + 3) 0)) in (
          record { long = put_long t p grown l; here = put_same t p grown l refl; others = put_other t p grown l },
          rw (put_is t p grown l) (room_falls t p grown h small fits more e),
        )

-- four tests, one behind the other or grouped from the front
regroup : (p q r s : Bool) → (p && (q && (r && (s && true)))) ≡ (((p && q) && r) && s)
regroup false q r s = refl
regroup true false r s = refl
regroup true true false s = refl
regroup true true true false = refl
regroup true true true true = refl

-- the same of what the code has read and joined
module _ (p c : ℕ) (t : List ℕ) (a b s : NodeSet) (ea : a ≡ set_at t p) (eb : b ≡ set_at t c) (es : s ≡ joined a b) where
  whole : s ≡ joined (set_at t p) (set_at t c)
  whole = es ∙ ap₂ joined ea eb

  -- as `==` answers of their words
  told : {v : Bool} → pointwise eqb a.words s.words ≡ v → same_words (set_at t p) (joined (set_at t p) (set_at t c)) ≡ v
  told e =
      sym
      (regroup (eqb (get_or t (4 * p) 0) (bit_or (get_or t (4 * p) 0) (get_or t (4 * c) 0))) (eqb (get_or t (4 * p + 1) 0) (bit_or (get_or t (4 * p + 1) 0) (get_or t (4 * c + 1) 0)))
      (eqb (get_or t (4 * p + 2) 0) (bit_or (get_or t (4 * p + 2) 0) (get_or t (4 * c + 2) 0))) (eqb (get_or t (4 * p + 3) 0) (bit_or (get_or t (4 * p + 3) 0) (get_or t (4 * c + 3) 0))))
      ∙ sym (ap₂ (λ (x y : NodeSet). pointwise eqb x.words y.words) ea whole)
      ∙ e

  pub read_same : pointwise eqb a.words s.words ≡ true → Joins p c t t
  read_same e = joined_same p c t (told e)

  pub read_more : 4 * p + 3 < length t → Below (2 ^ 64) t → pointwise eqb a.words s.words ≡ false → (u : List ℕ) → u ≡ set_to t p s → Joins p c t u × (room u < room t)
  read_more h small e u is =
      subst (λ (v : List ℕ). Joins p c t v × (room v < room t)) (sym (is ∙ ap (set_to t p) whole)) (joined_more p c t h small (told e))

-- ---- what passes keep

pub kept_start : (es t : List ℕ) → Kept es t t
kept_start es t = record { long = refl; more = λ x y h p. p; from = λ x y h p. record { of = x; way = self; has_it = p } }

pub kept_trans : (es t u v : List ℕ) → Kept es t u → Kept es u v → Kept es t v
kept_trans es t u v k j =
    record {
      long = j.long ∙ k.long;
      more = λ x y h p. j.more x y h (k.more x y h p);
      from = λ x y h p.
          let f = j.from x y h p in
          let g = k.from f.of y h f.has_it in
          record { of = g.of; way = onto f.way g.way; has_it = g.has_it };
    }

module _ (p c : ℕ) (t u : List ℕ) (j : Joins p c t u) where
  has_here : (y : ℕ) → y < 256 → has (set_at u p) y ≡ (has (set_at t p) y || has (set_at t c) y)
  has_here y h = ap (λ (s : NodeSet). has s y) j.here ∙ has_joined (set_at t p) (set_at t c) y h

  has_there : (x y : ℕ) → (x ≡ p → ⊥) → has (set_at u x) y ≡ has (set_at t x) y
  has_there x y d = ap (λ (s : NodeSet). has s y) (j.others x d)

  -- a parent takes its child's set in
  pub kept_one : (es : List ℕ) → Edge es p c → Kept es t u
  kept_one es e =
      record {
        long = j.long;
        more = λ x y h a.
            bool (eqb x p)
            (λ q. subst (λ (z : ℕ). Has u z y) (sym (eqb-true x p q))
            (has_here y h ∙ ap (λ (b : Bool). b || has (set_at t c) y) (subst (λ (z : ℕ). Has t z y) (eqb-true x p q) a)))
            (λ q. has_there x y (eqb-false x p q) ∙ a);
        from = λ x y h a.
            bool (eqb x p)
            (λ q. subst (λ (z : ℕ). From es t z y) (sym (eqb-true x p q))
            (or_either (has (set_at t p) y) (has (set_at t c) y) (sym (has_here y h) ∙ subst (λ (z : ℕ). Has u z y) (eqb-true x p q) a)
            (λ b. record { of = p; way = self; has_it = b })
            (λ b. record { of = c; way = step e self; has_it = b })))
            (λ q. record { of = x; way = self; has_it = sym (has_there x y (eqb-false x p q)) ∙ a });
      }

  -- where that changes nothing, the edge has nothing left to do
  pub even_one : u ≡ t → (y : ℕ) → y < 256 → Has t c y → Has t p y
  even_one same y h a =
      ap (λ (l : List ℕ). has (set_at l p) y) (sym same) ∙ has_here y h ∙ ap (λ (b : Bool). has (set_at t p) y || b) a ∙ or-true (has (set_at t p) y)

-- ---- a pass

-- an edge has nothing left to do
abbrev Even : List ℕ → Ends → Type 0
Even t ends = (y : ℕ) → y < 256 → Has t ends.child y → Has t ends.parent y

pub record Joining (edges : List ℕ) (count : ℕ) (table₀ : List ℕ) (left : ℕ) (grown : Bool) (table : List ℕ) : Type 0 where
  pub so_far : left ≤ count
  pub long : length table ≡ length table₀
  pub kept : Kept (edges_of edges count) table₀ table
  pub went : Went room grown table₀ table
  pub even : grown ≡ false → (k : ℕ) → left ≤ k → k < count → Even table (ends_at edges k)

pub joining_start : (edges : List ℕ) (count : ℕ) (table : List ℕ) → Joining edges count table count false table
joining_start edges count table =
    record { so_far = omega arith; long = refl; kept = kept_start (edges_of edges count) table; went = refl; even = λ f k h j. absurd (omega arith) }

module _ (edges : List ℕ) (count : ℕ) (table₀ : List ℕ) (fits : Edges (length table₀ / 4) count edges) (left : ℕ) (grown : Bool) (table : List ℕ)
    (k : Joining edges count table₀ left grown table) where
  fits_now : Edges (length table / 4) count edges
  fits_now = rw k.long fits

  module _ (h : 0 < left) (ends : Ends) (is : ends ≡ ends_at edges (left - 1)) where
    -- the edge that the turn reads
    here : Edge (edges_of edges count) ends.parent ends.child
    here = rw is (edge_here edges count (left - 1) (turn (length table / 4) count edges fits_now (left - 1) (omega (arith, k.so_far))))

    pub in_table : 4 * ends.parent + 3 < length table
    in_table = omega (arith, (fits_now.below _ _ here).0)

    pub joining_more : (table' : List ℕ) (more : Bool) → Joins ends.parent ends.child table table' → Went room more table table'
        → Joining edges count table₀ (left - 1) (grown || more) table'
    joining_more table' more j w =
        record {
          so_far = omega (arith, k.so_far);
          long = j.long ∙ k.long;
          kept = kept_trans (edges_of edges count) table₀ table table' k.kept (kept_one ends.parent ends.child table table' j (edges_of edges count) here);
          went = went_both room grown more table₀ table table' k.went w;
          even = λ f i a b.
              let m = or_right grown more f in
              let same : table' ≡ table = rw m at w in
              rw same
              (bool (eqb i (left - 1))
              (λ q. subst (Even table) (is ∙ ap (ends_at edges) (sym (eqb-true i (left - 1) q))) (even_one ends.parent ends.child table table' j same))
              (λ q. let d = eqb-false i (left - 1) q in k.even (or_left grown more f) i (omega (arith, d)) b));
        }

  pub joining_end : left ≤ 0 → grown ≡ false → Settled (edges_of edges count) table
  joining_end h f p c e = edges_all (Even table) edges count (λ i b. k.even f i (omega arith) b) e

-- ---- the passes

pub record Settling (es table₀ : List ℕ) (on : Bool) (table : List ℕ) : Type 0 where
  pub long : length table ≡ length table₀
  pub kept : Kept es table₀ table
  pub done : on ≡ false → Settled es table

pub settling_start : (es table : List ℕ) → Settling es table true table
settling_start es table = record { long = refl; kept = kept_start es table; done = λ f. not_both true refl f }

pub settling_more : (es table₀ : List ℕ) (on b : Bool) (table table' : List ℕ) → Settling es table₀ on table → Kept es table table' → (b ≡ false → Settled es table')
    → Settling es table₀ b table'
settling_more es table₀ on b table table' s k d = record { long = k.long ∙ s.long; kept = kept_trans es table₀ table table' s.kept k; done = d }
