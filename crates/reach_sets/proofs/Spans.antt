-- The least and the greatest number among the nodes of a set, taken in one by one, and the intervals from the last node down. Assumes nothing.
use mathlib.Core.Path.{◌≡◌, refl, sym, ap, ◌∙◌}
use mathlib.Core.List.{List, [], ◌∷◌}
use mathlib.Core.Bool.{Bool, true, false, not, cond, ◌&&◌}
use Prim.Native.Nat.{ℕ, suc, ◌+◌, ◌-◌, ◌*◌, ◌≤◌, ◌<◌, min, max}
use native.Mathlib.Omega.{arith}
use lib.Dec.{eqb}
use lib.ListN.{length, get_or, set, drop, length-set, drop_of_length-le}
use borrow.Author.Tests.{eqb-true, eqb-false, ne_eqb}
use Rattle.std.specs.Ordering.{ord_max, nat_cmp}
use Rattle.lists.specs.Lists.{kept_if, fold_from, least, greatest}
use Rattle.lists.proofs.Bools.{bool}
use Rattle.lists.proofs.Loops.{drop_step}
use Rattle.hierarchy.specs.Hierarchy.{flagged, reach}
use Rattle.hierarchy.proofs.Reaches.{reach_long}
use Rattle.covers.specs.declared.Interval.{Interval}
use Rattle.intervals.specs.Intervals.{numbers_among, low_of, high_of, intervals_from, interval_table}
use Rattle.intervals.proofs.Doubles.{two_set}
use Rattle.reach_sets.specs.declared.NodeSet.{NodeSet}
use Rattle.reach_sets.specs.Sets.{has, set_at}
use Rattle.reach_sets.specs.Inner.{less_of, Spannable}
use Rattle.reach_sets.proofs.Fills.{has_flagged}

-- a number that counts, or 0
abbrev counted_if : Bool → ℕ → ℕ
counted_if b k = cond b k 0

-- the greater of two numbers, as std says it
pub max_law : (x y : ℕ) → ord_max nat_cmp x y ≡ max x y
max_law x y = grind arith

-- the numbers of flagged nodes, one after the other
unfoldable pub taken : (ℕ → ℕ → ℕ) → ℕ → List ℕ → List ℕ → ℕ
taken f x [] ks = x
taken f x (b ∷ bs) [] = x
taken f x (b ∷ bs) (k ∷ ks) = taken f (f x (counted_if (not (eqb b 0)) k)) bs ks

-- ---- least and greatest, one number more

-- the least of a list and a number before it, where 0 is none
abbrev least_with : ℕ → List ℕ → ℕ
least_with x l = cond (eqb x 0) (least l) (fold_from min x l)

least_more : (x k : ℕ) (l : List ℕ) → eqb k 0 ≡ false → least_with (less_of x k) l ≡ least_with x (k ∷ l)
unfolding least fold_from
least_more x k l h = by (eqb x 0) refl
  where
    by : (t : Bool) → eqb x 0 ≡ t → least_with (less_of x k) l ≡ least_with x (k ∷ l)
    by true e = rw (e, h) refl
    by false e =
        let m : eqb (min x k) 0 ≡ false = ne_eqb (min x k) 0 (λ q. omega (arith, q, eqb-false x 0 e, eqb-false k 0 h)) in
        rw (e, h, m) refl

less_none : (x : ℕ) → less_of x 0 ≡ x
less_none x = by (eqb x 0) refl
  where
    by : (t : Bool) → eqb x 0 ≡ t → less_of x 0 ≡ x
    by true e = rw e (sym (eqb-true x 0 e))
    by false e = rw e refl

-- a number that does not count changes nothing
kept_counted : (f : ℕ → ℕ → ℕ) (w : ℕ → List ℕ → ℕ) → ((x k : ℕ) (l : List ℕ) → eqb k 0 ≡ false → w (f x k) l ≡ w x (k ∷ l)) → ((x : ℕ) → f x 0 ≡ x)
    → (x k : ℕ) (b : Bool) (l : List ℕ) → w (f x (counted_if b k)) l ≡ w x (kept_if (b && not (eqb k 0)) k l)
kept_counted f w more none x k false l = ap (λ (y : ℕ). w y l) (none x)
kept_counted f w more none x k true l =
    bool (eqb k 0)
    (λ e. rw (e, eqb-true k 0 e) (ap (λ (y : ℕ). w y l) (none x)))
    (λ e. rw e (more x k l e))

taken_is : (f : ℕ → ℕ → ℕ) (w : ℕ → List ℕ → ℕ) → ((x k : ℕ) (l : List ℕ) → eqb k 0 ≡ false → w (f x k) l ≡ w x (k ∷ l)) → ((x : ℕ) → f x 0 ≡ x) → ((x : ℕ) → w x [] ≡ x)
    → (x : ℕ) (bs ks : List ℕ) → taken f x bs ks ≡ w x (numbers_among bs ks)
unfolding taken numbers_among
taken_is f w more none end x [] ks = sym (end x)
taken_is f w more none end x (b ∷ bs) [] = sym (end x)
taken_is f w more none end x (b ∷ bs) (k ∷ ks) =
    taken_is f w more none end (f x (counted_if (not (eqb b 0)) k)) bs ks ∙ kept_counted f w more none x k (not (eqb b 0)) (numbers_among bs ks)

least_end : (x : ℕ) → least_with x [] ≡ x
unfolding least fold_from
least_end x = by (eqb x 0) refl
  where
    by : (t : Bool) → eqb x 0 ≡ t → least_with x [] ≡ x
    by true e = rw e (sym (eqb-true x 0 e))
    by false e = rw e refl

taken_least : (bs ks : List ℕ) → taken less_of 0 bs ks ≡ least (numbers_among bs ks)
taken_least = taken_is less_of least_with least_more less_none least_end 0

greatest_from : (l : List ℕ) → fold_from max 0 l ≡ greatest l
unfolding fold_from greatest
greatest_from [] = refl
greatest_from (k ∷ l) = let e : max 0 k ≡ k = omega arith in rw e refl

taken_greatest : (bs ks : List ℕ) → taken max 0 bs ks ≡ greatest (numbers_among bs ks)
unfolding fold_from
taken_greatest bs ks =
    taken_is max (fold_from max) (λ x k l h. refl) (λ x. let e : max x 0 ≡ x = omega arith in e) (λ x. refl) 0 bs ks ∙ greatest_from (numbers_among bs ks)

-- ---- the loop over the numbers

-- the flags say who is in the set
pub record Flags (s : NodeSet) (numbers flags : List ℕ) : Type 0 where
  pub long : length flags ≡ length numbers
  pub each : (y : ℕ) → y < length flags → has s y ≡ flagged flags y

pub record Spanning (numbers flags : List ℕ) (y low high : ℕ) : Type 0 where
  pub lower : taken less_of low (drop y flags) (drop y numbers) ≡ taken less_of 0 flags numbers
  pub higher : taken max high (drop y flags) (drop y numbers) ≡ taken max 0 flags numbers

pub spanning_start : (numbers flags : List ℕ) → Spanning numbers flags 0 0 0
spanning_start numbers flags = record { lower = refl; higher = refl }

module _ (s : NodeSet) (numbers flags : List ℕ) (f : Flags s numbers flags) (y low high : ℕ) (p : Spanning numbers flags y low high) where
  spanning_next : y < length numbers → (b : Bool) → b ≡ has s y → Spanning numbers flags (y + 1) (less_of low (counted_if b (get_or numbers y 0))) (max high (counted_if b (get_or numbers y 0)))
  unfolding taken
  spanning_next h b e =
      let q : b ≡ not (eqb (get_or flags y 0) 0) = e ∙ f.each y (omega (arith, f.long)) in
      let a = drop_step flags y 0 refl (omega (arith, f.long)) in
      let d = drop_step numbers y 0 refl h in
      record { lower = rw q (rw (a, d) at p.lower); higher = rw q (rw (a, d) at p.higher) }

  -- a node of the set, and one that is not
  pub spanning_more : y < length numbers → true ≡ has s y → Spanning numbers flags (y + 1) (less_of low (get_or numbers y 0)) (max high (get_or numbers y 0))
  spanning_more h e = spanning_next h true e

  pub spanning_past : y < length numbers → false ≡ has s y → Spanning numbers flags (y + 1) low high
  spanning_past h e =
      let m : max high 0 ≡ high = omega arith in
      rw (less_none low, m) at (spanning_next h false e)

  pub spanning_end : length numbers ≤ y → ◌≡◌ {A = Interval} (record { low = low; high = high }) (record { low = least (numbers_among flags numbers); high = greatest (numbers_among flags numbers) })
  unfolding taken
  spanning_end h =
      let e = drop_of_length-le flags {i = y} (omega (arith, f.long)) in
      rw (rw e at p.lower ∙ taken_least flags numbers, rw e at p.higher ∙ taken_greatest flags numbers) refl

-- ---- the loop over the nodes

-- what `span` promises
abbrev Spans : NodeSet → List ℕ → Interval → Type 0
Spans s numbers at = (flags : List ℕ) → length flags ≡ length numbers → ((y : ℕ) → y < length flags → has s y ≡ flagged flags y)
    → at ≡ record { low = least (numbers_among flags numbers); high = greatest (numbers_among flags numbers) }

pub record Writing (words numbers places₀ : List ℕ) (node : ℕ) (places : List ℕ) : Type 0 where
  pub so_far : node ≤ length numbers
  pub long : length places ≡ length places₀
  pub back : (n : ℕ) (es : List ℕ) → Spannable n es words numbers → drop (2 * node) places ≡ intervals_from n es (n - node) node

module _ (words numbers places₀ : List ℕ) (whole : length places₀ ≡ 2 * length numbers) where
  pub writing_start : Writing words numbers places₀ (length numbers) places₀
  unfolding intervals_from
  writing_start =
      record {
        so_far = omega arith;
        long = refl;
        back = λ n es k.
            let e : n - length numbers ≡ 0 = omega (arith, k.each) in
            drop_of_length-le places₀ {i = 2 * length numbers} (omega arith) ∙ rw e refl;
      }

  module _ (node : ℕ) (places : List ℕ) (w : Writing words numbers places₀ node places) where
    pub writing_more : 0 < node → (at : Interval) → Spans (set_at words (node - 1)) numbers at
        → Writing words numbers places₀ (node - 1) (set (set places (2 * (node - 1) + 1) at.high) (2 * (node - 1)) at.low)
    unfolding intervals_from low_of high_of
    writing_more h at f =
        let i : ℕ = node - 1 in
        record {
          so_far = omega (arith, w.so_far);
          long = length-set (set places (2 * i + 1) at.high) (2 * i) at.low ∙ length-set places (2 * i + 1) at.high ∙ w.long;
          back = λ n es k.
              let l : length numbers ≡ n = k.each in
              let s : i + 1 ≡ node = omega arith in
              let m : n - i ≡ suc (n - node) = omega (arith, w.so_far, l) in
              let r : suc i ≡ node = omega arith in
              let e : at ≡ record { low = low_of n es i; high = high_of n es i }
              = f (reach n es i) (reach_long n es i ∙ sym l)
              (λ y g. ap (λ (t : NodeSet). has t y) (k.sets i (omega (arith, w.so_far, l))) ∙ has_flagged (reach n es i) y (omega (arith, g, reach_long n es i, k.few)))
              ∙ ap (λ (ks : List ℕ). record { low = least (numbers_among (reach n es i) ks); high = greatest (numbers_among (reach n es i) ks) }) k.numbered in
              two_set places i at.low at.high (omega (arith, w.long, w.so_far))
              ∙ rw (s, w.back n es k, m, r) (ap (λ (a : Interval). a.low ∷ a.high ∷ intervals_from n es (n - node) node) e);
        }

    pub writing_end : node ≤ 0 → (n : ℕ) (es : List ℕ) → Spannable n es words numbers → places ≡ interval_table n es
    unfolding interval_table
    writing_end h n es k =
        let e : node ≡ 0 = omega arith in
        let m : n - 0 ≡ n = omega arith in
        rw (e, m) at (w.back n es k)
