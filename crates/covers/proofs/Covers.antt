-- The narrowest cover, over interval tables of any contents. Assumes nothing.
use mathlib.Core.Path.{◌≡◌, refl, sym, ap, ◌∙◌, subst}
use mathlib.Core.List.{List}
use mathlib.Core.Bool.{Bool, true, false, not, cond, ◌&&◌, ◌||◌}
use Prim.Native.Nat.{ℕ, zero, suc, ◌+◌, ◌-◌, ◌*◌, ◌/◌, ◌≤◌, ◌<◌, min}
use native.Mathlib.Numerals.{add-one}
use native.Mathlib.Omega.{arith}
use lib.Dec.{ltb}
use lib.ListN.{length, get_or, get_or-eq_default}
use borrow.Author.Tests.{ltb-true, ltb-false, not-true}
use Rattle.covers.specs.Cover.{interval_at, contains, width, closer, closer_of, closest, IsCover}
use Rattle.covers.specs.declared.Interval.{Interval}
use Rattle.lists.proofs.Bools.{bool, not_both, and_left, and_right, or_either}
use Rattle.lists.proofs.Bounded.{below_more}

module _ (table : List ℕ) (call : Interval) where
  abbrev around : ℕ → Bool
  around r = contains (interval_at table r) call

  abbrev wide : ℕ → ℕ
  wide r = width (interval_at table r)

  -- what the definition has of the nodes below k: a number that is 0 or below k and, where some interval contains the call's, the cover
  record SoFar (k c : ℕ) : Type 0 where
    below : c ≤ k - 1
    cover : (r : ℕ) → r < k → around r ≡ true → IsCover k table call c

  -- k is closer than the best so far
  so_far_closer : (k c : ℕ) → SoFar k c → around k ≡ true → (around c ≡ true → wide k < wide c) → SoFar (suc k) k
  so_far_closer k c f a n =
      let wider : (r : ℕ) → r < k → around r ≡ true → wide k < wide r = λ r l h. let v = f.cover r l h in omega (arith, n v.around, v.narrowest r l h) in
      record {
        below = omega arith;
        cover = λ r l h.
            record {
              below = omega arith;
              around = a;
              narrowest = λ s m g. below_more s k m (λ e. rw e (omega arith)) (λ i. omega (arith, wider s i g));
              lowest = λ s m g q. below_more s k m (λ e. omega (arith, e)) (λ i. absurd (omega (arith, wider s i g, q)));
            };
      }

  -- or it is not
  so_far_past : (k c : ℕ) → SoFar k c → (around k ≡ true → (around c ≡ true) × (wide c ≤ wide k)) → SoFar (suc k) c
  so_far_past k c f n =
      record {
        below = omega (arith, f.below);
        cover = λ r l h.
            record {
              below = omega (arith, f.below);
              around = below_more r k l (λ e. (n (subst (λ (x : ℕ). around x ≡ true) e h)).0) (λ i. (f.cover r i h).around);
              narrowest = λ s m g. below_more s k m (λ e. rw e (n (subst (λ (x : ℕ). around x ≡ true) e g)).1) (λ i. (f.cover s i g).narrowest s i g);
              lowest = λ s m g q. below_more s k m (λ e. omega (arith, f.below, e)) (λ i. (f.cover s i g).lowest s i g q);
            };
      }

  -- a test that fails though k's interval contains the call's
  neither : (a b c : Bool) → a ≡ true → (a && (not b || c)) ≡ false → (b ≡ true) × (c ≡ false)
  neither true true c p q = (refl, q)
  neither true false c p q = not_both true refl q
  neither false b c p q = not_both false p refl

  so_far_more : (k c : ℕ) → SoFar k c → SoFar (suc k) (closer_of table call k c)
  so_far_more k c f =
      bool (closer call (interval_at table k) (interval_at table c))
      (λ t. rw t
      (so_far_closer k c f (and_left (around k) (not (around c) || ltb (wide k) (wide c)) t)
      (λ a. or_either (not (around c)) (ltb (wide k) (wide c)) (and_right (around k) (not (around c) || ltb (wide k) (wide c)) t)
      (λ q. not_both (around c) a (not-true (around c) q))
      (ltb-true (wide k) (wide c)))))
      (λ t. rw t
      (so_far_past k c f (λ a. let q = neither (around k) (around c) (ltb (wide k) (wide c)) a t in (q.0, ltb-false (wide k) (wide c) q.1))))

  so_far : (k : ℕ) → SoFar k (closest k table call)
  unfolding closest
  so_far zero = record { below = omega arith; cover = λ r l h. absurd (omega arith) }
  so_far (suc k) = so_far_more k (closest k table call) (so_far k)

  -- what the definition gives is 0 or below n,
  pub closest_least : (n : ℕ) → closest n table call ≤ n - 1
  closest_least n = (so_far n).below

  -- so of some nodes it is one,
  pub closest_below : (n : ℕ) → 1 ≤ n → closest n table call < n
  closest_below n h = omega (arith, closest_least n)

  -- and where the interval of some node contains the call's, it is the cover
  pub closest_cover : (n r : ℕ) → r < n → contains (interval_at table r) call ≡ true → IsCover n table call (closest n table call)
  closest_cover n = (so_far n).cover

  -- THE LOOP: it has the best of the first k nodes, and the interval of that
  pub record Looking (k best : ℕ) (at : Interval) : Type 0 where
    pub found : best ≡ closest k table call
    pub interval : at ≡ interval_at table best

  pub looking_start : {at : Interval} → at ≡ interval_at table 0 → Looking 0 0 at
  unfolding closest
  looking_start e = record { found = refl; interval = e }

  -- node k, with the interval that was read, is closer, or it is not
  module _ (k best : ℕ) (at here : Interval) (l : Looking k best at) (of-k : here ≡ interval_at table k) where
    turn : (t : Bool) → closer call here at ≡ t → cond t k best ≡ closest (k + 1) table call
    unfolding closest
    turn t e =
        rw (add-one k)
        (rw (← e, of-k, l.interval)
        (ap (λ (b : ℕ). closer_of table call k b) l.found))

    pub looking_closer : closer call here at ≡ true → Looking (k + 1) k here
    looking_closer t = record { found = turn true t; interval = of-k }

    pub looking_past : closer call here at ≡ false → Looking (k + 1) best at
    looking_past t = record { found = turn false t; interval = l.interval }

  -- past the table all intervals are alike, so that one node there stands for all
  past_same : (r s : ℕ) → length table ≤ 2 * r → length table ≤ 2 * s → interval_at table r ≡ interval_at table s
  past_same r s h g =
      let past : (n : ℕ) → length table ≤ n → get_or table n 0 ≡ 0 = λ n l. get_or-eq_default table 0 {n = n} l in
      rw (past (2 * r) h, past (2 * s) g, past (2 * r + 1) (omega arith), past (2 * s + 1) (omega arith))

  closest_past : (k r : ℕ) → length table ≤ 2 * r → r < k → closest (suc k) table call ≡ closest k table call
  unfolding closest
  closest_past k r h l =
      let c = closest k table call in
      let same = past_same k r (omega arith) h in
      bool (closer call (interval_at table k) (interval_at table c))
      (λ t.
      let a = subst (λ (x : Interval). contains x call ≡ true) same (and_left (around k) (not (around c) || ltb (wide k) (wide c)) t) in
      or_either (not (around c)) (ltb (wide k) (wide c)) (and_right (around k) (not (around c) || ltb (wide k) (wide c)) t)
      (λ q. not_both (around c) (closest_cover k r l a).around (not-true (around c) q))
      (λ q. absurd (omega (arith, ltb-true (wide k) (wide c) q, (closest_cover k r l a).narrowest r l a, ap width same))))
      (λ t. ap (λ (x : Bool). cond x k c) t)

  closest_stays : (m n r : ℕ) → length table ≤ 2 * r → r < m → m ≤ n → closest n table call ≡ closest m table call
  closest_stays m zero r h l g = absurd (omega arith)
  closest_stays m (suc n) r h l g =
      bool (ltb n m)
      (λ t. ap (λ (k : ℕ). closest k table call) (let q = ltb-true n m t in omega arith))
      (λ t. let q = ltb-false n m t in closest_past n r h (omega arith) ∙ closest_stays m n r h l q)

  -- a look at so many is enough
  pub looked : (n : ℕ) → closest (min n (length table / 2 + 2)) table call ≡ closest n table call
  looked n =
      bool (ltb n (length table / 2 + 2))
      (λ t. ap (λ (k : ℕ). closest k table call) (let q = ltb-true n (length table / 2 + 2) t in omega arith))
      (λ t.
      let q = ltb-false n (length table / 2 + 2) t in
      let e : min n (length table / 2 + 2) ≡ length table / 2 + 2 = omega arith in
      rw e (sym (closest_stays (length table / 2 + 2) n (length table / 2 + 1) (omega arith) (omega arith) q)))
