-- What spreads from several names is what spreads from one or another of them, whatever the table. Assumes nothing.
use mathlib.Core.Path.{◌≡◌, refl, sym, ap, ◌∙◌}
use mathlib.Core.List.{List, [], ◌∷◌}
use mathlib.Core.Bool.{Bool, true, false, ◌&&◌, ◌||◌, or-false, or_assoc, or_comm}
use Prim.Native.Nat.{ℕ, zero, suc, ◌≤◌, ◌<◌}
use native.Mathlib.Omega.{arith}
use lib.Dec.{eqb, ltb}
use lib.ListN.{length, set, replicate, length-set, length-replicate}
use lib.Seq.{get_or-set_same, get_or-set_other, set_out}
use borrow.Author.Tests.{eqb-true, eqb-false, eq-eqb, ltb-true, ltb-false}
use Rattle.lists.specs.Lists.{any, Below, set_if}
use Rattle.hierarchy.specs.Hierarchy.{flagged, flag_all, reach_all, spread, spreads, reach, in_reach}
use Rattle.lists.proofs.Bools.{bool}
use Rattle.hierarchy.proofs.Reaches.{flag_long}
use Rattle.lists.proofs.Marks.{set_get, zero_at}

-- the flags of u are those of a and those of b
pub record Union (u a b : List ℕ) : Type 0 where
  pub left : length a ≡ length u
  pub right : length b ≡ length u
  pub each : (x : ℕ) → flagged u x ≡ (flagged a x || flagged b x)

-- a node's flag after a turn
step_flag : (t : Bool) (m : List ℕ) (c x : ℕ) → c < length m → flagged (set_if t m c 1) x ≡ ((t && eqb x c) || flagged m x)
step_flag false m c x h = refl
step_flag true m c x h =
    bool (eqb x c)
    (λ q. rw (eqb-true x c q, eq-eqb c c refl, get_or-set_same m c 1 0 h) refl)
    (λ q. rw (q, get_or-set_other m c x 1 0 (eqb-false x c q)) refl)

-- and where the child is not among the flags
step_out : (t : Bool) (m : List ℕ) (c : ℕ) → length m ≤ c → set_if t m c 1 ≡ m
step_out true m c h = set_out m c 1 h
step_out false m c h = refl

mix : (p q e a b : Bool) → (((p || q) && e) || (a || b)) ≡ (((p && e) || a) || ((q && e) || b))
mix true true true a b = refl
mix true true false a b = refl
mix true false true a b = refl
mix true false false a b = refl
mix false true true true b = refl
mix false true true false b = refl
mix false true false a b = refl
mix false false e a b = refl

-- a turn, of the three lists
turn : (u a b : List ℕ) (p c : ℕ) → Union u a b → Union (set_if (flagged u p) u c 1) (set_if (flagged a p) a c 1) (set_if (flagged b p) b c 1)
turn u a b p c k =
    record {
      left = flag_long (flagged a p) a c ∙ k.left ∙ sym (flag_long (flagged u p) u c);
      right = flag_long (flagged b p) b c ∙ k.right ∙ sym (flag_long (flagged u p) u c);
      each = λ x. bool (ltb c (length u))
          (λ q. let h = ltb-true c (length u) q in
          let ha : c < length a = omega (arith, k.left) in
          let hb : c < length b = omega (arith, k.right) in
          rw (step_flag (flagged u p) u c x h, step_flag (flagged a p) a c x ha, step_flag (flagged b p) b c x hb, k.each p, k.each x)
          (mix (flagged a p) (flagged b p) (eqb x c) (flagged a x) (flagged b x)))
          (λ q. let h = ltb-false c (length u) q in
          let ha : length a ≤ c = omega (arith, k.left) in
          let hb : length b ≤ c = omega (arith, k.right) in
          rw (step_out (flagged u p) u c h, step_out (flagged a p) a c ha, step_out (flagged b p) b c hb) (k.each x));
    }

spread_union : (es u a b : List ℕ) → Union u a b → Union (spread es u) (spread es a) (spread es b)
unfolding spread
spread_union [] u a b k = k
spread_union (p ∷ []) u a b k = k
spread_union (p ∷ c ∷ es) u a b k = spread_union es (set_if (flagged u p) u c 1) (set_if (flagged a p) a c 1) (set_if (flagged b p) b c 1) (turn u a b p c k)

spreads_union : (n : ℕ) (es u a b : List ℕ) → Union u a b → Union (spreads n es u) (spreads n es a) (spreads n es b)
unfolding spreads
spreads_union zero es u a b k = k
spreads_union (suc n) es u a b k = spreads_union n es (spread es u) (spread es a) (spread es b) (spread_union es u a b k)

-- nothing spreads from nothing
spread_none : (n : ℕ) (es : List ℕ) → spread es (replicate n 0) ≡ replicate n 0
unfolding spread
spread_none n [] = refl
spread_none n (p ∷ []) = refl
spread_none n (p ∷ c ∷ es) = rw (zero_at n p) (spread_none n es)

spreads_none : (k n : ℕ) (es : List ℕ) → spreads k es (replicate n 0) ≡ replicate n 0
unfolding spreads
spreads_none zero n es = refl
spreads_none (suc k) n es = ap (spreads k es) (spread_none n es) ∙ spreads_none k n es

-- a name more
name_union : (n : ℕ) (m : List ℕ) (name : ℕ) → length m ≡ n → Union (set m name 1) (set (replicate n 0) name 1) m
name_union n m name l =
    let z = length-replicate {A = ℕ} n 0 in
    record {
      left = length-set {A = ℕ} (replicate n 0) name 1 ∙ z ∙ sym l ∙ sym (length-set m name 1);
      right = sym (length-set m name 1);
      each = λ x. bool (ltb name n)
          (λ q. let h = ltb-true name n q in
          rw (step_flag true m name x (omega arith), step_flag true (replicate n 0) name x (omega arith), zero_at n x) (ap (◌|| flagged m x) (sym (or-false (eqb x name)))))
          (λ q. let h = ltb-false name n q in
          rw (set_out m name 1 (omega arith), set_out {A = ℕ} (replicate n 0) name 1 (omega arith), zero_at n x) refl);
    }

names_union : (k n : ℕ) (es names m : List ℕ) (x : ℕ) → length m ≡ n
    → flagged (spreads k es (flag_all names m)) x ≡ (any (λ (name : ℕ). flagged (spreads k es (set (replicate n 0) name 1)) x) names || flagged (spreads k es m) x)
unfolding flag_all any
names_union k n es [] m x l = refl
names_union k n es (name ∷ names) m x l =
    let others : Bool = any (λ (name : ℕ). flagged (spreads k es (set (replicate n 0) name 1)) x) names in
    let this : Bool = flagged (spreads k es (set (replicate n 0) name 1)) x in
    names_union k n es names (set m name 1) x (length-set m name 1 ∙ l)
    ∙ ap (others ||◌) ((spreads_union k es (set m name 1) (set (replicate n 0) name 1) m (name_union n m name l)).each x)
    ∙ sym (or_assoc others this (flagged (spreads k es m) x))
    ∙ ap (◌|| flagged (spreads k es m) x) (or_comm others this)

-- THE REACH OF SEVERAL NODES at once has just the nodes that are in the reach of one of them
pub reach_names : (n : ℕ) (es names : List ℕ) (x : ℕ) → flagged (reach_all n es names) x ≡ in_reach n es names x
unfolding reach reach_all
reach_names n es names x =
    names_union n n es names (replicate n 0) x (length-replicate {A = ℕ} n 0)
    ∙ rw (spreads_none n n es, zero_at n x) (or-false (in_reach n es names x))

-- flags of names are 0 or 1
pub all_bits : (names m : List ℕ) → Below 2 m → Below 2 (flag_all names m)
unfolding flag_all
all_bits [] m b = b
all_bits (name ∷ names) m b = all_bits names (set m name 1) (λ i. set_get (λ (v : ℕ). v < 2) m name 1 i 0 (omega arith) (b i))

pub all_long : (names m : List ℕ) → length (flag_all names m) ≡ length m
unfolding flag_all
all_long [] m = refl
all_long (name ∷ names) m = all_long names (set m name 1) ∙ length-set m name 1

-- what the search does, call by call
module _ (n : ℕ) (names flags₁ flags₂ : List ℕ) (cleared : flags₁ ≡ replicate n 0) (named : flags₂ ≡ flag_all names flags₁) where
  long₂ : length flags₂ ≡ n
  long₂ = ap length named ∙ all_long names flags₁ ∙ ap length cleared ∙ length-replicate {A = ℕ} n 0

  pub search_bits : Below 2 flags₂
  search_bits = rw (named, cleared) (all_bits names (replicate n 0) (λ i. rw (zero_at n i) (omega arith)))

  pub search_all : (es flags₃ : List ℕ) → flags₃ ≡ spreads (length flags₂) es flags₂ → flags₃ ≡ reach_all n es names
  unfolding reach_all
  search_all es flags₃ spread = spread ∙ rw (long₂, named, cleared) refl
