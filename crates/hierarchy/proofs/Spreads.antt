-- Flags that are spread over the edges until nothing changes. Assumes nothing.
use mathlib.Core.Path.{◌≡◌, refl, sym, ap, subst, ◌∙◌}
use mathlib.Core.List.{List, [], ◌∷◌}
use mathlib.Core.Bool.{Bool, true, false, not, ◌&&◌, ◌||◌, or-true, or-false}
use Prim.Native.Nat.{ℕ, zero, suc, ◌+◌, ◌≤◌, ◌<◌}
use native.Mathlib.Omega.{arith}
use lib.Dec.{eqb, ltb}
use lib.ListN.{length, get_or, set, drop, length-set, drop_of_length-le}
use lib.Seq.{set-get_or, set_out, ext_get_or}
use borrow.Author.Tests.{eqb-true, eqb-false, ltb-true, ltb-false, not-true}
use Rattle.hierarchy.specs.Hierarchy.{Edge, flagged, flag_all, spread, spreads}
use Rattle.hierarchy.specs.Inner.{unflagged, On, Stable, Grown}
use Rattle.lists.specs.Lists.{one_if, zeros, Went, Below, set_if}
use Rattle.lists.proofs.Bools.{bool, not_both, and_left, and_right}
use Rattle.lists.proofs.Marks.{zeros_fall, set_get}
use Rattle.hierarchy.proofs.Pairs.{pass}
use Rattle.hierarchy.proofs.Reaches.{spread_long, spread_on, spread_edge, new_flag, spread_only, spreads_long, less_zeros, spreads_enough, spreads_on, spreads_only}
use Rattle.lists.proofs.Loops.{get_d_any, drop_step}
use Rattle.lists.proofs.Passes.{went_on, went_less}

-- a pass at its edge e
pub record Spreading (es : List (List ℕ)) (flags₀ : List ℕ) (e : ℕ) (changed : Bool) (flags : List ℕ) : Type 0 where
  pub long : length flags ≡ length flags₀
  pub bits : Below 2 flags
  pub same : pass (drop e es) flags ≡ pass es flags₀
  pub went : Went zeros changed flags₀ flags

pub spreading_start : (es : List (List ℕ)) (flags : List ℕ) → Below 2 flags → Spreading es flags 0 false flags
spreading_start es flags b = record { long = refl; bits = b; same = refl; went = refl }

module _ (es : List (List ℕ)) (flags₀ : List ℕ) (e : ℕ) (changed : Bool) (flags : List ℕ) (k : Spreading es flags₀ e changed flags) where
  module _ (h : e < length es) where
    abbrev parent : ℕ
    parent = get_or (get_or es e []) 0 0

    abbrev child : ℕ
    child = get_or (get_or es e []) 1 0

    -- what is left, by what the turn reads
    turned : pass (drop (e + 1) es) (set_if (flagged flags parent) flags child 1) ≡ pass es flags₀
    unfolding pass
    turned = sym (ap (λ (t : List (List ℕ)). pass t flags) (drop_step es e [] refl h)) ∙ k.same

    spreading_none : flagged flags parent ≡ false → Spreading es flags₀ (e + 1) changed flags
    spreading_none z = record { long = k.long; bits = k.bits; same = rw z at turned; went = k.went }

    module _ (on : flagged flags parent ≡ true) where
      spreading_new : unflagged flags child ≡ true → Spreading es flags₀ (e + 1) true (set flags child 1)
      spreading_new u =
          let l : child < length flags = ltb-true _ _ (and_left (ltb child (length flags)) (eqb (get_or flags child 0) 0) u) in
          let z : get_or flags child 0 ≡ 0 = eqb-true _ _ (and_right (ltb child (length flags)) (eqb (get_or flags child 0) 0) u) in
          let f = zeros_fall flags child 1 0 (get_d_any flags child 1 0 l ∙ z) (omega arith) in
          record {
            long = length-set flags child 1 ∙ k.long;
            bits = λ i. set_get (λ (v : ℕ). v < 2) flags child 1 i 0 (omega arith) (k.bits i);
            same = rw on at turned;
            went = went_on zeros changed flags₀ flags (set flags child 1) k.went (omega arith);
          }

      -- a child that has its flag, or is not among the flags, changes nothing
      as_is : unflagged flags child ≡ false → set flags child 1 ≡ flags
      as_is u =
          bool (ltb child (length flags))
          (λ q. let d = eqb-false (get_or flags child 0) 0 (rw q at u) in
          let one : get_or flags child 0 ≡ 1 = omega (arith, k.bits child, d) in
          ap (set flags child) (sym one) ∙ set-get_or flags child 0)
          (λ q. set_out flags child 1 (ltb-false child (length flags) q))

      spreading_old : unflagged flags child ≡ false → Spreading es flags₀ (e + 1) changed (set flags child 1)
      spreading_old u =
          rw (as_is u)
          record {
            long = k.long;
            bits = k.bits;
            same = ap (pass (drop (e + 1) es)) (sym (as_is u)) ∙ (rw on at turned);
            went = k.went;
          }

    -- the edge is followed
    pub spreading_on : Spreading es flags₀ (e + 1) (changed || flagged flags parent && unflagged flags child) (set_if (flagged flags parent) flags child 1)
    spreading_on =
        bool (flagged flags parent)
        (λ on. bool (unflagged flags child)
        (λ u. rw (on, u, or-true changed) (spreading_new on u))
        (λ u. rw (on, u, or-false changed) (spreading_old on u)))
        (λ off. rw (off, or-false changed) (spreading_none off))

  pub spreading_end : length es ≤ e → flags ≡ pass es flags₀
  unfolding pass
  spreading_end h = rw (drop_of_length-le es h) at k.same

-- THE PASSES: flags stay 0 or 1

spread_bits : (es flags : List ℕ) → Below 2 flags → Below 2 (spread es flags)
unfolding spread
spread_bits [] flags b = b
spread_bits (p ∷ []) flags b = b
spread_bits (p ∷ c ∷ es) flags b = spread_bits es (set_if (not (eqb (get_or flags p 0) 0)) flags c 1) (one (not (eqb (get_or flags p 0) 0)))
  where
    one : (t : Bool) → Below 2 (set_if t flags c 1)
    one true i = set_get (λ (v : ℕ). v < 2) flags c 1 i 0 (omega arith) (b i)
    one false i = b i

spreads_bits : (k : ℕ) (es flags : List ℕ) → Below 2 flags → Below 2 (spreads k es flags)
unfolding spreads
spreads_bits zero es flags b = b
spreads_bits (suc k) es flags b = spreads_bits k es (spread es flags) (spread_bits es flags b)

-- PASSES IN ANY ORDER
module _ (es : List ℕ) where
  pub grown_none : (flags : List ℕ) → Below 2 flags → Grown es flags flags
  grown_none flags b = record { long = refl; bits = b; more = λ x o. o; within = λ s t f. f }

  grown_then : (a b c : List ℕ) → Grown es a b → Grown es b c → Grown es a c
  grown_then a b c g k =
      record {
        long = k.long ∙ g.long;
        bits = k.bits;
        more = λ x o. k.more x (g.more x o);
        within = λ s t f. k.within s (λ p q e r. t p q e (omega (arith, g.long))) (g.within s t f);
      }

  -- where the parent is flagged, the child is
  grown_flag : (flags₀ flags : List ℕ) (p c : ℕ) → Grown es flags₀ flags → Edge es p c → flagged flags p ≡ true → Grown es flags₀ (set flags c 1)
  grown_flag flags₀ flags p c g e on =
      let d = eqb-false (get_or flags p 0) 0 (not-true (eqb (get_or flags p 0) 0) on) in
      let h : On flags p = omega (arith, d) in
      record {
        long = length-set flags c 1 ∙ g.long;
        bits = λ i. set_get (λ (v : ℕ). v < 2) flags c 1 i 0 (omega arith) (g.bits i);
        more = λ x o. set_get (λ (v : ℕ). 1 ≤ v) flags c 1 x 0 (omega arith) (g.more x o);
        within = λ s t f x o. new_flag (On s) flags c x (length flags₀) g.long o (λ r. t p c e r (g.within s t f p h)) (g.within s t f);
      }

  pub grown_follow : (flags₀ flags : List ℕ) (p c : ℕ) → Grown es flags₀ flags → Edge es p c → Grown es flags₀ (set_if (flagged flags p) flags c 1)
  grown_follow flags₀ flags p c g e = bool (flagged flags p) (λ on. rw on (grown_flag flags₀ flags p c g e on)) (λ off. rw off g)

  -- a pass from the first edge on
  grown_spread : (flags : List ℕ) → Below 2 flags → Grown es flags (spread es flags)
  grown_spread flags b =
      record {
        long = spread_long es flags;
        bits = spread_bits es flags b;
        more = spread_on es flags;
        within = λ s t f. spread_only (On s) es flags (length flags) refl t f;
      }

  -- THE LOOP of passes
  pub record Reaching (flags₀ : List ℕ) (on : Bool) (flags : List ℕ) : Type 0 where
    pub grown : Grown es flags₀ flags
    pub done : on ≡ false → spread es flags ≡ flags

  pub reaching_start : (flags : List ℕ) → Below 2 flags → Reaching flags true flags
  reaching_start flags b = record { grown = grown_none flags b; done = λ e. not_both true refl e }

  -- a pass back, and one on
  module _ (flags back flags' : List ℕ) (g : Grown es flags back) (e : flags' ≡ spread es back) where
    pub reaching_more : (flags₀ : List ℕ) (on b : Bool) → Reaching flags₀ on flags → Went zeros b back flags' → Reaching flags₀ b flags'
    reaching_more flags₀ on b r w =
        record {
          grown = subst (Grown es flags₀) (sym e) (grown_then flags₀ back (spread es back) (grown_then flags₀ flags back r.grown g) (grown_spread back g.bits));
          done = still b w;
        }
      where
        still : (b : Bool) → Went zeros b back flags' → b ≡ false → spread es flags' ≡ flags'
        still true w f = not_both true refl f
        still false w f = ap (spread es) w ∙ sym e

    pub reaching_less : (on b : Bool) → on ≡ true → Went zeros b back flags' → one_if b (zeros flags') < one_if on (zeros flags)
    reaching_less on b t w =
        let h : one_if b (zeros flags') < one_if true (zeros back) = went_less zeros true b back flags' refl w in
        rw t (omega (arith, h, less_zeros flags back g.long g.more))

-- numbers that are 0 or 1 are the same where the one is 1 just when the other is
same_bit : (a b : ℕ) → a < 2 → b < 2 → (1 ≤ a → 1 ≤ b) → (1 ≤ b → 1 ≤ a) → a ≡ b
same_bit a b ha hb f g =
    bool (eqb a 0)
    (λ q. let z = eqb-true a 0 q in
    bool (eqb b 0) (λ t. z ∙ sym (eqb-true b 0 t)) (λ t. let d = eqb-false b 0 t in absurd (omega (arith, z, g (omega (arith, d))))))
    (λ q. let d = eqb-false a 0 q in omega (arith, d, f (omega (arith, d))))

zeros_most : (l : List ℕ) → zeros l ≤ length l
unfolding zeros
zeros_most [] = omega arith
zeros_most (x ∷ xs) = bool (eqb x 0) (λ a. rw a (omega (arith, zeros_most xs))) (λ a. rw a (omega (arith, zeros_most xs)))

-- flags that spread no further, and are no more than all such have, are those that passes give
pub reaching_end : (es flags₀ : List ℕ) (on : Bool) (flags : List ℕ) → Below 2 flags₀ → Reaching es flags₀ on flags → on ≡ false
    → flags ≡ spreads (length flags₀) es flags₀
reaching_end es flags₀ on flags b r f =
    let n : ℕ = length flags₀ in
    let g = r.grown in
    let stable : Stable n es flags = λ p c e k h. subst (λ (t : List ℕ). On t c) (r.done f) (spread_edge flags e h (omega (arith, g.long))) in
    let all : List ℕ = spreads n es flags₀ in
    ext_get_or 0 flags all (g.long ∙ sym (spreads_long n es flags₀))
    (λ i h. same_bit (get_or flags i 0) (get_or all i 0) (g.bits i) (spreads_bits n es flags₀ b i)
    (g.within all (spreads_enough es n n flags₀ refl (zeros_most flags₀)) (spreads_on es n n flags₀) i)
    (spreads_only es n (On flags) n flags₀ refl stable g.more i))

-- THE NAMES

-- flags with the names before place i flagged
pub record Flagging (names flags₀ : List ℕ) (i : ℕ) (flags : List ℕ) : Type 0 where
  pub long : length flags ≡ length flags₀
  pub same : flag_all (drop i names) flags ≡ flag_all names flags₀

pub flagging_start : (names flags : List ℕ) → Flagging names flags 0 flags
flagging_start names flags = record { long = refl; same = refl }

module _ (names flags₀ : List ℕ) (i : ℕ) (flags : List ℕ) (f : Flagging names flags₀ i flags) where
  pub flagging_more : i < length names → (flags' : List ℕ) → flags' ≡ set flags (get_or names i 0) 1 → Flagging names flags₀ (i + 1) flags'
  unfolding flag_all
  flagging_more h flags' e =
      record {
        long = ap length e ∙ length-set flags (get_or names i 0) 1 ∙ f.long;
        same = rw e (rw (drop_step names i 0 refl h) at f.same);
      }

  pub flagging_end : length names ≤ i → flags ≡ flag_all names flags₀
  unfolding flag_all
  flagging_end h = rw (drop_of_length-le names h) at f.same
