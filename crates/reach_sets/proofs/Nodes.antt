-- Sets by their members: no node, one node, the union, what two have in common, and that sets of the same nodes are the same. Assumes nothing.
use mathlib.Core.Path.{◌≡◌, refl, sym, ap, ◌∙◌}
use mathlib.Core.List.{List}
use mathlib.Core.Bool.{Bool, true, false, not, ◌&&◌, ◌||◌}
use Prim.Native.Nat.{ℕ, zero, suc, ◌+◌, ◌*◌, ◌/◌, ◌%◌, ◌^◌, ◌≤◌, ◌<◌}
use native.Mathlib.Omega.{arith}
use lib.Dec.{eqb}
use lib.Bits.{bit_and, bit_or}
use lib.ListN.{length, replicate, get_or-eq_default}
use lib.Seq.{get_or-set_same, get_or-set_other, ext_get_or}
use borrow.Author.Tests.{eqb-true, eqb-false}
use Rattle.lists.proofs.Bools.{bool, not_both, and_left, and_right}
use Rattle.lists.proofs.Bounded.{any_stop, none_of}
use Rattle.lists.proofs.Marks.{zero_at}
use Rattle.reach_sets.specs.declared.NodeSet.{NodeSet}
use Rattle.reach_sets.specs.Sets.{bit, word_at, has, no_nodes, joined, meets}
use Rattle.reach_sets.specs.Inner.{single_of}
use Rattle.reach_sets.proofs.Bits.{bit_two, either_digit, both_digits, or_bit, and_bit, single_same, single_other, nought_bit, same_bits, some_bit}

-- what holds of the words 0 to 3 holds of each below 4
pub four : (P : ℕ → Type 0) → P 0 → P 1 → P 2 → P 3 → (k : ℕ) → k < 4 → P k
four P a b c d zero h = a
four P a b c d (suc zero) h = b
four P a b c d (suc (suc zero)) h = c
four P a b c d (suc (suc (suc zero))) h = d
four P a b c d (suc (suc (suc (suc k)))) h = absurd (omega arith)

-- two sets have the same four words
abbrev pub same_words : NodeSet → NodeSet → Bool
same_words a b = eqb (word_at a 0) (word_at b 0) && eqb (word_at a 1) (word_at b 1) && eqb (word_at a 2) (word_at b 2) && eqb (word_at a 3) (word_at b 3)

-- word by word
pub same_words_law : (a b : NodeSet) → same_words a b ≡ true → (k : ℕ) → k < 4 → word_at a k ≡ word_at b k
same_words_law a b e =
    let e0 : Bool = eqb (word_at a 0) (word_at b 0) in
    let e1 : Bool = eqb (word_at a 1) (word_at b 1) in
    let e2 : Bool = eqb (word_at a 2) (word_at b 2) in
    let e3 : Bool = eqb (word_at a 3) (word_at b 3) in
    let h2 = and_left (e0 && e1 && e2) e3 e in
    let h1 = and_left (e0 && e1) e2 h2 in
    four (λ k. word_at a k ≡ word_at b k)
    (eqb-true (word_at a 0) (word_at b 0) (and_left e0 e1 h1))
    (eqb-true (word_at a 1) (word_at b 1) (and_right e0 e1 h1))
    (eqb-true (word_at a 2) (word_at b 2) (and_right (e0 && e1) e2 h2))
    (eqb-true (word_at a 3) (word_at b 3) (and_right (e0 && e1 && e2) e3 e))

-- no node is in the set without one
pub has_none : (node : ℕ) → has no_nodes node ≡ false
has_none node = ap (λ (w : ℕ). eqb (bit w (node % 64)) 1) (zero_at 4 (node / 64)) ∙ ap (λ (b : ℕ). eqb b 1) (nought_bit (node % 64))

-- nor is one from 256 on in any
pub has_past : (s : NodeSet) (node : ℕ) → length s.words ≡ 4 → 256 ≤ node → has s node ≡ false
has_past s node l h =
    ap (λ (w : ℕ). eqb (bit w (node % 64)) 1) (get_or-eq_default s.words 0 {n = node / 64} (omega arith)) ∙ ap (λ (b : ℕ). eqb b 1) (nought_bit (node % 64))

-- a node is in the union where it is in one of the two
pub has_joined : (a b : NodeSet) (node : ℕ) → node < 256 → has (joined a b) node ≡ (has a node || has b node)
has_joined a b node h =
    ap (λ (w : ℕ). eqb (bit w (node % 64)) 1)
    (four (λ k. word_at (joined a b) k ≡ bit_or (word_at a k) (word_at b k)) refl refl refl refl (node / 64) (omega arith))
    ∙ ap (λ (x : ℕ). eqb x 1) (or_bit (word_at a (node / 64)) (word_at b (node / 64)) (node % 64))
    ∙ either_digit (bit (word_at a (node / 64)) (node % 64)) (bit (word_at b (node / 64)) (node % 64))
    (bit_two (word_at a (node / 64)) (node % 64)) (bit_two (word_at b (node / 64)) (node % 64))

-- the one node is in its set, and no other is
pub has_self : (node : ℕ) → node < 256 → has (single_of node) node ≡ true
has_self node h =
    rw (get_or-set_same {A = ℕ} (replicate 4 0) (node / 64) (2 ^ (node % 64)) 0 (omega arith), single_same (node % 64)) refl

pub has_only : (node x : ℕ) → node < 256 → has (single_of node) x ≡ true → x ≡ node
has_only node x h t =
    bool (eqb (x / 64) (node / 64))
    (λ e.
    let q = eqb-true (x / 64) (node / 64) e in
    bool (eqb (x % 64) (node % 64))
    (λ f. omega (arith, q, eqb-true (x % 64) (node % 64) f))
    (λ f. not_both (has (single_of node) x) t
    (ap (λ (k : ℕ). eqb (bit (word_at (single_of node) k) (x % 64)) 1) q
    ∙ ap (λ (w : ℕ). eqb (bit w (x % 64)) 1) (get_or-set_same {A = ℕ} (replicate 4 0) (node / 64) (2 ^ (node % 64)) 0 (omega arith))
    ∙ ap (λ (b : ℕ). eqb b 1) (single_other (node % 64) (x % 64) (λ g. eqb-false (x % 64) (node % 64) f (sym g))))))
    (λ e. not_both (has (single_of node) x) t
    (ap (λ (w : ℕ). eqb (bit w (x % 64)) 1)
    (get_or-set_other {A = ℕ} (replicate 4 0) (node / 64) (x / 64) (2 ^ (node % 64)) 0 (eqb-false (x / 64) (node / 64) e) ∙ zero_at 4 (x / 64))
    ∙ ap (λ (b : ℕ). eqb b 1) (nought_bit (x % 64))))

-- ---- sets of the same nodes

-- every word of a set has 64 bits
abbrev pub Words : NodeSet → Type 0
Words s = (length s.words ≡ 4) × ((k : ℕ) → k < 4 → word_at s k < 2 ^ 64)

-- a digit by whether it is 1
same_digit : (x y : ℕ) → x < 2 → y < 2 → eqb x 1 ≡ eqb y 1 → x ≡ y
same_digit x y h k e =
    bool (eqb y 1)
    (λ t. eqb-true x 1 (e ∙ t) ∙ sym (eqb-true y 1 t))
    (λ t. omega (arith, eqb-false x 1 (e ∙ t), eqb-false y 1 t))

-- a bit of a set
has_bit : (a b : NodeSet) → ((y : ℕ) → y < 256 → has a y ≡ has b y) → (k i : ℕ) → k < 4 → i < 64 → bit (word_at a k) i ≡ bit (word_at b k) i
has_bit a b f k i h g =
    let q : (64 * k + i) / 64 ≡ k = omega arith in
    let r : (64 * k + i) % 64 ≡ i = omega arith in
    same_digit (bit (word_at a k) i) (bit (word_at b k) i) (bit_two (word_at a k) i) (bit_two (word_at b k) i)
    (rw (q, r) at (f (64 * k + i) (omega arith)))

pub same_set : (a b : NodeSet) → Words a → Words b → ((y : ℕ) → y < 256 → has a y ≡ has b y) → a ≡ b
same_set a b wa wb f =
    ap (λ (ws : List ℕ). record { words = ws })
    (ext_get_or 0 a.words b.words (wa.0 ∙ sym wb.0)
    (λ k h. let g : k < 4 = omega (arith, h, wa.0) in same_bits 64 (word_at a k) (word_at b k) (wa.1 k g) (wb.1 k g) (λ i l. has_bit a b f k i g l)))

-- ---- what two sets have in common

-- a word in which both have a bit
pub meets_if : (a b : NodeSet) (k : ℕ) → k < 4 → bit_and (word_at a k) (word_at b k) < 2 ^ 64 → (bit_and (word_at a k) (word_at b k) ≡ 0 → ⊥) → meets a b ≡ true
meets_if a b k h s d =
    let r = some_bit 64 (bit_and (word_at a k) (word_at b k)) s d in
    let i : ℕ = r.0 in
    let p : (64 * k + i) / 64 ≡ k = omega (arith, r.1) in
    let q : (64 * k + i) % 64 ≡ i = omega (arith, r.1) in
    any_stop (λ node. has a node && has b node) 256 (64 * k + i) (omega (arith, h, r.1))
    (rw (p, q)
    (sym (both_digits (bit (word_at a k) i) (bit (word_at b k) i) (bit_two (word_at a k) i) (bit_two (word_at b k) i))
    ∙ ap (λ (x : ℕ). eqb x 1) (sym (and_bit (word_at a k) (word_at b k) i) ∙ r.2)))

pub meets_not : (a b : NodeSet) → ((k : ℕ) → k < 4 → bit_and (word_at a k) (word_at b k) ≡ 0) → meets a b ≡ false
meets_not a b f =
    none_of (λ node. has a node && has b node) 256
    (λ node h.
    let k : ℕ = node / 64 in
    let i : ℕ = node % 64 in
    sym (both_digits (bit (word_at a k) i) (bit (word_at b k) i) (bit_two (word_at a k) i) (bit_two (word_at b k) i))
    ∙ ap (λ (x : ℕ). eqb x 1) (sym (and_bit (word_at a k) (word_at b k) i) ∙ ap (λ (w : ℕ). bit w i) (f k (omega arith)) ∙ nought_bit i))

-- so it is enough to look at the four words
pub meets_words : (a b : NodeSet) → ((k : ℕ) → k < 4 → bit_and (word_at a k) (word_at b k) < 2 ^ 64)
    → (((not (eqb (bit_and (word_at a 0) (word_at b 0)) 0) || not (eqb (bit_and (word_at a 1) (word_at b 1)) 0)) || not (eqb (bit_and (word_at a 2) (word_at b 2)) 0))
    || not (eqb (bit_and (word_at a 3) (word_at b 3)) 0)) ≡ meets a b
meets_words a b f =
    bool (eqb (both 0) 0)
    (λ z0. bool (eqb (both 1) 0)
    (λ z1. bool (eqb (both 2) 0)
    (λ z2. bool (eqb (both 3) 0)
    (λ z3. rw (z0, z1, z2, z3)
    (sym (meets_not a b (four (λ k. both k ≡ 0) (eqb-true (both 0) 0 z0) (eqb-true (both 1) 0 z1) (eqb-true (both 2) 0 z2) (eqb-true (both 3) 0 z3)))))
    (λ e. rw (z0, z1, z2, e) (sym (met 3 (omega arith) e))))
    (λ e. rw (z0, z1, e) (sym (met 2 (omega arith) e))))
    (λ e. rw (z0, e) (sym (met 1 (omega arith) e))))
    (λ e. rw e (sym (met 0 (omega arith) e)))
  where
    both : ℕ → ℕ
    both k = bit_and (word_at a k) (word_at b k)

    met : (k : ℕ) → k < 4 → eqb (both k) 0 ≡ false → meets a b ≡ true
    met k h e = meets_if a b k h (f k h) (eqb-false (both k) 0 e)
