-- Bits of a word: or is union, and is intersection, `1 << i` is bit i alone, and words of the same bits are the same. Assumes nothing.
use mathlib.Core.Path.{◌≡◌, refl, sym, ap, ◌∙◌}
use mathlib.Core.List.{List, [], ◌∷◌}
use mathlib.Core.Bool.{Bool, true, false, not, ◌&&◌, ◌||◌}
use Prim.Native.Nat.{ℕ, zero, suc, ◌+◌, ◌-◌, ◌*◌, ◌/◌, ◌%◌, ◌^◌, ◌≤◌, ◌<◌, min, max}
use native.Mathlib.Nat.{one-mul, mod-lt, mod-eq_of_lt, div-eq_of_lt, mul-mod_left, pow-suc, zero-div, div-div-eq-div-mul, mul_comm}
use native.Mathlib.Omega.{arith}
use lib.Dec.{eqb, ltb}
use lib.Pow.{pow_pos, pow-lt, pow-add, shl-shr}
use lib.Bits.{bit_and, bit_or, and_mask, and_shr, and_mod, or_shr, or_mod}
use lib.ListN.{length}
use borrow.Author.Tests.{eqb-true, eqb-false, ltb-true, ltb-false}
use Rattle.lists.specs.Lists.{one}
use Rattle.lists.proofs.Bools.{bool}
use Rattle.lists.proofs.Loops.{one_most}
use Rattle.hierarchy.specs.Hierarchy.{flagged}
use Rattle.reach_sets.specs.Sets.{bit, word_of}

-- `x & 1`
pub and_one : (x : ℕ) → bit_and x 1 ≡ x % 2
and_one x = and_mask x 1

pub bit_two : (w i : ℕ) → bit w i < 2
bit_two w i = mod-lt (w / 2 ^ i) (omega arith)

-- ---- two digits

or_digit : (x y : ℕ) → x < 2 → y < 2 → bit_or x y ≡ max x y
or_digit zero y h k = sym (let m : max 0 y ≡ y = omega arith in m)
or_digit (suc zero) zero h k = refl
or_digit (suc zero) (suc zero) h k = refl
or_digit (suc zero) (suc (suc y)) h k = absurd (omega arith)
or_digit (suc (suc x)) y h k = absurd (omega arith)

and_digit : (x y : ℕ) → x < 2 → y < 2 → bit_and x y ≡ min x y
and_digit zero y h k = sym (let m : min 0 y ≡ 0 = omega arith in m)
and_digit (suc zero) zero h k = refl
and_digit (suc zero) (suc zero) h k = refl
and_digit (suc zero) (suc (suc y)) h k = absurd (omega arith)
and_digit (suc (suc x)) y h k = absurd (omega arith)

pub either_digit : (x y : ℕ) → x < 2 → y < 2 → eqb (max x y) 1 ≡ (eqb x 1 || eqb y 1)
either_digit zero zero h k = refl
either_digit zero (suc zero) h k = refl
either_digit (suc zero) zero h k = refl
either_digit (suc zero) (suc zero) h k = refl
either_digit zero (suc (suc y)) h k = absurd (omega arith)
either_digit (suc zero) (suc (suc y)) h k = absurd (omega arith)
either_digit (suc (suc x)) y h k = absurd (omega arith)

pub both_digits : (x y : ℕ) → x < 2 → y < 2 → eqb (min x y) 1 ≡ (eqb x 1 && eqb y 1)
both_digits zero zero h k = refl
both_digits zero (suc zero) h k = refl
both_digits (suc zero) zero h k = refl
both_digits (suc zero) (suc zero) h k = refl
both_digits zero (suc (suc y)) h k = absurd (omega arith)
both_digits (suc zero) (suc (suc y)) h k = absurd (omega arith)
both_digits (suc (suc x)) y h k = absurd (omega arith)

-- ---- or and and, bit by bit

pub or_bit : (a b i : ℕ) → bit (bit_or a b) i ≡ max (bit a i) (bit b i)
or_bit a b i =
    ap (λ (x : ℕ). x % 2) (or_shr a b i) ∙ or_mod (a / 2 ^ i) (b / 2 ^ i) 1 ∙ or_digit (bit a i) (bit b i) (bit_two a i) (bit_two b i)

pub and_bit : (a b i : ℕ) → bit (bit_and a b) i ≡ min (bit a i) (bit b i)
and_bit a b i =
    ap (λ (x : ℕ). x % 2) (and_shr a b i) ∙ and_mod (a / 2 ^ i) (b / 2 ^ i) 1 ∙ and_digit (bit a i) (bit b i) (bit_two a i) (bit_two b i)

-- ---- one bit alone

-- `1 << i` does not wrap below the width
pub one_shl : (i : ℕ) → i < 64 → (1 * 2 ^ i) % 2 ^ 64 ≡ 2 ^ i
one_shl i h = ap (λ (x : ℕ). x % 2 ^ 64) (one-mul (2 ^ i)) ∙ mod-eq_of_lt (pow-lt {i = i} {j = 64} h)

pub single_same : (i : ℕ) → bit (2 ^ i) i ≡ 1
single_same i = ap (λ (x : ℕ). x / 2 ^ i % 2) (sym (one-mul (2 ^ i))) ∙ ap (λ (x : ℕ). x % 2) (shl-shr 1 i)

single_above : (i j : ℕ) → i < j → bit (2 ^ i) j ≡ 0
single_above i j h = ap (λ (x : ℕ). x % 2) (div-eq_of_lt (pow-lt {i = i} {j = j} h))

single_below : (k j : ℕ) → bit (2 ^ (suc k + j)) j ≡ 0
single_below k j =
    ap (λ (x : ℕ). x / 2 ^ j % 2) (pow-add 2 (suc k) j) ∙ ap (λ (x : ℕ). x % 2) (shl-shr (2 ^ suc k) j)
    ∙ ap (λ (x : ℕ). x % 2) (pow-suc 2 k) ∙ mul-mod_left (2 ^ k) 2

pub single_other : (i j : ℕ) → (i ≡ j → ⊥) → bit (2 ^ i) j ≡ 0
single_other i j d = by (ltb i j) refl
  where
    by : (t : Bool) → ltb i j ≡ t → bit (2 ^ i) j ≡ 0
    by true e = single_above i j (ltb-true i j e)
    by false e =
        let h = ltb-false i j e in
        let k : suc (i - j - 1) + j ≡ i = omega (arith, d) in
        ap (λ (x : ℕ). bit (2 ^ x) j) (sym k) ∙ single_below (i - j - 1) j

pub nought_bit : (i : ℕ) → bit 0 i ≡ 0
nought_bit i = ap (λ (x : ℕ). x % 2) (zero-div (2 ^ i))

-- ---- a word by its bits

-- the lowest bit
bit_low : (w : ℕ) → bit w 0 ≡ w % 2
bit_low w = let e : w / 1 ≡ w = omega arith in ap (λ (x : ℕ). x % 2) e

-- a bit of the half is the next bit of the word
bit_half : (w i : ℕ) → bit (w / 2) i ≡ bit w (suc i)
bit_half w i =
    ap (λ (x : ℕ). x % 2) (div-div-eq-div-mul w 2 (2 ^ i) ∙ ap (λ (x : ℕ). w / x) (mul_comm 2 (2 ^ i) ∙ sym (pow-suc 2 i)))

half_small : (w k : ℕ) → w < 2 ^ suc k → w / 2 < 2 ^ k
half_small w k h = let e : 2 ^ suc k ≡ 2 ^ k * 2 = pow-suc 2 k in omega (arith, e, h)

-- words of k bits with the same bits are the same
pub same_bits : (k a b : ℕ) → a < 2 ^ k → b < 2 ^ k → ((i : ℕ) → i < k → bit a i ≡ bit b i) → a ≡ b
same_bits zero a b ha hb f = omega arith
same_bits (suc k) a b ha hb f =
    let h = same_bits k (a / 2) (b / 2) (half_small a k ha) (half_small b k hb) (λ i g. bit_half a i ∙ f (suc i) (omega arith) ∙ sym (bit_half b i)) in
    let z : a % 2 ≡ b % 2 = sym (bit_low a) ∙ f 0 (omega arith) ∙ bit_low b in
    omega (arith, h, z)

-- a word that is not 0 has a bit
pub some_bit : (k w : ℕ) → w < 2 ^ k → (w ≡ 0 → ⊥) → (i : ℕ) × (i < k) × (bit w i ≡ 1)
some_bit zero w h d = absurd (d (omega arith))
some_bit (suc k) w h d =
    bool (eqb (w % 2) 1)
    (λ e. (0, omega arith, bit_low w ∙ eqb-true (w % 2) 1 e))
    (λ e.
    let z : w % 2 ≡ 0 = omega (arith, eqb-false (w % 2) 1 e) in
    let r = some_bit k (w / 2) (half_small w k h) (λ q. d (omega (arith, q, z))) in
    (suc r.0, omega (arith, r.1), sym (bit_half w r.0) ∙ r.2))

-- ---- a word of flags

low : (b : Bool) (w : ℕ) → (one b + 2 * w) % 2 ≡ one b
low true w = omega arith
low false w = omega arith

high : (b : Bool) (w : ℕ) → (one b + 2 * w) / 2 ≡ w
high true w = omega arith
high false w = omega arith

-- a bit of it is 1 where the flag stands
pub word_bit : (flags : List ℕ) (i : ℕ) → bit (word_of flags) i ≡ one (flagged flags i)
unfolding word_of
word_bit [] i = nought_bit i
word_bit (f ∷ fs) zero = bit_low (one (not (eqb f 0)) + 2 * word_of fs) ∙ low (not (eqb f 0)) (word_of fs)
word_bit (f ∷ fs) (suc i) =
    sym (bit_half (one (not (eqb f 0)) + 2 * word_of fs) i) ∙ ap (λ (w : ℕ). bit w i) (high (not (eqb f 0)) (word_of fs)) ∙ word_bit fs i

-- it has no more bits than there are flags
pub word_small : (k : ℕ) (flags : List ℕ) → length flags ≤ k → word_of flags < 2 ^ k
unfolding word_of
word_small zero [] h = omega arith
word_small zero (f ∷ fs) h = absurd (omega arith)
word_small (suc k) [] h = pow_pos (suc k)
word_small (suc k) (f ∷ fs) h =
    let e : 2 ^ suc k ≡ 2 ^ k * 2 = pow-suc 2 k in
    omega (arith, e, word_small k fs (omega arith), one_most (not (eqb f 0)))
