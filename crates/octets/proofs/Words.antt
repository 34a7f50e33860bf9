-- The words of a string of bytes, one by one, and a turn of the check's sums. Assumes nothing.
use mathlib.Core.Path.{◌≡◌, refl, sym, ap, ◌∙◌}
use mathlib.Core.List.{List, [], ◌∷◌}
use Prim.Native.Nat.{ℕ, zero, suc, ◌+◌, ◌*◌, ◌/◌, ◌%◌, ◌<◌, ◌≤◌}
use native.Mathlib.Nat.{add-mod, mod-add-mod, add-zero, le_of_suc-le-suc, not-suc-le-zero}
use native.Mathlib.Numerals.{add-one}
use native.Mathlib.Omega.{arith}
use lib.ListN.{length, get_or, drop, drop_of_length-le, get_or-eq_default}
use Rattle.octets.specs.Fletcher.{words, sums}
use Rattle.octets.specs.Bytes.{number2}

words_suc : (s : List ℕ) (i : ℕ) → i < length s → words (drop i s) ≡ (get_or s i 0 + 256 * get_or s (suc i) 0) ∷ words (drop (suc (suc i)) s)
unfolding words
words_suc [] i h = absurd (not-suc-le-zero h)
words_suc (x ∷ []) zero h = ap (λ (n : ℕ). n ∷ []) (sym (add-zero x))
words_suc (x ∷ y ∷ s) zero h = refl
words_suc (x ∷ s) (suc i) h = words_suc s i (le_of_suc-le-suc h)

-- one turn: the word at i is taken in
turn : (s : List ℕ) (a b i : ℕ) {r : ℕ} → i < length s → r ≡ number2 i s
    → sums ((a + r) % 65535) ((b + (a + r) % 65535) % 65535) (words (drop (i + 2) s)) ≡ sums a b (words (drop i s))
unfolding sums
turn s a b i {r} h e =
    let two : i + 2 ≡ suc (suc i) = omega arith in
    rw (e, add-one, two, words_suc s i h)

-- one turn with the remainders put off: the sums go on without them
pub turn_late : (s : List ℕ) (a b i : ℕ) {r : ℕ} → i < length s → r ≡ number2 i s
    → sums ((a + r) % 65535) ((b + (a + r)) % 65535) (words (drop (i + 2) s)) ≡ sums (a % 65535) (b % 65535) (words (drop i s))
turn_late s a b i {r} h e =
    ap (λ (n : ℕ). sums ((a + r) % 65535) n (words (drop (i + 2) s))) (add-mod b (a + r) 65535)
    ∙ ap (λ (n : ℕ). sums n ((b % 65535 + n) % 65535) (words (drop (i + 2) s))) (sym (mod-add-mod a 65535 r))
    ∙ turn s (a % 65535) (b % 65535) i h e

-- past the end: the check
pub ended : (s : List ℕ) (a b i : ℕ) → length s ≤ i → a + 65536 * b ≡ sums a b (words (drop i s))
unfolding sums words
ended s a b i h = rw (drop_of_length-le s h)

-- an odd last byte is followed by a zero
pub last_byte : (s : List ℕ) (a b : ℕ) {x r : ℕ} → 2 * (length s / 2) < length s → x ≡ get_or s (2 * (length s / 2)) 0
    → r ≡ (a + x) % 65535 + 65536 * ((b + (a + x) % 65535) % 65535) → r ≡ sums a b (words (drop (2 * (length s / 2)) s))
last_byte s a b {x} {r} h e p =
    let i : ℕ = 2 * (length s / 2) in
    let z : get_or s (i + 1) 0 ≡ 0 = get_or-eq_default s 0 (omega arith) in
    p ∙ ended s _ _ (i + 2) (omega arith) ∙ turn s a b i h (omega (arith, e, z))

-- the end of a run of words, under another name of its place
pub ended_at : (s : List ℕ) (a b i j : ℕ) → j ≡ i → sums a b (words (drop j s)) ≡ sums a b (words (drop i s))
ended_at s a b i j e = rw e
