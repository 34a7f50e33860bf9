-- Numbers behind digits, as far as they fit. Assumes nothing.
use mathlib.Core.Path.{◌≡◌, sym, ap, ◌∙◌}
use mathlib.Core.List.{List, [], ◌∷◌}
use Prim.Native.Nat.{ℕ, ◌+◌, ◌*◌, ◌-◌, ◌<◌, ◌≤◌, min}
use native.Mathlib.Omega.{arith}
use lib.ListN.{length, get_or, drop, drop_of_length-le}
use Rattle.lists.proofs.Loops.{drop_step}
use Rattle.numerals.specs.Numerals.{decimal_from}

-- the greatest number
abbrev most : ℕ
most = 18446744073709551615

-- a number that does not fit never fits again
from_most : (text : List ℕ) (x : ℕ) → min (decimal_from (min x most) text) most ≡ min (decimal_from x text) most
unfolding decimal_from
from_most [] x = omega arith
from_most (b ∷ text) x =
    sym (from_most text (10 * min x most + (b - 48)))
    ∙ ap (λ (y : ℕ). min (decimal_from y text) most) (let e : min (10 * min x most + (b - 48)) most ≡ min (10 * x + (b - 48)) most = omega arith in e)
    ∙ from_most text (10 * x + (b - 48))

-- one digit more
pub digit_turn : (text : List ℕ) (i x : ℕ) {b d y whole : ℕ} → i < length text → min (decimal_from x (drop i text)) most ≡ whole → get_or text i 0 ≡ b → d ≡ b - 48
    → y ≡ min (10 * x + d) most → min (decimal_from y (drop (i + 1) text)) most ≡ whole
unfolding decimal_from
digit_turn text i x {b} {d} {y} h inv at e f =
    ap (λ (n : ℕ). min (decimal_from n (drop (i + 1) text)) most) (f ∙ ap (λ (n : ℕ). min (10 * x + n) most) e)
    ∙ from_most (drop (i + 1) text) (10 * x + (b - 48))
    ∙ ap (λ (l : List ℕ). min (decimal_from x l) most) (sym (drop_step text i 0 at h))
    ∙ inv

pub digits_end : (text : List ℕ) (i x : ℕ) {whole : ℕ} → length text ≤ i → x ≤ most → min (decimal_from x (drop i text)) most ≡ whole → x ≡ whole
unfolding decimal_from
digits_end text i x h fits inv =
    (let e : x ≡ min x most = omega arith in e) ∙ ap (λ (l : List ℕ). min (decimal_from x l) most) (sym (drop_of_length-le text h)) ∙ inv
