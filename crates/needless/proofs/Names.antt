-- The names in a record, as bytes from byte 4 on. Assumes nothing.
use mathlib.Core.Path.{◌≡◌, refl, ap, ◌∙◌}
use mathlib.Core.List.{List, [], ◌∷◌}
use Prim.Native.Nat.{ℕ, zero, suc, ◌+◌, ◌-◌, ◌≤◌, ◌<◌}
use native.Mathlib.Omega.{arith}
use lib.ListN.{length, take, drop, length-take, length-drop, drop_of_length-le}
use lib.Seq.{take-nil}
use Rattle.blocks.specs.Record.{name_count_in, names_in}

-- fewer than four bytes have none
pub names_none : (r : List ℕ) → length r < 4 → names_in r ≡ []
names_none r h = ap (take (name_count_in r)) (drop_of_length-le r {i = 4} (omega arith)) ∙ take-nil (name_count_in r)

-- they stand within the bytes
pub names_within : (r : List ℕ) → 4 ≤ length r → 4 + length (names_in r) ≤ length r
names_within r h = simp (length-take, length-drop) (omega arith)

-- as many as are taken
take_again : (j : ℕ) (l : List ℕ) → take (length (take j l)) l ≡ take j l
take_again zero l = refl
take_again (suc j) [] = refl
take_again (suc j) (x ∷ xs) = ap (λ (t : List ℕ). x ∷ t) (take_again j xs)

-- as many bytes as there are names, from byte 4 on
pub names_are : (r : List ℕ) (k : ℕ) → k ≡ length (names_in r) → take ((4 + k) - 4) (drop 4 r) ≡ names_in r
names_are r k e =
    let m : (4 + k) - 4 ≡ length (names_in r) = omega (arith, e) in
    ap (λ (j : ℕ). take j (drop 4 r)) m ∙ take_again (name_count_in r) (drop 4 r)
