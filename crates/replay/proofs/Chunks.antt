-- Records one behind the other are chunks of 16 bytes. Assumes nothing.
use mathlib.Core.Path.{◌≡◌, ap, ap₂, ◌∙◌}
use mathlib.Core.List.{List, [], ◌∷◌, ◌++◌}
use Prim.Native.Nat.{ℕ, suc, ◌/◌, ◌<◌}
use native.Mathlib.Omega.{arith}
use lib.ListN.{length, take, drop, length-append}
use lib.Seq.{take_at, drop_at}
use Rattle.replay.specs.Replay.{each_record, record_list}

-- the first, and the others
pub records_cons : (r rest : List ℕ) {left : List ℕ} → left ≡ r ++ rest → length r ≡ 16 → record_list left ≡ r ∷ record_list rest
unfolding each_record
records_cons r rest {left} e h =
    let more : length left / 16 ≡ suc (length rest / 16) = omega (arith, ap length e, length-append r rest) in
    ap (λ (k : ℕ). each_record k left) more
    ∙ ap (λ (l : List ℕ). take 16 l ∷ each_record (length rest / 16) (drop 16 l)) e
    ∙ ap₂ (λ (a b : List ℕ). a ∷ each_record (length rest / 16) b) (take_at r rest 16 h) (drop_at r rest 16 h)

-- and none
pub records_none : (left : List ℕ) → length left < 16 → record_list left ≡ []
unfolding each_record
records_none left h = let none : length left / 16 ≡ 0 = omega arith in ap (λ (k : ℕ). each_record k left) none
