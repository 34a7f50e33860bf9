-- A lent list whose first part was written: what the whole is then. Assumes nothing.
use mathlib.Core.Path.{◌≡◌, refl, sym, ap, ◌∙◌}
use mathlib.Core.List.{List, ◌++◌, append-nil}
use Prim.Native.Nat.{ℕ, ◌+◌, ◌-◌, ◌≤◌, min}
use native.Mathlib.Nat.{min-eq_left, min-eq_right}
use native.Mathlib.Omega.{arith}
use lib.ListN.{length, take, drop, replicate, length-replicate, drop_of_length-le}
use lib.Seq.{length-take-le, drop-append-add, drop-drop}
use Rattle.lists.specs.Lists.{over}

-- a first part that came back leaves what stands behind it
pub behind : (size n : ℕ) (part l : List ℕ) → n ≤ size → n ≤ length l → length part ≡ length (take n l) → drop size (part ++ drop n l) ≡ drop size l
behind size n part l h g e =
    let k : length part ≡ n = e ∙ length-take-le n l g in
    let s : size ≡ length part + (size - n) = omega arith in
    let t : n + (size - n) ≡ size = omega arith in
    ap (λ (m : ℕ). drop m (part ++ drop n l)) s ∙ drop-append-add part (drop n l) (size - n) ∙ drop-drop (size - n) n l ∙ ap (λ (m : ℕ). drop m l) t

-- a first part that was written
pub laid : (size : ℕ) (table part l : List ℕ) → part ≡ table → size ≤ length l → length part ≡ length (take size l) → part ++ drop size l ≡ over table l
unfolding over
laid size table part l e h k = rw (← e, ← k ∙ length-take-le size l h) refl

-- zeros over what differs only where they stand
pub zeroed : (size : ℕ) (l l₀ : List ℕ) → drop size l ≡ drop size l₀ → over (replicate size 0) l ≡ over (replicate size 0) l₀
unfolding over
zeroed size l l₀ d = rw (length-replicate {A = ℕ} size 0, d) refl

-- the first bytes cleared, so many or all: where there are more, where there are no more, and where there are enough
module _ (size : ℕ) (l l' : List ℕ) where
  pub first_cleared : size ≤ length l → l' ≡ over (replicate size 0) l → l' ≡ over (replicate (min size (length l)) 0) l
  first_cleared h e = rw (min-eq_left h) e

  pub all_cleared : length l ≤ size → l' ≡ replicate (length l) 0 → l' ≡ over (replicate (min size (length l)) 0) l
  unfolding over
  all_cleared h e =
      rw (min-eq_right h, length-replicate {A = ℕ} (length l) 0, drop_of_length-le l {i = length l} (omega arith))
      (e ∙ sym (append-nil (replicate (length l) 0)))

  pub enough_cleared : size ≤ length l → l' ≡ over (replicate (min size (length l)) 0) l → l' ≡ over (replicate size 0) l
  enough_cleared h e = rw (← min-eq_left h) e
