-- THEOREMS: what get, put and add leave in their scratch, by their answer alone (02, point 6). Assumes nothing.
use mathlib.Core.Path.{◌≡◌, refl, ap, ◌∙◌}
use mathlib.Core.List.{List}
use mathlib.Core.Bool.{Bool, false, ◌||◌}
use mathlib.Core.Option.{Option, some}
use Prim.Native.Nat.{ℕ}
use lib.ListN.{get_or, replicate}
use Rattle.lists.specs.Lists.{over, any}
use Rattle.lists.specs.Answer.{refused, Check, refusal}
use Rattle.lists.proofs.Bools.{bool}
use Rattle.lists.proofs.Refusals.{refused_here}
use Rattle.lists.proofs.Numbers.{holds_with, decides}
use Rattle.locks.specs.Lent.{Hierarchy, tables_short}
use Rattle.desk.specs.declared.Desk.{Desk}
use Rattle.desk.specs.Steps.{values_short, value_checks, search_after, scratch_left, get_own, get_step, put_own, put_step, sum64, add_own, add_step}
use Rattle.runs.proofs.Lends.{get_left, put_left}
use Rattle.soundness.proofs.Numbers.{get_turned_away, put_turned_away}

module _ (H : Hierarchy) (d : Desk) (party node : ℕ) (values scratch : List ℕ) where
  -- what is lent is too short
  abbrev short : Bool
  short = tables_short H || values_short H values scratch

  -- what is left, where the refusal is 1 and where it is not; no check behind the first has that number
  left_one : (own : List Check) → holds_with 1 own ≡ false → refusal (value_checks H d party node values scratch own) ≡ some 1 → scratch_left H values scratch ≡ scratch
  unfolding any
  left_one own f e = ap (λ (b : Bool). search_after b scratch) (decides 1 short _ f e)

  left_other : (own : List Check) → (refusal (value_checks H d party node values scratch own) ≡ some 1 → ⊥) → scratch_left H values scratch ≡ over (replicate 256 0) scratch
  left_other own n = bool short (λ t. absurd (n (refused_here _ _ t))) (λ t. ap (λ (b : Bool). search_after b scratch) t)

  -- what each of them is refused with
  abbrev refusal_of : List Check → Option ℕ
  refusal_of own = refusal (value_checks H d party node values scratch own)

  -- what is left
  abbrev left_over : List ℕ
  left_over = scratch_left H values scratch

  -- GET: after refusal 1 its scratch is unchanged,
  pub get_scratch_one : (get_step H d party node values scratch).answer ≡ refused 1 → (get_step H d party node values scratch).scratch ≡ scratch
  unfolding get_step any
  get_scratch_one e =
      let o = refusal_of (get_own d party) in
      get_left o d (get_or values node 0) left_over ∙ left_one (get_own d party) refl ((get_turned_away o d (get_or values node 0) 1 left_over).0 e)

  -- and after any other end its first 256 bytes are zero, the rest unchanged
  pub get_scratch_other : ((get_step H d party node values scratch).answer ≡ refused 1 → ⊥) → (get_step H d party node values scratch).scratch ≡ over (replicate 256 0) scratch
  unfolding get_step
  get_scratch_other n =
      let o = refusal_of (get_own d party) in
      get_left o d (get_or values node 0) left_over ∙ left_other (get_own d party) (λ e. n ((get_turned_away o d (get_or values node 0) 1 left_over).1 e))

  -- PUT
  pub put_scratch_one : (value : ℕ) → (put_step H d party node value values scratch).answer ≡ refused 1 → (put_step H d party node value values scratch).scratch ≡ scratch
  unfolding put_step any
  put_scratch_one value e =
      let o = refusal_of (put_own d party) in put_left o d node value values left_over ∙ left_one (put_own d party) refl ((put_turned_away o d node value 1 values left_over).0 e)

  pub put_scratch_other : (value : ℕ) → ((put_step H d party node value values scratch).answer ≡ refused 1 → ⊥)
      → (put_step H d party node value values scratch).scratch ≡ over (replicate 256 0) scratch
  unfolding put_step
  put_scratch_other value n =
      let o = refusal_of (put_own d party) in put_left o d node value values left_over ∙ left_other (put_own d party) (λ e. n ((put_turned_away o d node value 1 values left_over).1 e))

  -- ADD
  pub add_scratch_one : (number : ℕ) → (add_step H d party node number values scratch).answer ≡ refused 1 → (add_step H d party node number values scratch).scratch ≡ scratch
  unfolding add_step any
  add_scratch_one number e =
      let o = refusal_of (add_own d party) in
      let sum : ℕ = sum64 (get_or values node 0) number in
      put_left o d node sum values left_over ∙ left_one (add_own d party) refl ((put_turned_away o d node sum 1 values left_over).0 e)

  pub add_scratch_other : (number : ℕ) → ((add_step H d party node number values scratch).answer ≡ refused 1 → ⊥)
      → (add_step H d party node number values scratch).scratch ≡ over (replicate 256 0) scratch
  unfolding add_step
  add_scratch_other number n =
      let o = refusal_of (add_own d party) in
      let sum : ℕ = sum64 (get_or values node 0) number in
      put_left o d node sum values left_over ∙ left_other (add_own d party) (λ e. n ((put_turned_away o d node sum 1 values left_over).1 e))
