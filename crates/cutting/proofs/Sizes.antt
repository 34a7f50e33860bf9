-- The shorter file never has more records than the input: each nonzero value has a value record or a step before the cut. Assumes nothing.
use mathlib.Core.Path.{◌≡◌, refl}
use mathlib.Core.List.{List, [], ◌∷◌, map}
use mathlib.Core.Bool.{Bool, true, false, not, cond}
use Prim.Native.Nat.{ℕ, zero, suc, ◌+◌, ◌≤◌}
use native.Mathlib.Omega.{arith}
use lib.Dec.{eqb}
use lib.ListN.{length, take, set, replicate, length-append, length-take, length-drop, length-map}
use Rattle.lists.specs.Lists.{kept_if, count, one}
use Rattle.lists.proofs.Loops.{one_most, keep_count}
use Rattle.blocks.specs.Record.{kind_of, value_node_in, value_in}
use Rattle.runs.specs.Run.{Step, State, start, move, also_ran, run}
use Rattle.replay.specs.Replay.{size_of, step_records, step_of, built_of, with_value, values_from, values_in}
use Rattle.cutting.specs.Cut.{after_first, value_record, value_records, cut_records}
use Rattle.cutting.proofs.Parts.{of_head, of_value, of_step, three_kinds}
use Rattle.cutting.proofs.Doing.{step_one}

-- how many values are not zero
abbrev pub nonzero : List ℕ → ℕ
nonzero values = count (λ v. not (eqb v 0)) values

-- a stored value makes one more at most
nonzero_set : (values : List ℕ) (i v : ℕ) → nonzero (set values i v) ≤ nonzero values + 1
unfolding count
nonzero_set [] i v = omega arith
nonzero_set (x ∷ values) zero v = omega (arith, one_most (not (eqb v 0)))
nonzero_set (x ∷ values) (suc i) v = omega (arith, nonzero_set values i v)

nonzero_zeros : (n : ℕ) → nonzero (replicate n 0) ≡ 0
unfolding count
nonzero_zeros zero = refl
nonzero_zeros (suc n) = omega (arith, nonzero_zeros n)

-- each value record does,
nonzero_records : (rs : List (List ℕ)) (values : List ℕ) → nonzero (values_from values rs) ≤ nonzero values + count of_value rs
unfolding values_from count
nonzero_records [] values = omega arith
nonzero_records (r ∷ rs) values = omega (arith, nonzero_records rs (with_value values r), by (of_value r))
  where
    by : (b : Bool) → nonzero (cond b (set values (value_node_in r) (value_in r)) values) ≤ nonzero values + one b
    by true = nonzero_set values (value_node_in r) (value_in r)
    by false = omega arith

-- and each step
nonzero_steps : (xs : List Step) (s : State) → nonzero (run xs s).state.values ≤ nonzero s.values + length xs
unfolding run also_ran
nonzero_steps [] s = omega arith
nonzero_steps (x ∷ xs) s =
    omega (
      arith,
      step_one (λ (v : List ℕ). nonzero v ≤ nonzero s.values + 1) x s (omega arith) (λ node value. nonzero_set s.values node value),
      nonzero_steps xs (move x s).state,
    )

-- as many value records as nonzero values
pub values_count : (node : ℕ) (values : List ℕ) → length (value_records node values) ≡ nonzero values
unfolding value_records count
values_count node [] = refl
values_count node (v ∷ values) = by (not (eqb v 0)) (values_count (suc node) values)
  where
    by : (b : Bool) → length (value_records (suc node) values) ≡ nonzero values → length (kept_if b (value_record node v) (value_records (suc node) values)) ≡ one b + nonzero values
    by true e = omega arith
    by false e = omega arith

-- THE SHORTER FILE has no more value records than the input has value records and steps before the cut: so no step kept moves back
pub cut_values_few : (rs : List (List ℕ)) (k : ℕ) → length (value_records 0 (after_first rs k).values) ≤ count (λ r. eqb (kind_of r) 8) rs + length (take k (step_records rs))
cut_values_few rs k =
    let steps : List (List ℕ) = take k (step_records rs) in
    omega (
      arith,
      values_count 0 (after_first rs k).values,
      nonzero_steps (map step_of steps) (start (built_of rs) (values_in (size_of rs) rs)),
      length-map steps step_of,
      nonzero_records rs (replicate (size_of rs) 0),
      nonzero_zeros (size_of rs),
    )

-- and no more records
pub cut_length : (rs : List (List ℕ)) (k : ℕ) → length (cut_records rs k) ≤ length rs
unfolding cut_records
cut_length rs k =
    let steps : List (List ℕ) = step_records rs in
    simp (length-append, length-drop) (omega (arith, cut_values_few rs k, length-take k steps, keep_count of_head rs, keep_count of_step rs, three_kinds rs))
