-- What the records of a cut have: the same hierarchy, the values after the first k steps, and the steps after k. Assumes nothing.
use mathlib.Core.Path.{◌≡◌, refl, sym, ap, ◌∙◌}
use mathlib.Core.List.{List, [], ◌∷◌, ◌++◌, append-nil}
use mathlib.Core.Bool.{Bool, true, false, not, cond}
use Prim.Native.Nat.{ℕ, suc, ◌+◌, ◌<◌}
use native.Mathlib.Omega.{arith}
use borrow.Author.Tests.{eqb-true, leb-false, ne_eqb, not-true}
use lib.Dec.{eqb}
use lib.ListN.{length, drop, set, replicate, length-append}
use lib.Seq.{drop-nil, set-append_seam, append_snoc}
use Rattle.lists.specs.Lists.{every, keep, kept_if, count, one}
use Rattle.lists.proofs.Kept.{every_drop, every_keep, keep_all, keep_none}
use Rattle.lists.proofs.Bools.{and_left, and_right}
use Rattle.lists.proofs.Loops.{keep_append}
use Rattle.intervals.specs.Intervals.{interval_table}
use Rattle.blocks.specs.Record.{kind_of, parent_in, child_in, value_node_in, value_in}
use Rattle.locks.specs.Lent.{lent}
use Rattle.replay.specs.Replay.{size_of, edge_if, edge_table, edge_count_of, step_records, built_of, with_value, values_from, values_in}
use Rattle.cutting.specs.Cut.{after_first, head_records, value_record, value_records, cut_records}
use Rattle.cutting.proofs.Parts.{of_head, of_value, of_step, head_no_value, head_no_step, value_no_head, value_no_step, step_no_head, step_no_value}
use Rattle.cutting.proofs.Orders.{Taken, first_head, value_back}
use Rattle.cutting.proofs.Doing.{values_long}

-- THE EDGES are those of the head
no_edge : (r : List ℕ) → of_head r ≡ false → eqb (kind_of r) 2 ≡ false
no_edge r h = let l : 2 < kind_of r = leb-false (kind_of r) 2 h in ne_eqb (kind_of r) 2 (λ e. omega arith)

edges_head : (rs : List (List ℕ)) → edge_table (head_records rs) ≡ edge_table rs
unfolding edge_table keep
edges_head [] = refl
edges_head (r ∷ rs) = by (of_head r) refl (edges_head rs)
  where
    by : (b : Bool) → of_head r ≡ b → edge_table (head_records rs) ≡ edge_table rs
        → edge_table (kept_if b r (head_records rs)) ≡ edge_if (eqb (kind_of r) 2) (parent_in r) (child_in r) (edge_table rs)
    by true e h = ap (edge_if (eqb (kind_of r) 2) (parent_in r) (child_in r)) h
    by false e h = rw (no_edge r e) h

edge_count_head : (rs : List (List ℕ)) → edge_count_of (head_records rs) ≡ edge_count_of rs
unfolding count keep
edge_count_head [] = refl
edge_count_head (r ∷ rs) = by (of_head r) refl (edge_count_head rs)
  where
    by : (b : Bool) → of_head r ≡ b → edge_count_of (head_records rs) ≡ edge_count_of rs
        → edge_count_of (kept_if b r (head_records rs)) ≡ one (eqb (kind_of r) 2) + edge_count_of rs
    by true e h = ap (λ (n : ℕ). one (eqb (kind_of r) 2) + n) h
    by false e h = omega (arith, h, ap one (no_edge r e))

-- a list without value records changes no value
pub values_none : (rs : List (List ℕ)) (values : List ℕ) → every (λ r. not (of_value r)) rs ≡ true → values_from values rs ≡ values
unfolding values_from every
values_none [] values h = refl
values_none (r ∷ rs) values h =
    ap (λ (b : Bool). values_from (cond b (set values (value_node_in r) (value_in r)) values) rs) (not-true (of_value r) (and_left (not (of_value r)) (every (λ r. not (of_value r)) rs) h))
    ∙ values_none rs values (and_right (not (of_value r)) (every (λ r. not (of_value r)) rs) h)

-- THE VALUES are those of the value records
pub values_kept : (rs : List (List ℕ)) (values : List ℕ) → values_from values (keep of_value rs) ≡ values_from values rs
unfolding values_from keep
values_kept [] values = refl
values_kept (r ∷ rs) values = by (of_value r) refl (values_kept rs)
  where
    by : (b : Bool) → of_value r ≡ b → ((values : List ℕ) → values_from values (keep of_value rs) ≡ values_from values rs)
        → values_from values (kept_if b r (keep of_value rs)) ≡ values_from (with_value values r) rs
    by true e ih = ih (with_value values r)
    by false e ih = ih values ∙ ap (λ (c : Bool). values_from (cond c (set values (value_node_in r) (value_in r)) values) rs) (sym e)

-- value records of values, read over zeros, give the values back
pub values_over : (front values : List ℕ) → values_from (front ++ replicate (length values) 0) (value_records (length front) values) ≡ front ++ values
unfolding values_from value_records
values_over front [] = refl
values_over front (v ∷ values) =
    let long : suc (length front) ≡ length (front ++ (v ∷ [])) = omega (arith, length-append front (v ∷ [])) in
    by (eqb v 0) refl
    (ap (λ (k : ℕ). values_from (front ++ (v ∷ zeros)) (value_records k values)) long
    ∙ ap (λ (l : List ℕ). values_from l (value_records (length (front ++ (v ∷ []))) values)) (sym (append_snoc front v zeros))
    ∙ values_over (front ++ (v ∷ [])) values
    ∙ append_snoc front v values)
  where
    zeros : List ℕ
    zeros = replicate (length values) 0

    -- with v in its place the others follow
    by : (b : Bool) → eqb v 0 ≡ b → values_from (front ++ (v ∷ zeros)) (value_records (suc (length front)) values) ≡ front ++ (v ∷ values)
        → values_from (front ++ (0 ∷ zeros)) (kept_if (not b) (value_record (length front) v) (value_records (suc (length front)) values)) ≡ front ++ (v ∷ values)
    by true e rest = ap (λ (k : ℕ). values_from (front ++ (k ∷ zeros)) (value_records (suc (length front)) values)) (sym (eqb-true v 0 e)) ∙ rest
    by false e rest =
        ap (λ (k : ℕ). values_from (set (front ++ (0 ∷ zeros)) (length front) k) (value_records (suc (length front)) values)) (value_back (length front) v)
        ∙ ap (λ (l : List ℕ). values_from l (value_records (suc (length front)) values)) (set-append_seam front 0 zeros v)
        ∙ rest

-- the value records of values are such
values_are : (node : ℕ) (values : List ℕ) → every of_value (value_records node values) ≡ true
unfolding value_records every
values_are node [] = refl
values_are node (v ∷ values) = by (not (eqb v 0)) (values_are (suc node) values)
  where
    by : (b : Bool) → every of_value (value_records (suc node) values) ≡ true → every of_value (kept_if b (value_record node v) (value_records (suc node) values)) ≡ true
    by true h = h
    by false h = h

-- THE PARTS OF THE CUT
module _ (rs : List (List ℕ)) (k : ℕ) where
  abbrev values : List ℕ
  values = (after_first rs k).values

  abbrev behind : List (List ℕ)
  behind = value_records 0 values ++ drop k (step_records rs)

  heads : every of_head (head_records rs) ≡ true
  heads = every_keep of_head rs

  steps : every of_step (drop k (step_records rs)) ≡ true
  steps = every_drop of_step k (step_records rs) (every_keep of_step rs)

  -- what is kept of them
  part_of : (p : List ℕ → Bool) {a b c : List (List ℕ)} → keep p (head_records rs) ≡ a → keep p (value_records 0 values) ≡ b → keep p (drop k (step_records rs)) ≡ c
      → keep p (cut_records rs k) ≡ a ++ (b ++ c)
  unfolding cut_records
  part_of p {a} {b} f g h =
      keep_append p (head_records rs) behind
      ∙ ap (λ (l : List (List ℕ)). l ++ keep p behind) f
      ∙ ap (λ (l : List (List ℕ)). a ++ l)
      (keep_append p (value_records 0 values) (drop k (step_records rs))
      ∙ ap (λ (l : List (List ℕ)). l ++ keep p (drop k (step_records rs))) g
      ∙ ap (λ (l : List (List ℕ)). b ++ l) h)

  -- the same head
  pub cut_head : head_records (cut_records rs k) ≡ head_records rs
  cut_head =
      part_of of_head (keep_all of_head (head_records rs) heads)
      (keep_none of_head of_value value_no_head (value_records 0 values) (values_are 0 values))
      (keep_none of_head of_step step_no_head (drop k (step_records rs)) steps)
      ∙ append-nil (head_records rs)

  -- a value record for each nonzero value
  cut_valued : keep of_value (cut_records rs k) ≡ value_records 0 values
  cut_valued =
      part_of of_value (keep_none of_value of_head head_no_value (head_records rs) heads)
      (keep_all of_value (value_records 0 values) (values_are 0 values))
      (keep_none of_value of_step step_no_value (drop k (step_records rs)) steps)
      ∙ append-nil (value_records 0 values)

  -- the steps after k
  pub cut_steps : step_records (cut_records rs k) ≡ drop k (step_records rs)
  cut_steps =
      part_of of_step (keep_none of_step of_head head_no_step (head_records rs) heads)
      (keep_none of_step of_value value_no_step (value_records 0 values) (values_are 0 values))
      (keep_all of_step (drop k (step_records rs)) steps)

  -- the same edges
  pub cut_edges : edge_table (cut_records rs k) ≡ edge_table rs
  cut_edges = sym (edges_head (cut_records rs k)) ∙ ap edge_table cut_head ∙ edges_head rs

  pub cut_edge_count : edge_count_of (cut_records rs k) ≡ edge_count_of rs
  cut_edge_count = sym (edge_count_head (cut_records rs k)) ∙ ap edge_count_of cut_head ∙ edge_count_head rs

-- the same n
pub cut_size : (rs : List (List ℕ)) (k : ℕ) → Taken rs → size_of (cut_records rs k) ≡ size_of rs
unfolding cut_records keep value_records
cut_size [] k h = by (after_first [] k).values (values_long [] k)
  where
    by : (values : List ℕ) → length values ≡ 0 → size_of (value_records 0 values ++ drop k []) ≡ 0
    by [] e = ap size_of (drop-nil {A = List ℕ} k)
    by (v ∷ vs) e = absurd (omega arith)
cut_size (r ∷ rs) k h = ap (λ (b : Bool). size_of (kept_if b r (head_records rs) ++ behind (r ∷ rs) k)) (first_head r rs h)

module _ (rs : List (List ℕ)) (k : ℕ) (taken : Taken rs) where
  -- so the same hierarchy
  pub cut_built : built_of (cut_records rs k) ≡ built_of rs
  cut_built =
      ap (λ (n : ℕ). lent n (interval_table n (edge_table (cut_records rs k))) (edge_table (cut_records rs k)) (edge_count_of (cut_records rs k))) (cut_size rs k taken)
      ∙ ap (λ (es : List ℕ). lent (size_of rs) (interval_table (size_of rs) es) es (edge_count_of (cut_records rs k))) (cut_edges rs k)
      ∙ ap (λ (m : ℕ). lent (size_of rs) (interval_table (size_of rs) (edge_table rs)) (edge_table rs) m) (cut_edge_count rs k)

  -- DEMAND 3 of the shorter file starts from the values after the first k steps
  pub cut_serial : values_in (size_of (cut_records rs k)) (cut_records rs k) ≡ (after_first rs k).values
  cut_serial =
      ap (λ (n : ℕ). values_in n (cut_records rs k)) (cut_size rs k taken ∙ sym (values_long rs k))
      ∙ sym (values_kept (cut_records rs k) (replicate (length (values rs k)) 0))
      ∙ ap (values_from (replicate (length (values rs k)) 0)) (cut_valued rs k)
      ∙ values_over [] (values rs k)
