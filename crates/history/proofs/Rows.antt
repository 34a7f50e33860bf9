-- Laws of rows of visits: an op that commutes with all that stands after its party's latest visit may be put last in that visit. Assumes nothing.
use mathlib.Core.Path.{◌≡◌, refl, sym, ap, ◌∙◌}
use mathlib.Core.Logic.{◌⊎◌, inl, inr, ◌≢◌}
use mathlib.Core.List.{List, [], ◌∷◌, ◌++◌, map, append_assoc, append-nil}
use mathlib.Core.Bool.{Bool, true, false, ◌||◌, or-true, or-false, true≢false}
use Prim.Native.Nat.{ℕ, zero, suc, ◌+◌, ◌%◌, ◌^◌}
use native.Mathlib.Nat.{add_right_comm, mod-add-mod}
use native.Mathlib.Omega.{arith}
use lib.Dec.{eqb}
use lib.ListN.{length, get_or, set, length-append}
use lib.Seq.{get_or-set_other, set_comm}
use borrow.Author.Tests.{eqb-true, eq-eqb}
use Rattle.lists.specs.Answer.{done, refused}
use Rattle.lists.proofs.Kept.{All, all_map, all_snoc}
use Rattle.locks.specs.declared.Mode.{Mode}
use Rattle.locks.specs.declared.Mode.TheVariants.{Reading, Writing, Adding}
use Rattle.locks.specs.Locks.{compatible}
use Rattle.desk.specs.Steps.{granted, waits, sum64}
use Rattle.runs.specs.Run.{Event, entered, got, stored, added, left}
use Rattle.history.specs.History.{Op, did_get, did_put, did_add, Transaction, begun, visited, with_op, add_to_latest, noted, history_from, history}
use Rattle.history.specs.History.{granted_by, granted_in, bare_event, ops_in, finds, leaves, ops_find, ops_leave, serial_finds, serial_leaves}

-- MODES that go together do so either way round
pub compatible_sym : (m k : Mode) → compatible m k ≡ compatible k m
compatible_sym Reading Reading = refl
compatible_sym Reading Writing = refl
compatible_sym Reading Adding = refl
compatible_sym Writing Reading = refl
compatible_sym Writing Writing = refl
compatible_sym Writing Adding = refl
compatible_sym Adding Reading = refl
compatible_sym Adding Writing = refl
compatible_sym Adding Adding = refl

-- SUMS modulo 2 to the 64 come out the same in either order
pub sums_commute : (value x y : ℕ) → sum64 (sum64 value x) y ≡ sum64 (sum64 value y) x
sums_commute value x y =
    mod-add-mod (value + x) (2 ^ 64) y ∙ ap (λ (k : ℕ). k % 2 ^ 64) (add_right_comm value x y) ∙ sym (mod-add-mod (value + y) (2 ^ 64) x)

-- a number added to the value of a node
abbrev add_at : List ℕ → ℕ → ℕ → List ℕ
add_at u r x = set u r (sum64 (get_or u r 0) x)

-- so two of them, at one node or at two
pub adds_commute : (u : List ℕ) (r s x y : ℕ) → add_at (add_at u r x) s y ≡ add_at (add_at u s y) r x
adds_commute [] r s x y = refl
adds_commute (z ∷ u) zero zero x y = ap (◌∷ u) (sums_commute z x y)
adds_commute (z ∷ u) zero (suc s) x y = refl
adds_commute (z ∷ u) (suc r) zero x y = refl
adds_commute (z ∷ u) (suc r) (suc s) x y = ap (z ∷◌) (adds_commute u r s x y)

-- and an add and a put at two nodes
put_add : (u : List ℕ) (r s x y : ℕ) → r ≢ s → add_at (set u r x) s y ≡ set (add_at u s y) r x
put_add u r s x y h = rw (get_or-set_other u r s x 0 (λ e. h (sym e))) (set_comm u r s x (sum64 (get_or u s 0) y) h)

module _ {A : Type 0} where
  unfoldable pub node_of : Op A → ℕ
  node_of (did_get r a) = r
  node_of (did_put r x) = r
  node_of (did_add r x) = r

  -- the mode of a visit that does nothing else
  unfoldable pub mode_of : Op A → Mode
  mode_of (did_get r a) = Reading
  mode_of (did_put r x) = Writing
  mode_of (did_add r x) = Adding

  -- P of every op of a row
  abbrev pub AllRow : (Op A → Type 0) → List (Transaction A) → Type 0
  AllRow P [] = Unit {0}
  AllRow P (v ∷ vs) = All P v.ops × AllRow P vs

  pub All_row_map : {P Q : Op A → Type 0} → ((o : Op A) → P o → Q o) → (vs : List (Transaction A)) → AllRow P vs → AllRow Q vs
  All_row_map f [] h = tt
  All_row_map f (v ∷ vs) h = (all_map f v.ops h.0, All_row_map f vs h.1)

  -- two ops commute: on two nodes, or both gets, or both adds
  unfoldable pub Commute : Op A → Op A → Type 0
  Commute o q = (node_of o ≢ node_of q) ⊎ (compatible (mode_of o) (mode_of q) ≡ true)

  pub commute_leaves : (u : List ℕ) (o q : Op A) → Commute o q → leaves (leaves u o) q ≡ leaves (leaves u q) o
  unfolding Commute leaves mode_of node_of
  commute_leaves u (did_get r a) (did_get s b) h = refl
  commute_leaves u (did_get r a) (did_put s y) h = refl
  commute_leaves u (did_get r a) (did_add s y) h = refl
  commute_leaves u (did_put r x) (did_get s b) h = refl
  commute_leaves u (did_put r x) (did_put s y) (inl h) = set_comm u r s x y h
  commute_leaves u (did_put r x) (did_put s y) (inr h) = absurd (true≢false (sym h))
  commute_leaves u (did_put r x) (did_add s y) (inl h) = put_add u r s x y h
  commute_leaves u (did_put r x) (did_add s y) (inr h) = absurd (true≢false (sym h))
  commute_leaves u (did_add r x) (did_get s b) h = refl
  commute_leaves u (did_add r x) (did_put s y) (inl h) = sym (put_add u s r y x (λ e. h (sym e)))
  commute_leaves u (did_add r x) (did_put s y) (inr h) = absurd (true≢false (sym h))
  commute_leaves u (did_add r x) (did_add s y) h = adds_commute u r s x y

  pub commute_finds : (u : List ℕ) (o q : Op A) → Commute o q → finds (leaves u o) q ≡ finds u q
  unfolding Commute leaves finds mode_of node_of
  commute_finds u (did_get r a) q h = refl
  commute_finds u (did_put r x) (did_get s b) (inl h) = ap (did_get s) (get_or-set_other u r s x 0 (λ e. h (sym e)))
  commute_finds u (did_put r x) (did_get s b) (inr h) = absurd (true≢false (sym h))
  commute_finds u (did_put r x) (did_put s y) h = refl
  commute_finds u (did_put r x) (did_add s y) h = refl
  commute_finds u (did_add r x) (did_get s b) (inl h) = ap (did_get s) (get_or-set_other u r s (sum64 (get_or u r 0) x) 0 (λ e. h (sym e)))
  commute_finds u (did_add r x) (did_get s b) (inr h) = absurd (true≢false (sym h))
  commute_finds u (did_add r x) (did_put s y) h = refl
  commute_finds u (did_add r x) (did_add s y) h = refl

  pub commute_sym : (o q : Op A) → Commute o q → Commute q o
  unfolding Commute
  commute_sym o q (inl h) = inl (λ e. h (sym e))
  commute_sym o q (inr h) = inr (compatible_sym (mode_of q) (mode_of o) ∙ h)

  -- past a list of ops
  pub ops_leave_past : (u : List ℕ) (o : Op A) (os : List (Op A)) → All (Commute o) os → ops_leave (leaves u o) os ≡ leaves (ops_leave u os) o
  unfolding ops_leave
  ops_leave_past u o [] h = refl
  ops_leave_past u o (q ∷ os) h = rw (commute_leaves u o q h.0) (ops_leave_past (leaves u q) o os h.1)

  pub ops_find_past : (u : List ℕ) (o : Op A) (os : List (Op A)) → All (Commute o) os → ops_find (leaves u o) os ≡ ops_find u os
  unfolding ops_find
  ops_find_past u o [] h = refl
  ops_find_past u o (q ∷ os) h = rw (commute_leaves u o q h.0, commute_finds u o q h.0, ops_find_past (leaves u q) o os h.1)

  pub finds_past_ops : (u : List ℕ) (o : Op A) (os : List (Op A)) → All (Commute o) os → finds (ops_leave u os) o ≡ finds u o
  unfolding ops_leave
  finds_past_ops u o [] h = refl
  finds_past_ops u o (q ∷ os) h = finds_past_ops (leaves u q) o os h.1 ∙ commute_finds u q o (commute_sym o q h.0)

  -- past a row
  pub row_leaves_past : (u : List ℕ) (o : Op A) (vs : List (Transaction A)) → AllRow (Commute o) vs → serial_leaves (leaves u o) vs ≡ leaves (serial_leaves u vs) o
  unfolding serial_leaves
  row_leaves_past u o [] h = refl
  row_leaves_past u o (v ∷ vs) h = rw (ops_leave_past u o v.ops h.0) (row_leaves_past (ops_leave u v.ops) o vs h.1)

  pub row_finds_past : (u : List ℕ) (o : Op A) (vs : List (Transaction A)) → AllRow (Commute o) vs → serial_finds (leaves u o) vs ≡ serial_finds u vs
  unfolding serial_finds
  row_finds_past u o [] h = refl
  row_finds_past u o (v ∷ vs) h = rw (ops_leave_past u o v.ops h.0, ops_find_past u o v.ops h.0, row_finds_past (ops_leave u v.ops) o vs h.1)

  pub finds_past_row : (u : List ℕ) (o : Op A) (vs : List (Transaction A)) → AllRow (Commute o) vs → finds (serial_leaves u vs) o ≡ finds u o
  unfolding serial_leaves
  finds_past_row u o [] h = refl
  finds_past_row u o (v ∷ vs) h = finds_past_row (ops_leave u v.ops) o vs h.1 ∙ finds_past_ops u o v.ops h.0

  -- one op more in a visit
  pub ops_leave_snoc : (u : List ℕ) (os : List (Op A)) (o : Op A) → ops_leave u (os ++ (o ∷ [])) ≡ leaves (ops_leave u os) o
  unfolding ops_leave
  ops_leave_snoc u [] o = refl
  ops_leave_snoc u (q ∷ os) o = ops_leave_snoc (leaves u q) os o

  pub ops_find_snoc : (u : List ℕ) (os : List (Op A)) (o : Op A) → ops_find u (os ++ (o ∷ [])) ≡ ops_find u os ++ (finds (ops_leave u os) o ∷ [])
  unfolding ops_find ops_leave
  ops_find_snoc u [] o = refl
  ops_find_snoc u (q ∷ os) o = ap (finds u q ∷◌) (ops_find_snoc (leaves u q) os o)

  -- add_to_latest, by its two cases
  pub add_later : (p : ℕ) (o : Op A) (v : Transaction A) (vs : List (Transaction A)) → visited p vs ≡ true → add_to_latest p o (v ∷ vs) ≡ v ∷ add_to_latest p o vs
  unfolding add_to_latest
  add_later p o v vs e = rw (e, add_to_latest)

  pub add_here : (p : ℕ) (o : Op A) (v : Transaction A) (vs : List (Transaction A)) → visited p vs ≡ false → add_to_latest p o (v ∷ vs) ≡ with_op (eqb v.party p) o v ∷ vs
  unfolding add_to_latest
  add_here p o v vs e = rw (e, add_to_latest)

  -- The row has a visit of p, and of every op in the visits after p's latest, P holds.
  pub data Clear (P : Op A → Type 0) (p : ℕ) : List (Transaction A) → Type 0 where
    latest : {v : Transaction A} {vs : List (Transaction A)} → v.party ≡ p → visited p vs ≡ false → AllRow P vs → Clear P p (v ∷ vs)
    later : {v : Transaction A} {vs : List (Transaction A)} → Clear P p vs → Clear P p (v ∷ vs)

  pub Clear_visited : {P : Op A → Type 0} {p : ℕ} {vs : List (Transaction A)} → Clear P p vs → visited p vs ≡ true
  unfolding visited
  Clear_visited {p = p} (latest {v = v} e n h) = rw (eq-eqb v.party p e)
  Clear_visited {p = p} (later {v = v} c) = rw (Clear_visited c) (or-true (eqb v.party p))

  pub Clear_map : {P Q : Op A → Type 0} {p : ℕ} {vs : List (Transaction A)} → ((o : Op A) → P o → Q o) → Clear P p vs → Clear Q p vs
  Clear_map f (latest {vs = vs} e n h) = latest e n (All_row_map f vs h)
  Clear_map f (later c) = later (Clear_map f c)

-- parties do not change in serial execution
pub visited_found : {A : Type 0} (p : ℕ) (u : List ℕ) (vs : List (Transaction A)) → visited p (serial_finds u vs) ≡ visited p vs
unfolding visited serial_finds
visited_found p u [] = refl
visited_found p u (v ∷ vs) = ap (λ b. eqb v.party p || b) (visited_found p (ops_leave u v.ops) vs)

module _ {A : Type 0} where
  -- THE INSERTION LAW: where o commutes with all that stands after p's latest visit, serial execution with o put into that visit
  -- leaves what serial execution without it and then doing o leaves; o finds what it then finds; and all others find the same.
  pub insert_leaves : (u : List ℕ) (p : ℕ) (o : Op A) (vs : List (Transaction A)) → Clear (Commute o) p vs → serial_leaves u (add_to_latest p o vs) ≡ leaves (serial_leaves u vs) o
  unfolding serial_leaves with_op
  insert_leaves u p o (v ∷ vs) (latest e n h) =
      rw (add_here p o v vs n, eq-eqb v.party p e, ops_leave_snoc u v.ops o) (row_leaves_past (ops_leave u v.ops) o vs h)
  insert_leaves u p o [] x' = elim x' [ ]
  insert_leaves u p o (v ∷ vs) (later c) =
      rw (add_later p o v vs (Clear_visited c)) (insert_leaves (ops_leave u v.ops) p o vs c)

  pub insert_finds : (u : List ℕ) (p : ℕ) (o : Op A) (vs : List (Transaction A)) → Clear (Commute o) p vs
      → serial_finds u (add_to_latest p o vs) ≡ add_to_latest p (finds (serial_leaves u vs) o) (serial_finds u vs)
  unfolding serial_finds serial_leaves with_op
  insert_finds u p o (v ∷ vs) (latest e n h) =
      let w : List ℕ = ops_leave u v.ops in
      rw (
        add_here p o v vs n,
        add_here p (finds (serial_leaves w vs) o) (record { party = v.party; ops = ops_find u v.ops }) (serial_finds w vs) (visited_found p w vs ∙ n),
        eq-eqb v.party p e,
        ops_find_snoc u v.ops o,
        ops_leave_snoc u v.ops o,
        row_finds_past w o vs h,
        finds_past_row w o vs h,
      )
  insert_finds u p o [] x' = elim x' [ ]
  insert_finds u p o (v ∷ vs) (later c) =
      let w : List ℕ = ops_leave u v.ops in
      rw (
        add_later p o v vs (Clear_visited c),
        add_later p (finds (serial_leaves w vs) o) (record { party = v.party; ops = ops_find u v.ops }) (serial_finds w vs) (visited_found p w vs ∙ Clear_visited c),
        insert_finds w p o vs c,
      )

  -- new visits at the end
  pub append_leaves : (u : List ℕ) (vs : List (Transaction A)) (qs : List ℕ) → serial_leaves u (vs ++ map begun qs) ≡ serial_leaves u vs
  unfolding serial_leaves ops_leave begun
  append_leaves u [] [] = refl
  append_leaves u [] (q ∷ qs) = append_leaves u [] qs
  append_leaves u (v ∷ vs) qs = append_leaves (ops_leave u v.ops) vs qs

  pub append_finds : (u : List ℕ) (vs : List (Transaction A)) (qs : List ℕ) → serial_finds u (vs ++ map begun qs) ≡ serial_finds u vs ++ map begun qs
  unfolding serial_finds ops_find ops_leave begun
  append_finds u [] [] = refl
  append_finds u [] (q ∷ qs) = ap (begun q ∷◌) (append_finds u [] qs)
  append_finds u (v ∷ vs) qs = ap (record { party = v.party; ops = ops_find u v.ops } ∷◌) (append_finds (ops_leave u v.ops) vs qs)

  pub All_row_new : (P : Op A → Type 0) (vs : List (Transaction A)) (qs : List ℕ) → AllRow P vs → AllRow P (vs ++ map begun qs)
  unfolding begun
  All_row_new P [] [] h = tt
  All_row_new P [] (q ∷ qs) h = (tt, All_row_new P [] qs tt)
  All_row_new P (v ∷ vs) qs h = (h.0, All_row_new P vs qs h.1)

  -- where P holds of all ops, a row is clear for p or has no visit of p
  pub clear_or_none : (P : Op A → Type 0) (p : ℕ) (vs : List (Transaction A)) → AllRow P vs → Clear P p vs ⊎ (visited p vs ≡ false)
  unfolding visited
  clear_or_none P p [] h = inr refl
  clear_or_none P p (v ∷ vs) h = step (eqb v.party p) refl (clear_or_none P p vs h.1)
    where
      step : (b : Bool) → eqb v.party p ≡ b → Clear P p vs ⊎ (visited p vs ≡ false) → Clear P p (v ∷ vs) ⊎ ((eqb v.party p || visited p vs) ≡ false)
      step b e (inl c) = inl (later c)
      step true e (inr n) = inl (latest (eqb-true v.party p e) n h.1)
      step false e (inr n) = inr (rw (e, n))

  pub Clear_new : (P : Op A → Type 0) (p : ℕ) (vs : List (Transaction A)) (qs : List ℕ) → Clear P p vs → Clear P p (vs ++ map begun qs)
  Clear_new P p (v ∷ vs) qs (later c) = later (Clear_new P p vs qs c)
  Clear_new P p [] qs x' = elim x' [ ]
  Clear_new P p (v ∷ vs) qs (latest e n h) = step (clear_or_none P p (vs ++ map begun qs) (All_row_new P vs qs h))
    where
      step : Clear P p (vs ++ map begun qs) ⊎ (visited p (vs ++ map begun qs) ≡ false) → Clear P p (v ∷ vs ++ map begun qs)
      step (inl c) = later c
      step (inr n') = latest e n' (All_row_new P vs qs h)

  pub Clear_after : (P : Op A → Type 0) (p : ℕ) (vs ws : List (Transaction A)) → Clear P p ws → Clear P p (vs ++ ws)
  Clear_after P p [] ws c = c
  Clear_after P p (v ∷ vs) ws c = later (Clear_after P p vs ws c)

  -- a party whose new visit is among those
  pub Clear_granted : (P : Op A → Type 0) (p : ℕ) (vs : List (Transaction A)) (qs : List ℕ) → visited {A = A} p (map begun qs) ≡ true → Clear P p (vs ++ map begun qs)
  Clear_granted P p vs qs e = Clear_after P p vs (map begun qs) (step (clear_or_none P p (map begun qs) (All_row_new P [] qs tt)))
    where
      step : Clear P p (map begun qs) ⊎ (visited {A = A} p (map begun qs) ≡ false) → Clear P p (map begun qs)
      step (inl c) = c
      step (inr n) = absurd (let z : ◌≡◌ {A = ℕ} 0 1 = cc in omega arith)

  -- one op more in p's latest visit
  with_op_party_law : (b : Bool) (o : Op A) (v : Transaction A) → (with_op b o v).party ≡ v.party
  unfolding with_op
  with_op_party_law true o v = refl
  with_op_party_law false o v = refl

  with_op_all_law : (P : Op A → Type 0) (b : Bool) (o : Op A) (v : Transaction A) → P o → All P v.ops → All P (with_op b o v).ops
  unfolding with_op
  with_op_all_law P true o v k h = all_snoc P v.ops o h k
  with_op_all_law P false o v k h = h

  pub visited_add : (q p : ℕ) (o : Op A) (vs : List (Transaction A)) → visited q (add_to_latest p o vs) ≡ visited q vs
  unfolding visited
  visited_add q p o [] = unfold add_to_latest in refl
  visited_add q p o (v ∷ vs) = step (visited p vs) refl (visited_add q p o vs)
    where
      step : (b : Bool) → visited p vs ≡ b → visited q (add_to_latest p o vs) ≡ visited q vs → visited q (add_to_latest p o (v ∷ vs)) ≡ visited q (v ∷ vs)
      step true e ih = rw (add_later p o v vs e, ih)
      step false e ih = rw (add_here p o v vs e, with_op_party_law (eqb v.party p) o v)

  pub All_row_add : (P : Op A → Type 0) (p : ℕ) (o : Op A) (vs : List (Transaction A)) → P o → AllRow P vs → AllRow P (add_to_latest p o vs)
  All_row_add P p o [] k h = unfold add_to_latest in tt
  All_row_add P p o (v ∷ vs) k h = step (visited p vs) refl (All_row_add P p o vs k h.1)
    where
      step : (b : Bool) → visited p vs ≡ b → AllRow P (add_to_latest p o vs) → AllRow P (add_to_latest p o (v ∷ vs))
      step true e ih = rw (add_later p o v vs e) (h.0, ih)
      step false e ih = rw (add_here p o v vs e) (with_op_all_law P (eqb v.party p) o v k h.0, h.1)

  pub Clear_add : (P : Op A → Type 0) (q p : ℕ) (o : Op A) (vs : List (Transaction A)) → (p ≡ q) ⊎ P o → Clear P q vs → Clear P q (add_to_latest p o vs)
  Clear_add P q p o (v ∷ vs) s (later c) = step (visited p vs) refl (Clear_add P q p o vs s c)
    where
      step : (b : Bool) → visited p vs ≡ b → Clear P q (add_to_latest p o vs) → Clear P q (add_to_latest p o (v ∷ vs))
      step true e ih = rw (add_later p o v vs e) (later ih)
      step false e ih = rw (add_here p o v vs e) (later c)
  Clear_add P q p o [] s x'' = elim x'' [ ]
  Clear_add P q p o (v ∷ vs) s (latest e n h) = step (visited p vs) refl s
    where
      step : (b : Bool) → visited p vs ≡ b → (p ≡ q) ⊎ P o → Clear P q (add_to_latest p o (v ∷ vs))
      step false e' s' = rw (add_here p o v vs e') (latest (with_op_party_law (eqb v.party p) o v ∙ e) n h)
      step true e' (inl g) = absurd (let z : ◌≡◌ {A = ℕ} 0 1 = cc in omega arith)
      step true e' (inr k) = rw (add_later p o v vs e') (latest e (visited_add q p o vs ∙ n) (All_row_add P p o vs k h))

  -- none is lost
  pub ops_in_add_law : (p : ℕ) (o : Op A) (vs : List (Transaction A)) → visited p vs ≡ true → ops_in (add_to_latest p o vs) ≡ suc (ops_in vs)
  unfolding ops_in visited
  ops_in_add_law p o [] e = absurd (true≢false (sym e))
  ops_in_add_law p o (v ∷ vs) e = step (visited p vs) refl (ops_in_add_law p o vs)
    where
      step : (b : Bool) → visited p vs ≡ b → (visited p vs ≡ true → ops_in (add_to_latest p o vs) ≡ suc (ops_in vs)) → ops_in (add_to_latest p o (v ∷ vs)) ≡ suc (length v.ops + ops_in vs)
      step true g ih = rw (add_later p o v vs g, ih g) (omega arith)
      step false g ih =
          let h : eqb v.party p ≡ true = rw (g, or-false) at e in
          rw (add_here p o v vs g, h) (unfold with_op in rw (length-append v.ops (o ∷ [])) (omega arith))

  pub ops_in_new_law : (vs : List (Transaction A)) (qs : List ℕ) → ops_in (vs ++ map begun qs) ≡ ops_in vs
  unfolding ops_in begun
  ops_in_new_law [] [] = refl
  ops_in_new_law [] (q ∷ qs) = rw (ops_in_new_law [] qs)
  ops_in_new_law (v ∷ vs) qs = rw (ops_in_new_law vs qs)

-- THE ORDER OF GRANTING: each event adds to the row the visits of the parties that it grants, and no others
module _ {A : Type 0} where
  abbrev pub parties_of : List (Transaction A) → List ℕ
  parties_of row = map (λ v. v.party) row

  parties_new : (vs : List (Transaction A)) (qs : List ℕ) → parties_of (vs ++ map begun qs) ≡ parties_of vs ++ qs
  unfolding begun
  parties_new [] [] = refl
  parties_new [] (q ∷ qs) = ap (q ∷◌) (parties_new [] qs)
  parties_new (v ∷ vs) qs = ap (v.party ∷◌) (parties_new vs qs)

  parties_add : (p : ℕ) (o : Op A) (vs : List (Transaction A)) → parties_of (add_to_latest p o vs) ≡ parties_of vs
  parties_add p o [] = unfold add_to_latest in refl
  parties_add p o (v ∷ vs) = step (visited p vs) refl (parties_add p o vs)
    where
      step : (b : Bool) → visited p vs ≡ b → parties_of (add_to_latest p o vs) ≡ parties_of vs → parties_of (add_to_latest p o (v ∷ vs)) ≡ parties_of (v ∷ vs)
      step true e ih = rw (add_later p o v vs e, ih)
      step false e ih = rw (add_here p o v vs e, with_op_party_law (eqb v.party p) o v)

  parties_noted : (row : List (Transaction A)) (e : Event A) → parties_of (noted row e) ≡ parties_of row ++ granted_by e
  unfolding noted granted_by
  parties_noted row (entered p (done (granted c))) = parties_new row (p ∷ [])
  parties_noted row (entered p (done waits)) = sym (append-nil (parties_of row))
  parties_noted row (entered p (refused k)) = sym (append-nil (parties_of row))
  parties_noted row (got p r (done a)) = parties_add p (did_get r a) row ∙ sym (append-nil (parties_of row))
  parties_noted row (got p r (refused k)) = sym (append-nil (parties_of row))
  parties_noted row (stored p r x (done _)) = parties_add p (did_put r x) row ∙ sym (append-nil (parties_of row))
  parties_noted row (stored p r x (refused k)) = sym (append-nil (parties_of row))
  parties_noted row (added p r x (done _)) = parties_add p (did_add r x) row ∙ sym (append-nil (parties_of row))
  parties_noted row (added p r x (refused k)) = sym (append-nil (parties_of row))
  parties_noted row (left p (done qs)) = parties_new row qs
  parties_noted row (left p (refused k)) = sym (append-nil (parties_of row))

  parties_history : (row : List (Transaction A)) (es : List (Event A)) → parties_of (history_from row es) ≡ parties_of row ++ granted_in es
  unfolding history_from granted_in
  parties_history row [] = sym (append-nil (parties_of row))
  parties_history row (e ∷ es) =
      parties_history (noted row e) es ∙ ap (◌++ granted_in es) (parties_noted row e) ∙ append_assoc (parties_of row) (granted_by e) (granted_in es)

granted_bare : {A : Type 0} (e : Event A) → granted_by (bare_event e) ≡ granted_by e
unfolding granted_by bare_event
granted_bare (entered p (done (granted c))) = refl
granted_bare (entered p (done waits)) = refl
granted_bare (entered p (refused k)) = refl
granted_bare (got p r a) = refl
granted_bare (stored p r x a) = refl
granted_bare (added p r x a) = refl
granted_bare (left p (done qs)) = refl
granted_bare (left p (refused k)) = refl

granted_bares : {A : Type 0} (es : List (Event A)) → granted_in (map bare_event es) ≡ granted_in es
unfolding granted_in
granted_bares [] = refl
granted_bares (e ∷ es) = rw (granted_bare e, granted_bares es)

pub row_order : (es : List (Event ℕ)) → parties_of (history (map bare_event es)) ≡ granted_in es
unfolding history
row_order es = parties_history [] (map bare_event es) ∙ granted_bares es
