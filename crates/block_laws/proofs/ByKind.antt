-- THEOREMS: what the table of kinds says of a record, spelt out kind by kind and stage by stage. Assumes nothing.
use mathlib.Core.Path.{◌≡◌, refl, sym, ap, subst, ◌∙◌}
use mathlib.Core.Bool.{Bool, true, false, cond, not, ◌&&◌, ◌||◌, and-true, and-false, or-false}
use mathlib.Core.List.{List, [], ◌∷◌}
use Prim.Native.Nat.{ℕ, zero, suc, ◌≤◌}
use native.Mathlib.Omega.{arith}
use borrow.Author.Tests.{ne_eqb, eqb-true, eqb-false, lt-leb, le-leb}
use lib.Dec.{eqb, leb, ltb, eqb-zero-suc, eqb-suc-zero}
use Rattle.lists.specs.Lists.{every}
use Rattle.lists.proofs.Bools.{bool}
use Rattle.octets.specs.Bytes.{byte, zero_from, zero_between}
use Rattle.blocks.specs.Record.{ReadStage, kind_of, size_in, value_node_in, value_in, enter_right, value_right, reached, faulty, Place, among_values, among_steps, Kind, kinds, row_in, record_right}
use Rattle.blocks.specs.Block.{placed, after_record}
use Rattle.blocks.proofs.Rows.{right_at, past_rows, among_steps_law}

-- the kind is one of the eight, and mode, name count, value and unused bytes are right
abbrev pub one_of_eight : ℕ → List ℕ → Bool
one_of_eight kind r =
    eqb kind 1 && zero_from 3 r
    || eqb kind 2 && zero_from 3 r
    || eqb kind 3 && enter_right r
    || eqb kind 4 && zero_from 3 r
    || eqb kind 5 && (eqb (byte 3 r) 0 && zero_from 12 r)
    || eqb kind 6 && zero_from 2 r
    || eqb kind 7 && (eqb (byte 3 r) 0 && zero_from 12 r)
    || eqb kind 8 && (eqb (byte 2 r) 0 && eqb (byte 3 r) 0 && zero_from 12 r && not (eqb (value_in r) 0))

-- where records of a kind stand: 1 the size record and edges, 2 values, 3 steps
abbrev pub place_of : ℕ → ℕ
place_of kind = cond (leb kind 2) 1 (cond (eqb kind 8) 2 3)

-- one size record comes first, then all edges, then values, then steps
abbrev pub ordered : ReadStage → ℕ → Bool
ordered t kind = eqb t.at 0 && eqb kind 1 || leb 1 t.at && (leb 2 kind && leb t.at (place_of kind))

-- values are ascending, each node once, and below n
abbrev pub in_turn : ReadStage → ℕ → List ℕ → Bool
in_turn t kind r = not (eqb kind 8) || leb t.next (value_node_in r) && ltb (value_node_in r) t.size

-- the stage after a record that is right, in order and in turn
abbrev pub past_record : ReadStage → ℕ → List ℕ → ReadStage
past_record t kind r = reached (place_of kind) (cond (eqb kind 1) (size_in r) t.size) (cond (eqb kind 8) (suc (value_node_in r)) t.next)

turned : (x : ℕ) → eqb 0 x ≡ eqb x 0
turned zero = refl
turned (suc x) = eqb-zero-suc x ∙ sym (eqb-suc-zero x)

gap : (r : List ℕ) → zero_between 3 4 r ≡ eqb (byte 3 r) 0
unfolding every
gap [] = refl
gap (a ∷ []) = refl
gap (a ∷ b ∷ []) = refl
gap (a ∷ b ∷ c ∷ []) = refl
gap (a ∷ b ∷ c ∷ d ∷ r) = and-true (eqb 0 d) ∙ turned d

gap_two : (r : List ℕ) → zero_between 2 4 r ≡ (eqb (byte 2 r) 0 && eqb (byte 3 r) 0)
unfolding every
gap_two [] = refl
gap_two (a ∷ []) = refl
gap_two (a ∷ b ∷ []) = refl
gap_two (a ∷ b ∷ c ∷ []) = ap (λ (x : Bool). x && true) (turned c)
gap_two (a ∷ b ∷ c ∷ d ∷ r) = ap (λ (x : Bool). x && (eqb 0 d && true)) (turned c) ∙ ap (λ (x : Bool). eqb c 0 && x) (and-true (eqb 0 d) ∙ turned d)

right : (kind : ℕ) (r : List ℕ) → (row_in kinds kind).right r ≡ one_of_eight kind r
unfolding kinds row_in value_right
right zero r = refl
right (suc zero) r = simp or-false
right (suc (suc zero)) r = simp or-false
right (suc (suc (suc zero))) r = simp or-false
right (suc (suc (suc (suc zero)))) r = simp or-false
right (suc (suc (suc (suc (suc zero))))) r = simp (gap r, or-false)
right (suc (suc (suc (suc (suc (suc zero)))))) r = simp or-false
right (suc (suc (suc (suc (suc (suc (suc zero))))))) r = simp (gap r, or-false)
right (suc (suc (suc (suc (suc (suc (suc (suc zero)))))))) r = ap (λ (b : Bool). b && zero_from 12 r && not (eqb (value_in r) 0)) (gap_two r)
right (suc (suc (suc (suc (suc (suc (suc (suc (suc x))))))))) r =
    let kind : ℕ = suc (suc (suc (suc (suc (suc (suc (suc (suc x)))))))) in
    let other : (k : ℕ) → k ≤ 8 → kind ≡ k → ⊥ = λ k h e. omega arith in
    let n1 = other 1 (omega arith) in
    let n2 = other 2 (omega arith) in
    let n3 = other 3 (omega arith) in
    let n4 = other 4 (omega arith) in
    let n5 = other 5 (omega arith) in
    let n6 = other 6 (omega arith) in
    let n7 = other 7 (omega arith) in
    let n8 = other 8 (omega arith) in
    ap (λ (k : Kind). k.right r) (past_rows 8 kinds kind (n1, (n2, (n3, (n4, (n5, (n6, (n7, (n8, tt)))))))))
    ∙ sym
    (simp (
      ne_eqb kind 1 n1,
      ne_eqb kind 2 n2,
      ne_eqb kind 3 n3,
      ne_eqb kind 4 n4,
      ne_eqb kind 5 n5,
      ne_eqb kind 6 n6,
      ne_eqb kind 7 n7,
      ne_eqb kind 8 n8,
    ))

-- two tests, one behind the other
both : (b c : Bool) (x y : ReadStage) → cond b (cond c x y) y ≡ cond (b && c) x y
both true c x y = refl
both false c x y = refl

first : (at : ℕ) → (leb 0 at && leb at 0) ≡ (eqb at 0 && true || leb 1 at && (false && leb at 1))
first zero = refl
first (suc x) = simp (lt-leb (suc x) 0 (omega arith), eqb-suc-zero x, and-false)

second : (at : ℕ) → (leb 1 at && leb at 1) ≡ (eqb at 0 && false || leb 1 at && (true && leb at 1))
second at = simp and-false

module _ (t : ReadStage) (r : List ℕ) where
  abbrev Spelt : Bool → ℕ → Type 0
  Spelt b kind = cond b (placed (row_in kinds kind).place t r) (faulty 4 t) ≡ cond (b && (ordered t kind && in_turn t kind r)) (past_record t kind r) (faulty 4 t)

  spelt_by : (b c d : Bool) (x y : ReadStage) → c ≡ d → x ≡ y → cond b (cond c x (faulty 4 t)) (faulty 4 t) ≡ cond (b && d) y (faulty 4 t)
  spelt_by b c d x y e f = both b c x (faulty 4 t) ∙ rw (e, f)

  value : (b : Bool) → Spelt b 8
  unfolding kinds row_in
  value b = spelt_by b (among_values.follows t r) (ordered t 8 && in_turn t 8 r) _ _ (simp and-false) refl

  step : (b : Bool) (kind : ℕ) → 3 ≤ kind → eqb kind 8 ≡ false → Spelt b kind
  step b kind h e =
      ap (λ (p : Place). cond b (placed p t r) (faulty 4 t)) (among_steps_law kind (λ e. omega arith) (λ e. omega arith) (eqb-false kind 8 e))
      ∙ spelt_by b (among_steps.follows t r) (ordered t kind && in_turn t kind r) (among_steps.leads t r) (past_record t kind r) (sym (simp (e, ne_eqb kind 1 (λ e. omega arith), le-leb 2 kind (omega arith), lt-leb kind 2 (omega arith), and-false, and-true)))
      (sym (simp (e, ne_eqb kind 1 (λ e. omega arith), lt-leb kind 2 (omega arith))))

  spelt : (kind : ℕ) (b : Bool) → b ≡ (row_in kinds kind).right r → Spelt b kind
  unfolding kinds row_in
  spelt zero b e = rw e
  spelt (suc zero) b e = spelt_by b _ _ _ _ (first t.at ∙ sym (and-true _)) refl
  spelt (suc (suc zero)) b e = spelt_by b _ _ _ _ (second t.at ∙ sym (and-true _)) refl
  spelt (suc (suc (suc x))) b e =
      let kind : ℕ = suc (suc (suc x)) in
      bool (eqb kind 8)
      (λ f. subst (Spelt b) (sym (eqb-true kind 8 f)) (value b))
      (λ f. step b kind (omega arith) f)

-- A RECORD BY ITSELF
pub right_by_kind : (r : List ℕ) → record_right r ≡ one_of_eight (kind_of r) r
right_by_kind r = right_at r refl ∙ right (kind_of r) r

-- A RECORD IN ITS PLACE
pub after_by_kind : (t : ReadStage) (r : List ℕ)
    → after_record t r
    ≡ cond (eqb t.wrong 0) (cond (one_of_eight (kind_of r) r && (ordered t (kind_of r) && in_turn t (kind_of r) r)) (past_record t (kind_of r) r) (faulty 4 t)) t
unfolding after_record
after_by_kind t r =
    ap (λ (u : ReadStage). cond (eqb t.wrong 0) u t)
    (spelt t r (kind_of r) (record_right r) (right_at r refl)
    ∙ ap (λ (b : Bool). cond (b && (ordered t (kind_of r) && in_turn t (kind_of r) r)) (past_record t (kind_of r) r) (faulty 4 t)) (right_by_kind r))
