-- Laws of the table of kinds: a record's row by its kind, and what holds of each row's place. Assumes nothing.
use mathlib.Core.Path.{◌≡◌, refl, ap, subst, ◌∙◌}
use mathlib.Core.Logic.{◌≢◌}
use mathlib.Core.Bool.{Bool, true, false, cond}
use mathlib.Core.List.{List, [], ◌∷◌, ◌++◌, append-nil}
use Prim.Native.Nat.{ℕ, zero, suc, ◌≤◌}
use native.Mathlib.Omega.{arith}
use Rattle.std.specs.Prelude.{None}
use Rattle.std.proofs.Common.{lit≤}
use Rattle.blocks.specs.declared.RecordKind.{RecordKind}
use Rattle.blocks.specs.declared.RecordKind.TheVariants.{Size, Edge, Enter, Get, Put, Leave, Add, Value}
use Rattle.blocks.specs.Inner.{kind_number, Named}
use borrow.Author.Tests.{ne_eqb}
use lib.Dec.{eqb}
use lib.ListN.{take, drop}
use Rattle.blocks.specs.Record.{ReadStage, kind_of, faulty, Place, at_first, among_edges, among_values, among_steps, Kind, kinds, row_in, row_of, record_right}
use Rattle.blocks.specs.Block.{placed, after_record}

-- the rows are of other kinds
abbrev Others : ℕ → List Kind → Type 0
Others kind [] = Unit {0}
Others kind (k ∷ ks) = (kind ≡ k.number → ⊥) × Others kind ks

-- rows of other kinds are passed over
pub past_rows : (n : ℕ) (ks : List Kind) (kind : ℕ) → Others kind (take n ks) → row_in ks kind ≡ row_in (drop n ks) kind
unfolding row_in
past_rows zero ks kind others = refl
past_rows (suc n) [] kind others = refl
past_rows (suc n) (k ∷ ks) kind others = rw (ne_eqb kind k.number others.0) (past_rows n ks kind others.1)

-- what a record's kind says of it
pub right_at : (r : List ℕ) {kind : ℕ} → kind_of r ≡ kind → record_right r ≡ (row_in kinds kind).right r
unfolding record_right
right_at r e = ap (λ (kind : ℕ). (row_in kinds kind).right r) e

-- no record of a number that is no kind's is right
pub no_kind : (r : List ℕ) → Named None (kind_of r) → record_right r ≡ false
unfolding kinds row_in
no_kind r none =
    let n : ℕ = kind_of r in
    right_at r refl
    ∙ ap (λ (k : Kind). k.right r)
    (past_rows 8 kinds n
    (other 1 (lit≤ tt) (lit≤ tt), (other 2 (lit≤ tt) (lit≤ tt), (other 3 (lit≤ tt) (lit≤ tt), (other 4 (lit≤ tt) (lit≤ tt), (other 5 (lit≤ tt) (lit≤ tt), (other 6 (lit≤ tt) (lit≤ tt), (other 7 (lit≤ tt) (lit≤ tt), (other 8 (lit≤ tt) (lit≤ tt), tt)))))))))
  where
    other : (k : ℕ) → 1 ≤ k → k ≤ 8 → kind_of r ≡ k → ⊥
    other k low high e = omega (arith, none)

pub after_at : (t : ReadStage) (r : List ℕ) {kind : ℕ} → t.wrong ≡ 0 → record_right r ≡ true → kind_of r ≡ kind → after_record t r ≡ placed (row_in kinds kind).place t r
unfolding after_record
after_at t r z right e =
    ap (λ (w : ℕ). cond (eqb w 0) (cond (record_right r) (placed (row_of r).place t r) (faulty 4 t)) t) z
    ∙ ap (λ (b : Bool). cond b (placed (row_of r).place t r) (faulty 4 t)) right
    ∙ ap (λ (kind : ℕ). placed (row_in kinds kind).place t r) e

pub after_wrong : (t : ReadStage) (r : List ℕ) → t.wrong ≡ 0 → record_right r ≡ false → after_record t r ≡ faulty 4 t
unfolding after_record
after_wrong t r z wrong =
    ap (λ (w : ℕ). cond (eqb w 0) (cond (record_right r) (placed (row_of r).place t r) (faulty 4 t)) t) z
    ∙ ap (λ (b : Bool). cond b (placed (row_of r).place t r) (faulty 4 t)) wrong

pub after_stays : (t : ReadStage) (r : List ℕ) → t.wrong ≢ 0 → after_record t r ≡ t
unfolding after_record
after_stays t r h = ap (λ (b : Bool). cond b (cond (record_right r) (placed (row_of r).place t r) (faulty 4 t)) t) (ne_eqb t.wrong 0 h)

-- a record at its place, or not
pub comes : (p : Place) (t : ReadStage) (r : List ℕ) → p.follows t r ≡ true → placed p t r ≡ p.leads t r
comes p t r e = ap (λ (b : Bool). cond b (p.leads t r) (faulty 4 t)) e

pub away : (p : Place) (t : ReadStage) (r : List ℕ) → p.follows t r ≡ false → placed p t r ≡ faulty 4 t
away p t r e = ap (λ (b : Bool). cond b (p.leads t r) (faulty 4 t)) e

-- P holds of the place of each row
abbrev Places : (Place → Type 0) → List Kind → Type 0
Places P [] = Unit {0}
Places P (k ∷ ks) = P k.place × Places P ks

either : (P : Place → Type 0) (b : Bool) (x y : Kind) → P x.place → P y.place → P (cond b x y).place
either P true x y p q = p
either P false x y p q = q

-- rows, and then others
rows_then : (P : Place → Type 0) (ks more : List Kind) → Places P ks → (kind : ℕ) → P (row_in more kind).place → P (row_in (ks ++ more) kind).place
unfolding row_in
rows_then P [] more ps kind last = last
rows_then P (k ∷ ks) more ps kind last = either P (eqb kind k.number) k (row_in (ks ++ more) kind) ps.0 (rows_then P ks more ps.1 kind last)

in_rows : (P : Place → Type 0) (ks : List Kind) → Places P ks → P among_steps → (kind : ℕ) → P (row_in ks kind).place
unfolding row_in
in_rows P ks ps last kind = subst (λ (l : List Kind). P (row_in l kind).place) (append-nil ks) (rows_then P ks [] ps kind last)

pub by_place : (P : Place → Type 0) → P at_first → P among_edges → P among_values → P among_steps → (kind : ℕ) → P (row_in kinds kind).place
unfolding kinds
by_place P size edge value step kind = in_rows P kinds (size, (edge, (step, (step, (step, (step, (step, (value, tt)))))))) step kind

-- all kinds but size, edge and value stand among the steps
pub among_steps_law : (kind : ℕ) → (kind ≡ 1 → ⊥) → (kind ≡ 2 → ⊥) → (kind ≡ 8 → ⊥) → (row_in kinds kind).place ≡ among_steps
unfolding kinds row_in
among_steps_law kind size edge value =
    ap (λ (k : Kind). k.place) (past_rows 2 kinds kind (size, (edge, tt)))
    ∙ rows_then (λ (p : Place). p ≡ among_steps) (take 5 (drop 2 kinds)) (drop 7 kinds) (refl, (refl, (refl, (refl, (refl, tt))))) kind
    (ap (λ (k : Kind). k.place) (past_rows 1 (drop 7 kinds) kind (value, tt)))

pub among_steps_kind : (kind : RecordKind) (n : ℕ) → n ≡ kind_number kind → (kind ≡ Size → ⊥) → (kind ≡ Edge → ⊥) → (kind ≡ Value → ⊥) → (row_in kinds n).place ≡ among_steps
among_steps_kind Size n e size edge value = absurd (size refl)
among_steps_kind Edge n e size edge value = absurd (edge refl)
among_steps_kind Value n e size edge value = absurd (value refl)
among_steps_kind Enter n e size edge value = among_steps_law n (λ h. omega (arith, e, h)) (λ h. omega (arith, e, h)) (λ h. omega (arith, e, h))
among_steps_kind Get n e size edge value = among_steps_law n (λ h. omega (arith, e, h)) (λ h. omega (arith, e, h)) (λ h. omega (arith, e, h))
among_steps_kind Put n e size edge value = among_steps_law n (λ h. omega (arith, e, h)) (λ h. omega (arith, e, h)) (λ h. omega (arith, e, h))
among_steps_kind Leave n e size edge value = among_steps_law n (λ h. omega (arith, e, h)) (λ h. omega (arith, e, h)) (λ h. omega (arith, e, h))
among_steps_kind Add n e size edge value = among_steps_law n (λ h. omega (arith, e, h)) (λ h. omega (arith, e, h)) (λ h. omega (arith, e, h))
