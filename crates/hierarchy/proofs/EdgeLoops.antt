-- The turns of a loop over an edge table: what is left of the table from edge e on, and what holds at each of its places. Assumes nothing.
use mathlib.Core.Path.{◌≡◌, refl, ap, ◌∙◌, subst}
use mathlib.Core.List.{List, [], ◌∷◌}
use mathlib.Core.Bool.{Bool}
use Prim.Native.Nat.{ℕ, zero, suc, ◌+◌, ◌*◌, ◌/◌, ◌≤◌, ◌<◌, min}
use native.Mathlib.Omega.{arith}
use lib.Dec.{eqb}
use lib.ListN.{length, get_or, drop, length-take, length-drop}
use lib.Seq.{drop-cons, get_or-take}
use borrow.Author.Tests.{eqb-true, eq-eqb, ne_eqb}
use Rattle.lists.specs.Lists.{kept_if}
use Rattle.lists.proofs.Bools.{bool}
use Rattle.lists.proofs.Members.{In, head, in_nil, in_cons, kept_in}
use Rattle.hierarchy.specs.Hierarchy.{edges_of, children, Edge}
use Rattle.hierarchy.specs.Hierarchy.Edge.{first, later}
use Rattle.hierarchy.specs.Inner.{ends_at, Edges}
use Rattle.hierarchy.specs.declared.Ends.{Ends}

-- the edges of the table from e on
abbrev pub rest : List ℕ → ℕ → ℕ → List ℕ
rest edges count e = drop (2 * e) (edges_of edges count)

-- two numbers further on stands the next edge
edge_in : (l : List ℕ) (e : ℕ) → 2 * e + 1 < length l → Edge l (get_or l (2 * e) 0) (get_or l (2 * e + 1) 0)
edge_in [] e h = absurd (omega arith)
edge_in (a ∷ []) e h = absurd (omega arith)
edge_in (a ∷ b ∷ l) zero h = first
edge_in (a ∷ b ∷ l) (suc e) h =
    let p : 2 * suc e ≡ suc (suc (2 * e)) = omega arith in
    let q : 2 * suc e + 1 ≡ suc (suc (2 * e + 1)) = omega arith in
    rw (q, p) (later (edge_in l e (omega arith)))

-- what holds at each place of the table holds of each edge
edge_all : (P : Ends → Type 0) {l : List ℕ} {p c : ℕ} → ((e : ℕ) → 2 * e + 1 < length l → P (ends_at l e)) → Edge l p c → P (record { parent = p; child = c })
edge_all P f first = f 0 (omega arith)
edge_all P f (later d) =
    edge_all P
    (λ e h.
    let p : 2 * suc e ≡ suc (suc (2 * e)) = omega arith in
    let q : 2 * suc e + 1 ≡ suc (suc (2 * e + 1)) = omega arith in
    rw (q, p) at (f (suc e) (omega arith)))
    d

pub edges_all : (P : Ends → Type 0) (edges : List ℕ) (count : ℕ) {p c : ℕ} → ((e : ℕ) → e < count → P (ends_at edges e))
    → Edge (edges_of edges count) p c → P (record { parent = p; child = c })
edges_all P edges count f =
    edge_all P
    (λ e h.
    let b : e < count = omega (arith, simp length-take at h) in
    rw (get_or-take (2 * count) edges (2 * e) 0 (omega arith), get_or-take (2 * count) edges (2 * e + 1) 0 (omega arith)) (f e b))

module _ (edges : List ℕ) (count e : ℕ) (h : e < min count (length edges / 2)) where
  abbrev parent : ℕ
  parent = get_or edges (2 * e) 0

  abbrev child : ℕ
  child = get_or edges (2 * e + 1) 0

  in_table : 2 * e + 1 < length (edges_of edges count)
  in_table = simp length-take (omega arith)

  pub edge_here : Edge (edges_of edges count) parent child
  edge_here =
      rw (← get_or-take (2 * count) edges (2 * e) 0 (omega arith), ← get_or-take (2 * count) edges (2 * e + 1) 0 (omega arith))
      (edge_in (edges_of edges count) e in_table)

  pub rest_cons : rest edges count e ≡ parent ∷ child ∷ rest edges count (e + 1)
  rest_cons =
      let n : suc (suc (2 * e)) ≡ 2 * (e + 1) = omega arith in
      let m : suc (2 * e) ≡ 2 * e + 1 = omega arith in
      drop-cons (edges_of edges count) (2 * e) 0 (omega (arith, in_table))
      ∙ ap (λ (t : List ℕ). get_or (edges_of edges count) (2 * e) 0 ∷ t) (drop-cons (edges_of edges count) (suc (2 * e)) 0 (omega (arith, in_table)))
      ∙ rw (get_or-take (2 * count) edges (2 * e) 0 (omega arith), get_or-take (2 * count) edges (suc (2 * e)) 0 (omega arith), n, m)

  pub rest_other : (node : ℕ) → (parent ≡ node → ⊥) → children (rest edges count e) node ≡ children (rest edges count (e + 1)) node
  unfolding children
  rest_other node d = ap (λ (t : List ℕ). children t node) rest_cons ∙ rw (ne_eqb parent node d)

  pub rest_child : (node : ℕ) → parent ≡ node → children (rest edges count e) node ≡ child ∷ children (rest edges count (e + 1)) node
  unfolding children
  rest_child node d = ap (λ (t : List ℕ). children t node) rest_cons ∙ rw (eq-eqb parent node d)

-- a list too short for an edge
few_children : (l : List ℕ) (node : ℕ) → length l ≤ 1 → children l node ≡ []
unfolding children
few_children [] node h = refl
few_children (a ∷ []) node h = refl
few_children (a ∷ b ∷ l) node h = absurd (omega arith)

-- past the last whole edge nothing is left
module _ (edges : List ℕ) (count e : ℕ) (h : min count (length edges / 2) ≤ e) where
  few : length (rest edges count e) ≤ 1
  few = simp (length-drop, length-take) (omega arith)

  pub end_children : (node : ℕ) → children (rest edges count e) node ≡ []
  end_children node = few_children (rest edges count e) node few

-- the ends of an edge that a loop reads are below n
module _ (n count : ℕ) (edges : List ℕ) (fits : Edges n count edges) (e : ℕ) (h : e < count) where
  pub turn : e < min count (length edges / 2)
  turn = omega (arith, fits.table)

  pub parent_below : get_or edges (2 * e) 0 < n
  parent_below = (fits.below _ _ (edge_here edges count e turn)).0

  pub child_below : get_or edges (2 * e + 1) 0 < n
  child_below = (fits.below _ _ (edge_here edges count e turn)).1

-- a child is one by an edge, and the other way round
pub child_of : {es : List ℕ} {r c : ℕ} → Edge es r c → In c (children es r)
unfolding children
child_of {r = r} first = rw (eq-eqb r r refl) head
child_of {r = r} {c = c} (later {a} {b} {es = es} e) = kept_in (eqb a r) c b (children es r) (child_of e)

edge_first : (a r b c : ℕ) (es : List ℕ) → a ≡ r → b ≡ c → Edge (a ∷ b ∷ es) r c
edge_first a r b c es p q = subst (λ (x : ℕ). Edge (a ∷ b ∷ es) x c) p (subst (λ (x : ℕ). Edge (a ∷ b ∷ es) a x) q first)

pub edge_of : (es : List ℕ) (r c : ℕ) → In c (children es r) → Edge es r c
unfolding children
edge_of [] r c i = in_nil i
edge_of (a ∷ []) r c i = in_nil i
edge_of (a ∷ b ∷ es) r c i =
    bool (eqb a r)
    (λ t. in_cons (subst (λ (k : Bool). In c (kept_if k b (children es r))) t i) (λ q. edge_first a r b c es (eqb-true a r t) q) (λ j. later (edge_of es r c j)))
    (λ t. later (edge_of es r c (subst (λ (k : Bool). In c (kept_if k b (children es r))) t i)))
