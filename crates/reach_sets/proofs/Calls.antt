-- The set of a call: the sets of its names, joined one after the other, have what one of the names reaches. Assumes nothing.
use mathlib.Core.Path.{◌≡◌, refl, sym, ap, ◌∙◌}
use mathlib.Core.List.{List, [], ◌∷◌, append-nil}
use mathlib.Core.Bool.{Bool, false, ◌||◌, or-false, or_assoc}
use Prim.Native.Nat.{ℕ, ◌+◌, ◌*◌, ◌≤◌, ◌<◌}
use native.Mathlib.Omega.{arith}
use lib.Dec.{ltb}
use lib.ListN.{length, get_or, drop, replicate, drop_of_length-le, get_or-eq_default, length-replicate}
use lib.Seq.{set_out}
use borrow.Author.Tests.{ltb-true, ltb-false}
use Rattle.lists.specs.Lists.{any}
use Rattle.lists.proofs.Bools.{bool}
use Rattle.lists.proofs.Loops.{drop_step}
use Rattle.lists.proofs.Marks.{zero_at}
use Rattle.hierarchy.specs.Hierarchy.{flagged, spreads, reach, in_reach}
use Rattle.hierarchy.proofs.Reaches.{spreads_only}
use Rattle.reach_sets.specs.declared.NodeSet.{NodeSet}
use Rattle.reach_sets.specs.Sets.{has, no_nodes, joined, set_at, joined_with, call_set, set_table}
use Rattle.reach_sets.proofs.Nodes.{has_none, has_joined}
use Rattle.reach_sets.proofs.Fills.{flag_on, has_flagged, table_set, table_long}

-- one name more
pub joining_name : (table names : List ℕ) (s : NodeSet) (i : ℕ) → joined_with s table (drop i names) ≡ joined_with no_nodes table names → i < length names
    → (s' : NodeSet) → s' ≡ joined s (set_at table (get_or names i 0)) → joined_with s' table (drop (i + 1) names) ≡ joined_with no_nodes table names
unfolding joined_with
joining_name table names s i inv h s' e = rw e (rw (drop_step names i 0 refl h) at inv)

-- all of them
pub joining_last : (table names : List ℕ) (s : NodeSet) (i : ℕ) → joined_with s table (drop i names) ≡ joined_with no_nodes table names → length names ≤ i
    → s ≡ joined_with no_nodes table names
unfolding joined_with
joining_last table names s i inv h = rw (drop_of_length-le names {i = i} h) at inv

-- ---- what it has

-- a node that is not below n reaches nothing among the n
past_none : (n : ℕ) (es : List ℕ) (name x : ℕ) → n ≤ name → flagged (reach n es name) x ≡ false
unfolding reach
past_none n es name x h =
    let l = length-replicate {A = ℕ} n 0 in
    rw (set_out {A = ℕ} (replicate n 0) name 1 (omega (arith, l)))
    (bool (flagged (spreads n es (replicate n 0)) x)
    (λ t. absurd (spreads_only es n (λ y. ⊥) n (replicate n 0) l (λ p c d b f. f) (λ y o. omega (arith, o, zero_at n y)) x (flag_on (spreads n es (replicate n 0)) x t)))
    (λ t. t))

-- the set of a node in the table of the reaches
pub reach_set : (n : ℕ) (es : List ℕ) (name y : ℕ) → y < 256 → has (set_at (set_table n es) name) y ≡ flagged (reach n es name) y
reach_set n es name y h =
    bool (ltb name n)
    (λ t.
    ap (λ (table : List ℕ). has (set_at table name) y) (sym (append-nil (set_table n es)))
    ∙ ap (λ (s : NodeSet). has s y) (table_set n es [] name (ltb-true name n t))
    ∙ has_flagged (reach n es name) y h)
    (λ t.
    let l = ltb-false name n t in
    let z : (i : ℕ) → 4 * name ≤ i → get_or (set_table n es) i 0 ≡ 0 = λ i g. get_or-eq_default (set_table n es) 0 {n = i} (omega (arith, table_long n es, l, g)) in
    let e : set_at (set_table n es) name ≡ no_nodes = rw (z (4 * name) (omega arith), z (4 * name + 1) (omega arith), z (4 * name + 2) (omega arith), z (4 * name + 3) (omega arith)) refl in
    ap (λ (s : NodeSet). has s y) e ∙ has_none y ∙ sym (past_none n es name y l))

-- a set, and those of the names
pub with_has : (n : ℕ) (es : List ℕ) (s : NodeSet) (names : List ℕ) (y : ℕ) → y < 256 → has (joined_with s (set_table n es) names) y ≡ (has s y || in_reach n es names y)
unfolding joined_with any
with_has n es s [] y h = sym (or-false (has s y))
with_has n es s (name ∷ names) y h =
    with_has n es (joined s (set_at (set_table n es) name)) names y h
    ∙ ap (◌|| in_reach n es names y) (has_joined s (set_at (set_table n es) name) y h ∙ ap (has s y ||◌) (reach_set n es name y h))
    ∙ or_assoc (has s y) (flagged (reach n es name) y) (in_reach n es names y)

-- THE SET OF A CALL has just the nodes that are in the reach of one of its names
pub call_has : (n : ℕ) (es names : List ℕ) (y : ℕ) → y < 256 → has (call_set (set_table n es) names) y ≡ in_reach n es names y
call_has n es names y h = with_has n es no_nodes names y h ∙ ap (λ (b : Bool). b || in_reach n es names y) (has_none y)

-- it has four words
with_long : (table names : List ℕ) (s : NodeSet) → length s.words ≡ 4 → length (joined_with s table names).words ≡ 4
unfolding joined_with
with_long table [] s l = l
with_long table (name ∷ names) s l = with_long table names (joined s (set_at table name)) refl

pub call_long : (table names : List ℕ) → length (call_set table names).words ≡ 4
call_long table names = with_long table names no_nodes refl

-- no name, no node
pub call_none : (table : List ℕ) → call_set table [] ≡ no_nodes
unfolding joined_with
call_none table = refl
