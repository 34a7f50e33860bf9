-- THEOREMS about the cover: over interval tables of any contents, over rooted ones, and over those of every legal hierarchy. Assumes nothing.
use mathlib.Core.Path.{◌≡◌, refl, sym, ap, ◌∙◌, subst}
use mathlib.Core.List.{List, [], ◌∷◌}
use mathlib.Core.Bool.{true, false}
use Prim.Native.Nat.{ℕ, zero, suc, ◌≤◌, ◌<◌}
use native.Mathlib.Omega.{arith}
use lib.Dec.{leb}
use borrow.Author.Tests.{leb-true, le-leb}
use Rattle.hierarchy.specs.Hierarchy.{edges_of, Legal}
use Rattle.intervals.specs.Intervals.{interval_table}
use Rattle.covers.specs.Cover.{low_at, high_at, interval_at, call_interval, contains, width, closest, cover_of, IsCover}
use Rattle.covers.specs.declared.Interval.{Interval}
use Rattle.lists.proofs.Bools.{and_left, and_right, and_both}
use Rattle.lists.proofs.Members.{In, in_nil, in_cons, head}
use Rattle.hierarchy.proofs.Legals.{promised}
use Rattle.covers.proofs.Bounds.{first_name}
use Rattle.covers.proofs.Covers.{closest_cover}
use Rattle.interval_laws.specs.Covers.{Rooted}
use Rattle.interval_laws.proofs.Laws.{call_bounds, same_members, built_low, built_high, interval_real, interval_inside_root}

-- the test of containment, by its ends
pub contains_ends : (a b : Interval) → contains a b ≡ true → (a.low ≤ b.low) × (b.high ≤ a.high)
contains_ends a b e = (
  leb-true a.low b.low (and_left (leb a.low b.low) (leb b.high a.high) e),
  leb-true b.high a.high (and_right (leb a.low b.low) (leb b.high a.high) e),
)

pub contains_by : (a b : Interval) → a.low ≤ b.low → b.high ≤ a.high → contains a b ≡ true
contains_by a b p q = and_both (leb a.low b.low) (leb b.high a.high) (le-leb a.low b.low p) (le-leb b.high a.high q)

-- OVER ANY TABLE: where the interval of some node contains the call's, the definition gives the cover (`closest_cover`, covers/proofs/Covers),
-- and no other node is the cover
pub closest_only : (n : ℕ) (table : List ℕ) (call : Interval) (c : ℕ) → IsCover n table call c → c ≡ closest n table call
closest_only n table call c k =
    let d = closest_cover table call n c k.below k.around in
    let e : width (interval_at table c) ≡ width (interval_at table (closest n table call))
    = omega (arith, k.narrowest (closest n table call) d.below d.around, d.narrowest c k.below k.around) in
    omega (arith, k.lowest (closest n table call) d.below d.around (sym e), d.lowest c k.below k.around e)

-- where there is none, it gives 0
pub closest_none : (n : ℕ) (table : List ℕ) (call : Interval) → ((r : ℕ) → r < n → contains (interval_at table r) call ≡ false) → closest n table call ≡ 0
unfolding closest
closest_none zero table call f = refl
closest_none (suc k) table call f = rw (f k (omega arith)) (closest_none k table call (λ r h. f r (omega arith)))

-- THE SEARCH is given a call's bounds and no names (02, point 3): over one table and n, calls with the same bounds have the same cover
pub same_bounds : (n : ℕ) (table names others : List ℕ) → call_interval table names ≡ call_interval table others → cover_of n table names ≡ cover_of n table others
same_bounds n table names others e = ap (closest n table) e

-- a call that names one node, however often, has the call's interval of the one name
pub same_names : (table : List ℕ) (x name : ℕ) (names : List ℕ) → ((r : ℕ) → In r (name ∷ names) → r ≡ x) → call_interval table (name ∷ names) ≡ call_interval table (x ∷ [])
same_names table x name names f =
    same_members table (name ∷ names) (x ∷ [])
    (λ r i. subst (λ (k : ℕ). In r (k ∷ [])) (f r i) head)
    (λ r i. in_cons i (λ e. subst (λ (k : ℕ). In k (name ∷ names)) (f name head ∙ e) head) in_nil)

-- OF A CALL THAT NAMES ONE NODE, with low at most high, the cover's interval is the node's
pub one_name : (n : ℕ) (table : List ℕ) (x : ℕ) → x < n → low_at table x ≤ high_at table x → interval_at table (cover_of n table (x ∷ [])) ≡ interval_at table x
one_name n table x h o =
    let c = closest n table (interval_at table x) in
    let a = contains_by (interval_at table x) (interval_at table x) (omega arith) (omega arith) in
    let k = closest_cover table (interval_at table x) n x h a in
    let e = contains_ends (interval_at table c) (interval_at table x) k.around in
    let low : low_at table c ≡ low_at table x = omega (arith, e.0, e.1, k.narrowest x h a) in
    let high : high_at table c ≡ high_at table x = omega (arith, e.0, e.1, k.narrowest x h a) in
    rw (first_name table x, low, high)

-- however often it names it
pub one_name_again : (n : ℕ) (table : List ℕ) (x name : ℕ) (names : List ℕ) → x < n → low_at table x ≤ high_at table x → ((r : ℕ) → In r (name ∷ names) → r ≡ x)
    → interval_at table (cover_of n table (name ∷ names)) ≡ interval_at table x
one_name_again n table x name names h o same = ap (interval_at table) (same_bounds n table (name ∷ names) (x ∷ []) (same_names table x name names same)) ∙ one_name n table x h o

-- OVER ROOTED TABLES
module _ (n : ℕ) (table : List ℕ) (rooted : Rooted n table) (name : ℕ) (names : List ℕ) (below : (r : ℕ) → In r (name ∷ names) → r < n) where
  -- the root's interval contains that of every call of nodes, so some node's does,
  pub root_contains : contains (interval_at table 0) (call_interval table (name ∷ names)) ≡ true
  root_contains =
      let b = call_bounds table (name ∷ names) (omega arith) in
      let inside : (r : ℕ) → In r (name ∷ names) → (low_at table 0 ≤ low_at table r) × (high_at table r ≤ high_at table 0)
      = λ r i. contains_ends (interval_at table 0) (interval_at table r) (rooted.in_root r (below r i)) in
      contains_by (interval_at table 0) (call_interval table (name ∷ names))
      (omega (arith, (inside b.low_one.0 b.low_one.1).0, b.low_one.2))
      (omega (arith, (inside b.high_one.0 b.high_one.1).1, b.high_one.2))

  -- and the definition gives the cover
  pub cover_is : IsCover n table (call_interval table (name ∷ names)) (cover_of n table (name ∷ names))
  cover_is = closest_cover table (call_interval table (name ∷ names)) n 0 (omega (arith, below name head)) root_contains

-- OVER EVERY LEGAL HIERARCHY
module _ (n : ℕ) (table : List ℕ) (edge_count : ℕ) (legal : Legal n table edge_count) where
  abbrev es : List ℕ
  es = edges_of table edge_count

  abbrev built : List ℕ
  built = interval_table n es

  -- the built intervals are rooted,
  pub built_rooted : Rooted n built
  built_rooted =
      let some = (promised n table edge_count legal).some in
      record {
        ordered = λ node h. omega (arith, built_low n es node h, built_high n es node h, (interval_real n table edge_count legal node h).ordered);
        in_root = λ node h.
            let i = interval_inside_root n table edge_count legal node h in
            contains_by (interval_at built 0) (interval_at built node)
            (omega (arith, built_low n es 0 some, built_low n es node h, i.low_end))
            (omega (arith, built_high n es 0 some, built_high n es node h, i.high_end));
      }

  -- and the definition gives the cover
  pub built_cover : (name : ℕ) (names : List ℕ) → ((r : ℕ) → In r (name ∷ names) → r < n) → IsCover n built (call_interval built (name ∷ names)) (cover_of n built (name ∷ names))
  built_cover = cover_is n built built_rooted
