-- WHAT DEMAND 3 TAKES FROM THE HIERARCHY AND FROM A SOUND DESK: a node in the reach of a name has its interval inside the name's, and so inside the hold's.
-- Assumes nothing.
use mathlib.Core.Path.{◌≡◌, refl, sym, ap, ◌∙◌}
use mathlib.Core.List.{List, [], ◌∷◌, ◌++◌}
use mathlib.Core.Bool.{true, ◌&&◌}
use Prim.Native.Nat.{ℕ, ◌*◌, ◌≤◌, ◌<◌}
use native.Mathlib.Omega.{arith}
use lib.Dec.{eqb, leb, ltb}
use lib.ListN.{length, get_or, take, length-take}
use lib.Seq.{take-append_seam, take-take, length-take-le}
use borrow.Author.Tests.{eqb-false, not-true, ltb-true, leb-true, le-leb}
use Rattle.lists.specs.Lists.{every}
use Rattle.lists.proofs.Bools.{and_left, and_right, and_both}
use Rattle.lists.proofs.Bounded.{all_at}
use Rattle.lists.proofs.Members.{In}
use Rattle.lists.proofs.Distinct.{any_found, every_in}
use Rattle.hierarchy.specs.Hierarchy.{edges_of, flagged, reach, in_reach}
use Rattle.intervals.specs.Intervals.{low_of, high_of}
use Rattle.covers.specs.Cover.{low_at, high_at}
use Rattle.interval_laws.proofs.Laws.{Inside, built_length, built_low, built_high, reach_agrees, reached_inside, taken}
use Rattle.naming.specs.Names.{names_of, rises}
use Rattle.locks.specs.declared.Lock.{Lock}
use Rattle.locks.specs.declared.Stage.TheVariants.{Holding}
use Rattle.locks.specs.Stages.{of_lock}
use Rattle.locks.specs.Lent.{Hierarchy, low_in, high_in, keeps_names, inside_lock, covers_names}
use Rattle.parties.proofs.Clauses.{clauses}
use Rattle.desk.specs.declared.Desk.{Desk}
use Rattle.desk.specs.Desks.{stage_at}
use Rattle.desk.specs.Sound.{sound_desk}
use Rattle.runs.specs.Run.{Lending, whole, part, lend, Step, lent_to}
use Rattle.runs.proofs.Lends.{low_lent, high_lent}
use Rattle.history.specs.Serial.{Built}
use Rattle.history.proofs.Facts.{right_ordered, Touch}

-- THE HIERARCHY: two numbers for each node and each edge, and intervals that lie one inside the other along reach
pub record Nested (H : Hierarchy) : Type 0 where
  pub two_each : length H.intervals ≡ 2 * H.n
  pub edges_long : 2 * H.edge_count ≤ length H.edges
  pub inside : (name node : ℕ) → name < H.n → node < H.n → flagged (reach H.n (edges_of H.edges H.edge_count) name) node ≡ true
      → Inside (low_in H name) (high_in H name) (low_in H node) (high_in H node)

-- a flag is at least 1
pub flag_one : (flags : List ℕ) (node : ℕ) → flagged flags node ≡ true → 1 ≤ get_or flags node 0
flag_one flags node e = let z = eqb-false (get_or flags node 0) 0 (not-true (eqb (get_or flags node 0) 0) e) in omega (arith, z)

-- a built hierarchy is so
pub built_nested : (H : Hierarchy) → Built H → Nested H
built_nested H b =
    let es : List ℕ = edges_of H.edges H.edge_count in
    let t = taken H.n H.edges H.edge_count b.places b.scratch b.took in
    let low : (i : ℕ) → i < H.n → low_in H i ≡ low_of H.n es i = λ i k. ap (λ (table : List ℕ). low_at table i) (b.wrote ∙ t.wrote) ∙ built_low H.n es i k in
    let high : (i : ℕ) → i < H.n → high_in H i ≡ high_of H.n es i = λ i k. ap (λ (table : List ℕ). high_at table i) (b.wrote ∙ t.wrote) ∙ built_high H.n es i k in
    record {
      two_each = ap length (b.wrote ∙ t.wrote) ∙ built_length H.n _;
      edges_long = t.edges_long;
      inside = λ name node h k f.
          let w = (reach_agrees H.n H.edges H.edge_count t.legal name node h).1 (flag_one (reach H.n es name) node f) in
          let i = reached_inside H.n H.edges H.edge_count t.legal name node h k w in
          record {
            low_end = omega (arith, low name h, low node k, i.low_end);
            high_end = omega (arith, high name h, high node k, i.high_end);
          };
    }

-- THE EDGES as a step is lent them are the hierarchy's, where there are enough of them
lend_front : (table : List ℕ) (l : Lending) (k : ℕ) → length table ≡ k → k ≤ length (lend table l) → take k (lend table l) ≡ table
unfolding lend
lend_front table whole k e h = ap (λ (i : ℕ). take i table) (sym e) ∙ take_whole table
  where
    take_whole : (t : List ℕ) → take (length t) t ≡ t
    take_whole [] = refl
    take_whole (x ∷ t) = ap (x ∷◌) (take_whole t)
lend_front table (part places behind) k e h =
    take-take k places (table ++ behind) (omega (arith, length-take places (table ++ behind))) ∙ ap (λ (i : ℕ). take i (table ++ behind)) (sym e) ∙ take-append_seam table behind

pub edges_lent : (H : Hierarchy) (x : Step) → 2 * H.edge_count ≤ length H.edges → 2 * H.edge_count ≤ length (lent_to x H).edges
    → edges_of (lent_to x H).edges H.edge_count ≡ edges_of H.edges H.edge_count
unfolding lent_to
edges_lent H x long h = lend_front (edges_of H.edges H.edge_count) x.edges (2 * H.edge_count) (length-take-le (2 * H.edge_count) H.edges long) h

-- A SOUND DESK. A name that is kept is a node
pub name_below : (H : Hierarchy) (l : Lock) → keeps_names H l ≡ true → (name : ℕ) → In name (names_of l.names) → name < H.n
name_below H l r name i =
    let some = leb 1 l.names.count in
    let few = leb l.names.count 8 in
    let nodes = every (λ x. ltb x H.n) (names_of l.names) in
    ltb-true name H.n (every_in (λ x. ltb x H.n) (and_right (some && few) nodes (and_left (some && few && nodes) (rises (names_of l.names)) r)) i)

-- a holder's names: nodes, and their intervals inside the hold's
pub holder_names : (H : Hierarchy) (d : Desk) → sound_desk H d ≡ true → (p : ℕ) (l : Lock) → p < 32 → stage_at d p ≡ Holding l → (name : ℕ) → In name (names_of l.names)
    → (name < H.n) × (inside_lock H name l ≡ true)
holder_names H d s p l h e name i =
    let c = clauses H d.entries d.queue d.waiting s in (
      name_below H l (rw e at (all_at (λ party. of_lock (keeps_names H) (stage_at d party)) 32 p c.names h)) name i,
      every_in (λ x. inside_lock H x l) (rw e at (all_at (λ party. of_lock (covers_names H) (stage_at d party)) 32 p c.covered h)) i,
    )

-- a node inside one that lies inside the lock lies inside the lock
inside_on : (H : Hierarchy) (name node : ℕ) (l : Lock) → inside_lock H name l ≡ true → Inside (low_in H name) (high_in H name) (low_in H node) (high_in H node)
    → inside_lock H node l ≡ true
inside_on H name node l i w =
    let low = leb-true l.low (low_in H name) (and_left _ _ i) in
    let high = leb-true (high_in H name) l.high (and_right (leb l.low (low_in H name)) _ i) in
    and_both (leb l.low (low_in H node)) (leb (high_in H node) l.high)
    (le-leb l.low (low_in H node) (omega (arith, low, w.low_end)))
    (le-leb (high_in H node) l.high (omega (arith, high, w.high_end)))

-- A NODE IN THE REACH OF A NAME of the hold, by the edges as lent, has its interval inside the name's, and that one lies inside the hold's, as the desk is sound
pub touch_inside : (H : Hierarchy) → Nested H → (x : Step) (d : Desk) (p node : ℕ) (values scratch : List ℕ) → (t : Touch (lent_to x H) d p node values scratch)
    → inside_lock H node t.at_node.hold ≡ true
unfolding lent_to
touch_inside H nested x d p node values scratch t = by (any_found (λ name. flagged (reach H.n es name) node) names reached)
  where
    es : List ℕ
    es = edges_of H.edges H.edge_count

    names : List ℕ
    names = names_of t.at_node.hold.names

    reached : in_reach H.n es names node ≡ true
    reached = sym (ap (λ (e : List ℕ). in_reach H.n e names node) (edges_lent H x nested.edges_long t.step.edges_lent)) ∙ t.at_node.reached

    by : (name : ℕ) × In name names × (flagged (reach H.n es name) node ≡ true) → inside_lock H node t.at_node.hold ≡ true
    by (name, i, f) =
        let (below, kept) = holder_names (lent_to x H) d t.step.sound p t.at_node.hold t.step.party_below t.at_node.holds name i in
        inside_on H name node t.at_node.hold
        (rw (low_lent H nested.two_each x name below t.step.intervals_lent, high_lent H nested.two_each x name below t.step.intervals_lent) at kept)
        (nested.inside name node below t.at_node.below f)

-- and it has a number, as refusal 10 found none wrong
pub touch_ordered : (H : Hierarchy) → Nested H → (x : Step) (d : Desk) (p node : ℕ) (values scratch : List ℕ) → (t : Touch (lent_to x H) d p node values scratch) → low_in H node ≤ high_in H node
unfolding lent_to
touch_ordered H nested x d p node values scratch t =
    let low = low_lent H nested.two_each x node t.at_node.below t.step.intervals_lent in
    let high = high_lent H nested.two_each x node t.at_node.below t.step.intervals_lent in
    rw (low, high) at (right_ordered (lent_to x H) t.step.intervals_right node t.at_node.below)
