-- In a tree, among visits that name one node each, a call is free just where nobody stands in its way. Assumes nothing.
use mathlib.Core.Path.{◌≡◌, refl, sym, ap, ◌∙◌}
use mathlib.Core.List.{List}
use mathlib.Core.Bool.{not, ◌&&◌, ◌||◌, or-false, and_comm}
use Prim.Native.Nat.{ℕ, ◌<◌, max}
use native.Mathlib.Omega.{arith}
use lib.Dec.{leb}
use borrow.Author.Tests.{leb-true, le-leb}
use Rattle.lists.proofs.Bools.{both_ways, and_left, and_right, and_both}
use Rattle.lists.proofs.Bounded.{any_stop, same_any}
use Rattle.lists.proofs.Distinct.{any_some}
use Rattle.hierarchy.specs.Hierarchy.{edges_of, reach, flagged}
use Rattle.hierarchy.proofs.Legals.{promised}
use Rattle.hierarchy.proofs.Reaches.{reach_within}
use Rattle.intervals.specs.Intervals.{low_of, high_of, interval_table}
use Rattle.covers.specs.Cover.{low_at, high_at}
use Rattle.interval_laws.proofs.Laws.{Shared, built_low, built_high, interval_real}
use Rattle.locks.specs.declared.Lock.{Lock}
use Rattle.locks.specs.declared.Stage.{Stage}
use Rattle.locks.specs.declared.Stage.TheVariants.{Out, Waiting, Holding}
use Rattle.locks.specs.Locks.{compatible, share, conflict}
use Rattle.locks.specs.Stages.{against_holder, against_waiter}
use Rattle.locks.specs.Lent.{Hierarchy}
use Rattle.desk.specs.declared.Desk.{Desk}
use Rattle.desk.specs.Desks.{stage_at}
use Rattle.desk.specs.Steps.{free}
use Rattle.trees.specs.Tree.{Tree}
use Rattle.trees.proofs.Trees.{share_exactly}
use Rattle.needless.specs.Waits.{names_of, reaches_meet, in_way, is_needless}
use Rattle.needless_laws.specs.Visits.{nodes_meet}
use Rattle.needless_laws.proofs.Meets.{meet_one, flag_reached, reached_flag}
use Rattle.needless_laws.proofs.Names.{NamedBy, StageNamed, AllNamed}

-- a tree, with the intervals that building writes
pub record BuiltTree (H : Hierarchy) : Type 0 where
  pub tree : Tree H.n H.edges H.edge_count
  pub wrote : H.intervals ≡ interval_table H.n (edges_of H.edges H.edge_count)

module _ (n : ℕ) (table : List ℕ) (edge_count : ℕ) (tree : Tree n table edge_count) (x y : ℕ) (hx : x < n) (hy : y < n) where
  abbrev es : List ℕ
  es = edges_of table edge_count

  -- the intervals of two nodes share a number just where their reaches meet
  nodes_share : (leb (low_of n es x) (high_of n es y) && leb (low_of n es y) (high_of n es x)) ≡ nodes_meet n es x y
  nodes_share =
      both_ways (leb (low_of n es x) (high_of n es y) && leb (low_of n es y) (high_of n es x)) (nodes_meet n es x y)
      (λ t.
      let a = leb-true (low_of n es x) (high_of n es y) (and_left (leb (low_of n es x) (high_of n es y)) (leb (low_of n es y) (high_of n es x)) t) in
      let b = leb-true (low_of n es y) (high_of n es x) (and_right (leb (low_of n es x) (high_of n es y)) (leb (low_of n es y) (high_of n es x)) t) in
      let rx = (interval_real n table edge_count tree.0 x hx).ordered in
      let ry = (interval_real n table edge_count tree.0 y hy).ordered in
      let s : Shared (low_of n es x) (high_of n es x) (low_of n es y) (high_of n es y)
      = record { number = max (low_of n es x) (low_of n es y); in_first = (omega arith, omega arith); in_second = (omega arith, omega arith) } in
      let (z, v, w) = (share_exactly n table edge_count tree x y hx hy).0 s in
      any_stop (λ node. flagged (reach n es x) node && flagged (reach n es y) node) n z
      (reach_within n (λ p c e. ((promised n table edge_count tree.0).edge p c e).child_below) v hx)
      (and_both (flagged (reach n es x) z) (flagged (reach n es y) z) (flag_reached n table edge_count tree.0 x z hx v) (flag_reached n table edge_count tree.0 y z hy w)))
      (λ t.
      let (z, h, e) = any_some (λ node. flagged (reach n es x) node && flagged (reach n es y) node) n t in
      let v = reached_flag n table edge_count tree.0 x z hx (and_left (flagged (reach n es x) z) (flagged (reach n es y) z) e) in
      let w = reached_flag n table edge_count tree.0 y z hy (and_right (flagged (reach n es x) z) (flagged (reach n es y) z) e) in
      let s = (share_exactly n table edge_count tree x y hx hy).1 (z, v, w) in
      and_both (leb (low_of n es x) (high_of n es y)) (leb (low_of n es y) (high_of n es x))
      (le-leb (low_of n es x) (high_of n es y) (omega (arith, s.in_first.0, s.in_second.1)))
      (le-leb (low_of n es y) (high_of n es x) (omega (arith, s.in_second.0, s.in_first.1))))

module _ (H : Hierarchy) (built : BuiltTree H) where
  abbrev edges : List ℕ
  edges = edges_of H.edges H.edge_count

  -- two locks of one name each share a number just where their names' reaches meet
  named_share : (k l : Lock) (theirs names : List ℕ) → NamedBy H k theirs → NamedBy H l names → share k l ≡ reaches_meet H.n edges theirs names
  named_share k l theirs names h mine =
      let low : (m : Lock) (ns : List ℕ) (b : NamedBy H m ns) → m.low ≡ low_of H.n edges b.node
      = λ m ns b. b.low ∙ ap (λ (t : List ℕ). low_at t b.node) built.wrote ∙ built_low H.n edges b.node b.below in
      let high : (m : Lock) (ns : List ℕ) (b : NamedBy H m ns) → m.high ≡ high_of H.n edges b.node
      = λ m ns b. b.high ∙ ap (λ (t : List ℕ). high_at t b.node) built.wrote ∙ built_high H.n edges b.node b.below in
      rw (low k theirs h, high k theirs h, low l names mine, high l names mine)
      (nodes_share H.n H.edges H.edge_count built.tree h.node mine.node h.below mine.below
      ∙ sym (meet_one H.n edges theirs names h.node mine.node h.there h.same mine.there mine.same))

  -- so they conflict where these meet and their modes do not go together
  named_conflict : (k l : Lock) (theirs names : List ℕ) → NamedBy H k theirs → NamedBy H l names
      → conflict k l ≡ (not (compatible k.mode l.mode) && reaches_meet H.n edges theirs names)
  named_conflict k l theirs names h mine =
      rw (named_share k l theirs names h mine) (and_comm (reaches_meet H.n edges theirs names) (not (compatible k.mode l.mode)))

  -- a party is against a lock just where it stands in the way
  in_way_law : (l : Lock) (names : List ℕ) → NamedBy H l names → (x : Stage) (theirs : List ℕ) → StageNamed H x theirs
      → (against_holder l x || against_waiter l x) ≡ in_way H.n edges l.mode names x theirs
  in_way_law l names mine Out theirs h = refl
  in_way_law l names mine (Waiting k) theirs h = named_conflict k l theirs names h mine
  in_way_law l names mine (Holding k) theirs h = or-false (conflict k l) ∙ named_conflict k l theirs names h mine

  -- A WAIT WOULD BE NEEDLESS just where the call is free, and so granted: no wait is needless
  pub needless_free : (d : Desk) (named : List (List ℕ)) (l : Lock) (names : List ℕ) → NamedBy H l names → AllNamed H d.entries named
      → is_needless H d named l.mode names ≡ free d l
  needless_free d named l names mine locks =
      ap not (sym (same_any _ _ 32 (λ party _. in_way_law l names mine (stage_at d party) (names_of named party) (locks party))))
