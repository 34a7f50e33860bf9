-- Low and high of a node are the least and the greatest number among the nodes that it reaches. Assumes nothing.
use mathlib.Core.Path.{◌≡◌, subst}
use mathlib.Core.List.{List}
use Prim.Native.Nat.{ℕ, ◌≤◌, ◌<◌}
use native.Mathlib.Omega.{arith}
use lib.ListN.{length, get_or}
use Rattle.hierarchy.specs.Hierarchy.{Edge, Reach, reach}
use Rattle.intervals.specs.Numbering.{numbering}
use Rattle.intervals.specs.Intervals.{numbers_among, low_of, high_of}
use Rattle.lists.proofs.Members.{In, least_most, least_is, greatest_least, greatest_is}
use Rattle.intervals.proofs.Among.{among_in, among_from}
use Rattle.hierarchy.proofs.Reaches.{reach_all_law, reach_only}
use Rattle.intervals.proofs.Found.{reached_found, from_root}
use Rattle.hierarchy.proofs.Legals.{Promise}

module _ (n : ℕ) (es : List ℕ) (promise : Promise n es) where
  ends : (p c : ℕ) → Edge es p c → c < n
  ends p c e = (promise.edge p c e).child_below

  -- a node's number, 0 where it has none
  abbrev number : ℕ → ℕ
  number node = get_or (numbering n es) node 0

  pub numbering_long : length (numbering n es) ≡ n
  unfolding numbering
  numbering_long = (from_root es n ends promise.some).0.whole.numbers_long

  -- each reach holds a numbered node
  pub reach_numbered : (node : ℕ) → node < n → (x : ℕ) × Reach es node x × (1 ≤ number x)
  unfolding numbering
  reach_numbered node h = let f = reached_found es n ends promise.some node (promise.reached node h) in (f.leaf, f.way, f.has)

  module _ (node : ℕ) (h : node < n) where
    abbrev numbers : List ℕ
    numbers = numbers_among (reach n es node) (numbering n es)

    reached_in : (x : ℕ) → Reach es node x → 1 ≤ number x → In (number x) numbers
    reached_in x w k = among_in (reach n es node) (numbering n es) x (reach_all_law es n ends node x h w) k

    some_in : In (number (reach_numbered node h).0) numbers
    some_in = let f = reach_numbered node h in reached_in f.0 f.1 f.2

    only_in : (P : ℕ → Type 0) → ((x : ℕ) → Reach es node x → 1 ≤ number x → P (number x)) → (y : ℕ) → In y numbers → P y
    only_in P f y i =
        let a = among_from (reach n es node) (numbering n es) y i in
        subst P a.number (f a.node (reach_only es n ends node a.node a.flagged) (omega (arith, a.number, a.some)))

    -- low is at most each number reached, and one of them
    pub low_most : (x : ℕ) → Reach es node x → 1 ≤ number x → low_of n es node ≤ number x
    unfolding low_of
    low_most x w k = least_most (number x) numbers (reached_in x w k)

    pub low_is : (P : ℕ → Type 0) → ((x : ℕ) → Reach es node x → 1 ≤ number x → P (number x)) → P (low_of n es node)
    unfolding low_of
    low_is P f = least_is P (number (reach_numbered node h).0) numbers some_in (only_in P f)

    -- high is at least each number reached, and one of them
    pub high_least : (x : ℕ) → Reach es node x → 1 ≤ number x → number x ≤ high_of n es node
    unfolding high_of
    high_least x w k = greatest_least (number x) numbers (reached_in x w k)

    pub high_is : (P : ℕ → Type 0) → ((x : ℕ) → Reach es node x → 1 ≤ number x → P (number x)) → P (high_of n es node)
    unfolding high_of
    high_is P f = greatest_is P (number (reach_numbered node h).0) numbers some_in (only_in P f)
