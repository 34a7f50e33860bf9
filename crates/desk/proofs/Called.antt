-- The names of a call that 15 does not refuse. Assumes nothing.
use Rattle.std.proofs.Common.{◌≡◌, ℕ, ◌<◌, ◌≤◌, Bool, false, not, ◌&&◌, ltb, leb, List, get_or, take, ap, arith, length-take, ltb-true, leb-true}
use borrow.Author.Tests.{not-false}
use Rattle.lists.specs.Lists.{any}
use Rattle.lists.proofs.Bools.{bool, not_both, and_left, and_right, or_left, or_right}
use Rattle.lists.proofs.Members.{In}
use Rattle.lists.proofs.Distinct.{any_in, place_in}
use Rattle.naming.specs.Names.{ascending, named}
use Rattle.naming.specs.Inner.{kept_names}
use Rattle.naming.proofs.Sorting.{kept_named}
use Rattle.locks.specs.Lent.{names_wrong}

module _ (n : ℕ) (names : List ℕ) (name_count : ℕ) (right : names_wrong n names name_count ≡ false) where
  -- the names of the call
  abbrev called : List ℕ
  called = take name_count names

  -- some node of them is none
  abbrev astray : Bool
  astray = any (λ node. not (ltb node n)) called

  -- they are 1 to 8,
  pub names_few : (1 ≤ name_count) × (name_count ≤ 8)
  names_few =
      let few = not-false (leb 1 name_count && leb name_count 8) (or_left (not (leb 1 name_count && leb name_count 8)) astray right) in
      (leb-true 1 name_count (and_left (leb 1 name_count) (leb name_count 8) few), leb-true name_count 8 (and_right (leb 1 name_count) (leb name_count 8) few))

  -- each is a node,
  pub names_nodes : (r : ℕ) → In r called → r < n
  names_nodes r i =
      bool (ltb r n)
      (ltb-true r n)
      (λ e. not_both astray (any_in (λ node. not (ltb node n)) i (ap not e)) (or_right (not (leb 1 name_count && leb name_count 8)) astray right))

  -- and they are kept as they are, ascending and each once
  pub names_stored : n ≤ 256 → kept_names called ≡ named (ascending called)
  names_stored h = kept_named called (omega (arith, length-take name_count names, names_few)) (λ i b. omega (arith, names_nodes (get_or called i 0) (place_in called i b)))
