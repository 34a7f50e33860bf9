-- The bounds of a call, kept from name to name (02, point 3), over interval tables of any contents. Assumes nothing.
use mathlib.Core.Path.{◌≡◌, refl, sym, ap}
use mathlib.Core.List.{List, [], ◌∷◌, ◌++◌, map, map-append}
use Prim.Native.Nat.{ℕ, ◌+◌, ◌≤◌, ◌<◌}
use native.Mathlib.Omega.{arith}
use lib.ListN.{length, get_or, take, length-map}
use lib.Seq.{take_all}
use Rattle.lists.specs.Lists.{fold_from, least, greatest}
use Rattle.lists.proofs.Members.{least_snoc, greatest_snoc}
use Rattle.covers.specs.Cover.{low_at, high_at, interval_at, call_interval, one_more}

module _ (table : List ℕ) where
  -- without a name
  pub no_name : (names : List ℕ) → length names ≡ 0 → call_interval table names ≡ record { low = 0; high = 0 }
  unfolding least greatest
  no_name [] h = refl
  no_name (x ∷ xs) h = absurd (omega arith)

  -- the first name starts the bounds,
  pub first_name : (name : ℕ) → call_interval table (name ∷ []) ≡ interval_at table name
  unfolding least greatest fold_from
  first_name name = refl

  -- and one name more, behind some, takes them on
  pub one_name_more : (names : List ℕ) (name : ℕ) → 1 ≤ length names
      → call_interval table (names ++ (name ∷ [])) ≡ one_more (call_interval table names) (interval_at table name)
  one_name_more names name h =
      rw (
        map-append (low_at table) names (name ∷ []),
        map-append (high_at table) names (name ∷ []),
        least_snoc (map (low_at table) names) (low_at table name) (omega (arith, length-map names (low_at table))),
        greatest_snoc (map (high_at table) names) (high_at table name) (omega (arith, length-map names (high_at table))),
      )

  -- THE PASS: after the first name they are those of one name, after the last those of all
  pub pass_start : (names : List ℕ) → 0 < length names → interval_at table (get_or names 0 0) ≡ call_interval table (take (0 + 1) names)
  pass_start [] h = absurd (omega arith)
  pass_start (x ∷ xs) h = sym (first_name x)

  pub pass_end : (names : List ℕ) (k : ℕ) → length names ≤ k → call_interval table (take k names) ≡ call_interval table names
  pass_end names k h = ap (call_interval table) (take_all k names h)
