-- Passes that go on until one changes nothing: what a pass says by its answer. Assumes nothing.
use mathlib.Core.Path.{◌≡◌, refl, ap}
use mathlib.Core.List.{List}
use mathlib.Core.Bool.{Bool, true, false, ◌||◌}
use Prim.Native.Nat.{ℕ, ◌≤◌, ◌<◌}
use native.Mathlib.Omega.{arith}
use Rattle.lists.specs.Lists.{one_if, Went}
use Rattle.lists.proofs.Bools.{not_both}

module _ (measure : List ℕ → ℕ) where
  -- the measure never rises
  pub went_most : (b : Bool) (l m : List ℕ) → Went measure b l m → measure m ≤ measure l
  went_most true l m w = omega arith
  went_most false l m w = omega (arith, ap measure w)

  -- a change after any pass is a change
  pub went_on : (b : Bool) (l m m' : List ℕ) → Went measure b l m → measure m' < measure m → measure m' < measure l
  went_on b l m m' w h = omega (arith, went_most b l m w)

  -- one change after another
  pub went_both : (a b : Bool) (l m m' : List ℕ) → Went measure a l m → Went measure b m m' → Went measure (a || b) l m'
  went_both true b l m m' w x = omega (arith, went_most b m m' x)
  went_both false b l m m' w x = rw w at x

  -- what falls while passes go on
  pub went_less : (on b : Bool) (l m : List ℕ) → on ≡ true → Went measure b l m → one_if b (measure m) < one_if on (measure l)
  went_less true true l m o w = omega arith
  went_less true false l m o w = omega (arith, ap measure w)
  went_less false b l m o w = not_both false o refl
