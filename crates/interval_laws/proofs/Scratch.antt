-- THEOREMS of the scratch that building is lent (02, point 7): how much is enough, that answer and places are the same with any that is enough, and what it
-- holds after each end. Assumes nothing.
use mathlib.Core.Path.{◌≡◌, refl, ap, sym, ◌∙◌}
use mathlib.Core.List.{List}
use mathlib.Core.Bool.{Bool, true, false, ◌||◌, or-true}
use mathlib.Core.Option.{Option}
use Prim.Native.Nat.{ℕ, ◌*◌, ◌≤◌, ◌<◌}
use lib.Dec.{ltb}
use lib.ListN.{length, take, replicate}
use borrow.Author.Tests.{lt-ltb, le-ltb}
use Rattle.lists.specs.Lists.{any, over}
use Rattle.lists.specs.Answer.{done, refused, ◌when◌, answer_of}
use Rattle.hierarchy.specs.Hierarchy.{edges_of, hierarchy_checks, Legal}
use Rattle.intervals.specs.Intervals.{interval_table}
use Rattle.intervals.specs.Build.{build_short, build_refusal, scratch_after, build_step}
use Rattle.lists.proofs.Bools.{bool}
use Rattle.lists.proofs.Refusals.{refused_here, refused_later}
use Rattle.lists.proofs.Numbers.{decides, turned_away}
use Rattle.intervals.proofs.Builds.{left_short}
use Rattle.interval_laws.proofs.Laws.{taken}

module _ (n : ℕ) (edges : List ℕ) (edge_count : ℕ) (places scratch : List ℕ) where
  abbrev short : Bool
  short = build_short n edges edge_count places scratch

  -- fewer than 512 bytes get 1, and all that is lent stays as it was
  pub build_few : length scratch < 512 → let b = build_step n edges edge_count places scratch in (b.answer ≡ refused 1) × (b.places ≡ places) × (b.scratch ≡ scratch)
  build_few h =
      let few : Bool = ltb (length places) (2 * n) || ltb (length edges) (2 * edge_count) in
      let e : short ≡ true = ap (λ (b : Bool). few || b) (lt-ltb (length scratch) 512 h) ∙ or-true few in
      let (a, (p, s)) = left_short n edges edge_count places scratch e in (sym a, sym p, sym s)

  -- 512 are enough: a legal hierarchy, with its edges and 2n places lent in full, is built
  pub build_enough : 512 ≤ length scratch → 2 * n ≤ length places → 2 * edge_count ≤ length edges → Legal n edges edge_count
      → let b = build_step n edges edge_count places scratch in (b.answer ≡ done tt) × (take (2 * n) b.places ≡ interval_table n (edges_of edges edge_count))
  unfolding build_step
  build_enough h hp he legal =
      let e : short ≡ false = rw (le-ltb (length places) (2 * n) hp, le-ltb (length edges) (2 * edge_count) he, le-ltb (length scratch) 512 h) refl in
      let o = refused_later (1 when short) (hierarchy_checks n edges edge_count) e ∙ legal in
      let d = ap (λ (r : Option ℕ). answer_of r tt) o in (d, (taken n edges edge_count places scratch d).wrote)

  -- after refusal 1 the scratch is unchanged,
  pub build_scratch_one : (build_step n edges edge_count places scratch).answer ≡ refused 1 → (build_step n edges edge_count places scratch).scratch ≡ scratch
  unfolding build_step any
  build_scratch_one e =
      ap (λ (b : Bool). scratch_after b scratch)
      (decides 1 short (hierarchy_checks n edges edge_count) refl ((turned_away (build_refusal n edges edge_count places scratch) tt 1).0 e))

  -- and after any other end its first 512 bytes are zero, the rest unchanged
  pub build_scratch_other : ((build_step n edges edge_count places scratch).answer ≡ refused 1 → ⊥)
      → (build_step n edges edge_count places scratch).scratch ≡ over (replicate 512 0) scratch
  unfolding build_step
  build_scratch_other f =
      bool short
      (λ t. absurd (f (ap (λ (o : Option ℕ). answer_of o tt) (refused_here (1 when short) (hierarchy_checks n edges edge_count) t))))
      (λ t. ap (λ (b : Bool). scratch_after b scratch) t)

-- what is answered and left in the interval places does not depend on the scratch, where there is enough of it
pub scratch_unasked : (n : ℕ) (edges : List ℕ) (edge_count : ℕ) (places scratch scratch' : List ℕ) → 512 ≤ length scratch → 512 ≤ length scratch'
    → ((build_step n edges edge_count places scratch).answer ≡ (build_step n edges edge_count places scratch').answer)
    × ((build_step n edges edge_count places scratch).places ≡ (build_step n edges edge_count places scratch').places)
unfolding build_step
scratch_unasked n edges edge_count places scratch scratch' h k = rw (le-ltb (length scratch) 512 h, le-ltb (length scratch') 512 k) (refl, refl)
