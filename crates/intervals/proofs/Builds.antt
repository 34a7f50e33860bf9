-- Building: what it leaves after each of its ends. Assumes nothing.
use mathlib.Core.Path.{◌≡◌, refl, ◌∙◌}
use mathlib.Core.List.{List, ◌∷◌, append-nil}
use mathlib.Core.Bool.{Bool, true, false}
use mathlib.Core.Option.{Option, none, some}
use Prim.Native.Nat.{ℕ, ◌*◌, ◌/◌, ◌≤◌, ◌<◌}
use native.Mathlib.Omega.{arith}
use lib.ListN.{length, replicate, drop_of_length-le}
use borrow.Author.Tests.{lt-ltb, le-ltb}
use Rattle.lists.specs.Lists.{over}
use Rattle.lists.specs.Answer.{Answer, done, refused, ◌when◌, refusal, answer_of, room_after}
use Rattle.hierarchy.specs.Hierarchy.{edges_of, hierarchy_checks, Legal}
use Rattle.intervals.specs.Numbering.{numbering}
use Rattle.intervals.specs.Intervals.{interval_table}
use Rattle.intervals.specs.Build.{build_short, build_step, numbers_short, numbers_step}
use Rattle.lists.proofs.Bools.{not_both}
use Rattle.lists.proofs.Refusals.{refused_here, refused_later}

-- ---- the refusals

-- a refusal is the one that the checks give
refused_by : (o : Option ℕ) (k : ℕ) → ◌≡◌ {A = Answer (Unit {0})} (refused k) (answer_of o tt) → o ≡ some k
refused_by none k e = not_both true refl cc
refused_by (some j) k e = cc

-- and where there is none, none of them holds
done_by : (o : Option ℕ) → ◌≡◌ {A = Answer (Unit {0})} (done tt) (answer_of o tt) → o ≡ none
done_by none e = refl
done_by (some j) e = not_both true refl cc

module _ (n : ℕ) (edges : List ℕ) (count : ℕ) where
  pub legal_of : ◌≡◌ {A = Answer (Unit {0})} (done tt) (answer_of (refusal (hierarchy_checks n edges count)) tt) → Legal n edges count
  legal_of = done_by (refusal (hierarchy_checks n edges count))

  module _ (places scratch : List ℕ) where
    -- 1, by division
    pub short_scratch : n ≤ length places / 2 → count ≤ length edges / 2 → length scratch < 512 → build_short n edges count places scratch ≡ true
    short_scratch g f h = rw (le-ltb (length places) (2 * n) (omega arith), le-ltb (length edges) (2 * count) (omega arith), lt-ltb (length scratch) 512 h) refl

    pub long_enough : n ≤ length places / 2 → count ≤ length edges / 2 → 512 ≤ length scratch → build_short n edges count places scratch ≡ false
    long_enough g f h = rw (le-ltb (length places) (2 * n) (omega arith), le-ltb (length edges) (2 * count) (omega arith), le-ltb (length scratch) 512 h) refl

    -- what is left after 1
    pub left_short : build_short n edges count places scratch ≡ true
        → (refused 1 ≡ (build_step n edges count places scratch).answer)
        × ((places ≡ (build_step n edges count places scratch).places) × (scratch ≡ (build_step n edges count places scratch).scratch))
    unfolding build_step
    left_short h =
        let r = refused_here (1 when build_short n edges count places scratch) (hierarchy_checks n edges count) h in
        rw (r, h) (refl, (refl, refl))

    -- where the scratch is too short, with the premises that the code has tested: each of the three parts
    pub scratch_short_answer : n ≤ length places / 2 → count ≤ length edges / 2 → length scratch < 512 → refused 1 ≡ (build_step n edges count places scratch).answer
    scratch_short_answer g f h = (left_short (short_scratch g f h)).0

    pub scratch_short_places : n ≤ length places / 2 → count ≤ length edges / 2 → length scratch < 512 → places ≡ (build_step n edges count places scratch).places
    scratch_short_places g f h = (left_short (short_scratch g f h)).1.0

    pub scratch_short_scratch : n ≤ length places / 2 → count ≤ length edges / 2 → length scratch < 512 → scratch ≡ (build_step n edges count places scratch).scratch
    scratch_short_scratch g f h = (left_short (short_scratch g f h)).1.1

    module _ (h : build_short n edges count places scratch ≡ false) (scratch' : List ℕ) (wiped : scratch' ≡ over (replicate 512 0) scratch) where
      -- after building
      pub left_built : Legal n edges count → (places' : List ℕ) → places' ≡ over (interval_table n (edges_of edges count)) places
          → (done tt ≡ (build_step n edges count places scratch).answer)
          × ((places' ≡ (build_step n edges count places scratch).places) × (scratch' ≡ (build_step n edges count places scratch).scratch))
      unfolding build_step
      left_built legal places' p =
          let r = refused_later (1 when build_short n edges count places scratch) (hierarchy_checks n edges count) h ∙ legal in
          rw (r, h) (refl, (p, wiped))

-- ---- a call that looks at 1 and 5 to 9 and writes a list into one room: what is left after each of its ends

module _ (n : ℕ) (edges : List ℕ) (count : ℕ) (short : Bool) (xs room : List ℕ) where
  abbrev decided : Option ℕ
  decided = refusal (1 when short ∷ hierarchy_checks n edges count)

  abbrev Left : Answer (Unit {0}) → List ℕ → Type 0
  Left answer room' = (answer ≡ answer_of decided tt) × (room' ≡ room_after decided xs room)

  -- after 1
  pub room_short : short ≡ true → Left (refused 1) room
  room_short h = rw (refused_here (1 when short) (hierarchy_checks n edges count) h) (refl, refl)

  module _ (h : short ≡ false) where
    -- after another refusal
    pub room_refused : (k : ℕ) → ◌≡◌ {A = Answer (Unit {0})} (refused k) (answer_of (refusal (hierarchy_checks n edges count)) tt) → Left (refused k) room
    room_refused k e =
        rw (refused_later (1 when short) (hierarchy_checks n edges count) h ∙ refused_by (refusal (hierarchy_checks n edges count)) k e) (refl, refl)

    -- after all
    pub room_done : Legal n edges count → (room' : List ℕ) → room' ≡ over xs room → Left (done tt) room'
    room_done legal room' p = rw (refused_later (1 when short) (hierarchy_checks n edges count) h ∙ legal) (refl, p)

    -- where the room is just as long
    pub room_alone : Legal n edges count → length room ≡ length xs → room_after decided xs room ≡ xs
    unfolding over
    room_alone legal long =
        rw (refused_later (1 when short) (hierarchy_checks n edges count) h ∙ legal, drop_of_length-le room {i = length xs} (omega (arith, long))) (append-nil xs)

-- ---- the numbers alone

module _ (n : ℕ) (edges : List ℕ) (count : ℕ) (places : List ℕ) where
  pub many_enough : n ≤ length places → count ≤ length edges / 2 → numbers_short n edges count places ≡ false
  many_enough g h = rw (le-ltb (length places) n g, le-ltb (length edges) (2 * count) (omega arith)) refl

  -- what numbering leaves
  abbrev NumbersLeft : Answer (Unit {0}) → List ℕ → Type 0
  NumbersLeft answer places' = (answer ≡ (numbers_step n edges count places).answer) × (places' ≡ (numbers_step n edges count places).places)

  pub numbers_short_law : numbers_short n edges count places ≡ true → NumbersLeft (refused 1) places
  unfolding numbers_step
  numbers_short_law = room_short n edges count (numbers_short n edges count places) (numbering n (edges_of edges count)) places

  module _ (h : numbers_short n edges count places ≡ false) where
    pub numbers_done : Legal n edges count → (places' : List ℕ) → places' ≡ over (numbering n (edges_of edges count)) places → NumbersLeft (done tt) places'
    unfolding numbers_step
    numbers_done = room_done n edges count (numbers_short n edges count places) (numbering n (edges_of edges count)) places h
