-- The plain engine: what it leaves after each of its ends. Assumes nothing.
use mathlib.Core.Path.{◌≡◌, refl, sym, ap, ◌∙◌}
use mathlib.Core.List.{List}
use mathlib.Core.Bool.{true, false, ◌||◌}
use mathlib.Core.Option.{Option}
use Prim.Native.Nat.{ℕ, ◌*◌, ◌/◌, ◌≤◌}
use native.Mathlib.Omega.{arith}
use lib.Dec.{ltb}
use lib.ListN.{length, drop, replicate}
use borrow.Author.Tests.{le-ltb, ltb-false}
use Rattle.lists.specs.Lists.{over}
use Rattle.lists.specs.Answer.{Answer, done, refused, ◌when◌, refusal, answer_of, room_after}
use Rattle.lists.proofs.Bools.{or_left, or_right}
use Rattle.lists.proofs.Refusals.{refused_here, refused_later}
use Rattle.lists.proofs.Parts.{zeroed}
use Rattle.hierarchy.specs.Hierarchy.{edges_of, hierarchy_checks, Legal}
use Rattle.intervals.specs.Numbering.{numbering}
use Rattle.intervals.specs.Intervals.{interval_table}
use Rattle.intervals.specs.Build.{build_step, numbers_short, numbers_step}
use Rattle.hierarchy.proofs.Legals.{promised}
use Rattle.intervals.proofs.Builds.{legal_of, room_short, room_done, room_alone}
use Rattle.intervals.proofs.Extremes.{numbering_long}
use Rattle.reach_sets.specs.Sets.{set_table}
use Rattle.reach_sets.specs.Plain.{sets_short, sets_step, plain_short, plain_step}
use Rattle.reach_sets.proofs.Fills.{table_long}

module _ (n : ℕ) (edges : List ℕ) (count : ℕ) where
  -- ---- the sets
  module _ (words : List ℕ) where
    pub many_enough : n ≤ length words / 4 → count ≤ length edges / 2 → sets_short n edges count words ≡ false
    many_enough g h = rw (le-ltb (length words) (4 * n) (omega arith), le-ltb (length edges) (2 * count) (omega arith)) refl

    -- what working them out leaves
    abbrev SetsLeft : Answer (Unit {0}) → List ℕ → Type 0
    SetsLeft answer words' = (answer ≡ (sets_step n edges count words).answer) × (words' ≡ (sets_step n edges count words).words)

    pub sets_short_law : sets_short n edges count words ≡ true → SetsLeft (refused 1) words
    unfolding sets_step
    sets_short_law = room_short n edges count (sets_short n edges count words) (set_table n (edges_of edges count)) words

    module _ (h : sets_short n edges count words ≡ false) where
      pub sets_done : Legal n edges count → (words' : List ℕ) → words' ≡ over (set_table n (edges_of edges count)) words → SetsLeft (done tt) words'
      unfolding sets_step
      sets_done = room_done n edges count (sets_short n edges count words) (set_table n (edges_of edges count)) words h

      -- into just as many words as are needed
      pub sets_are : Legal n edges count → length words ≡ 4 * n → (sets_step n edges count words).words ≡ set_table n (edges_of edges count)
      unfolding sets_step
      sets_are legal long =
          room_alone n edges count (sets_short n edges count words) (set_table n (edges_of edges count)) words h legal (long ∙ sym (table_long n (edges_of edges count)))

  -- ---- building
  module _ (places words : List ℕ) where
    pub long_enough : n ≤ length places / 2 → count ≤ length edges / 2 → 1024 ≤ length words → plain_short n edges count places words ≡ false
    long_enough g f h = rw (le-ltb (length places) (2 * n) (omega arith), le-ltb (length edges) (2 * count) (omega arith), le-ltb (length words) 1024 h) refl

    -- after 1
    pub plain_short_law : plain_short n edges count places words ≡ true
        → (refused 1 ≡ (plain_step n edges count places words).answer)
        × ((places ≡ (plain_step n edges count places words).places) × (words ≡ (plain_step n edges count places words).words))
    unfolding plain_step
    plain_short_law h =
        let r = refused_here (1 when plain_short n edges count places words) (hierarchy_checks n edges count) h in
        rw (r, h) (refl, (refl, refl))

    module _ (h : plain_short n edges count places words ≡ false) where
      -- what long enough says
      pub long_of : (2 * n ≤ length places) × (2 * count ≤ length edges) × (1024 ≤ length words)
      long_of =
          let a = or_left (ltb (length places) (2 * n) || ltb (length edges) (2 * count)) (ltb (length words) 1024) h in (
            ltb-false (length places) (2 * n) (or_left (ltb (length places) (2 * n)) (ltb (length edges) (2 * count)) a),
            ltb-false (length edges) (2 * count) (or_right (ltb (length places) (2 * n)) (ltb (length edges) (2 * count)) a),
            ltb-false (length words) 1024 (or_right (ltb (length places) (2 * n) || ltb (length edges) (2 * count)) (ltb (length words) 1024) h),
          )

      -- after any other end
      pub plain_done : (a : Answer (Unit {0})) (places' words₁ words' : List ℕ) → a ≡ answer_of (refusal (hierarchy_checks n edges count)) tt
          → places' ≡ room_after (refusal (hierarchy_checks n edges count)) (interval_table n (edges_of edges count)) places
          → drop 1024 words₁ ≡ drop 1024 words → words' ≡ over (replicate 1024 0) words₁
          → (a ≡ (plain_step n edges count places words).answer)
          × ((places' ≡ (plain_step n edges count places words).places) × (words' ≡ (plain_step n edges count places words).words))
      unfolding plain_step
      plain_done a places' words₁ words' ea ep d ew =
          let r = refused_later (1 when plain_short n edges count places words) (hierarchy_checks n edges count) h in
          rw (r, h) (ea, (ep, ew ∙ zeroed 1024 words₁ words d))

-- ---- the numbers, by which the hierarchy is judged

module _ (n : ℕ) (edges : List ℕ) (count : ℕ) (places : List ℕ) where
  abbrev judged : Option ℕ
  judged = refusal (hierarchy_checks n edges count)

  abbrev table : List ℕ
  table = interval_table n (edges_of edges count)

  module _ (numbers : List ℕ) (long : length numbers ≡ n) (enough : 2 * count ≤ length edges) where
    lent_enough : numbers_short n edges count numbers ≡ false
    lent_enough = rw (le-ltb (length numbers) n (omega arith), le-ltb (length edges) (2 * count) enough) refl

    answers : (numbers_step n edges count numbers).answer ≡ answer_of judged tt
    unfolding numbers_step
    answers = ap (λ (o : Option ℕ). answer_of o tt) (refused_later (1 when numbers_short n edges count numbers) (hierarchy_checks n edges count) lent_enough)

    -- legal, and numbered
    pub numbers_legal : done tt ≡ (numbers_step n edges count numbers).answer → Legal n edges count
    numbers_legal e = legal_of n edges count (e ∙ answers)

    pub numbers_are : Legal n edges count → (numbers_step n edges count numbers).places ≡ numbering n (edges_of edges count)
    unfolding numbers_step
    numbers_are legal =
        room_alone n edges count (numbers_short n edges count numbers) (numbering n (edges_of edges count)) numbers lent_enough legal
        (long ∙ sym (numbering_long n (edges_of edges count) (promised n edges count legal)))

  -- what is legal is written
  pub room_built : Legal n edges count → (places' : List ℕ) → places' ≡ over table places
      → ◌≡◌ {A = Answer (Unit {0})} (done tt) (answer_of judged tt) × (places' ≡ room_after judged table places)
  room_built legal places' e = (ap (λ (o : Option ℕ). answer_of o tt) (sym legal), e ∙ ap (λ (o : Option ℕ). room_after o table places) (sym legal))

-- WITH ENOUGH SCRATCH FOR EACH the plain engine answers what building answers, and leaves the same in the interval places
pub plain_agrees : (n : ℕ) (edges : List ℕ) (count : ℕ) (places scratch words : List ℕ) → 512 ≤ length scratch → 1024 ≤ length words
    → ((plain_step n edges count places words).answer ≡ (build_step n edges count places scratch).answer)
    × ((plain_step n edges count places words).places ≡ (build_step n edges count places scratch).places)
unfolding plain_step build_step
plain_agrees n edges count places scratch words h k = rw (le-ltb (length scratch) 512 h, le-ltb (length words) 1024 k) (refl, refl)
