-- Building: what it answers, and what it leaves in the interval places and in the scratch that it is lent. Assumes nothing.
use Rattle.std.specs.Prelude.{List, ◌∷◌, Bool, true, false, ◌||◌, ℕ, ◌*◌, ltb, length, replicate}
use Rattle.std.proofs.Math.Option.{Option}
use Rattle.lists.specs.Lists.{over}
use Rattle.lists.specs.Answer.{Answer, ◌when◌, refusal, answer_of, room_after}
use Rattle.hierarchy.specs.Hierarchy.{edges_of, hierarchy_checks}
use Rattle.intervals.specs.Numbering.{numbering}
use Rattle.intervals.specs.Intervals.{interval_table}

-- what building leaves: its answer, the interval places and the scratch
pub record BuildResult : Type 0 where
  pub answer : Answer (Unit {0})
  pub places : List ℕ
  pub scratch : List ℕ

-- 1: a lent buffer is shorter than needed, which is 2n interval places, two numbers an edge, and 512 bytes of scratch
abbrev pub build_short : ℕ → List ℕ → ℕ → List ℕ → List ℕ → Bool
build_short n edges edge_count places scratch =
    ltb (length places) (2 * n) || ltb (length edges) (2 * edge_count) || ltb (length scratch) 512

-- building looks at 1 and 5 to 9
abbrev pub build_refusal : ℕ → List ℕ → ℕ → List ℕ → List ℕ → Option ℕ
build_refusal n edges edge_count places scratch =
    refusal (1 when build_short n edges edge_count places scratch ∷ hierarchy_checks n edges edge_count)

-- scratch is unchanged after refusal 1; after any other end, refused or not, its first 512 bytes are zero
abbrev pub scratch_after : (short : Bool) → List ℕ → List ℕ
scratch_after true scratch = scratch
scratch_after false scratch = over (replicate 512 0) scratch

-- building: its answer, the interval places and the scratch after it
unfoldable pub build_step : ℕ → List ℕ → ℕ → List ℕ → List ℕ → BuildResult
build_step n edges edge_count places scratch =
    record {
      answer = answer_of (build_refusal n edges edge_count places scratch) tt;
      places = room_after (build_refusal n edges edge_count places scratch) (interval_table n (edges_of edges edge_count)) places;
      scratch = scratch_after (build_short n edges edge_count places scratch) scratch;
    }

-- THE NUMBERS ALONE, which the plain engine takes (02, point 2): what numbering leaves, its answer and the lent places
pub record NumbersResult : Type 0 where
  pub answer : Answer (Unit {0})
  pub places : List ℕ

-- 1: a lent buffer is shorter than needed, which is n places and two numbers an edge
abbrev pub numbers_short : ℕ → List ℕ → ℕ → List ℕ → Bool
numbers_short n edges edge_count places = ltb (length places) n || ltb (length edges) (2 * edge_count)

-- numbering looks at 1 and 5 to 9, as building
abbrev pub numbers_refusal : ℕ → List ℕ → ℕ → List ℕ → Option ℕ
numbers_refusal n edges edge_count places = refusal (1 when numbers_short n edges edge_count places ∷ hierarchy_checks n edges edge_count)

-- numbering: its answer, and the number of each node from the first place on, 0 where it has none
unfoldable pub numbers_step : ℕ → List ℕ → ℕ → List ℕ → NumbersResult
numbers_step n edges edge_count places =
    record {
      answer = answer_of (numbers_refusal n edges edge_count places) tt;
      places = room_after (numbers_refusal n edges edge_count places) (numbering n (edges_of edges edge_count)) places;
    }
