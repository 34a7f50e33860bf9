-- The plain engine: what it answers, and what it leaves in what it is lent (02, point 2). Assumes nothing.
use Rattle.std.specs.Prelude.{List, ◌∷◌, Bool, true, false, ◌||◌, ℕ, ◌*◌, ltb, length, replicate}
use Rattle.std.proofs.Math.Option.{Option}
use Rattle.lists.specs.Lists.{over}
use Rattle.lists.specs.Answer.{Answer, ◌when◌, refusal, answer_of, room_after}
use Rattle.hierarchy.specs.Hierarchy.{edges_of, hierarchy_checks}
use Rattle.intervals.specs.Intervals.{interval_table}
use Rattle.reach_sets.specs.Sets.{set_table}

-- THE SETS OF REACH. What working them out leaves: its answer, and the lent words
pub record SetsResult : Type 0 where
  pub answer : Answer (Unit {0})
  pub words : List ℕ

-- 1: a lent buffer is shorter than needed, which is 4n words and two numbers an edge
abbrev pub sets_short : ℕ → List ℕ → ℕ → List ℕ → Bool
sets_short n edges edge_count words = ltb (length words) (4 * n) || ltb (length edges) (2 * edge_count)

-- it looks at 1 and 5 to 9, as building
abbrev pub sets_refusal : ℕ → List ℕ → ℕ → List ℕ → Option ℕ
sets_refusal n edges edge_count words = refusal (1 when sets_short n edges edge_count words ∷ hierarchy_checks n edges edge_count)

-- its answer, and the set of each node from the first word on; a refusal changes nothing, and words behind stay
unfoldable pub sets_step : ℕ → List ℕ → ℕ → List ℕ → SetsResult
sets_step n edges edge_count words =
    record {
      answer = answer_of (sets_refusal n edges edge_count words) tt;
      words = room_after (sets_refusal n edges edge_count words) (set_table n (edges_of edges edge_count)) words;
    }

-- BUILDING. What it leaves: its answer, the interval places, and the words, which are its scratch
pub record PlainResult : Type 0 where
  pub answer : Answer (Unit {0})
  pub places : List ℕ
  pub words : List ℕ

-- 1: a lent buffer is shorter than needed, which is 2n interval places, two numbers an edge, and 1,024 words
abbrev pub plain_short : ℕ → List ℕ → ℕ → List ℕ → List ℕ → Bool
plain_short n edges edge_count places words =
    ltb (length places) (2 * n) || ltb (length edges) (2 * edge_count) || ltb (length words) 1024

-- it looks at 1 and 5 to 9, as building
abbrev pub plain_refusal : ℕ → List ℕ → ℕ → List ℕ → List ℕ → Option ℕ
plain_refusal n edges edge_count places words =
    refusal (1 when plain_short n edges edge_count places words ∷ hierarchy_checks n edges edge_count)

-- the words are unchanged after refusal 1; after any other end, refused or not, the first 1,024 are zero, and those behind unchanged
abbrev pub words_after : (short : Bool) → List ℕ → List ℕ
words_after true words = words
words_after false words = over (replicate 1024 0) words

-- its answer, the interval places, with the very intervals that building writes, and the words
unfoldable pub plain_step : ℕ → List ℕ → ℕ → List ℕ → List ℕ → PlainResult
plain_step n edges edge_count places words =
    record {
      answer = answer_of (plain_refusal n edges edge_count places words) tt;
      places = room_after (plain_refusal n edges edge_count places words) (interval_table n (edges_of edges edge_count)) places;
      words = words_after (plain_short n edges edge_count places words) words;
    }
