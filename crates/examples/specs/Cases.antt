-- The kinds of starred cases, and the test that a case passes. Assumes nothing.
use Rattle.std.specs.Prelude.{List, [], ◌∷◌, ◌++◌, Bool, true, false, ◌&&◌, ◌||◌, ℕ, zero, suc, ◌*◌, ◌/◌, eqb, length, replicate}
use Rattle.lists.specs.Lists.{sum}
use Rattle.lists.specs.Answer.{Answer, done, refused as denied, is_done}
use Rattle.hierarchy.specs.Hierarchy.{reach}
use Rattle.intervals.specs.Build.{BuildResult, build_step}
use Rattle.covers.specs.Cover.{low_at, high_at, cover_of}
use Rattle.blocks.specs.File.{file_of}
use Rattle.replay.specs.Replay.{StepAnswer, granted, waits, value, stored, added, left, refused, FileRun, run_file}

-- a case, with what the paper says of it
pub data Case : Type 0 where
  -- n, the edges, and low and high in turn for each node
  intervals : (n : ℕ) (edges expected : List ℕ) → Case
  -- n, the edges, the named nodes, and the cover
  cover : (n : ℕ) (edges names : List ℕ) (expected : ℕ) → Case
  -- n, the edges, two nodes that share nothing in their reach, low and high of the first and of the second, and a file with what its listing has
  apart : (n : ℕ) (edges : List ℕ) (first second low high low' high' : ℕ) (records : List (List ℕ)) (answers : List StepAnswer) (holders waiters grants : ℕ) (parties : List ℕ) → Case
  -- the records of a file, the answers of its steps, holders, waiters and grants at the end, and in turn each party with grants and its count
  listing : (records : List (List ℕ)) (answers : List StepAnswer) (holders waiters grants : ℕ) (parties : List ℕ) → Case

-- two lists of numbers are the same
unfoldable pub same_numbers : List ℕ → List ℕ → Bool
same_numbers [] [] = true
same_numbers [] (y ∷ ys) = false
same_numbers (x ∷ xs) [] = false
same_numbers (x ∷ xs) (y ∷ ys) = eqb x y && same_numbers xs ys

-- an answer as numbers: its word, then its values
unfoldable pub as_numbers : StepAnswer → List ℕ
as_numbers (granted node) = 1 ∷ node ∷ []
as_numbers waits = 2 ∷ []
as_numbers (value number) = 3 ∷ number ∷ []
as_numbers stored = 4 ∷ []
as_numbers (left parties) = 5 ∷ parties
as_numbers (refused number) = 6 ∷ number ∷ []
as_numbers added = 7 ∷ []

-- the answers are the expected ones
unfoldable pub same_answers : List StepAnswer → List StepAnswer → Bool
same_answers [] [] = true
same_answers [] (b ∷ bs) = false
same_answers (a ∷ xs) [] = false
same_answers (a ∷ xs) (b ∷ bs) = same_numbers (as_numbers a) (as_numbers b) && same_answers xs bs

-- building, lent just what it needs
abbrev pub built : ℕ → List ℕ → BuildResult
built n edges = build_step n edges (length edges / 2) (replicate (2 * n) 0) (replicate 512 0)

-- it is not refused
unfoldable pub unrefused : BuildResult → Bool
unrefused result = is_done result.answer

-- it is not refused, and writes the expected numbers
unfoldable pub wrote : BuildResult → List ℕ → Bool
wrote result expected = unrefused result && same_numbers result.places expected

-- low and high of a node, as they were written
unfoldable pub spans : BuildResult → ℕ → ℕ → ℕ → Bool
spans result node low high = eqb (low_at result.places node) low && eqb (high_at result.places node) high

-- no node is in both sets
unfoldable pub disjoint : List ℕ → List ℕ → Bool
disjoint [] gs = true
disjoint (f ∷ fs) [] = true
disjoint (f ∷ fs) (g ∷ gs) = (eqb f 0 || eqb g 0) && disjoint fs gs

-- the parties from k on that have grants, each with its count behind it
unfoldable pub with_grants : ℕ → List ℕ → List ℕ
with_grants k [] = []
with_grants k (zero ∷ counts) = with_grants (suc k) counts
with_grants k (suc count ∷ counts) = k ∷ suc count ∷ with_grants (suc k) counts

-- a file's run gives these answers and this end
unfoldable pub gave : Answer FileRun → List StepAnswer → ℕ → ℕ → ℕ → List ℕ → Bool
gave (done run) answers holders waiters grants parties =
    same_answers run.answers answers && eqb run.holders holders && eqb run.waiters waiters && eqb (sum run.grants) grants
    && same_numbers (with_grants 0 run.grants) parties
gave (denied k) answers holders waiters grants parties = false

-- the file of the records
abbrev pub written : List (List ℕ) → List ℕ
written records = file_of (flat records) (length records)
  where
    flat : List (List ℕ) → List ℕ
    flat [] = []
    flat (r ∷ rs) = r ++ flat rs

-- THE TEST
unfoldable pub passes : Case → Bool
passes (intervals n edges expected) = wrote (built n edges) expected
passes (cover n edges names expected) = unrefused (built n edges) && eqb (cover_of n (built n edges).places names) expected
passes (apart n edges first second low high low' high' records answers holders waiters grants parties) =
    disjoint (reach n edges first) (reach n edges second)
    && unrefused (built n edges) && spans (built n edges) first low high && spans (built n edges) second low' high'
    && gave (run_file (written records)) answers holders waiters grants parties
passes (listing records answers holders waiters grants parties) = gave (run_file (written records)) answers holders waiters grants parties
