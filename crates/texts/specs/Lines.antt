-- The listing of a file: the lines of its steps, the line `end`, and the lines of the parties. Assumes nothing.
use Rattle.std.specs.Prelude.{cond, List, [], ◌∷◌, ◌++◌, ℕ, suc, eqb}
use Rattle.lists.specs.Lists.{sum}
use Rattle.lists.specs.Answer.{Answer, done, refused as denied}
use Rattle.replay.specs.Replay.{StepAnswer, FileRun}
use Rattle.texts.specs.Text.{decimal, space, newline, refused_word, end_word, party_word, answer_text}

-- a step's line: its number, and its answer
abbrev pub step_line : ℕ → StepAnswer → List ℕ
step_line k a = (decimal k ++ space) ++ (answer_text a ++ newline)

-- the lines of steps numbered from k
unfoldable pub step_lines : ℕ → List StepAnswer → List ℕ
step_lines k [] = []
step_lines k (a ∷ rest) = step_line k a ++ step_lines (suc k) rest

-- the line after the steps: holders, waiters and grants
abbrev pub end_line : ℕ → ℕ → ℕ → List ℕ
end_line holders waiters grants = ((end_word ++ decimal holders) ++ (space ++ decimal waiters)) ++ ((space ++ decimal grants) ++ newline)

-- 02, POINT 4, GRANTS BY PARTY. A party's line: its number, and its count
abbrev pub party_line : ℕ → ℕ → List ℕ
party_line party count = (party_word ++ decimal party) ++ ((space ++ decimal count) ++ newline)

-- one for a party with grants, and none for a party without
abbrev pub line_if_granted : ℕ → ℕ → List ℕ
line_if_granted party count = cond (eqb count 0) [] (party_line party count)

-- the lines of the parties numbered from k, lowest party first
unfoldable pub party_lines : ℕ → List ℕ → List ℕ
party_lines k [] = []
party_lines k (count ∷ rest) = line_if_granted k count ++ party_lines (suc k) rest

-- the third number of `end` is the sum of the counts; after that line stand those of the parties
abbrev pub end_lines : ℕ → ℕ → List ℕ → List ℕ
end_lines holders waiters grants = end_line holders waiters (sum grants) ++ party_lines 0 grants

-- the listing: a refused file or hierarchy gives the one line
abbrev pub listing : Answer FileRun → List ℕ
listing (done run) = step_lines 1 run.answers ++ end_lines run.holders run.waiters run.grants
listing (denied k) = (refused_word ++ decimal k) ++ newline

-- THE REPORT (02, point 2) prints on one line two whole numbers, all waits and needless ones, a space between them
abbrev pub report_line : ℕ → ℕ → List ℕ
report_line all needless = (decimal all ++ space) ++ (decimal needless ++ newline)
