-- The records of a file listed into a text, whole or in pieces. Assumes nothing.
use Rattle.std.specs.Prelude.{cond, List, [], ◌∷◌, ◌++◌, ℕ, zero, suc, ◌+◌, ◌/◌, min, length, take, drop}
use Rattle.blocks.specs.Record.{kind_of, step_kind}
use Rattle.locks.specs.Lent.{Hierarchy}
use Rattle.runs.specs.Run.{State}
use Rattle.replay.specs.Replay.{state_of, perform, holders_at, record_list}
use Rattle.lines.specs.declared.Progress.{Progress}
use Rattle.texts.specs.Lines.{step_line, end_lines}
use Rattle.texts.specs.Pages.{Page, page_of, put}

-- the number of the step after step k; the greatest number of 64 bits has none after it
abbrev pub following : ℕ → ℕ
following k = min (suc k) 18446744073709551615

-- a file between two of its records: hierarchy, desk and values, the number of the next step, and the text so far
pub record Written : Type 0 where
  pub state : State
  pub number : ℕ
  pub page : Page

-- of these
abbrev pub written_of : Hierarchy → Progress → List ℕ → List ℕ → Written
written_of H p values text = record { state = state_of H p.desk values; number = p.number; page = page_of text p.at }

-- a record of another kind is performed, refused with 4 where it is not right, and its line is put
abbrev pub step_written : Written → List ℕ → Written
step_written w r =
    record {
      state = (perform w.state r).state;
      number = following w.number;
      page = put (step_line w.number (perform w.state r).answer) w.page;
    }

-- a record of a kind that is no step's changes nothing and has no line
abbrev pub record_written : Written → List ℕ → Written
record_written w r = cond (step_kind (kind_of r)) (step_written w r) w

-- records one after the other
unfoldable pub records_written : Written → List (List ℕ) → Written
records_written w [] = w
records_written w (r ∷ rs) = records_written (record_written w r) rs

-- IN PIECES. The text begins anew, from its first byte on
abbrev pub anew : Written → Written
anew w = record { state = w.state; number = w.number; page = page_of w.page.text 0 }

-- parts of a file's records one after the other, each listed into the same text from its first byte on
unfoldable pub parts_written : Written → List (List (List ℕ)) → Written
parts_written w [] = w
parts_written w (part ∷ parts) = parts_written (records_written (anew w) part) parts

-- and then the lines after the steps
abbrev pub end_written : Written → Page
end_written w = put (end_lines (holders_at w.state.desk) w.state.desk.waiting w.state.desk.grants) (page_of w.page.text 0)

-- what was put into a text
abbrev pub shown : Page → List ℕ
shown p = take p.at p.text

-- of each part, and of the lines after the steps, what is shown: all of it, one behind the other
unfoldable pub in_pieces : Written → List (List (List ℕ)) → List ℕ
in_pieces w [] = shown (end_written w)
in_pieces w (part ∷ parts) = shown (records_written (anew w) part).page ++ in_pieces (records_written (anew w) part) parts

-- the records of all parts
unfoldable pub joined : List (List (List ℕ)) → List (List ℕ)
joined [] = []
joined (part ∷ parts) = part ++ joined parts

-- THE PROGRAM'S PARTS: records of 16 bytes in so many parts, of 100 records each as far as they go
unfoldable pub parts_of : ℕ → List ℕ → List (List (List ℕ))
parts_of zero bytes = []
parts_of (suc k) bytes = record_list (take 1600 bytes) ∷ parts_of k (drop 1600 bytes)

-- as many as it takes
abbrev pub parts_in : List ℕ → List (List (List ℕ))
parts_in bytes = parts_of ((length bytes + 1599) / 1600) bytes
