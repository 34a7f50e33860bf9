-- Terms of the contracts of private functions only: no definition of the paper is here. Assumes nothing.
use Rattle.std.specs.Prelude.{◌≡◌, List, ℕ}
use Rattle.lists.specs.Lists.{over}
use Rattle.lists.specs.Answer.{Answer, done}
use Rattle.runs.specs.Run.{Ran}
use Rattle.replay.specs.Replay.{FileRun, file_run}
use Rattle.texts.specs.Lines.{listing}
use Rattle.lines.specs.Listing.{values_of}
use Rattle.texts.specs.Pages.{Puts}

-- a run's values, and its listing
abbrev pub RunListed : Ran → List ℕ → List ℕ → List ℕ → ℕ → Type 0
RunListed ran text values' text' r = (values' ≡ ran.state.values) × Puts 0 (listing (done (file_run ran))) text text' r

-- an answer's values, from the first value on, and its listing, from the text's first byte on
pub record Listing (a : Answer FileRun) (values text values' text' : List ℕ) (r : ℕ) : Type 0 where
  pub values_after : values' ≡ over (values_of a) values
  pub text_after : Puts 0 (listing a) text text' r
