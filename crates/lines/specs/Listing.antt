-- What listing a file into lent places leaves. Assumes nothing.
use Rattle.std.specs.Prelude.{◌≡◌, ◌||◌, List, [], ◌∷◌, ℕ, ltb, length, Result}
use Rattle.std.proofs.Math.Option.{Option}
use Rattle.lists.specs.Answer.{Answer, done, refused as denied, ◌when◌, refusal, answer_of, room_after}
use Rattle.replay.specs.Replay.{FileRun, run_file}
use Rattle.texts.specs.Lines.{listing}
use Rattle.refusals.specs.declared.Refusal.{Refusal}
use Rattle.refusals.specs.Refusals.{meaning}

-- the values after the file; none where it is refused
abbrev pub values_of : Answer FileRun → List ℕ
values_of (done run) = run.values
values_of (denied k) = []

-- 1: a lent buffer is shorter than needed, which is 256 values, and 160 bytes for each of 3,968 steps and for `end`, and 20 for each of 32 parties
abbrev pub listing_refusal : List ℕ → List ℕ → Option ℕ
listing_refusal values text = refusal (1 when (ltb (length values) 256 || ltb (length text) 635680) ∷ [])

-- what listing leaves: its answer, a count of bytes, and the lent places
pub record ListingResult : Type 0 where
  pub answer : Answer ℕ
  pub values : List ℕ
  pub text : List ℕ

-- listing a file: the count of the listing's bytes, these bytes from the text's first on, and the values from the first on
unfoldable pub list_file : List ℕ → List ℕ → List ℕ → ListingResult
list_file file values text =
    record {
      answer = answer_of (listing_refusal values text) (length (listing (run_file file)));
      values = room_after (listing_refusal values text) (values_of (run_file file)) values;
      text = room_after (listing_refusal values text) (listing (run_file file)) text;
    }

-- what `listing` promises
pub record Lists (r : Result ℕ Refusal) (values text : List ℕ) (s : ListingResult) : Type 0 where
  pub answer : meaning r ≡ s.answer
  pub values_after : values ≡ s.values
  pub text_after : text ≡ s.text
