-- What listing a file leaves: its values, its text and its answer. Assumes nothing.
use mathlib.Core.Path.{◌≡◌, refl, sym, ap, ◌∙◌}
use mathlib.Core.Bool.{true, false, ◌||◌}
use mathlib.Core.List.{List, [], ◌++◌}
use mathlib.Core.Option.{Option, none, some}
use Prim.Native.Nat.{ℕ}
use native.Mathlib.Nat.{zero-add}
use native.Mathlib.Omega.{arith}
use lib.Dec.{ltb}
use lib.ListN.{length, drop}
use borrow.Author.Tests.{ltb-false}
use Rattle.lists.specs.Lists.{over, Below}
use Rattle.lists.specs.Answer.{Answer, done, refused, ◌when◌, refusal, answer_of, room_after}
use Rattle.lists.proofs.Refusals.{refused_here, refused_later}
use Rattle.octets.proofs.Writes.{over_first}
use Rattle.locks.specs.Lent.{Hierarchy}
use Rattle.runs.specs.Run.{Ran}
use Rattle.replay.specs.Replay.{FileRun, start_of, file_run, perform_all, run_file}
use Rattle.std.specs.Prelude.{Ok, Err}
use Rattle.refusals.specs.declared.Refusal.TheVariants.{Short}
use Rattle.texts.specs.Lines.{listing}
use Rattle.lines.specs.Listing.{values_of, listing_refusal, list_file, Lists}
use Rattle.texts.specs.Pages.{Page, Puts}
use Rattle.lines.specs.Inner.{RunListed, Listing}
use Rattle.texts.proofs.Puts.{put_fits}
use Rattle.lines.proofs.Fits.{listing_most}

-- A REFUSED file or hierarchy has the one line
pub refused_listed : {a : Answer FileRun} (k : ℕ) (values text : List ℕ) {text' : List ℕ} {r : ℕ} → a ≡ refused k → Puts 0 (listing (refused k)) text text' r → Listing a values text values text' r
unfolding over
refused_listed k values text e p = rw e (record { values_after = refl; text_after = p })

-- one that ran has its lines, and the values
run_shown : {a : Answer FileRun} (ran : Ran) (n : ℕ) (values text part : List ℕ) {text' : List ℕ} {r : ℕ} → a ≡ done (file_run ran) → RunListed ran text part text' r → length part ≡ n
    → Listing a values text (part ++ drop n values) text' r
unfolding over
run_shown ran n values text part e p l =
    let v : part ++ drop n values ≡ over ran.state.values values = ap (λ (k : ℕ). part ++ drop k values) (sym l) ∙ ap (λ (t : List ℕ). over t values) p.0 in
    rw e (record { values_after = v; text_after = p.1 })

pub ready_shown : (H : Hierarchy) (rs steps : List (List ℕ)) {a : Answer FileRun} (values text part : List ℕ) {text' : List ℕ} {r : ℕ} → a ≡ done (file_run (perform_all (start_of H rs) steps))
    → length part ≡ H.n → RunListed (perform_all (start_of H rs) steps) text part text' r → Listing a values text (part ++ drop H.n values) text' r
ready_shown H rs steps values text part e l p = run_shown (perform_all (start_of H rs) steps) H.n values text part e p l

-- LISTING into lent places
module _ (file values text : List ℕ) where
  list_refused : listing_refusal values text ≡ some 1 → Lists (Err Short) values text (list_file file values text)
  unfolding list_file
  list_refused o =
      record {
        answer = ap (λ (x : Option ℕ). answer_of x (length (listing (run_file file)))) (sym o);
        values_after = ap (λ (x : Option ℕ). room_after x (values_of (run_file file)) values) (sym o);
        text_after = ap (λ (x : Option ℕ). room_after x (listing (run_file file)) text) (sym o);
      }

  pub list_short : ltb (length values) 256 ≡ true → Lists (Err Short) values text (list_file file values text)
  list_short e = list_refused (refused_here (1 when (ltb (length values) 256 || ltb (length text) 635680)) [] (rw e refl))

  pub list_narrow : ltb (length values) 256 ≡ false → ltb (length text) 635680 ≡ true → Lists (Err Short) values text (list_file file values text)
  list_narrow d e = list_refused (refused_here (1 when (ltb (length values) 256 || ltb (length text) 635680)) [] (rw (d, e) refl))

  pub list_done : {values' text' : List ℕ} {r : ℕ} → Below 256 file → ltb (length values) 256 ≡ false → ltb (length text) 635680 ≡ false → Listing (run_file file) values text values' text' r
      → Lists (Ok r) values' text' (list_file file values text)
  unfolding list_file refusal
  list_done bytes d e l =
      let o : listing_refusal values text ≡ none = refused_later (1 when (ltb (length values) 256 || ltb (length text) 635680)) [] (rw (d, e) refl) in
      let all = l.text_after ∙ put_fits (listing (run_file file)) text 0 (omega (arith, listing_most file bytes, ltb-false (length text) 635680 e)) in
      record {
        answer = ap done (ap (λ (p : Page). p.at) all ∙ zero-add _) ∙ ap (λ (x : Option ℕ). answer_of x (length (listing (run_file file)))) (sym o);
        values_after = l.values_after ∙ ap (λ (x : Option ℕ). room_after x (values_of (run_file file)) values) (sym o);
        text_after = ap (λ (p : Page). p.text) all ∙ over_first (listing (run_file file)) text ∙ ap (λ (x : Option ℕ). room_after x (listing (run_file file)) text) (sym o);
      }
