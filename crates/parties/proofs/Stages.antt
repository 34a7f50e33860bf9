-- Laws of entries. Assumes nothing.
use mathlib.Core.Path.{◌≡◌, refl, sym, ap, ◌∙◌}
use mathlib.Core.Bool.{Bool, true, false}
use mathlib.Core.List.{List}
use Prim.Native.Nat.{ℕ, ◌≤◌}
use native.Mathlib.Omega.{arith}
use lib.Dec.{ltb}
use lib.ListN.{length, get_or-eq_default}
use lib.Seq.{take_all}
use denote.Param.Members.{Mut}
use denote.Ref.{Bor}
use Rattle.std.specs.Fn.{Called}
use Rattle.std.specs.Iterator.{YieldsThen}
use Rattle.std.specs.List.{FoldsTo}
use Rattle.std.specs.Option.{MatchOption}
use Rattle.std.specs.Slice.Iter.{iter_rest}
use Rattle.std.specs.declared.option.Option.{Option}
use Rattle.std.specs.declared.slice.Iter.{Iter}
use Rattle.std.proofs.iter.Yields.{fronts}
use Rattle.std.proofs.lemmas.Iterator.{YieldsList-from_slice}
use Rattle.std.proofs.lemmas.Iterator.Search.{any_from_yields_List}
use Rattle.lists.specs.Lists.{any, any_below}
use Rattle.lists.proofs.Bounded.{any_take}
use Rattle.lists.proofs.Std.{any_std}
use Rattle.locks.specs.declared.Stage.{Stage}
use borrow.Author.Tests.{ltb-false}
use Rattle.lists.proofs.Bools.{bool}
use Rattle.locks.specs.declared.Stage.TheVariants.{Out}
use Rattle.parties.specs.declared.Entry.{Entry}
use Rattle.parties.specs.Parties.{entry_of, stage_in, place_of, seated_at}

-- past the entries everybody is out
pub past_out : (entries : List Entry) (party : ℕ) → length entries ≤ party → Out ≡ stage_in entries party
past_out entries party h = ap (λ (e : Entry). e.stage) (sym (get_or-eq_default entries (entry_of Out) h))

-- what is read at a party's place is the party's stage
pub seated_stage : (entries : List Entry) (party at : ℕ) → length entries ≡ 32 → at ≡ place_of party → seated_at party (stage_in entries at) ≡ stage_in entries party
seated_stage entries party at long e =
    ap (λ (k : ℕ). seated_at party (stage_in entries k)) e
    ∙ bool (ltb party 32)
    (λ h. rw h refl)
    (λ h. rw h (past_out entries party (let q : 32 ≤ party = ltb-false party 32 h in omega arith)))

-- a chain that tests each entry's stage, `entries.iter().any(test)`: what it answers, by the parties
module _ {F : Type 0} {g : Mut F (Bor Entry × Unit {0}) Bool} {s u : Iter Entry} {k : F} {r : Bool} (f : Stage → Bool) (entries : List Entry) where
  pub some_stage : length entries ≡ 32 → iter_rest s ≡ entries
      → (xs : List (Bor Entry)) × (o : Option (Bor Entry)) × (j : F) × YieldsThen fronts s xs o u
      × FoldsTo (λ p x q. Called g p (x, tt) false q) k xs j × MatchOption o (r ≡ false) (λ x. (r ≡ true) × ((h : F) × Called g j (x, tt) true h))
      → ((x : Bor Entry) (b : Bool) (q : F) → Called g k (x, tt) b q → (q ≡ k) × (b ≡ f x.now.stage)) → r ≡ any_below 32 (λ party. f (stage_in entries party))
  some_stage long e ran turn =
      any_from_yields_List (λ (entry : Entry). f entry.stage) u k r ran (YieldsList-from_slice entries e) turn
      ∙ any_std (λ (entry : Entry). f entry.stage) entries
      ∙ ap (any (λ (entry : Entry). f entry.stage)) (sym (take_all 32 entries (omega arith)))
      ∙ any_take (λ (entry : Entry). f entry.stage) entries (entry_of Out) 32 (omega arith)
