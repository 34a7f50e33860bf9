-- Which number a list of checks refuses with, told from the numbers alone. Assumes nothing.
use mathlib.Core.Path.{◌≡◌, refl, sym, ap, ◌∙◌}
use mathlib.Core.List.{List, [], ◌∷◌, ◌++◌}
use mathlib.Core.Bool.{Bool, true, false, ◌&&◌, and-true}
use mathlib.Core.Option.{Option, none, some}
use Prim.Native.Nat.{ℕ}
use lib.Dec.{eqb}
use borrow.Author.Tests.{eq-eqb}
use Rattle.lists.specs.Lists.{any}
use Rattle.lists.specs.Answer.{refused, Check, ◌when◌, refusal, answer_of}
use Rattle.lists.proofs.Bools.{bool, not_both, or_left, or_right}
use Rattle.lists.proofs.Refusals.{refusal_nil, refused_here, refused_later}

-- whether a refusal is k
abbrev pub is_number : ℕ → Option ℕ → Bool
is_number k none = false
is_number k (some j) = eqb j k

-- a check numbered k holds; of a list that has none so numbered this is false by computation, however long the list is
abbrev pub holds_with : ℕ → List Check → Bool
holds_with k cs = any (λ c. eqb c.number k && c.holds) cs

-- where none does the refusal is not k
pub not_refused_law : (k : ℕ) (cs : List Check) → holds_with k cs ≡ false → is_number k (refusal cs) ≡ false
unfolding refusal any
not_refused_law k [] f = refl
not_refused_law k (c ∷ cs) f =
    bool c.holds
    (λ e. rw (refused_here c cs e) (sym (and-true (eqb c.number k)) ∙ rw e at (or_left (eqb c.number k && c.holds) _ f)))
    (λ e. rw (refused_later c cs e) (not_refused_law k cs (or_right (eqb c.number k && c.holds) _ f)))

-- nor is it in the other form
pub never : {P : Type 0} (k : ℕ) (cs : List Check) → holds_with k cs ≡ false → refusal cs ≡ some k → P
never k cs f e = not_both (is_number k (refusal cs)) (ap (is_number k) e ∙ eq-eqb k k refl) (not_refused_law k cs f)

-- a check numbered k decides, where none behind it is so numbered and the refusal is k
pub decides : (k : ℕ) (b : Bool) (cs : List Check) → holds_with k cs ≡ false → refusal (k when b ∷ cs) ≡ some k → b ≡ true
decides k b cs f e = bool b (λ t. t) (λ t. never k cs f (sym (refused_later (k when b) cs t) ∙ e))

-- checks of other numbers in front of it refuse nothing then
pub passed : (k : ℕ) (cs ds : List Check) → holds_with k cs ≡ false → refusal (cs ++ ds) ≡ some k → (refusal cs ≡ none) × (refusal ds ≡ some k)
unfolding any
passed k [] ds f e = (refusal_nil, e)
passed k (c ∷ cs) ds f e =
    bool c.holds
    (λ h. not_both (eqb c.number k) (same (sym (refused_here c (cs ++ ds) h) ∙ e)) (sym (and-true (eqb c.number k)) ∙ rw h at (or_left (eqb c.number k && c.holds) _ f)))
    (λ h. let (a, b) = passed k cs ds (or_right (eqb c.number k && c.holds) _ f) (sym (refused_later c (cs ++ ds) h) ∙ e) in (refused_later c cs h ∙ a, b))
  where
    same : some c.number ≡ some k → eqb c.number k ≡ true
    same s = let z : c.number ≡ k = cc in eq-eqb c.number k z

-- and where nothing in front refuses, what follows decides
pub onward : (cs ds : List Check) → refusal cs ≡ none → refusal (cs ++ ds) ≡ refusal ds
onward [] ds e = refl
onward (c ∷ cs) ds e =
    bool c.holds
    (λ h. not_both true refl (let s = refused_here c cs h in cc))
    (λ h. refused_later c (cs ++ ds) h ∙ onward cs ds (sym (refused_later c cs h) ∙ e))

-- AN ANSWER by a refusal is a refusal with k just where that is k
pub turned_away : {A : Type 0} (o : Option ℕ) (x : A) (k : ℕ) → (answer_of o x ≡ refused k → o ≡ some k) × (o ≡ some k → answer_of o x ≡ refused k)
turned_away (some j) x k = (λ e. let z : j ≡ k = cc in ap some z, λ e. let z : j ≡ k = cc in ap refused z)
turned_away none x k = (λ e. not_both true refl cc, λ e. not_both true refl cc)
