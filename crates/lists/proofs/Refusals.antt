-- How a list of checks is read: which refusal it gives, and what holds where it gives none. Assumes nothing.
use mathlib.Core.Path.{◌≡◌, refl, sym, ◌∙◌}
use mathlib.Core.List.{List, [], ◌∷◌}
use mathlib.Core.Bool.{true, false}
use mathlib.Core.Option.{none, some}
use Prim.Native.Nat.{ℕ, zero, suc}
use lib.ListN.{drop}
use Rattle.lists.specs.Answer.{Check, refusal}
use Rattle.lists.proofs.Bools.{bool, not_both}

-- with nothing left to look at no refusal is given
pub refusal_nil : refusal [] ≡ none
unfolding refusal
refusal_nil = refl

-- the first check holds: its number is the refusal
pub refused_here : (c : Check) (cs : List Check) → c.holds ≡ true → refusal (c ∷ cs) ≡ some c.number
unfolding refusal
refused_here c cs e = rw (e, refusal)

-- it does not: the later ones decide
pub refused_later : (c : Check) (cs : List Check) → c.holds ≡ false → refusal (c ∷ cs) ≡ refusal cs
unfolding refusal
refused_later c cs e = rw (e, refusal)

-- no condition holds
abbrev pub NoneHolds : List Check → Type 0
NoneHolds [] = Unit {0}
NoneHolds (c ∷ cs) = (c.holds ≡ false) × NoneHolds cs

pub refusal_none : (cs : List Check) → refusal cs ≡ none → NoneHolds cs
refusal_none [] e = tt
refusal_none (c ∷ cs) e =
    bool c.holds
    (λ h. not_both true refl (let s = refused_here c cs h in cc))
    (λ h. (h, refusal_none cs (sym (refused_later c cs h) ∙ e)))

-- where a list of checks refuses nothing, neither does any end of it
pub later_none : (cs : List Check) (i : ℕ) → refusal cs ≡ none → refusal (drop i cs) ≡ none
later_none cs zero e = e
later_none [] (suc i) e = e
later_none (c ∷ cs) (suc i) e =
    bool c.holds
    (λ h. not_both true refl (let s = refused_here c cs h in cc))
    (λ h. later_none cs i (sym (refused_later c cs h) ∙ e))
