-- Each refusal of a step is one that the documents' tables number. Assumes nothing.
use Rattle.std.proofs.Common.{◌≡◌, ℕ, Bool, true, false, eqb, List, [], ◌∷◌, get_or, sym, refl, subst}
use mathlib.Core.Option.{Option, none, some}
use borrow.Author.Tests.{eqb-true}
use Rattle.lists.specs.Lists.{every}
use Rattle.lists.specs.Answer.{Answer, done, refused, Check, refusal}
use Rattle.lists.proofs.Bools.{bool, and_left, and_right}
use Rattle.lists.proofs.Refusals.{refusal_nil, refused_here, refused_later}
use Rattle.refusals.specs.declared.Refusal.{Refusal}
use Rattle.refusals.specs.declared.Refusal.TheVariants.{Short, NotBlocks, CheckDiffers, Malformed, SizeWrong, ManyEdges, EdgeWrong, EdgeTwice, Unreached, StateWrong, PartyWrong, NotOut, IsOut, IsWaiting, NamesWrong, NotReached, ReadsOnly, OtherMode, FewSteps, SomeoneIn}
use Rattle.refusals.specs.Refusals.{refusal_number}
use Rattle.locks.specs.declared.Mode.{Mode}
use Rattle.locks.specs.declared.Lock.{Lock}
use Rattle.locks.specs.Lent.{Hierarchy}
use Rattle.desk.specs.declared.Desk.{Desk}
use Rattle.desk.specs.Steps.{free, step_checks, enter_own, enter_unless, enter_if, enter_step, value_checks, get_own, get_unless, get_step, put_own, put_unless, put_step, add_own, add_step, leave_own, leave_unless, leave_step}

-- the refusal with a number; 0 and what is past 20 have none
pub refusal_of : ℕ → Refusal
refusal_of k = get_or (Short ∷ Short ∷ NotBlocks ∷ CheckDiffers ∷ Malformed ∷ SizeWrong ∷ ManyEdges ∷ EdgeWrong ∷ EdgeTwice ∷ Unreached ∷ StateWrong ∷ PartyWrong
    ∷ NotOut ∷ IsOut ∷ IsWaiting ∷ NamesWrong ∷ NotReached ∷ ReadsOnly ∷ OtherMode ∷ FewSteps ∷ SomeoneIn ∷ []) k Short

numbered : ℕ → Bool
numbered k = eqb (refusal_number (refusal_of k)) k

-- an answer that refuses does so with the number of a refusal
abbrev pub Numbered : {A : Type 0} → Answer A → Type 0
Numbered (done x) = Unit {0}
Numbered (refused k) = refusal_number (refusal_of k) ≡ k

-- and so does a list of checks whose numbers are such
abbrev GivesNumbered : Option ℕ → Type 0
GivesNumbered none = Unit {0}
GivesNumbered (some k) = refusal_number (refusal_of k) ≡ k

gives_numbered : (cs : List Check) → every (λ c. numbered c.number) cs ≡ true → GivesNumbered (refusal cs)
unfolding every numbered
gives_numbered [] e = subst GivesNumbered (sym refusal_nil) tt
gives_numbered (c ∷ cs) e =
    bool c.holds
    (λ h. subst GivesNumbered (sym (refused_here c cs h)) (eqb-true _ _ (and_left (numbered c.number) (every (λ (x : Check). numbered x.number) cs) e)))
    (λ h. subst GivesNumbered (sym (refused_later c cs h)) (gives_numbered cs (and_right (numbered c.number) (every (λ (x : Check). numbered x.number) cs) e)))

module _ (H : Hierarchy) (d : Desk) (party : ℕ) where
  enter_if_numbered : (b : Bool) (l : Lock) → Numbered (enter_if b d party l).answer
  enter_if_numbered true l = tt
  enter_if_numbered false l = tt

  enter_unless_numbered : (o : Option ℕ) (l : Lock) → GivesNumbered o → Numbered (enter_unless o d party l).answer
  enter_unless_numbered none l e = enter_if_numbered (free d l) l
  enter_unless_numbered (some k) l e = e

  pub enter_numbered : (mode : Mode) (names : List ℕ) (name_count : ℕ) → Numbered (enter_step H d party mode names name_count).answer
  unfolding enter_step every numbered refusal_of
  enter_numbered mode names name_count = enter_unless_numbered _ _ (gives_numbered (step_checks H d party _ (enter_own H d party names name_count)) refl)

  get_unless_numbered : (o : Option ℕ) (value : ℕ) (scratch : List ℕ) → GivesNumbered o → Numbered (get_unless o d value scratch).answer
  get_unless_numbered none value scratch e = tt
  get_unless_numbered (some k) value scratch e = e

  put_unless_numbered : (o : Option ℕ) (node value : ℕ) (values scratch : List ℕ) → GivesNumbered o → Numbered (put_unless o d node value values scratch).answer
  put_unless_numbered none node value values scratch e = tt
  put_unless_numbered (some k) node value values scratch e = e

  module _ (node : ℕ) where
    pub get_numbered : (values scratch : List ℕ) → Numbered (get_step H d party node values scratch).answer
    unfolding get_step every numbered refusal_of
    get_numbered values scratch = get_unless_numbered _ _ _ (gives_numbered (value_checks H d party node values scratch (get_own d party)) refl)

    pub put_numbered : (value : ℕ) (values scratch : List ℕ) → Numbered (put_step H d party node value values scratch).answer
    unfolding put_step every numbered refusal_of
    put_numbered value values scratch = put_unless_numbered _ node value values _ (gives_numbered (value_checks H d party node values scratch (put_own d party)) refl)

    pub add_numbered : (number : ℕ) (values scratch : List ℕ) → Numbered (add_step H d party node number values scratch).answer
    unfolding add_step every numbered refusal_of
    add_numbered number values scratch = put_unless_numbered _ node _ values _ (gives_numbered (value_checks H d party node values scratch (add_own d party)) refl)

  leave_unless_numbered : (o : Option ℕ) (list : List ℕ) → GivesNumbered o → Numbered (leave_unless o d party list).answer
  leave_unless_numbered none list e = tt
  leave_unless_numbered (some k) list e = e

  pub leave_numbered : (list : List ℕ) → Numbered (leave_step H d party list).answer
  unfolding leave_step every numbered refusal_of
  leave_numbered list = leave_unless_numbered _ list (gives_numbered (step_checks H d party _ (leave_own d party)) refl)
