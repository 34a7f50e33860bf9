-- WHAT EACH VISIT MAY DO (02, point 5), and that adds of two adding visits come out the same in either order. Assumes nothing.
use mathlib.Core.Path.{◌≡◌, refl, sym, ap, ◌∙◌}
use mathlib.Core.Logic.{◌⊎◌, inl, inr}
use mathlib.Core.List.{List}
use mathlib.Core.Bool.{Bool, true, false, true≢false, false≢true}
use mathlib.Core.Option.{Option, none, some}
use Prim.Native.Nat.{ℕ, ◌≤◌}
use lib.Dec.{ltb}
use lib.ListN.{length, get_or, set, length-set}
use borrow.Author.Tests.{not-false, le-ltb}
use Rattle.lists.specs.Answer.{done, Check, refusal}
use Rattle.lists.proofs.Bools.{not_both, or_left, or_neither}
use Rattle.lists.proofs.Refusals.{NoneHolds, refusal_none}
use Rattle.locks.specs.declared.Mode.{Mode}
use Rattle.locks.specs.declared.Mode.TheVariants.{Reading, Writing, Adding}
use Rattle.locks.specs.declared.Lock.{Lock}
use Rattle.locks.specs.declared.Stage.TheVariants.{Holding}
use Rattle.locks.specs.Locks.{compatible}
use Rattle.locks.specs.Stages.{is_reading, is_adding, adds_only}
use Rattle.locks.specs.Lent.{Hierarchy}
use Rattle.desk.specs.declared.Desk.{Desk}
use Rattle.desk.specs.Desks.{stage_at}
use Rattle.desk.specs.Steps.{values_short, value_checks, scratch_left, node_checks, step_checks, get_own, get_unless, get_step, put_own, put_unless, put_step, add_own, sum64, add_step}
use Rattle.runs.proofs.Lends.{add_same}
use Rattle.history.proofs.Rows.{adds_commute}
use Rattle.history.proofs.Facts.{touch, touch_own}

-- MODES that go together are both reading or both adding
pub together : (a b : Mode) → compatible a b ≡ true → ((a ≡ Reading) × (b ≡ Reading)) ⊎ ((a ≡ Adding) × (b ≡ Adding))
together Reading Reading e = inl (refl, refl)
together Reading Writing e = absurd (true≢false (sym e))
together Reading Adding e = absurd (true≢false (sym e))
together Writing Reading e = absurd (true≢false (sym e))
together Writing Writing e = absurd (true≢false (sym e))
together Writing Adding e = absurd (true≢false (sym e))
together Adding Reading e = absurd (true≢false (sym e))
together Adding Writing e = absurd (true≢false (sym e))
together Adding Adding e = inr (refl, refl)

-- by what a step looks at
not_adding : (m : Mode) → is_adding m ≡ false → m ≡ Adding → ⊥
not_adding m e f = false≢true (sym e ∙ ap is_adding f)

pub is_adding_law : (m : Mode) → is_adding m ≡ true → m ≡ Adding
is_adding_law Reading e = absurd (true≢false (sym e))
is_adding_law Writing e = absurd (true≢false (sym e))
is_adding_law Adding e = refl

pub is_writing : (m : Mode) → is_reading m ≡ false → is_adding m ≡ false → m ≡ Writing
is_writing Reading r a = absurd (true≢false r)
is_writing Writing r a = refl
is_writing Adding r a = absurd (true≢false a)

-- a step that was done was not refused
pub get_none : (o : Option ℕ) (d : Desk) (x v : ℕ) (scratch : List ℕ) → (get_unless o d x scratch).answer ≡ done v → o ≡ none
get_none none d x v scratch e = refl
get_none (some k) d x v scratch e = not_both true refl cc

pub put_none : (o : Option ℕ) (d : Desk) (node x : ℕ) (values scratch : List ℕ) → (put_unless o d node x values scratch).answer ≡ done tt → o ≡ none
put_none none d node x values scratch e = refl
put_none (some k) d node x values scratch e = not_both true refl cc

module _ (H : Hierarchy) (d : Desk) (party node : ℕ) (values scratch : List ℕ) where
  -- the party holds, in a mode that P holds of
  abbrev HoldsIn : (Mode → Type 0) → Type 0
  HoldsIn P = (l : Lock) × (stage_at d party ≡ Holding l) × P l.mode

  -- what the step's own checks say of its hold
  own_says : (own : List Check) → refusal (value_checks H d party node values scratch own) ≡ none → NoneHolds own
  own_says own e = refusal_none own (touch_own H d party node values scratch own e)

  -- a get that is answered with a value is in a visit that isn't adding
  pub get_possible : (v : ℕ) → (get_step H d party node values scratch).answer ≡ done v → HoldsIn (λ m. m ≡ Adding → ⊥)
  unfolding get_step
  get_possible v e =
      let fine = get_none (refusal (value_checks H d party node values scratch (get_own d party))) d (get_or values node 0) v (scratch_left H values scratch) e in
      let at_node = (touch H d party node values scratch (get_own d party) fine).at_node in
      (at_node.hold, at_node.holds, not_adding at_node.hold.mode (rw at_node.holds at (own_says (get_own d party) fine).0))

  -- a put that is stored is in a writing visit
  pub put_possible : (value : ℕ) → (put_step H d party node value values scratch).answer ≡ done tt → HoldsIn (λ m. m ≡ Writing)
  unfolding put_step
  put_possible value e =
      let fine = put_none (refusal (value_checks H d party node values scratch (put_own d party))) d node value values (scratch_left H values scratch) e in
      let at_node = (touch H d party node values scratch (put_own d party) fine).at_node in
      let own = own_says (put_own d party) fine in
      (at_node.hold, at_node.holds, is_writing at_node.hold.mode (rw at_node.holds at own.0) (rw at_node.holds at own.1.0))

  -- an add that is done is in an adding visit, and leaves the sum
  module _ (number : ℕ) where
    abbrev add_refusal : List ℕ → List ℕ → Option ℕ
    add_refusal vs c = refusal (value_checks H d party node vs c (add_own d party))

    add_none : (add_step H d party node number values scratch).answer ≡ done tt → add_refusal values scratch ≡ none
    unfolding add_step
    add_none e = put_none (add_refusal values scratch) d node (sum64 (get_or values node 0) number) values (scratch_left H values scratch) e

    pub add_possible : (add_step H d party node number values scratch).answer ≡ done tt → HoldsIn (λ m. m ≡ Adding)
    add_possible e =
        let at_node = (touch H d party node values scratch (add_own d party) (add_none e)).at_node in
        let own = not-false (adds_only (stage_at d party)) (own_says (add_own d party) (add_none e)).0 in
        (at_node.hold, at_node.holds, is_adding_law at_node.hold.mode (rw at_node.holds at own))

    pub add_sum : (add_step H d party node number values scratch).answer ≡ done tt
        → (add_step H d party node number values scratch).values ≡ set values node (sum64 (get_or values node 0) number)
    unfolding add_step
    add_sum e = rw (add_none e) refl

    -- it is done likewise on any other values, as many, and with any other scratch that is long enough
    pub add_again : (others c : List ℕ) → length others ≡ length values → 256 ≤ length c → (add_step H d party node number values scratch).answer ≡ done tt
        → (add_step H d party node number others c).answer ≡ done tt
    unfolding add_step
    add_again others c same room e =
        let lent = (touch H d party node values scratch (add_own d party) (add_none e)).step.own_lent in
        let few : ltb (length others) H.n ≡ false
        = ap (λ (k : ℕ). ltb k H.n) same ∙ or_left (ltb (length values) H.n) (ltb (length scratch) 256) lent in
        let short : values_short H others c ≡ values_short H values scratch = or_neither _ _ few (le-ltb (length c) 256 room) ∙ sym lent in
        let fine : add_refusal others c ≡ none =
        ap (λ (b : Bool). refusal (step_checks H d party b (node_checks H d party node (add_own d party)))) short
        ∙ add_none e in
        rw fine refl

-- TWO ADDS, neither refused, one behind the other: in either order both are done, and leave the same desk and values, at one node or at two. The second
-- is lent any scratch that is long enough, what the first left in it or another
pub adds_either : (H : Hierarchy) (d : Desk) (p q r s x y : ℕ) (values c c' : List ℕ)
    → let one = add_step H d p r x values c in let other = add_step H d q s y values c' in one.answer ≡ done tt → other.answer ≡ done tt
    → (e e' : List ℕ) → 256 ≤ length e → 256 ≤ length e'
    → let behind-one = add_step H one.desk q s y one.values e in let behind-other = add_step H other.desk p r x other.values e' in
    (behind-one.answer ≡ done tt) × (behind-other.answer ≡ done tt) × (behind-one.desk ≡ behind-other.desk) × (behind-one.values ≡ behind-other.values)
adds_either H d p q r s x y values c c' f g e e' room room' =
    rw (add_same H d p r x values c, add_same H d q s y values c')
    (let one = add_sum H d p r values c x f in
    let other = add_sum H d q s values c' y g in
    let a = add_again H d q s values c' y _ e (ap length one ∙ length-set values r _) room g in
    let b = add_again H d p r values c x _ e' (ap length other ∙ length-set values s _) room' f in (
      a,
      b,
      add_same H d q s y _ e ∙ sym (add_same H d p r x _ e'),
      add_sum H d q s _ e y a ∙ ap (λ (vs : List ℕ). set vs s (sum64 (get_or vs s 0) y)) one ∙ adds_commute values r s x y
          ∙ sym (add_sum H d p r _ e' x b ∙ ap (λ (vs : List ℕ). set vs r (sum64 (get_or vs r 0) x)) other),
    ))
