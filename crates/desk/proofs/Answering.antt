-- What enter and leave hand back, by what their code has found out. Assumes nothing.
use Rattle.std.proofs.Common.{◌≡◌, ℕ, ◌≤◌, Bool, true, false, List, length, take, sym, refl, ap, ◌∙◌, Ok}
use mathlib.Core.Option.{Option, none}
use Rattle.lists.specs.Lists.{over}
use Rattle.lists.specs.Answer.{done}
use Rattle.locks.specs.declared.Mode.{Mode}
use Rattle.locks.specs.declared.Lock.{Lock}
use Rattle.locks.specs.Lent.{Hierarchy, lock_for}
use Rattle.sweeps.specs.declared.Swept.{Swept}
use Rattle.sweeps.specs.Sweeps.{Sweeps}
use Rattle.arrivals.proofs.Queues.{listed_take}
use Rattle.grants.specs.Grants.{count_grants}
use Rattle.desk.specs.declared.Desk.{Desk}
use Rattle.desk.specs.declared.EnterAnswer.TheVariants.{Granted, Waits}
use Rattle.desk.specs.Steps.{granted, enter_refusal, grant_to, queue_last, free, enter_if, enter_unless, enter_step, after_leaving, leave_unless, leave_refusal, leave_step}
use Rattle.desk.specs.Answers.{Enters, Leaves}
use Rattle.desk.specs.Inner.{left_by}

-- ENTER
module _ (H : Hierarchy) (d : Desk) (party : ℕ) (mode : Mode) (names : List ℕ) (name_count : ℕ) where
  abbrev lock : Lock
  lock = lock_for H mode (take name_count names)

  entered : (o : Option ℕ) → enter_refusal H d party names name_count ≡ o → enter_step H d party mode names name_count ≡ enter_unless o d party lock
  unfolding enter_step
  entered o e = ap (λ (x : Option ℕ). enter_unless x d party lock) e

  pub enter_granted : (d' : Desk) (l : Lock) (cover : ℕ) → cover ≡ l.cover → enter_refusal H d party names name_count ≡ none → l ≡ lock
      → free d l ≡ true → d' ≡ grant_to d party l → Enters (record { desk = d'; answer = Granted cover }) (enter_step H d party mode names name_count)
  enter_granted d' l cover is_cover e same f ed =
      let is : enter_step H d party mode names name_count ≡ enter_if true d party lock
      = entered none e ∙ ap (λ (b : Bool). enter_if b d party lock) (ap (free d) (sym same) ∙ f) in
      rw is (ed ∙ ap (grant_to d party) same, ap (λ (x : ℕ). done (granted x)) (is_cover ∙ ap (λ (x : Lock). x.cover) same))

  pub enter_waits : (d' : Desk) (l : Lock) → enter_refusal H d party names name_count ≡ none → l ≡ lock
      → free d l ≡ false → d' ≡ queue_last d party l → Enters (record { desk = d'; answer = Waits }) (enter_step H d party mode names name_count)
  enter_waits d' l e same f ed =
      let is : enter_step H d party mode names name_count ≡ enter_if false d party lock
      = entered none e ∙ ap (λ (b : Bool). enter_if b d party lock) (ap (free d) (sym same) ∙ f) in
      rw is (ed ∙ ap (queue_last d party) same, refl)

-- LEAVE
module _ (H : Hierarchy) (d : Desk) (party : ℕ) (list : List ℕ) where
  left : (o : Option ℕ) → leave_refusal H d party list ≡ o → leave_step H d party list ≡ leave_unless o d party list
  unfolding leave_step
  left o e = ap (λ (x : Option ℕ). leave_unless x d party list) e

  pub leave_left : leave_refusal H d party list ≡ none → (r : Swept) (list' : List ℕ) (next : Desk) → Sweeps (after_leaving d party) r → length (after_leaving d party).granted ≤ 32
      → list' ≡ over (take r.granted.count r.granted.places) list → next ≡ left_by d r
      → Leaves (record { desk = next; answer = Ok r.granted.count }) list' (leave_step H d party list)
  leave_left e r list' next k few el en =
      let all = listed_take r.granted (after_leaving d party).granted k.granted few in
      rw (left none e) (
        en ∙ (λ i. record {
          entries = k.entries i;
          queue = k.stay.0 i;
          waiting = k.stay.1 i;
          grants = count_grants d.grants (all i);
        }),
        ap done k.granted.1,
        el ∙ ap (λ (t : List ℕ). over t list) all,
      )
