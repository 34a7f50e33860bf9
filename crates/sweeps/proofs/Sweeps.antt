-- The pass over the waiters, one by one: what a turn of the loop leaves. Assumes nothing.
use mathlib.Core.Path.{◌≡◌, refl, sym, ap, subst, ◌∙◌}
use mathlib.Core.List.{List, [], ◌∷◌, ◌++◌}
use mathlib.Core.Bool.{Bool, true, false, not, ◌||◌}
use Prim.Native.Nat.{ℕ, ◌+◌, ◌≤◌, ◌<◌}
use native.Mathlib.Omega.{arith}
use lib.Dec.{eqb, ltb}
use lib.ListN.{length, get_or, take, set, length-set, length-append}
use lib.Seq.{take_all}
use Rattle.lists.specs.Lists.{keep}
use Rattle.lists.proofs.Bools.{bool, not_both}
use Rattle.lists.proofs.Loops.{take_step}
use Rattle.locks.specs.declared.Lock.{Lock}
use Rattle.locks.specs.declared.Stage.{Stage}
use Rattle.locks.specs.declared.Stage.TheVariants.{Out, Waiting, Holding}
use Rattle.parties.specs.declared.Entry.{Entry}
use Rattle.parties.specs.Parties.{entry_of, stage_in, meets_holder, meets_waiter}
use Rattle.arrivals.specs.declared.Listed.{Listed}
use Rattle.arrivals.specs.Arrivals.{list_of, nobody, pushed, Lists}
use Rattle.sweeps.specs.Sweeps.{Sweep, stays_waiting, offer_if, offer_to, offer, sweep, sweep_of, leaving_of, Sweeps}
use Rattle.sweeps.specs.Inner.{may_go}
use Rattle.locks.specs.Stages.{held}
use borrow.Author.Tests.{ltb-true, ltb-false}
use Rattle.arrivals.proofs.Queues.{kept_places, listed_take, lists_push, push_count}
use Rattle.parties.proofs.Stages.{past_out}

-- one waiter is taken: granted, or left waiting
abbrev goes_on : Sweep → ℕ → Sweep
goes_on s party =
    record { entries = set s.entries party (entry_of (held (stage_in s.entries party))); stay = s.stay; granted = s.granted ++ (party ∷ []) }

offer_goes : (s : Sweep) (party : ℕ) → may_go s.entries s.stay (stage_in s.entries party) ≡ true → offer s party ≡ goes_on s party
unfolding offer
offer_goes s party e = by (stage_in s.entries party) refl e
  where
    by : (x : Stage) → stage_in s.entries party ≡ x → may_go s.entries s.stay x ≡ true
        → offer_to s party x ≡ record { entries = set s.entries party (entry_of (held x)); stay = s.stay; granted = s.granted ++ (party ∷ []) }
    by Out q e = not_both true refl (sym e)
    by (Waiting l) q e = ap (λ (b : Bool). offer_if b s party l) e
    by (Holding l) q e = not_both true refl (sym e)

offer_stays : (s : Sweep) (party : ℕ) → may_go s.entries s.stay (stage_in s.entries party) ≡ false → offer s party ≡ stays_waiting s party
unfolding offer
offer_stays s party e = by (stage_in s.entries party) e
  where
    by : (x : Stage) → may_go s.entries s.stay x ≡ false → offer_to s party x ≡ stays_waiting s party
    by Out e = refl
    by (Waiting l) e = ap (λ (b : Bool). offer_if b s party l) e
    by (Holding l) e = refl

sweep_snoc : (s : Sweep) (xs : List ℕ) (x : ℕ) → sweep s (xs ++ (x ∷ [])) ≡ offer (sweep s xs) x
unfolding sweep
sweep_snoc s [] x = refl
sweep_snoc s (y ∷ xs) x = sweep_snoc (offer s y) xs x

-- no more are granted than are taken
offer_granted : (s : Sweep) (party : ℕ) → length (offer s party).granted ≤ length s.granted + 1
unfolding offer
offer_granted s party = by (stage_in s.entries party)
  where
    if : (b : Bool) (l : Lock) → length (offer_if b s party l).granted ≤ length s.granted + 1
    if true l = omega (arith, length-append s.granted (party ∷ []))
    if false l = omega arith

    by : (x : Stage) → length (offer_to s party x).granted ≤ length s.granted + 1
    by Out = omega arith
    by (Waiting l) = if (not (meets_holder s.entries l || meets_waiter s.entries s.stay l)) l
    by (Holding l) = omega arith

sweep_granted : (s : Sweep) (l : List ℕ) → length (sweep s l).granted ≤ length s.granted + length l
unfolding sweep
sweep_granted s [] = omega arith
sweep_granted s (party ∷ l) = omega (arith, sweep_granted (offer s party) l, offer_granted s party)

-- so of an arrival list no more than its places
pub leaving_few : (entries : List Entry) (places : List ℕ) (count party : ℕ) → length places ≡ 32 → length (leaving_of entries (take count places) party).granted ≤ 32
leaving_few entries places count party long =
    let others : List ℕ = keep (λ other. not (eqb other party)) (take count places) in
    let none : length {A = ℕ} [] ≡ 0 = refl in
    omega (arith, none, sweep_granted (record { entries = set entries party (entry_of Out); stay = []; granted = [] }) others, kept_places (λ other. not (eqb other party)) places count long)

-- who may go is one of the 32
pub goes_within : (entries : List Entry) (stay : List ℕ) (party : ℕ) → length entries ≡ 32 → may_go entries stay (stage_in entries party) ≡ true → party < 32
goes_within entries stay party long may =
    bool (ltb party 32)
    (λ e. ltb-true party 32 e)
    (λ e. let over : 32 ≤ party = ltb-false party 32 e in
    not_both false (ap (may_go entries stay) (past_out entries party (omega (arith, long))) ∙ may) refl)

-- THE LOOP over the waiters l, at its place i, from the entries e₀
module _ (e₀ : List Entry) (l : List ℕ) where
  abbrev pub passed : ℕ → Sweep
  passed i = sweep_of e₀ (take i l)

  pub record Passing (entries : List Entry) (stay granted : Listed) (i : ℕ) : Type 0 where
    pub long : length entries ≡ 32
    pub left : entries ≡ (passed i).entries
    pub stays : Lists stay (passed i).stay
    pub goes : Lists granted (passed i).granted
    pub parted : stay.count + granted.count ≡ i

  pub passing_start : length e₀ ≡ 32 → Passing e₀ nobody nobody 0
  unfolding sweep
  passing_start long = record { long = long; left = refl; stays = (refl, refl); goes = (refl, refl); parted = refl }

  module _ (few : length l ≤ 32) (entries : List Entry) (stay granted : Listed) (i : ℕ) (k : Passing entries stay granted i) where
    abbrev now-at : Sweep
    now-at = passed i

    module _ (h : i < length l) (party : ℕ) (at-l : party ≡ get_or l i 0) (s : Stage) (is : s ≡ stage_in entries party) where
      -- what was read is the party's stage
      same : s ≡ stage_in now-at.entries party
      same = is ∙ ap (λ (x : List Entry). stage_in x party) k.left

      -- what stays waiting is what the list says
      asked : may_go now-at.entries now-at.stay (stage_in now-at.entries party) ≡ may_go entries (list_of stay) s
      asked =
          ap (may_go now-at.entries now-at.stay) (sym same) ∙ ap (λ (x : List Entry). may_go x now-at.stay s) (sym k.left)
          ∙ ap (λ (t : List ℕ). may_go entries t s) (sym (listed_take stay now-at.stay k.stays (let (p, q) = k.stays in omega (arith, k.parted, q))))

      one_more : passed (i + 1) ≡ offer now-at party
      one_more =
          ap (sweep_of e₀) (take_step l i 0 h) ∙ sweep_snoc _ (take i l) (get_or l i 0) ∙ ap (offer now-at) (sym at-l)

      pub passing_goes : (h' : Stage) → h' ≡ held s → may_go entries (list_of stay) s ≡ true → (granted' : Listed) → granted' ≡ pushed granted party
          → Passing (set entries party (entry_of h')) stay granted' (i + 1)
      passing_goes h' eh may granted' e =
          let on : passed (i + 1) ≡ goes_on now-at party = one_more ∙ offer_goes now-at party (asked ∙ may) in
          let (p, q) = k.goes in
          rw e (record {
            long = length-set entries party (entry_of h') ∙ k.long;
            left =
                ap (λ (x : Stage). set entries party (entry_of x)) (eh ∙ ap held same)
                ∙ ap (λ (t : List Entry). set t party (entry_of (held (stage_in now-at.entries party)))) k.left
                ∙ ap (λ (x : Sweep). x.entries) (sym on);
            stays = subst (λ (x : Sweep). Lists stay x.stay) (sym on) k.stays;
            goes = subst (λ (x : Sweep). Lists (pushed granted party) x.granted) (sym on) (lists_push granted now-at.granted party (omega (arith, q, k.parted)) k.goes);
            parted = omega (arith, k.parted, push_count granted party (omega (arith, k.parted)));
          })

      pub passing_stays : may_go entries (list_of stay) s ≡ false → (stay' : Listed) → stay' ≡ pushed stay party → Passing entries stay' granted (i + 1)
      passing_stays may stay' e =
          let on : passed (i + 1) ≡ stays_waiting now-at party = one_more ∙ offer_stays now-at party (asked ∙ may) in
          let (p, q) = k.stays in
          rw e (record {
            long = k.long;
            left = k.left ∙ ap (λ (x : Sweep). x.entries) (sym on);
            stays = subst (λ (x : Sweep). Lists (pushed stay party) x.stay) (sym on) (lists_push stay now-at.stay party (omega (arith, q, k.parted)) k.stays);
            goes = subst (λ (x : Sweep). Lists granted x.granted) (sym on) k.goes;
            parted = omega (arith, k.parted, push_count stay party (omega (arith, k.parted)));
          })

    pub passing_end : length l ≤ i → (l' : List ℕ) → l ≡ l' → Sweeps (sweep_of e₀ l') (record { entries = entries; stay = stay; granted = granted })
    passing_end h l' q =
        let e : now-at ≡ sweep_of e₀ l' = ap (sweep_of e₀) (take_all i l h ∙ q) in
        record {
          entries = k.left ∙ ap (λ (x : Sweep). x.entries) e;
          stay = subst (λ (x : Sweep). Lists stay x.stay) e k.stays;
          granted = subst (λ (x : Sweep). Lists granted x.granted) e k.goes;
        }
