-- Which holders there are after a step, and what an unrefused get, put or add knows. Assumes nothing.
use mathlib.Core.Path.{◌≡◌, refl, sym, ap, ◌∙◌, subst}
use mathlib.Core.Logic.{◌⊎◌, inl, inr, ◌≢◌}
use mathlib.Core.List.{List, [], ◌∷◌, ◌++◌, map}
use mathlib.Core.Bool.{Bool, true, false, not, ◌&&◌, ◌||◌, or-true, true≢false, and_comm}
use mathlib.Core.Option.{none}
use Prim.Native.Nat.{ℕ, zero, suc, ◌≤◌, ◌<◌}
use native.Mathlib.Omega.{arith}
use lib.Dec.{eqb, leb, ltb}
use lib.ListN.{length, set, replicate, length-set}
use borrow.Author.Tests.{eq-eqb, leb-true, ltb-true, ltb-false, not-true}
use Rattle.lists.specs.Lists.{all_below, any_below}
use Rattle.lists.specs.Answer.{Check, refusal}
use Rattle.lists.proofs.Bools.{bool, and_left, and_right, or_left}
use Rattle.lists.proofs.Bounded.{all_at}
use Rattle.locks.specs.declared.Lock.{Lock}
use Rattle.locks.specs.declared.Stage.{Stage}
use Rattle.locks.specs.declared.Stage.TheVariants.{Out, Waiting, Holding}
use Rattle.parties.specs.declared.Entry.{Entry}
use Rattle.desk.specs.declared.Desk.{Desk}
use Rattle.locks.specs.Locks.{conflict}
use Rattle.locks.specs.Lent.{Hierarchy, low_in, high_in, interval_wrong}
use Rattle.locks.specs.Stages.{is_out, holders_conflict}
use Rattle.parties.specs.Parties.{entry_of, stage_in, meets_holder, meets_waiter}
use Rattle.parties.specs.Sound.{holders_apart}
use Rattle.parties.proofs.Clauses.{clauses}
use Rattle.sweeps.specs.Sweeps.{Sweep, stays_waiting, is_granted, offer_if, offer_to, offer, sweep}
use Rattle.desk.specs.Desks.{stage_at}
use Rattle.desk.specs.Sound.{sound_desk}
use Rattle.desk.specs.Steps.{StepFacts, NodeFacts, values_short, value_checks}
use Rattle.locks.proofs.Tables.{not_wrong}
use Rattle.desk.proofs.Facts.{step_own, step_facts, node_own_none, node_facts}
use Rattle.history.specs.History.{begun, visited}
use Rattle.history.proofs.Rows.{compatible_sym}

-- STAGES. A holder after a store held before, or is the one stored
pub set_stage : (es : List Entry) (p q : ℕ) (x : Stage) (h : Lock) → stage_in (set es p (entry_of x)) q ≡ Holding h → ((p ≡ q) × (x ≡ Holding h)) ⊎ (stage_in es q ≡ Holding h)
set_stage [] p q x h e = inr e
set_stage (y ∷ es) zero zero x h e = inl (refl, e)
set_stage (y ∷ es) zero (suc q) x h e = inr e
set_stage (y ∷ es) (suc p) zero x h e = inr e
set_stage (y ∷ es) (suc p) (suc q) x h e = up (set_stage es p q x h e)
  where
    up : ((p ≡ q) × (x ≡ Holding h)) ⊎ (stage_in es q ≡ Holding h) → ((suc p ≡ suc q) × (x ≡ Holding h)) ⊎ (stage_in es q ≡ Holding h)
    up (inl g) = inl (ap suc g.0, g.1)
    up (inr g) = inr g

-- a party that is not out has an entry: one that holds, and one that waits
there_below : (es : List Entry) (q : ℕ) → is_out (stage_in es q) ≡ false → q < length es
there_below [] q e = absurd (true≢false e)
there_below (y ∷ es) zero e = omega arith
there_below (y ∷ es) (suc q) e = let i : q < length es = there_below es q e in omega arith

pub holder_below : (es : List Entry) (q : ℕ) (h : Lock) → stage_in es q ≡ Holding h → q < length es
holder_below es q h e = there_below es q (ap is_out e)

pub waiter_below : (es : List Entry) (q : ℕ) (l : Lock) → stage_in es q ≡ Waiting l → q < length es
waiter_below es q l e = there_below es q (ap is_out e)

-- what holds of a party's stage holds after a store, where it holds of what is stored if that is the party's
pub stage_by : (Q : Stage → Type 0) (es : List Entry) (q p : ℕ) (x : Stage) → (q ≡ p → Q x) → Q (stage_in es p) → Q (stage_in (set es q (entry_of x)) p)
stage_by Q [] q p x f g = g
stage_by Q (e ∷ es) zero zero x f g = f refl
stage_by Q (e ∷ es) zero (suc p) x f g = g
stage_by Q (e ∷ es) (suc q) zero x f g = g
stage_by Q (e ∷ es) (suc q) (suc p) x f g = stage_by Q es q p x (λ i. f (ap suc i)) g

-- and at the party stored, where it holds of what is stored and of a party that is out
pub stage_own : (Q : Stage → Type 0) (es : List Entry) (q : ℕ) (x : Stage) → Q x → Q Out → Q (stage_in (set es q (entry_of x)) q)
stage_own Q [] q x f g = g
stage_own Q (e ∷ es) zero x f g = f
stage_own Q (e ∷ es) (suc q) x f g = stage_own Q es q x f g

pub all_out : (n q : ℕ) → stage_in (replicate n (entry_of Out)) q ≡ Out
all_out zero q = refl
all_out (suc n) zero = refl
all_out (suc n) (suc q) = all_out n q

-- A LEAVE'S PASS

-- those granted so far are among those granted
visited_more : (p party : ℕ) (qs : List ℕ) → visited {A = Unit {0}} p (map begun qs) ≡ true → visited {A = Unit {0}} p (map begun (qs ++ (party ∷ []))) ≡ true
unfolding visited begun
visited_more p party [] g = absurd (true≢false (sym g))
visited_more p party (q ∷ qs) g = bool (eqb q p) (λ a. rw a) (λ a. rw a (visited_more p party qs (rw a at g)))

visited_last : (p party : ℕ) (qs : List ℕ) → party ≡ p → visited {A = Unit {0}} p (map begun (qs ++ (party ∷ []))) ≡ true
unfolding visited begun
visited_last p party [] e = rw (eq-eqb party p e)
visited_last p party (q ∷ qs) e = rw (visited_last p party qs e) (or-true (eqb q p))

-- what a turn of the pass does, it does to a waiter that is granted or to one that stays
offer_by : (P : Sweep → Type 0) (s : Sweep) (party : ℕ) → P (stays_waiting s party) → ((l : Lock) → P (is_granted s party l)) → P (offer s party)
unfolding offer
offer_by P s party stays goes = by (stage_in s.entries party)
  where
    test : (b : Bool) (l : Lock) → P (offer_if b s party l)
    test true l = goes l
    test false l = stays

    by : (st : Stage) → P (offer_to s party st)
    by Out = stays
    by (Waiting l) = test (not (meets_holder s.entries l || meets_waiter s.entries s.stay l)) l
    by (Holding l) = stays

sweep_granted : (p : ℕ) (qs : List ℕ) (s : Sweep) → visited {A = Unit {0}} p (map begun s.granted) ≡ true → visited {A = Unit {0}} p (map begun (sweep s qs).granted) ≡ true
unfolding sweep
sweep_granted p [] s e = e
sweep_granted p (q ∷ qs) s e =
    sweep_granted p qs (offer s q) (offer_by (λ t. visited {A = Unit {0}} p (map begun t.granted) ≡ true) s q e (λ l. visited_more p q s.granted e))

pub sweep_length : (qs : List ℕ) (s : Sweep) → length (sweep s qs).entries ≡ length s.entries
unfolding sweep
sweep_length [] s = refl
sweep_length (q ∷ qs) s =
    sweep_length qs (offer s q) ∙ offer_by (λ t. length t.entries ≡ length s.entries) s q refl (λ l. length-set s.entries q (entry_of (Holding l)))

-- what holds of a party's stage holds after a turn of the pass, and after the pass, where it goes over from waiting for a lock to holding it
module _ (Q : Stage → Type 0) (up : (l : Lock) → Q (Waiting l) → Q (Holding l)) (p : ℕ) where
  offer_stage : (s : Sweep) (q : ℕ) → Q (stage_in s.entries p) → Q (stage_in (offer s q).entries p)
  unfolding offer
  offer_stage s q k = by (stage_in s.entries q) refl
    where
      test : (b : Bool) (l : Lock) → stage_in s.entries q ≡ Waiting l → Q (stage_in (offer_if b s q l).entries p)
      test true l e = stage_by Q s.entries q p (Holding l) (λ i. up l (subst Q (ap (stage_in s.entries) (sym i) ∙ e) k)) k
      test false l e = k

      by : (x : Stage) → stage_in s.entries q ≡ x → Q (stage_in (offer_to s q x).entries p)
      by Out e = k
      by (Waiting l) e = test (not (meets_holder s.entries l || meets_waiter s.entries s.stay l)) l e
      by (Holding l) e = k

  pub sweep_stage : (qs : List ℕ) (s : Sweep) → Q (stage_in s.entries p) → Q (stage_in (sweep s qs).entries p)
  unfolding sweep
  sweep_stage [] s k = k
  sweep_stage (q ∷ qs) s k = sweep_stage qs (offer s q) (offer_stage s q k)

-- a holder after the pass was granted in it, or held before
pub sweep_holds : (p : ℕ) (h : Lock) (qs : List ℕ) (s : Sweep) → stage_in (sweep s qs).entries p ≡ Holding h
    → (visited {A = Unit {0}} p (map begun (sweep s qs).granted) ≡ true) ⊎ (stage_in s.entries p ≡ Holding h)
unfolding sweep
sweep_holds p h [] s e = inr e
sweep_holds p h (q ∷ qs) s e = step (sweep_holds p h qs (offer s q) e)
  where
    Told : Sweep → Type 0
    Told t = stage_in t.entries p ≡ Holding h → (visited {A = Unit {0}} p (map begun t.granted) ≡ true) ⊎ (stage_in s.entries p ≡ Holding h)

    stored : (l : Lock) → ((q ≡ p) × (Holding l ≡ Holding h)) ⊎ (stage_in s.entries p ≡ Holding h)
        → (visited {A = Unit {0}} p (map begun (s.granted ++ (q ∷ []))) ≡ true) ⊎ (stage_in s.entries p ≡ Holding h)
    stored l (inl g) = inl (visited_last p q s.granted g.0)
    stored l (inr g) = inr g

    turn : Told (offer s q)
    turn = offer_by Told s q (λ g. inr g) (λ l g. stored l (set_stage s.entries q p (Holding l) h g))

    on : (visited {A = Unit {0}} p (map begun (offer s q).granted) ≡ true) ⊎ (stage_in s.entries p ≡ Holding h)
        → (visited {A = Unit {0}} p (map begun (sweep (offer s q) qs).granted) ≡ true) ⊎ (stage_in s.entries p ≡ Holding h)
    on (inl g) = inl (sweep_granted p qs (offer s q) g)
    on (inr g) = inr g

    step : (visited {A = Unit {0}} p (map begun (sweep (offer s q) qs).granted) ≡ true) ⊎ (stage_in (offer s q).entries p ≡ Holding h)
        → (visited {A = Unit {0}} p (map begun (sweep (offer s q) qs).granted) ≡ true) ⊎ (stage_in s.entries p ≡ Holding h)
    step (inl g) = inl g
    step (inr g) = on (turn g)

-- HOLDERS. What conflicts with another, the other conflicts with it
pub conflict_sym : (a b : Lock) → conflict a b ≡ conflict b a
conflict_sym a b = rw (and_comm (leb a.low b.high) (leb b.low a.high), compatible_sym a.mode b.mode)

-- no two holders conflict, from the test of the desk
pub holders_apart_law : (H : Hierarchy) (d : Desk) → sound_desk H d ≡ true → (p q : ℕ) (g h : Lock) → p < 32 → q < 32 → p ≢ q
    → stage_at d p ≡ Holding g → stage_at d q ≡ Holding h → conflict h g ≡ false
holders_apart_law H d s p q g h i j ne eg eh = bool (ltb q p) (λ e. below p q g h i (ltb-true q p e) eg eh)
    (λ e. conflict_sym h g ∙ below q p h g j (let n = ltb-false q p e in omega (arith, ne)) eh eg)
  where
    apart : holders_apart d.entries ≡ true
    apart = (clauses H d.entries d.queue d.waiting s).apart

    below : (a b : ℕ) (x y : Lock) → a < 32 → b < a → stage_at d a ≡ Holding x → stage_at d b ≡ Holding y → conflict y x ≡ false
    below a b x y u v ex ey =
        let none : not (holders_conflict (stage_at d a) (stage_at d b)) ≡ true =
        all_at (λ other. not (holders_conflict (stage_at d a) (stage_at d other))) a b
        (all_at (λ party. all_below party (λ other. not (holders_conflict (stage_at d party) (stage_at d other)))) 32 a apart u) v in
        not-true (conflict y x) (rw (ex, ey) at none)

-- where refusal 10 finds no interval wrong, each node's has a number
pub right_ordered : (H : Hierarchy) → any_below H.n (interval_wrong H) ≡ false → (node : ℕ) → node < H.n → low_in H node ≤ high_in H node
right_ordered H right node h =
    let low = low_in H node in
    let high = high_in H node in
    leb-true low high (and_right (leb 1 low) (leb low high) (and_left (leb 1 low && leb low high) (leb high 256) (not_wrong H node right h).0))

-- WHAT A GET, PUT OR ADD THAT IS NOT REFUSED KNOWS, over the tables as lent: what every step knows, and what it knows of its node
pub record Touch (H : Hierarchy) (d : Desk) (party node : ℕ) (values scratch : List ℕ) : Type 0 where
  pub step : StepFacts H d party (values_short H values scratch)
  pub at_node : NodeFacts H d party node

module _ (H : Hierarchy) (d : Desk) (party node : ℕ) (values scratch : List ℕ) (own : List Check) (e : refusal (value_checks H d party node values scratch own) ≡ none) where
  pub touch : Touch H d party node values scratch
  touch = record { step = step_facts H d party _ _ e; at_node = node_facts H d party node own (step_own H d party _ _ e) }

  -- its own check refuses nothing either
  pub touch_own : refusal own ≡ none
  touch_own = node_own_none H d party node own (step_own H d party _ _ e)

-- the n values are lent
pub touch_long : (H : Hierarchy) (d : Desk) (party node : ℕ) (values scratch : List ℕ) → Touch H d party node values scratch → H.n ≤ length values
touch_long H d party node values scratch t = ltb-false (length values) H.n (or_left (ltb (length values) H.n) (ltb (length scratch) 256) t.step.own_lent)
