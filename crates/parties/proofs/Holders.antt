-- The locks that stand: what they say of the holders among the first parties, and of the first waiters behind them. Assumes nothing.
use mathlib.Core.Path.{◌≡◌, refl, sym, ap, ◌∙◌}
use mathlib.Core.List.{List, [], ◌∷◌, ◌++◌}
use mathlib.Core.Bool.{Bool, true, false, not, ◌&&◌, ◌||◌, or-false, or_assoc, and-false}
use Prim.Native.Nat.{ℕ, zero, suc, ◌+◌, ◌≤◌, ◌<◌}
use native.Mathlib.Omega.{arith}
use lib.ListN.{length, get_or, take}
use Rattle.lists.specs.Lists.{all_below, any_below, any}
use Rattle.lists.proofs.Bools.{and_both}
use Rattle.lists.proofs.Bounded.{all_of, all_next, all_stop, any_one_more, any_append}
use Rattle.lists.proofs.Loops.{take_step}
use Rattle.locks.specs.declared.Lock.{Lock}
use Rattle.locks.specs.declared.Stage.{Stage}
use Rattle.locks.specs.declared.Stage.TheVariants.{Out, Waiting, Holding}
use Rattle.locks.specs.Locks.{conflict}
use Rattle.locks.specs.Stages.{against_holder, against_waiter, holders_conflict}
use Rattle.locks.specs.Lent.{Hierarchy}
use Rattle.arrivals.specs.declared.Listed.{Listed}
use Rattle.arrivals.specs.Arrivals.{listed_in}
use Rattle.parties.specs.declared.Entry.{Entry}
use Rattle.parties.specs.declared.Standing.{Standing}
use Rattle.parties.specs.Parties.{stage_in, meets_holder, meets_waiter}
use Rattle.parties.specs.Sound.{holders_apart}
use Rattle.parties.specs.Inner.{locks_in, meets, entry_right, entries_right, HoldsOf}

-- a lock more
meets_more : (locks : List Lock) (l x : Lock) → meets (locks ++ (l ∷ [])) x ≡ meets locks x || conflict l x
meets_more [] l x = or-false (conflict l x)
meets_more (here ∷ locks) l x = ap (conflict here x ||◌) (meets_more locks l x) ∙ sym (or_assoc (conflict here x) (meets locks x) (conflict l x))

-- all fail where not one holds
not_or : (a b : Bool) → (not a && not b) ≡ not (a || b)
not_or true b = refl
not_or false b = refl

all_not : (p : ℕ → Bool) (n : ℕ) → all_below n (λ i. not (p i)) ≡ not (any_below n p)
unfolding all_below any_below
all_not p zero = refl
all_not p (suc n) = ap (◌&& not (p n)) (all_not p n) ∙ not_or (any_below n p) (p n)

any_more : (p : ℕ → Bool) (n : ℕ) → any_below (n + 1) p ≡ any_below n p || p n
any_more p n = sym (any_one_more p n (any_below n p) (p n) refl refl)

-- THE HOLDERS among the first i parties
module _ (H : Hierarchy) (entries : List Entry) (list : Listed) where
  abbrev right-at : ℕ → Bool
  right-at party = entry_right H list party (stage_in entries party)

  abbrev apart-at : ℕ → Bool
  apart-at party = all_below party (λ other. not (holders_conflict (stage_in entries party) (stage_in entries other)))

  abbrev holds : Lock → ℕ → Bool
  holds l party = against_holder l (stage_in entries party)

  pub record Gathering (i : ℕ) (r : Standing) : Type 0 where
    pub few : r.count ≤ i
    pub right : all_below i right-at ≡ true
    pub apart : all_below i apart-at ≡ true
    pub meets : (l : Lock) → any_below i (holds l) ≡ meets (locks_in r) l

  pub gathering_start : (r : Standing) → r.count ≡ 0 → Gathering 0 r
  unfolding all_below any_below
  gathering_start r e =
      record { few = omega arith; right = refl; apart = refl; meets = λ l. sym (ap (λ (k : ℕ). meets (take k r.locks) l) e) }

  -- an entry that is not right
  pub gathering_wrong : (i : ℕ) → i < 32 → right-at i ≡ false → (entries_right H entries list && holders_apart entries) ≡ false
  gathering_wrong i h e = rw (all_stop right-at 32 i h e) refl

  module _ (i : ℕ) (r : Standing) (k : Gathering i r) where
    -- a party that does not hold
    pub gathering_other : ((l : Lock) → stage_in entries i ≡ Holding l → ⊥) → right-at i ≡ true → Gathering (i + 1) r
    gathering_other other e =
        record {
          few = omega (arith, k.few);
          right = all_next right-at i k.right e;
          apart = all_next apart-at i k.apart (by (stage_in entries i) other);
          meets = λ l. any_more (holds l) i ∙ ap (any_below i (holds l) ||◌) (free l (stage_in entries i) other) ∙ or-false (any_below i (holds l)) ∙ k.meets l;
        }
      where
        by : (s : Stage) → ((l : Lock) → s ≡ Holding l → ⊥) → all_below i (λ other. not (holders_conflict s (stage_in entries other))) ≡ true
        by Out f = all_of (λ other. true) i (λ j g. refl)
        by (Waiting w) f = all_of (λ other. true) i (λ j g. refl)
        by (Holding l) f = absurd (f l refl)

        free : (l : Lock) (s : Stage) → ((h : Lock) → s ≡ Holding h → ⊥) → against_holder l s ≡ false
        free l Out f = refl
        free l (Waiting w) f = refl
        free l (Holding h) f = absurd (f h refl)

    module _ (l : Lock) (e : stage_in entries i ≡ Holding l) where
      -- a holder conflicts with an earlier one just where its lock does with those that stand
      apart_here : apart-at i ≡ not (meets (locks_in r) l)
      apart_here = ap (λ (s : Stage). all_below i (λ other. not (holders_conflict s (stage_in entries other)))) e ∙ all_not (holds l) i ∙ ap not (k.meets l)

      pub gathering_conflict : i < 32 → meets (locks_in r) l ≡ true → (entries_right H entries list && holders_apart entries) ≡ false
      gathering_conflict h m = rw (all_stop apart-at 32 i h (apart_here ∙ ap not m)) (and-false (entries_right H entries list))

      pub gathering_holder : right-at i ≡ true → meets (locks_in r) l ≡ false → (r' : Standing) → r'.count ≡ r.count + 1 → locks_in r' ≡ locks_in r ++ (l ∷ []) → Gathering (i + 1) r'
      gathering_holder w m r' p q = record {
        few = omega (arith, k.few);
        right = all_next right-at i k.right w;
        apart = all_next apart-at i k.apart (apart_here ∙ ap not m);
        meets = λ x. any_more (holds x) i ∙ ap (◌|| holds x i) (k.meets x) ∙ ap (meets (locks_in r) x ||◌) (ap (against_holder x) e)
            ∙ sym (ap (λ (t : List Lock). meets t x) q ∙ meets_more (locks_in r) l x);
      }

    pub gathering_end : i ≡ 32 → ((entries_right H entries list && holders_apart entries) ≡ true) × HoldsOf entries r
    gathering_end e = (
      and_both (entries_right H entries list) (holders_apart entries) (ap (λ (n : ℕ). all_below n right-at) (sym e) ∙ k.right)
          (ap (λ (n : ℕ). all_below n apart-at) (sym e) ∙ k.apart),
      record { few = omega (arith, k.few, e); meets = λ l. ap (λ (n : ℕ). any_below n (holds l)) (sym e) ∙ k.meets l },
    )

-- THE CALLS of the first i waiters stand behind the holds
module _ (entries : List Entry) (queue : List ℕ) where
  pub record Calling (i : ℕ) (r : Standing) : Type 0 where
    pub few : r.count ≤ 32 + i
    pub meets : (l : Lock) → meets (locks_in r) l ≡ meets_holder entries l || meets_waiter entries (take i queue) l

  pub calling_start : (r : Standing) → HoldsOf entries r → Calling 0 r
  unfolding any
  calling_start r k = record { few = omega (arith, k.few); meets = λ l. sym (k.meets l) ∙ sym (or-false (meets_holder entries l)) }

  -- a waiter more
  waiter_more : (i : ℕ) → i < length queue → (x : Lock)
      → meets_waiter entries (take (i + 1) queue) x ≡ meets_waiter entries (take i queue) x || against_waiter x (stage_in entries (listed_in queue i))
  unfolding any
  waiter_more i h x =
      let calls : ℕ → Bool = λ party. against_waiter x (stage_in entries party) in
      ap (any (λ party. against_waiter x (stage_in entries party))) (take_step queue i 0 h)
      ∙ any_append (λ party. against_waiter x (stage_in entries party)) (take i queue) (get_or queue i 0 ∷ [])
      ∙ ap (meets_waiter entries (take i queue) x ||◌) (or-false (calls (get_or queue i 0)))

  pub calling_next : (i : ℕ) (r : Standing) → i < length queue → Calling i r → (l : Lock) → stage_in entries (listed_in queue i) ≡ Waiting l
      → (r' : Standing) → r'.count ≡ r.count + 1 → locks_in r' ≡ locks_in r ++ (l ∷ []) → Calling (i + 1) r'
  calling_next i r h k l e r' p q = record {
    few = omega (arith, k.few);
    meets = λ x. ap (λ (t : List Lock). meets t x) q ∙ meets_more (locks_in r) l x ∙ ap (◌|| conflict l x) (k.meets x)
        ∙ or_assoc (meets_holder entries x) (meets_waiter entries (take i queue) x) (conflict l x)
        ∙ ap (meets_holder entries x ||◌) (sym (waiter_more i h x ∙ ap (meets_waiter entries (take i queue) x ||◌) (ap (against_waiter x) e)));
  }
