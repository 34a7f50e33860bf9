-- THEOREMS about the desk: a refused step changes nothing, and a fresh desk is sound. Assumes nothing.
use mathlib.Core.Path.{◌≡◌, refl}
use mathlib.Core.List.{List}
use mathlib.Core.Bool.{Bool, true, false}
use mathlib.Core.Option.{Option, none, some}
use Prim.Native.Nat.{ℕ}
use lib.ListN.{get_or, take}
use Rattle.lists.specs.Lists.{all_below}
use Rattle.lists.specs.Answer.{refused, refusal}
use Rattle.lists.proofs.Bools.{not_both}
use Rattle.locks.specs.declared.Mode.{Mode}
use Rattle.locks.specs.declared.Lock.{Lock}
use Rattle.locks.specs.Lent.{Hierarchy, lock_for}
use Rattle.desk.specs.declared.Desk.{Desk}
use Rattle.desk.specs.Desks.{fresh_desk}
use Rattle.parties.specs.Sound.{sound_parties}
use Rattle.desk.specs.Sound.{sound_desk}
use Rattle.desk.specs.Steps.{get_own, put_own, add_own, free, enter_refusal, enter_if, enter_unless, enter_step, value_checks, scratch_left, get_unless, get_step, put_unless, put_step, sum64, add_step}
use Rattle.desk.specs.Steps.{leave_refusal, leave_unless, leave_step}
use Rattle.runs.proofs.Lends.{put_same, add_same}

-- A REFUSED STEP CHANGES NOTHING: the desk handed back is the one given, and so is every buffer but the scratch of the search (proofs/Scratch says what is in that)
pub refused_enter : (H : Hierarchy) (d : Desk) (party : ℕ) (mode : Mode) (names : List ℕ) (name_count k : ℕ)
    → (enter_step H d party mode names name_count).answer ≡ refused k → (enter_step H d party mode names name_count).desk ≡ d
unfolding enter_step
refused_enter H d party mode names name_count k e = by (enter_refusal H d party names name_count) (lock_for H mode (take name_count names)) e
  where
    admitted : (b : Bool) (l : Lock) → (enter_if b d party l).answer ≡ refused k → (enter_if b d party l).desk ≡ d
    admitted true l e = not_both true refl cc
    admitted false l e = not_both true refl cc

    by : (o : Option ℕ) (l : Lock) → (enter_unless o d party l).answer ≡ refused k → (enter_unless o d party l).desk ≡ d
    by (some j) l e = refl
    by none l e = admitted (free d l) l e

-- get changes no desk in any case
pub unchanged_get : (H : Hierarchy) (d : Desk) (party node : ℕ) (values scratch : List ℕ) → (get_step H d party node values scratch).desk ≡ d
unfolding get_step
unchanged_get H d party node values scratch = by (refusal (value_checks H d party node values scratch (get_own d party))) (get_or values node 0) (scratch_left H values scratch)
  where
    by : (o : Option ℕ) (x : ℕ) (c : List ℕ) → (get_unless o d x c).desk ≡ d
    by (some j) x c = refl
    by none x c = refl

-- where put and add are refused, they change no value
module _ (d : Desk) (node value : ℕ) (values scratch : List ℕ) where
  unless_refused : (k : ℕ) (o : Option ℕ) → (put_unless o d node value values scratch).answer ≡ refused k → (put_unless o d node value values scratch).values ≡ values
  unless_refused k (some j) e = refl
  unless_refused k none e = not_both true refl cc

-- they change no desk in any case
pub unchanged_put : (H : Hierarchy) (d : Desk) (party node value : ℕ) (values scratch : List ℕ) → (put_step H d party node value values scratch).desk ≡ d
unchanged_put = put_same

pub refused_put : (H : Hierarchy) (d : Desk) (party node value k : ℕ) (values scratch : List ℕ) → (put_step H d party node value values scratch).answer ≡ refused k
    → (put_step H d party node value values scratch).values ≡ values
unfolding put_step
refused_put H d party node value k values scratch e =
    unless_refused d node value values (scratch_left H values scratch) k (refusal (value_checks H d party node values scratch (put_own d party))) e

pub unchanged_add : (H : Hierarchy) (d : Desk) (party node number : ℕ) (values scratch : List ℕ) → (add_step H d party node number values scratch).desk ≡ d
unchanged_add = add_same

pub refused_add : (H : Hierarchy) (d : Desk) (party node number k : ℕ) (values scratch : List ℕ) → (add_step H d party node number values scratch).answer ≡ refused k
    → (add_step H d party node number values scratch).values ≡ values
unfolding add_step
refused_add H d party node number k values scratch e =
    unless_refused d node (sum64 (get_or values node 0) number) values (scratch_left H values scratch) k (refusal (value_checks H d party node values scratch (add_own d party))) e

pub refused_leave : (H : Hierarchy) (d : Desk) (party k : ℕ) (list : List ℕ) → (leave_step H d party list).answer ≡ refused k
    → ((leave_step H d party list).desk ≡ d) × ((leave_step H d party list).list ≡ list)
unfolding leave_step
refused_leave H d party k list e = by (leave_refusal H d party list) e
  where
    by : (o : Option ℕ) → (leave_unless o d party list).answer ≡ refused k → ((leave_unless o d party list).desk ≡ d) × ((leave_unless o d party list).list ≡ list)
    by (some j) e = (refl, refl)
    by none e = not_both true refl cc

-- A FRESH DESK IS SOUND, over every hierarchy whatever, so over every built one
pub fresh_sound : (H : Hierarchy) → sound_desk H fresh_desk ≡ true
unfolding sound_parties all_below
fresh_sound H = refl
