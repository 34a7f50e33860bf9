-- THEOREMS: every step, from a sound desk, hands back a sound desk, with any hierarchy and any arguments whatever. Assumes nothing.
use mathlib.Core.Path.{◌≡◌, refl, sym, ap, ◌∙◌}
use mathlib.Core.Logic.{◌≢◌}
use mathlib.Core.List.{List, [], ◌∷◌, ◌++◌, append-nil}
use mathlib.Core.Bool.{Bool, true, false, not, ◌||◌, or-true}
use mathlib.Core.Option.{Option, none, some}
use Prim.Native.Nat.{ℕ, ◌≤◌, ◌<◌}
use native.Mathlib.Omega.{arith}
use lib.Dec.{eqb, ltb}
use lib.ListN.{length, set, take, length-set, length-append}
use lib.Seq.{append_snoc}
use borrow.Author.Tests.{eq-eqb, lt-ltb, le-leb, not-true, not-false}
use Rattle.lists.specs.Lists.{keep}
use Rattle.lists.specs.Answer.{Check}
use Rattle.hierarchy.specs.Hierarchy.{size_wrong}
use Rattle.covers.specs.Cover.{call_interval}
use Rattle.lists.proofs.Bools.{bool, not_both, or_left}
use Rattle.lists.proofs.Bounded.{any_stop, any_none, none_of}
use Rattle.lists.proofs.Members.{In}
use Rattle.lists.proofs.Distinct.{any_some, any_in, every_of, in_front_law, in_between, distinct_between}
use Rattle.hierarchy.proofs.Legals.{right_size}
use Rattle.covers.proofs.Covers.{closest_below}
use Rattle.locks.specs.declared.Mode.{Mode}
use Rattle.locks.specs.declared.Lock.{Lock}
use Rattle.locks.specs.declared.Stage.{Stage}
use Rattle.locks.specs.declared.Stage.TheVariants.{Out, Waiting, Holding}
use Rattle.naming.specs.Names.{ascending, names_of, named}
use Rattle.naming.proofs.Gathering.{ascending_most}
use Rattle.locks.specs.Lent.{Hierarchy, low_in, high_in, cover_in, lock_for, inside_lock}
use Rattle.locks.specs.Stages.{is_waiting, against_holder, against_waiter}
use Rattle.locks.proofs.Tables.{not_wrong}
use Rattle.parties.specs.declared.Entry.{Entry}
use Rattle.parties.specs.Parties.{entry_of, stage_in, meets_holder, meets_waiter}
use Rattle.sweeps.specs.Sweeps.{Sweep, offer_if, offer_to, offer, sweep}
use Rattle.arrivals.proofs.Queues.{places_length}
use Rattle.desk.specs.declared.Desk.{Desk}
use Rattle.desk.specs.Desks.{stage_at, queue_of, fresh_desk}
use Rattle.desk.specs.Sound.{sound_desk}
use Rattle.desk.specs.Steps.{leave_own, enter_own, free, grant_to, queue_last, enter_refusal, enter_if, enter_unless}
use Rattle.desk.specs.Steps.{enter_step, get_step, put_step, add_step, after_leaving, leave_with, leave_refusal, leave_unless, leave_step}
use Rattle.desk.proofs.Facts.{step_facts}
use Rattle.history.proofs.Facts.{sweep_length}
use Rattle.soundness.proofs.Named.{ascending_rises, ascending_some, ascending_in, named_names}
use Rattle.soundness.proofs.Covers.{enter_out, enter_some, enter_few, enter_nodes, enter_covers}
use Rattle.soundness.proofs.Laws.{unchanged_get, unchanged_put, unchanged_add}
use Rattle.soundness.proofs.Orderly.{Shaped, Reads, Orderly, HeldUp, sound_reads, sound_orderly, sound_held, made_sound}
use Rattle.soundness.proofs.Changes.{Fit, stage_same, stage_other, waits_apart, called, ended, admitted, granted, still_meets, up_set, up_last}

-- SHAPE: a fresh desk has it
pub fresh_shaped : Shaped fresh_desk
fresh_shaped = record { entries = refl; queue = refl }

-- enter keeps it
pub enter_shaped : (H : Hierarchy) (d : Desk) (party : ℕ) (mode : Mode) (names : List ℕ) (name_count : ℕ) → Shaped d
    → Shaped (enter_step H d party mode names name_count).desk
unfolding enter_step
enter_shaped H d party mode names name_count shape = by (enter_refusal H d party names name_count)
  where
    l : Lock
    l = lock_for H mode (take name_count names)

    test : (b : Bool) → Shaped (enter_if b d party l).desk
    test true = record { entries = length-set d.entries party (entry_of (Holding l)) ∙ shape.entries; queue = places_length (queue_of d) }
    test false = record { entries = length-set d.entries party (entry_of (Waiting l)) ∙ shape.entries; queue = places_length (queue_of d ++ (party ∷ [])) }

    by : (o : Option ℕ) → Shaped (enter_unless o d party l).desk
    by (some k) = shape
    by none = test (free d l)

-- get, put and add keep it
module _ (H : Hierarchy) (d : Desk) (party node : ℕ) where
  pub get_shaped : (values scratch : List ℕ) → Shaped d → Shaped (get_step H d party node values scratch).desk
  get_shaped values scratch shape = rw (unchanged_get H d party node values scratch) shape

  pub put_shaped : (value : ℕ) (values scratch : List ℕ) → Shaped d → Shaped (put_step H d party node value values scratch).desk
  put_shaped value values scratch shape = rw (unchanged_put H d party node value values scratch) shape

  pub add_shaped : (number : ℕ) (values scratch : List ℕ) → Shaped d → Shaped (add_step H d party node number values scratch).desk
  add_shaped number values scratch shape = rw (unchanged_add H d party node number values scratch) shape

-- leave keeps it
pub leave_shaped : (H : Hierarchy) (d : Desk) (party : ℕ) (list : List ℕ) → Shaped d → Shaped (leave_step H d party list).desk
unfolding leave_step
leave_shaped H d party list shape = by (leave_refusal H d party list)
  where
    by : (o : Option ℕ) → Shaped (leave_unless o d party list).desk
    by (some k) = shape
    by none = record {
      entries =
          sweep_length (keep (λ other. not (eqb other party)) (queue_of d)) (record { entries = set d.entries party (entry_of Out); stay = []; granted = [] })
          ∙ length-set d.entries party (entry_of Out)
          ∙ shape.entries;
      queue = places_length (after_leaving d party).stay;
    }

-- THE COVER of names is a node, of n nodes that refusal 5 found right: it is looked for among them, and there is one
cover_below : (H : Hierarchy) (names : List ℕ) → size_wrong H.n ≡ false → cover_in H names < H.n
cover_below H names sized = closest_below H.intervals (call_interval H.intervals names) H.n (right_size H.n sized).0

-- ENTER, of a party that is out, with a lock that may be held
against_waits : (l : Lock) (x : Stage) → against_waiter l x ≡ true → is_waiting x ≡ true
against_waits l Out t = t
against_waits l (Waiting w) t = refl
against_waits l (Holding h) t = t

module _ (H : Hierarchy) (d : Desk) (party : ℕ) (l : Lock) (shape : Shaped d) (sound : sound_desk H d ≡ true) (below : party < 32) (out : stage_at d party ≡ Out)
    (fit : Fit H l) where
  reads : Reads d (queue_of d)
  reads = sound_reads H d shape sound

  orderly : Orderly H d.entries (queue_of d)
  orderly = sound_orderly H d (queue_of d) reads shape.entries sound

  -- no holder is the party
  holder_apart : (q : ℕ) (g : Lock) → stage_at d q ≡ Holding g → q ≢ party
  holder_apart q g e c = let s : stage_at d party ≡ Holding g = rw c at e in not_both true refl (cc)

  -- the waiters stay held up, whatever the party becomes
  up : (x : Stage) → HeldUp (set d.entries party (entry_of x)) (queue_of d)
  up x = up_set d.entries (queue_of d) party x (λ g e. holder_apart party g e refl) (λ m. waits_apart orderly party party (ap is_waiting out) m refl)
      (sound_held H d (queue_of d) reads sound)

  -- granted where it conflicts with no holder and no waiter
  grant_sound : free d l ≡ true → sound_desk H (grant_to d party l) ≡ true
  grant_sound f =
      made_sound H (grant_to d party l) (queue_of d) refl reads.count
      (admitted H d.entries (queue_of d) party l orderly below out fit
      (none_of (λ other. against_holder l (stage_at d other)) 32 (λ q h. or_left (against_holder l (stage_at d q)) (against_waiter l (stage_at d q))
      (any_none (λ other. against_holder l (stage_at d other) || against_waiter l (stage_at d other)) 32 q (not-true _ f) h))))
      (up (Holding l))

  -- it waits where it conflicts with one, and that one holds it up
  queue_sound : free d l ≡ false → sound_desk H (queue_last d party l) ≡ true
  queue_sound f =
      made_sound H (queue_last d party l) (queue_of d ++ (party ∷ [])) refl (omega (arith, reads.count, length-append (queue_of d) (party ∷ [])))
      (called H d.entries (queue_of d) party l orderly below out fit)
      (up_last fs (queue_of d) party (up (Waiting l)) (rw (stage_same d.entries party (Waiting l) (omega (arith, shape.entries)))
      (by (any_some (λ other. against_holder l (stage_at d other) || against_waiter l (stage_at d other)) 32 (not-false _ f)))))
    where
      fs : List Entry
      fs = set d.entries party (entry_of (Waiting l))

      waiter : (q : ℕ) → q < 32 → against_waiter l (stage_at d q) ≡ true → meets_waiter fs (queue_of d) l ≡ true
      waiter q h t =
          let m : In q (queue_of d) = orderly.listed q h (against_waits l (stage_at d q) t) in
          any_in (λ other. against_waiter l (stage_in fs other)) m
          (ap (against_waiter l) (stage_other d.entries party q (Waiting l) (waits_apart orderly party q (ap is_waiting out) m)) ∙ t)

      by : (q : ℕ) × (q < 32) × ((against_holder l (stage_at d q) || against_waiter l (stage_at d q)) ≡ true) → (meets_holder fs l || meets_waiter fs (queue_of d) l) ≡ true
      by (q, h, t) =
          bool (against_holder l (stage_at d q))
          (λ e. rw (still_meets d.entries fs l (λ r g k. stage_other d.entries party r (Waiting l) (holder_apart r g k) ∙ k)
          (any_stop (λ other. against_holder l (stage_at d other)) 32 q h e)))
          (λ e. rw (waiter q h (rw e at t)) (or-true (meets_holder fs l)))

  enter_if_law : (b : Bool) → free d l ≡ b → sound_desk H (enter_if b d party l).desk ≡ true
  enter_if_law true f = grant_sound f
  enter_if_law false f = queue_sound f

-- THE LOCK OF A CALL that is not refused may be held: its names are those given, ascending and each once, and the cover contains them
pub call_fit : (H : Hierarchy) (d : Desk) (party : ℕ) (mode : Mode) (names : List ℕ) (name_count : ℕ) → enter_refusal H d party names name_count ≡ none
    → Fit H (lock_for H mode (take name_count names))
call_fit H d party mode names name_count e =
    let f = step_facts H d party (ltb (length names) name_count) (enter_own H d party names name_count) e in
    let b : cover < H.n = cover_below H given f.sized in
    record {
      real = (not_wrong H cover f.intervals_right b).0;
      cover = rw (lt-ltb cover H.n b, eq-eqb (low_in H cover) (low_in H cover) refl, eq-eqb (high_in H cover) (high_in H cover) refl);
      names = rw (
        kept,
        le-leb 1 (length (ascending given)) (ascending_some given (enter_some H d party mode names name_count e)),
        le-leb (length (ascending given)) 8 few,
        every_of (λ name. ltb name H.n) (ascending given) (λ name i. lt-ltb name H.n (enter_nodes H d party mode names name_count e name (ascending_in name given i))),
      ) (ascending_rises given);
      covered = rw kept (every_of (λ name. inside_lock H name (lock_for H mode given)) (ascending given)
          (λ name i. enter_covers H d party mode names name_count e name (ascending_in name given i)));
    }
  where
    given : List ℕ
    given = take name_count names

    cover : ℕ
    cover = cover_in H given

    few : length (ascending given) ≤ 8
    few = omega (arith, ascending_most given, enter_few H d party mode names name_count e)

    kept : names_of (named (ascending given)) ≡ ascending given
    kept = named_names (ascending given) few

-- ENTER hands back a sound desk
pub enter_sound : (H : Hierarchy) (d : Desk) (party : ℕ) (mode : Mode) (names : List ℕ) (name_count : ℕ) → Shaped d → sound_desk H d ≡ true
    → sound_desk H (enter_step H d party mode names name_count).desk ≡ true
unfolding enter_step
enter_sound H d party mode names name_count shape sound = by (enter_refusal H d party names name_count) refl
  where
    l : Lock
    l = lock_for H mode (take name_count names)

    by : (o : Option ℕ) → enter_refusal H d party names name_count ≡ o → sound_desk H (enter_unless o d party l).desk ≡ true
    by (some k) e = sound
    by none e =
        let own : List Check = enter_own H d party names name_count in
        let f = step_facts H d party (ltb (length names) name_count) own e in
        enter_if_law H d party l shape sound f.party_below (enter_out H d party mode names name_count e) (call_fit H d party mode names name_count e) (free d l) refl

-- GET hands back the desk given, and so do put and add
module _ (H : Hierarchy) (d : Desk) (party node : ℕ) where
  pub get_sound : (values scratch : List ℕ) → sound_desk H d ≡ true → sound_desk H (get_step H d party node values scratch).desk ≡ true
  get_sound values scratch sound = rw (unchanged_get H d party node values scratch) sound

  pub put_sound : (value : ℕ) (values scratch : List ℕ) → sound_desk H d ≡ true → sound_desk H (put_step H d party node value values scratch).desk ≡ true
  put_sound value values scratch sound = rw (unchanged_put H d party node value values scratch) sound

  pub add_sound : (number : ℕ) (values scratch : List ℕ) → sound_desk H d ≡ true → sound_desk H (add_step H d party node number values scratch).desk ≡ true
  add_sound number values scratch sound = rw (unchanged_add H d party node number values scratch) sound

-- LEAVE'S PASS: the parties that stay and those to come are the list, and those that stay are held up
record Going (H : Hierarchy) (s : Sweep) (after : List ℕ) : Type 0 where
  orderly : Orderly H s.entries (s.stay ++ after)
  held : HeldUp s.entries s.stay

-- one waiter is taken
offer_going : (H : Hierarchy) (s : Sweep) (p : ℕ) (after : List ℕ) → Going H s (p ∷ after) → Going H (offer s p) after
unfolding offer
offer_going H s p after g = by (stage_in s.entries p) refl
  where
    waits : is_waiting (stage_in s.entries p) ≡ true
    waits = g.orderly.waits p (in_between p s.stay after)

    test : (l : Lock) (b : Bool) → stage_in s.entries p ≡ Waiting l → (meets_holder s.entries l || meets_waiter s.entries s.stay l) ≡ b
        → Going H (offer_if (not b) s p l) after
    test l true e t = record {
      orderly = rw append_snoc g.orderly;
      held = up_last s.entries s.stay p g.held (rw e t);
    }
    test l false e t = record {
      orderly = granted H s.entries s.stay after p l g.orderly e (or_left (meets_holder s.entries l) (meets_waiter s.entries s.stay l) t);
      held = up_set s.entries s.stay p (Holding l) (λ h k. not_both true refl (cc))
          (λ m. (distinct_between s.stay after p g.orderly.once).1 (in_front_law s.stay after m)) g.held;
    }

    by : (x : Stage) → stage_in s.entries p ≡ x → Going H (offer_to s p x) after
    by Out e = not_both true refl (sym (rw e at waits))
    by (Waiting l) e = test l (meets_holder s.entries l || meets_waiter s.entries s.stay l) e refl
    by (Holding l) e = not_both true refl (sym (rw e at waits))

-- all are
sweep_going : (H : Hierarchy) (after : List ℕ) (s : Sweep) → Going H s after → Going H (sweep s after) []
unfolding sweep
sweep_going H [] s g = g
sweep_going H (p ∷ after) s g = sweep_going H after (offer s p) (offer_going H s p after g)

-- LEAVE hands back a sound desk, its pass included
pub leave_sound : (H : Hierarchy) (d : Desk) (party : ℕ) (list : List ℕ) → Shaped d → sound_desk H d ≡ true → sound_desk H (leave_step H d party list).desk ≡ true
unfolding leave_step
leave_sound H d party list shape sound = by (leave_refusal H d party list) refl
  where
    by : (o : Option ℕ) → leave_refusal H d party list ≡ o → sound_desk H (leave_unless o d party list).desk ≡ true
    by (some k) e = sound
    by none e =
        let own : List Check = leave_own d party in
        let f = step_facts H d party (ltb (length list) 32) own e in
        let g : Going H (after_leaving d party) [] =
        sweep_going H (keep (λ other. not (eqb other party)) (queue_of d)) (record { entries = set d.entries party (entry_of Out); stay = []; granted = [] })
        (record {
          orderly = ended H d.entries (queue_of d) party (sound_orderly H d (queue_of d) (sound_reads H d shape sound) shape.entries sound) f.party_below;
          held = λ i h. absurd (omega arith);
        }) in
        made_sound H (leave_with (after_leaving d party) d list).desk (after_leaving d party).stay refl refl (rw append-nil at g.orderly) g.held
