-- THEOREMS: nobody is passed over (02, point 8). Assumes nothing.
use mathlib.Core.Path.{◌≡◌, refl, sym, ap, ◌∙◌, subst}
use mathlib.Core.Logic.{◌⊎◌, inl, inr, ◌≢◌}
use mathlib.Core.List.{List, [], ◌∷◌, ◌++◌}
use mathlib.Core.Bool.{Bool, true, false, not, ◌||◌}
use mathlib.Core.Option.{Option, none, some}
use Prim.Native.Nat.{ℕ, zero, suc, ◌≤◌, ◌<◌}
use native.Mathlib.Omega.{arith}
use lib.Dec.{eqb, ltb}
use lib.ListN.{length, set, take}
use borrow.Author.Tests.{eqb-true, eqb-false, eq-eqb, ne_eqb, not-true}
use Rattle.lists.specs.Lists.{every, any, count}
use Rattle.lists.specs.Answer.{Answer, done, refused}
use Rattle.lists.proofs.Bools.{bool, not_both, or_left, or_right, or_either, or_neither}
use Rattle.lists.proofs.Members.{In, in_nil, in_cons}
use Rattle.lists.proofs.Loops.{count_most}
use Rattle.lists.proofs.Bounded.{any_append}
use Rattle.lists.proofs.Distinct.{in_split, any_in, any_found, count_alike, every_in, every_of, in_front_law, in_between, in_keep, keep_in, Distinct, distinct_last, distinct_keep, distinct_below}
use Rattle.locks.specs.declared.Mode.{Mode}
use Rattle.locks.specs.declared.Lock.{Lock}
use Rattle.locks.specs.declared.Stage.{Stage}
use Rattle.locks.specs.declared.Stage.TheVariants.{Out, Waiting, Holding}
use Rattle.locks.specs.Stages.{is_out, is_waiting, is_holding}
use Rattle.locks.specs.Lent.{Hierarchy, lock_for}
use Rattle.parties.specs.Parties.{entry_of}
use Rattle.desk.specs.declared.Desk.{Desk}
use Rattle.desk.specs.Desks.{stage_at, queue_of}
use Rattle.desk.specs.Sound.{sound_desk}
use Rattle.desk.specs.Steps.{Admission, waits, enter_own, free, queue_last, enter_refusal, enter_if, enter_unless, enter_step}
use Rattle.desk.proofs.Facts.{step_facts}
use Rattle.runs.specs.Run.{lend, Call, enter, get, put, add, leave, Event, entered, got, stored, added, left, State, Moved, after_enter, after_get, after_put, after_add, after_leave, move_call, Ran, also_ran}
use Rattle.history.proofs.Facts.{set_stage, holder_below, waiter_below}
use Rattle.history.proofs.Results.{or_second}
use Rattle.soundness.proofs.Orderly.{Shaped, Orderly, sound_reads, sound_orderly}
use Rattle.soundness.proofs.Changes.{stage_same}
use Rattle.soundness.proofs.Covers.{enter_out}
use Rattle.soundness.proofs.Kept.{enter_shaped, get_shaped, put_shaped, add_shaped, leave_shaped, enter_sound}
use Rattle.fairness.specs.AnySteps.{AnyStep, enter_with, move_any, run_any}
use Rattle.fairness.specs.Ahead.{numbers_below, is_present, ahead, front_of, in_front, others, is_leave, has_left, all_left, visit_left}
use Rattle.fairness.proofs.Queues.{Before, before_in, before_last, before_front, front_in}
use Rattle.fairness.proofs.Visits.{hold_lasts, enter_present, comes_back, granted_listed}
use Rattle.fairness.proofs.Behind.{sound_few, queue_last_law, Behind, Standing, Kept, nobody_ahead, call_kept}

-- THOSE AHEAD. The list of the numbers below n has just these, each once
below_in : (n p : ℕ) → p < n → In p (numbers_below n)
unfolding numbers_below
below_in zero p h = absurd (omega arith)
below_in (suc n) p h =
    bool (eqb p n)
    (λ e. subst (λ (k : ℕ). In k (numbers_below n ++ (n ∷ []))) (sym (eqb-true p n e)) (in_between n (numbers_below n) []))
    (λ e. in_front_law (numbers_below n) (n ∷ []) (below_in n p (omega (arith, eqb-false p n e))))

in_below : (n p : ℕ) → In p (numbers_below n) → p < n
unfolding numbers_below
in_below zero p i = in_nil i
in_below (suc n) p i = by (in_below n p) (in_split (numbers_below n) (n ∷ []) i)
  where
    by : (In p (numbers_below n) → p < n) → In p (numbers_below n) ⊎ In p (n ∷ []) → p < suc n
    by below (inl j) = let h = below j in omega arith
    by below (inr j) = in_cons j (λ e. omega arith) (λ k. in_nil k)

distinct_numbers : (n : ℕ) → Distinct (numbers_below n)
unfolding numbers_below
distinct_numbers zero = tt
distinct_numbers (suc n) = distinct_last (numbers_below n) n (distinct_numbers n) (λ i. let h = in_below n n i in omega arith)

-- those ahead are the parties 0 to 31 that hold or wait,
pub ahead_in : (d : Desk) (q : ℕ) → q < 32 → is_present d q ≡ true → In q (ahead d)
ahead_in d q h e = in_keep (is_present d) (below_in 32 q h) e

pub in_ahead : (d : Desk) (q : ℕ) → In q (ahead d) → (q < 32) × (is_present d q ≡ true)
in_ahead d q i = let (j, e) = keep_in (is_present d) q (numbers_below 32) i in (in_below 32 q j, e)

-- each once
pub ahead_once : (d : Desk) → Distinct (ahead d)
ahead_once d = distinct_keep (is_present d) (numbers_below 32) (distinct_numbers 32)

waiting_present : (x : Stage) → is_waiting x ≡ true → not (is_out x) ≡ true
waiting_present Out e = e
waiting_present (Waiting l) e = refl
waiting_present (Holding l) e = refl

-- those in front of a party are the parties that hold, and those before it in arrival order
pub in_front_are : (p : ℕ) (d : Desk) (q : ℕ)
    → (In q (in_front p d) → (q < 32) × ((is_holding (stage_at d q) ≡ true) ⊎ In q (front_of p (queue_of d))))
    × ((q < 32) × ((is_holding (stage_at d q) ≡ true) ⊎ In q (front_of p (queue_of d))) → In q (in_front p d))
in_front_are p d q = (λ i. let (j, t) = keep_in in_the_way q (numbers_below 32) i in (in_below 32 q j, found t), λ (h, t). in_keep in_the_way (below_in 32 q h) (seen t))
  where
    in_the_way : ℕ → Bool
    in_the_way party = is_holding (stage_at d party) || any (eqb party) (front_of p (queue_of d))

    found : in_the_way q ≡ true → (is_holding (stage_at d q) ≡ true) ⊎ In q (front_of p (queue_of d))
    found t =
        or_either (is_holding (stage_at d q)) (any (eqb q) (front_of p (queue_of d))) t inl
        (λ a. let (r, m, e) = any_found (eqb q) (front_of p (queue_of d)) a in inr (subst (λ (x : ℕ). In x (front_of p (queue_of d))) (sym (eqb-true q r e)) m))

    seen : (is_holding (stage_at d q) ≡ true) ⊎ In q (front_of p (queue_of d)) → in_the_way q ≡ true
    seen (inl h) = rw h refl
    seen (inr m) = or_second (is_holding (stage_at d q)) (any (eqb q) (front_of p (queue_of d))) (any_in (eqb q) m (eq-eqb q q refl))

-- A LIST OF STEPS, until nobody is left in S
run_holds : (p : ℕ) (l : Lock) (steps : List AnyStep) (s : State) (S : ℕ → Type 0) → Kept p l S s.desk
    → ((q : ℕ) → S q → has_left (run_any steps s).events q ≡ true) → has_left (run_any steps s).events p ≡ false
    → stage_at (run_any steps s).state.desk p ≡ Holding l
unfolding run_any also_ran any
run_holds p l [] s S k all stays = nobody_ahead p l S s.desk k (λ q a. not_both false (all q a) refl)
run_holds p l (x ∷ xs) s S k all stays =
    let m : Moved = move_any x s in
    run_holds p l xs m.state (λ q. S q × (is_leave q m.event ≡ false))
    (call_kept p l S x.tables x.call s k (or_left (is_leave p m.event) _ stays))
    (λ q a. or_either (is_leave q m.event) _ (all q a.0) (λ h. not_both (is_leave q m.event) h a.1) (λ h. h))
    (or_right (is_leave p m.event) _ stays)

-- two lists of steps, one behind the other
pub run_behind : (xs ys : List AnyStep) (s : State) → let first = run_any xs s in let more = run_any ys first.state in
    run_any (xs ++ ys) s ≡ record { state = more.state; events = first.events ++ more.events }
unfolding run_any also_ran
run_behind [] ys s = refl
run_behind (x ∷ xs) ys s = ap (also_ran (move_any x s)) (run_behind xs ys (move_any x s).state)

-- a party has left in the one or in the other
pub left_behind : (xs ys : List (Event ℕ)) (q : ℕ) → has_left (xs ++ ys) q ≡ (has_left xs q || has_left ys q)
left_behind xs ys q = any_append (is_leave q) xs ys

-- an event is a leave of one party at most
one_leaves : (q p : ℕ) (e : Event ℕ) → is_leave q e ≡ true → is_leave p e ≡ true → q ≡ p
one_leaves q p (entered party a) g h = not_both true refl (sym g)
one_leaves q p (got party node a) g h = not_both true refl (sym g)
one_leaves q p (stored party node value a) g h = not_both true refl (sym g)
one_leaves q p (added party node number a) g h = not_both true refl (sym g)
one_leaves q p (left party (done granted)) g h = sym (eqb-true party q g) ∙ eqb-true party p h
one_leaves q p (left party (refused k)) g h = not_both true refl (sym g)

-- where a test fails somewhere in a list, it holds at fewer elements than the list has
count_fewer : (f : ℕ → Bool) (xs : List ℕ) → every f xs ≡ false → count f xs < length xs
unfolding count every
count_fewer f [] e = not_both true refl e
count_fewer f (x ∷ xs) e =
    bool (f x)
    (λ t. let h = count_fewer f xs (rw t at e) in rw t (omega arith))
    (λ t. let h = count_most f xs in rw t (omega arith))

-- WHEN A CALL BEGINS TO WAIT: the party was out, the desk was sound, and the party is behind those ahead
record Began (K : Hierarchy) (d : Desk) (p : ℕ) (l : Lock) (new : Desk) : Type 0 where
  party : p < 32
  out : stage_at d p ≡ Out
  sound : sound_desk K d ≡ true
  begins : stage_at new p ≡ Waiting l
  kept : Kept p l (λ q. In q (ahead d)) new

module _ (K : Hierarchy) (d : Desk) (shape : Shaped d) (p : ℕ) (mode : Mode) (names : List ℕ) (name_count : ℕ) where
  -- what it called for
  abbrev l : Lock
  l = lock_for K mode (take name_count names)

  began_waiting : sound_desk K d ≡ true → p < 32 → stage_at d p ≡ Out → Shaped (queue_last d p l) → sound_desk K (queue_last d p l) ≡ true
      → Began K d p l (queue_last d p l)
  began_waiting s below out shape' s' =
      let made = queue_last_law d p l shape (K, s) (sound_few (queue_last d p l) shape' (K, s')).1 in
      record {
        party = below;
        out = out;
        sound = s;
        begins = at_first;
        kept = record {
          shaped = shape';
          sound = (K, s');
          standing = subst (λ (list : List ℕ). Standing p l (λ q. In q (ahead d)) (set d.entries p (entry_of (Waiting l))) list) (sym made) (inr behind);
        };
      }
    where
      at_first : stage_at (queue_last d p l) p ≡ Waiting l
      at_first = stage_same d.entries p (Waiting l) (omega (arith, shape.entries))

      waiter : (q : ℕ) → In q (queue_of d) → In q (ahead d)
      waiter q i =
          let o = sound_orderly K d (queue_of d) (sound_reads K d shape s) shape.entries s in
          ahead_in d q (o.parties q i) (waiting_present (stage_at d q) (o.waits q i))

      holder : (q : ℕ) (h : Lock) → ((p ≡ q) × (Waiting l ≡ Holding h)) ⊎ (stage_at d q ≡ Holding h) → In q (ahead d)
      holder q h (inl e) = absurd (let a = e.1 in let z : ◌≡◌ {A = ℕ} 0 1 = cc in omega arith)
      holder q h (inr e) = ahead_in d q (omega (arith, holder_below d.entries q h e, shape.entries)) (ap (λ (x : Stage). not (is_out x)) e)

      behind : Behind p l (λ q. In q (ahead d)) (set d.entries p (entry_of (Waiting l))) (queue_of d ++ (p ∷ []))
      behind = record {
        waits = at_first;
        listed = in_between p (queue_of d) [];
        earlier = λ q b. waiter q (before_last q p p (queue_of d) b);
        holders = λ q h e c. holder q h (set_stage d.entries p q (Waiting l) h e);
      }

  began : (enter_step K d p mode names name_count).answer ≡ done waits → Began K d p l (enter_step K d p mode names name_count).desk
  unfolding enter_step
  began a = by (enter_refusal K d p names name_count) refl a
    where
      by : (o : Option ℕ) → enter_refusal K d p names name_count ≡ o → (enter_unless o d p l).answer ≡ done waits → Began K d p l (enter_unless o d p l).desk
      by (some j) e a = not_both true refl cc
      by none e a = test (free d l) refl a
        where
          test : (b : Bool) → free d l ≡ b → (enter_if b d p l).answer ≡ done waits → Began K d p l (enter_if b d p l).desk
          test true g a = not_both true refl cc
          test false g a =
              let f = step_facts K d p (ltb (length names) name_count) (enter_own K d p names name_count) e in
              began_waiting f.sound f.party_below (enter_out K d p mode names name_count e)
              (subst (λ (b : Bool). Shaped (enter_if b d p l).desk) g (subst (λ (o : Option ℕ). Shaped (enter_unless o d p l).desk) e (enter_shaped K d p mode names name_count shape)))
              (subst (λ (b : Bool). sound_desk K (enter_if b d p l).desk ≡ true) g
              (subst (λ (o : Option ℕ). sound_desk K (enter_unless o d p l).desk ≡ true) e (enter_sound K d p mode names name_count shape f.sound)))

-- A CALL OF p IS ANSWERED WAITS at the desk d, with any tables K. d is any desk of 32 entries and 32 places
module _ (K : Hierarchy) (d : Desk) (shape : Shaped d) (p : ℕ) (mode : Mode) (names : List ℕ) (name_count : ℕ) (answered : (enter_step K d p mode names name_count).answer ≡ done waits) where
  -- the desk was sound over these tables: at no other does a call begin to wait (it is refused, with 10 at the latest)
  pub waits_sound : sound_desk K d ≡ true
  waits_sound = (began K d shape p mode names name_count answered).sound

  -- the party was out, so that it is not ahead of itself
  pub waits_out : stage_at d p ≡ Out
  waits_out = (began K d shape p mode names name_count answered).out

  -- those ahead are at most 31
  pub at_most_31 : length (ahead d) ≤ 31
  at_most_31 =
      let b = began K d shape p mode names name_count answered in
      let once : Distinct (p ∷ ahead d) = (λ i. not_both false (sym (ap (λ (x : Stage). not (is_out x)) b.out) ∙ (in_ahead d p i).1) refl, ahead_once d) in
      omega (arith, distinct_below 32 (p ∷ ahead d) once (λ q i. in_cons i (λ e. omega (arith, b.party)) (λ j. (in_ahead d q j).0)))

  -- THEN COME ANY STEPS, each with any arguments and any tables, the first on the desk that the enter handed back
  module _ (s : State) (same : s.desk ≡ (enter_step K d p mode names name_count).desk) where
    -- at first the party waits for what it called for
    pub waits_first : stage_at s.desk p ≡ Waiting (lock_for K mode (take name_count names))
    waits_first = rw same (began K d shape p mode names name_count answered).begins

    -- NOBODY IS PASSED OVER: where all parties that were holding or waiting at d have left, the call holds, unless its own party left
    pub nobody_passed_over : (steps : List AnyStep) → all_left (ahead d) (run_any steps s).events ≡ true → has_left (run_any steps s).events p ≡ false
        → stage_at (run_any steps s).state.desk p ≡ Holding (lock_for K mode (take name_count names))
    nobody_passed_over steps all stays =
        run_holds p (lock_for K mode (take name_count names)) steps s (λ q. In q (ahead d)) (rw same (began K d shape p mode names name_count answered).kept)
        (λ q i. every_in (has_left (run_any steps s).events) all i) stays

    -- those ahead are still there when the steps begin, and so is the party
    ahead_there : (q : ℕ) → In q (ahead d) → is_present s.desk q ≡ true
    ahead_there q i = rw same (enter_present K d p mode names name_count q (in_ahead d q i).1)

    call_there : is_present s.desk p ≡ true
    call_there = ap (λ (x : Stage). not (is_out x)) waits_first

    -- THE SAME BY VISITS: where the visit or call that each of them had then has left, and the call has not
    pub no_visit_passed_over : (steps : List AnyStep) → ((q : ℕ) → In q (ahead d) → visit_left (run_any steps s).events q ≡ true)
        → visit_left (run_any steps s).events p ≡ false
        → stage_at (run_any steps s).state.desk p ≡ Holding (lock_for K mode (take name_count names))
    no_visit_passed_over steps all stays =
        nobody_passed_over steps
        (every_of (has_left (run_any steps s).events) (ahead d) (λ q i. sym (comes_back q steps s (ahead_there q i)) ∙ all q i))
        (sym (comes_back p steps s call_there) ∙ stays)

    -- what is done AFTERWARDS, by those ahead that come back too, changes nothing of it: it holds until its own party leaves
    pub afterwards : (first more : List AnyStep) → all_left (ahead d) (run_any first s).events ≡ true → has_left (run_any (first ++ more) s).events p ≡ false
        → stage_at (run_any (first ++ more) s).state.desk p ≡ Holding (lock_for K mode (take name_count names))
    afterwards first more all stays =
        let ran = run_any first s in
        let also = run_any more ran.state in
        let apart : (has_left ran.events p || has_left also.events p) ≡ false =
        sym (left_behind ran.events also.events p) ∙ sym (ap (λ (r : Ran). has_left r.events p) (run_behind first more s)) ∙ stays in
        ap (λ (r : Ran). stage_at r.state.desk p) (run_behind first more s)
        ∙ hold_lasts p (lock_for K mode (take name_count names)) ran.state more (nobody_passed_over first all (or_left (has_left ran.events p) (has_left also.events p) apart))
        (or_right (has_left ran.events p) (has_left also.events p) apart)

    -- AS SOON AS: behind the very leave of the last of those ahead it holds,
    pub as_soon_as : (first : List AnyStep) (last : AnyStep) (q : ℕ) → In q (ahead d) → all_left (others q d) (run_any first s).events ≡ true
        → is_leave q (move_any last (run_any first s).state).event ≡ true → has_left (run_any first s).events p ≡ false
        → stage_at (move_any last (run_any first s).state).state.desk p ≡ Holding (lock_for K mode (take name_count names))
    unfolding run_any also_ran any
    as_soon_as first last q i all goes stays =
        let ran = run_any first s in
        let m : Moved = move_any last ran.state in
        let both = run_behind first (last ∷ []) s in
        let left_in : (r : ℕ) → has_left (run_any (first ++ (last ∷ [])) s).events r ≡ (has_left ran.events r || has_left (m.event ∷ []) r) =
        λ r. ap (λ (x : Ran). has_left x.events r) both ∙ left_behind ran.events (m.event ∷ []) r in
        sym (ap (λ (x : Ran). stage_at x.state.desk p) both)
        ∙ nobody_passed_over (first ++ (last ∷ []))
        (every_of (has_left (run_any (first ++ (last ∷ [])) s).events) (ahead d) (λ r j. left_in r ∙ bool (eqb r q) (λ e. mine r (eqb-true r q e)) (λ e. theirs r j e)))
        (left_in p ∙ or_neither (has_left ran.events p) (has_left (m.event ∷ []) p) stays (or_neither (is_leave p m.event) false own refl))
      where
        -- the last one leaves now
        mine : (r : ℕ) → r ≡ q → (has_left (run_any first s).events r || (is_leave r (move_any last (run_any first s).state).event || false)) ≡ true
        mine r e = rw (e, goes) (bool (has_left (run_any first s).events q) (λ t. rw t refl) (λ t. rw t refl))

        -- the others have
        theirs : (r : ℕ) → In r (ahead d) → eqb r q ≡ false → (has_left (run_any first s).events r || (is_leave r (move_any last (run_any first s).state).event || false)) ≡ true
        theirs r j e = rw (every_in (has_left (run_any first s).events) all (in_keep (λ party. not (eqb party q)) j (rw e refl))) refl

        -- which is no leave of p: p is not ahead of itself
        own : is_leave p (move_any last (run_any first s).state).event ≡ false
        own = bool (is_leave p (move_any last (run_any first s).state).event) (λ t. absurd (apart (one_leaves q p (move_any last (run_any first s).state).event goes t))) (λ f. f)
          where
            apart : q ≡ p → ⊥
            apart e = not_both (is_present d p) (subst (λ (k : ℕ). is_present d k ≡ true) e (in_ahead d q i).1) (ap (λ (x : Stage). not (is_out x)) waits_out)

    -- and if it did not hold before, that leave's answer lists its party
    pub listed_then : (first : List AnyStep) (last : AnyStep) (q : ℕ) → In q (ahead d) → all_left (others q d) (run_any first s).events ≡ true
        → (parties : List ℕ) → (move_any last (run_any first s).state).event ≡ left q (done parties) → has_left (run_any first s).events p ≡ false
        → stage_at (run_any first s).state.desk p ≢ Holding (lock_for K mode (take name_count names)) → In p parties
    listed_then first last q i all parties e stays not_yet =
        granted_listed (run_any first s).state q p (lock_for K mode (take name_count names)) parties not_yet last e
        (as_soon_as first last q i all (ap (is_leave q) e ∙ eq-eqb q q refl) stays)

    -- SO AT MOST 31 LEAVES STAND BEFORE IT, those of the visits ahead: while it does not hold, and its party has not left, fewer than all of these have left, whatever was done besides,
    pub fewer_left : (steps : List AnyStep) → has_left (run_any steps s).events p ≡ false
        → stage_at (run_any steps s).state.desk p ≢ Holding (lock_for K mode (take name_count names))
        → count (has_left (run_any steps s).events) (ahead d) < length (ahead d)
    fewer_left steps stays not_yet =
        bool (all_left (ahead d) (run_any steps s).events)
        (λ all. absurd (not_yet (nobody_passed_over steps all stays)))
        (λ some. count_fewer (has_left (run_any steps s).events) (ahead d) some)

    -- and so fewer than 31
    pub before_31_leaves : (steps : List AnyStep) → has_left (run_any steps s).events p ≡ false
        → stage_at (run_any steps s).state.desk p ≢ Holding (lock_for K mode (take name_count names))
        → count (has_left (run_any steps s).events) (ahead d) < 31
    before_31_leaves steps stays not_yet = omega (arith, fewer_left steps stays not_yet, at_most_31)

    -- the same by visits
    pub visits_before : (steps : List AnyStep) → visit_left (run_any steps s).events p ≡ false
        → stage_at (run_any steps s).state.desk p ≢ Holding (lock_for K mode (take name_count names))
        → (count (visit_left (run_any steps s).events) (ahead d) < 31) × (count (visit_left (run_any steps s).events) (ahead d) < length (ahead d))
    visits_before steps stays not_yet =
        let events = (run_any steps s).events in
        let same_count = count_alike (visit_left events) (has_left events) (ahead d) (λ q i. comes_back q steps s (ahead_there q i)) in
        let stays' = sym (comes_back p steps s call_there) ∙ stays in
        (omega (arith, same_count, before_31_leaves steps stays' not_yet), omega (arith, same_count, fewer_left steps stays' not_yet))

    -- some party is ahead: at first, with nobody gone, it does not hold
    pub some_ahead : 1 ≤ length (ahead d)
    unfolding run_any any
    some_ahead = omega (arith, fewer_left [] refl (λ e. let w = waits_first in not_both true refl cc))

-- IN THE MIDDLE OF A LIST, too. A step leaves a desk of 32 entries and 32 places as such, and so does a list
call_shaped : (K : Hierarchy) (c : Call) (s : State) → Shaped s.desk → Shaped (move_call K c s).state.desk
unfolding move_call after_enter after_get after_put after_add after_leave
call_shaped K (enter q mode names name_count) s shape = enter_shaped K s.desk q mode names name_count shape
call_shaped K (get q node v c) s shape = get_shaped K s.desk q node (lend s.values v) c shape
call_shaped K (put q node value v c) s shape = put_shaped K s.desk q node value (lend s.values v) c shape
call_shaped K (add q node number v c) s shape = add_shaped K s.desk q node number (lend s.values v) c shape
call_shaped K (leave q list) s shape = leave_shaped K s.desk q list shape

pub run_shaped : (steps : List AnyStep) (s : State) → Shaped s.desk → Shaped (run_any steps s).state.desk
unfolding run_any also_ran
run_shaped [] s shape = shape
run_shaped (x ∷ xs) s shape = run_shaped xs (move_any x s).state (call_shaped x.tables x.call s shape)

-- the answer of an enter, from what is told of it
answer_told : Event ℕ → Answer Admission
answer_told (entered party a) = a
answer_told (got party node a) = refused 0
answer_told (stored party node value a) = refused 0
answer_told (added party node number a) = refused 0
answer_told (left party a) = refused 0

-- any steps from any such desk, a call that is told to wait, any steps behind it: where the visits that those had who held or waited before the call have left, and the call has not, it holds
pub in_a_list : (s : State) → Shaped s.desk → (before after : List AnyStep) (K : Hierarchy) (p : ℕ) (mode : Mode) (names : List ℕ) (name_count : ℕ)
    → let call = enter_with K p mode names name_count in let was = (run_any before s).state in let told = move_any call was in
    told.event ≡ entered p (done waits) → let ran = run_any after told.state in
    ((q : ℕ) → In q (ahead was.desk) → visit_left ran.events q ≡ true) → visit_left ran.events p ≡ false
    → stage_at (run_any (before ++ (call ∷ after)) s).state.desk p ≡ Holding (lock_for K mode (take name_count names))
unfolding move_call after_enter run_any also_ran answer_told
in_a_list s shape before after K p mode names name_count told all stays =
    let call = enter_with K p mode names name_count in
    let was = (run_any before s).state in
    ap (λ (r : Ran). stage_at r.state.desk p) (run_behind before (call ∷ after) s)
    ∙ no_visit_passed_over K was.desk (run_shaped before s shape) p mode names name_count (ap answer_told told) (move_any call was).state refl after all stays

-- THE SAME OF A PARTY THAT WAITS ALREADY, at any sound desk
module _ (K : Hierarchy) (s : State) (shape : Shaped s.desk) (sound : sound_desk K s.desk ≡ true) (p : ℕ) (l : Lock) (w : stage_at s.desk p ≡ Waiting l) where
  abbrev d : Desk
  d = s.desk

  orderly : Orderly K d.entries (queue_of d)
  orderly = sound_orderly K d (queue_of d) (sound_reads K d shape sound) shape.entries sound

  below : p < 32
  below = omega (arith, waiter_below d.entries p l w, shape.entries)

  -- as soon as those who hold, and those who wait before it, have left, it holds what it waits for, unless it left
  pub waiter_not_passed_over : (steps : List AnyStep) → all_left (in_front p d) (run_any steps s).events ≡ true → has_left (run_any steps s).events p ≡ false
      → stage_at (run_any steps s).state.desk p ≡ Holding l
  waiter_not_passed_over steps all stays =
      run_holds p l steps s (λ q. In q (in_front p d))
      (record {
        shaped = shape;
        sound = (K, sound);
        standing = inr (record { waits = w; listed = orderly.listed p below (ap is_waiting w); earlier = λ q b. waiter q b; holders = λ q h e c. holder q h e });
      })
      (λ q i. every_in (has_left (run_any steps s).events) all i) stays
    where
      waiter : (q : ℕ) → Before q p (queue_of d) → In q (in_front p d)
      waiter q b = (in_front_are p d q).1 (orderly.parties q (before_in q p (queue_of d) b), inr (before_front q p (queue_of d) orderly.once b))

      holder : (q : ℕ) (h : Lock) → stage_at d q ≡ Holding h → In q (in_front p d)
      holder q h e = (in_front_are p d q).1 (omega (arith, holder_below d.entries q h e, shape.entries), inl (ap is_holding e))

  -- they are some of the others who hold or wait there,
  pub in_front_others : (q : ℕ) → In q (in_front p d) → In q (others p d)
  in_front_others q i = let (h, t) = (in_front_are p d q).0 i in by h t
    where
      other : (r : ℕ) → r ≢ p → r < 32 → is_present d r ≡ true → In r (others p d)
      other r ne h e = in_keep (λ party. not (eqb party p)) (ahead_in d r h e) (rw (ne_eqb r p ne))

      holding_present : (x : Stage) → is_holding x ≡ true → not (is_out x) ≡ true
      holding_present Out e = e
      holding_present (Waiting g) e = refl
      holding_present (Holding g) e = refl

      by : q < 32 → (is_holding (stage_at d q) ≡ true) ⊎ In q (front_of p (queue_of d)) → In q (others p d)
      by h (inl t) =
          other q (λ e. not_both (is_holding (stage_at d p)) (subst (λ (k : ℕ). is_holding (stage_at d k) ≡ true) e t) (ap is_holding w)) h (holding_present (stage_at d q) t)
      by h (inr m) = let (k, ne) = front_in q p (queue_of d) m in other q ne h (waiting_present (stage_at d q) (orderly.waits q k))

  -- so it holds, too, as soon as all others have left
  pub nobody_passed_over_later : (steps : List AnyStep) → all_left (others p d) (run_any steps s).events ≡ true → has_left (run_any steps s).events p ≡ false
      → stage_at (run_any steps s).state.desk p ≡ Holding l
  nobody_passed_over_later steps all stays =
      waiter_not_passed_over steps
      (every_of (has_left (run_any steps s).events) (in_front p d) (λ q i. every_in (has_left (run_any steps s).events) all (in_front_others q i))) stays

  -- both are at most 31,
  pub others_at_most_31 : (length (others p d) ≤ 31) × (length (in_front p d) ≤ 31)
  others_at_most_31 = (
    few (others p d) (distinct_keep (λ party. not (eqb party p)) (ahead d) (ahead_once d)) (λ q i. i),
    few (in_front p d) (distinct_keep _ (numbers_below 32) (distinct_numbers 32)) in_front_others,
  )
    where
      few : (xs : List ℕ) → Distinct xs → ((q : ℕ) → In q xs → In q (others p d)) → length xs ≤ 31
      few xs once each =
          let apart : In p xs → ⊥ = λ i. eqb-false p p (not-true (eqb p p) (keep_in (λ party. not (eqb party p)) p (ahead d) (each p i)).1) refl in
          omega (
            arith,
            distinct_below 32 (p ∷ xs) (apart, once)
                (λ q i. in_cons i (λ e. omega (arith, below)) (λ j. (in_ahead d q (keep_in (λ party. not (eqb party p)) q (ahead d) (each q j)).0).0)),
          )

  -- and while it does not hold, and has not left, fewer than 31 of either have left
  pub later_before_31 : (steps : List AnyStep) → has_left (run_any steps s).events p ≡ false → stage_at (run_any steps s).state.desk p ≢ Holding l
      → (count (has_left (run_any steps s).events) (others p d) < 31) × (count (has_left (run_any steps s).events) (in_front p d) < 31)
  later_before_31 steps stays not_yet =
      let (most, most') = others_at_most_31 in (
        fewer (others p d) most (λ all. nobody_passed_over_later steps all stays),
        fewer (in_front p d) most' (λ all. waiter_not_passed_over steps all stays),
      )
    where
      fewer : (xs : List ℕ) → length xs ≤ 31 → (all_left xs (run_any steps s).events ≡ true → stage_at (run_any steps s).state.desk p ≡ Holding l)
          → count (has_left (run_any steps s).events) xs < 31
      fewer xs few holds =
          bool (all_left xs (run_any steps s).events)
          (λ all. absurd (not_yet (holds all)))
          (λ some. omega (arith, count_fewer (has_left (run_any steps s).events) xs some, few))
