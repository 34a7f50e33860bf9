-- A waiting party and those it is behind: what every step keeps. Assumes nothing.
use mathlib.Core.Path.{◌≡◌, refl, sym, ap, ◌∙◌, subst}
use mathlib.Core.Logic.{◌⊎◌, inl, inr, ◌≢◌}
use mathlib.Core.List.{List, [], ◌∷◌, ◌++◌, append-nil}
use mathlib.Core.Bool.{Bool, true, false, not, ◌||◌}
use mathlib.Core.Option.{Option, none, some}
use Prim.Native.Nat.{ℕ, ◌≤◌}
use native.Mathlib.Omega.{arith}
use lib.Dec.{eqb, ltb}
use lib.ListN.{length, set, take, length-append}
use lib.Seq.{append_snoc}
use borrow.Author.Tests.{eqb-true, eqb-false, ne_eqb, not-true}
use Rattle.lists.specs.Lists.{keep}
use Rattle.lists.proofs.Bools.{bool, not_both, or_right, or_either}
use Rattle.lists.proofs.Bounded.{any_none}
use Rattle.lists.proofs.Members.{In, in_cons}
use Rattle.lists.proofs.Distinct.{in_split, any_some, any_in, any_found, in_place, in_front_law, in_either, in_keep, keep_in}
use Rattle.locks.specs.declared.Mode.{Mode}
use Rattle.locks.specs.declared.Lock.{Lock}
use Rattle.locks.specs.declared.Stage.{Stage}
use Rattle.locks.specs.declared.Stage.TheVariants.{Out, Waiting, Holding}
use Rattle.locks.specs.Locks.{conflict}
use Rattle.locks.specs.Stages.{against_holder, against_waiter}
use Rattle.locks.specs.Lent.{Hierarchy, lock_for}
use Rattle.parties.specs.declared.Entry.{Entry}
use Rattle.parties.specs.Parties.{entry_of, stage_in, meets_holder, meets_waiter}
use Rattle.sweeps.specs.Sweeps.{Sweep, offer_if, offer_to, offer, sweep}
use Rattle.desk.specs.declared.Desk.{Desk}
use Rattle.desk.specs.Desks.{stage_at, queue_of}
use Rattle.desk.specs.Sound.{sound_desk}
use Rattle.desk.specs.Steps.{enter_own, free, grant_to, queue_last, enter_refusal, enter_if, enter_unless, enter_step}
use Rattle.desk.specs.Steps.{leave_own, after_leaving, leave_with, leave_refusal, leave_unless, leave_step}
use Rattle.desk.proofs.Facts.{step_facts}
use Rattle.runs.specs.Run.{lend, Call, enter, get, put, add, leave, State, Moved, after_enter, after_get, after_put, after_add, listed, after_leave, move_call}
use Rattle.history.proofs.Facts.{set_stage, holder_below, waiter_below, conflict_sym}
use Rattle.soundness.proofs.Laws.{unchanged_get, unchanged_put, unchanged_add}
use Rattle.soundness.proofs.Orderly.{Shaped, sound_reads, sound_held}
use Rattle.soundness.proofs.Changes.{stage_same, stage_other}
use Rattle.soundness.proofs.Covers.{enter_out}
use Rattle.soundness.proofs.Kept.{enter_shaped, leave_shaped, enter_sound, leave_sound}
use Rattle.fairness.specs.Ahead.{is_leave}
use Rattle.fairness.proofs.Visits.{leaving}
use Rattle.fairness.proofs.Queues.{Before, before_in, before_snoc, before_around, before_here, before_keep, before_place, queue_made}

-- what is against a lock, of a stage known
against_holds : (l : Lock) (x : Stage) → against_holder l x ≡ true → (h : Lock) × (x ≡ Holding h) × (conflict h l ≡ true)
against_holds l Out t = not_both false t refl
against_holds l (Waiting w) t = not_both false t refl
against_holds l (Holding h) t = (h, refl, t)

-- a desk that is sound over some tables
abbrev pub Sound : Desk → Type 0
Sound d = (K : Hierarchy) × (sound_desk K d ≡ true)

-- its arrival list is short enough
pub sound_few : (d : Desk) → Shaped d → Sound d → (d.waiting ≡ length (queue_of d)) × (d.waiting ≤ 32)
sound_few d shape (K, s) = let r = sound_reads K d shape s in (r.count, omega (arith, r.count, r.few))

-- and one party longer where one more waits
pub queue_last_law : (d : Desk) (q : ℕ) (g : Lock) → Shaped d → Sound d → (queue_last d q g).waiting ≤ 32 → queue_of (queue_last d q g) ≡ queue_of d ++ (q ∷ [])
queue_last_law d q g shape s few =
    let c = sound_few d shape s in
    let long = length-append (queue_of d) (q ∷ []) in
    queue_made (queue_last d q g) (queue_of d ++ (q ∷ [])) refl (omega (arith, c, long)) (omega (arith, few, c, long))

-- p waits for l or holds it
module _ (p : ℕ) (l : Lock) where
  -- it waits: whoever stands before it, and every holder in conflict with l, is one of those in S
  pub record Behind (S : ℕ → Type 0) (es : List Entry) (list : List ℕ) : Type 0 where
    pub waits : stage_in es p ≡ Waiting l
    pub listed : In p list
    pub earlier : (q : ℕ) → Before q p list → S q
    pub holders : (q : ℕ) (h : Lock) → stage_in es q ≡ Holding h → conflict h l ≡ true → S q

  abbrev pub Standing : (ℕ → Type 0) → List Entry → List ℕ → Type 0
  Standing S es list = (stage_in es p ≡ Holding l) ⊎ Behind S es list

  standing_map : {S T : ℕ → Type 0} (es : List Entry) (list : List ℕ) → ((q : ℕ) → S q → T q) → Standing S es list → Standing T es list
  standing_map es list f (inl h) = inl h
  standing_map es list f (inr b) =
      inr (record { waits = b.waits; listed = b.listed; earlier = λ q c. f q (b.earlier q c); holders = λ q h e c. f q (b.holders q h e c) })

  -- a party that is out is another
  out_apart : {S : ℕ → Type 0} (es : List Entry) (list : List ℕ) (q : ℕ) → stage_in es q ≡ Out → Standing S es list → q ≢ p
  out_apart es list q out (inl h) c = let s : stage_in es p ≡ Out = rw c at out in not_both true refl cc
  out_apart es list q out (inr b) c = let s : stage_in es p ≡ Out = rw c at out in let w = b.waits in not_both true refl cc

  -- ANOTHER PARTY'S STAGE CHANGES to x, and the list with it
  changed : (S : ℕ → Type 0) (es : List Entry) (list new : List ℕ) (q : ℕ) (x : Stage) → q ≢ p → (In p list → In p new) → ((r : ℕ) → Before r p new → Before r p list)
      → ((g : Lock) → x ≡ Holding g → Behind S es list → conflict g l ≡ true → S q) → Standing S es list → Standing S (set es q (entry_of x)) new
  changed S es list new q x ne on back mine (inl h) = inl (stage_other es q p x (λ c. ne (sym c)) ∙ h)
  changed S es list new q x ne on back mine (inr b) =
      inr (record {
        waits = stage_other es q p x (λ c. ne (sym c)) ∙ b.waits;
        listed = on b.listed;
        earlier = λ r c. b.earlier r (back r c);
        holders = λ r h e c. by r h c (set_stage es q r x h e);
      })
    where
      by : (r : ℕ) (h : Lock) → conflict h l ≡ true → ((q ≡ r) × (x ≡ Holding h)) ⊎ (stage_in es r ≡ Holding h) → S r
      by r h c (inl e) = subst S e.0 (mine h e.1 b c)
      by r h c (inr e) = b.holders r h e c

  -- A PARTY LEAVES: it is no longer one of those ahead
  struck : (S : ℕ → Type 0) (es : List Entry) (list : List ℕ) (q : ℕ) → q ≢ p → Standing S es list
      → Standing (λ r. S r × (eqb q r ≡ false)) (set es q (entry_of Out)) (keep (λ other. not (eqb other q)) list)
  struck S es list q ne (inl h) = inl (stage_other es q p Out (λ c. ne (sym c)) ∙ h)
  struck S es list q ne (inr b) =
      inr (record {
        waits = stage_other es q p Out (λ c. ne (sym c)) ∙ b.waits;
        listed = in_keep (λ other. not (eqb other q)) b.listed (rw (ne_eqb p q (λ c. ne (sym c))));
        earlier = λ r c. (
          b.earlier r (before_keep (λ other. not (eqb other q)) r p list c),
          ne_eqb q r (λ e. eqb-false r q (not-true (eqb r q) (keep_in (λ other. not (eqb other q)) r list (before_in r p (keep (λ other. not (eqb other q)) list) c)).1) (sym e)),
        );
        holders = λ r h e c. by r h c e (set_stage es q r Out h e);
      })
    where
      by : (r : ℕ) (h : Lock) → conflict h l ≡ true → stage_in (set es q (entry_of Out)) r ≡ Holding h → ((q ≡ r) × (Out ≡ Holding h)) ⊎ (stage_in es r ≡ Holding h)
          → S r × (eqb q r ≡ false)
      by r h c e (inl a) = absurd (let o = a.1 in let z : ◌≡◌ {A = ℕ} 0 1 = cc in omega arith)
      by r h c e (inr a) = (b.holders r h a c, ne_eqb q r (λ k. same r h e a k))
        where
          same : (r : ℕ) (h : Lock) → stage_in (set es q (entry_of Out)) r ≡ Holding h → stage_in es r ≡ Holding h → q ≡ r → ⊥
          same r h e a k =
              let o : stage_in (set es q (entry_of Out)) r ≡ Out = rw k (stage_same es r Out (holder_below es r h a)) in
              let z : ◌≡◌ {A = ℕ} 0 1 = cc in omega arith

  -- ONE WAITER IS TAKEN in a leave's pass
  offer_standing : (S : ℕ → Type 0) (s : Sweep) (q : ℕ) (after : List ℕ) → Standing S s.entries (s.stay ++ (q ∷ after))
      → Standing S (offer s q).entries ((offer s q).stay ++ after)
  unfolding offer
  offer_standing S s q after st = by (stage_in s.entries q) refl
    where
      es : List Entry
      es = s.entries

      stays : Standing S s.entries (s.stay ++ (q ∷ []) ++ after)
      stays = rw append_snoc st

      -- p itself is taken
      own : (g : Lock) → stage_in es q ≡ Waiting g → q ≡ p → Standing S s.entries (s.stay ++ (q ∷ after)) → stage_in (set es q (entry_of (Holding g))) p ≡ Holding l
      own g e c (inl h) = let w : stage_in es p ≡ Waiting g = rw c at e in not_both true refl cc
      own g e c (inr b) =
          let w : stage_in es p ≡ Waiting g = rw c at e in
          let v = b.waits in
          let same : g ≡ l = cc in
          rw (c, same) (stage_same es p (Holding l) (waiter_below es p l v))

      -- another is granted behind p: it does not conflict with p, which stays; before p: it was one of those in S
      other : (g : Lock) → stage_in es q ≡ Waiting g → q ≢ p → meets_waiter es s.stay g ≡ false → (h : Lock) → Holding g ≡ Holding h → Behind S es (s.stay ++ (q ∷ after))
          → conflict h l ≡ true → S q
      other g e ne t h k b c = place (in_split s.stay (q ∷ after) b.listed)
        where
          same : g ≡ h
          same = cc

          place : In p s.stay ⊎ In p (q ∷ after) → S q
          place (inl i) =
              let a : against_waiter g (stage_in es p) ≡ true = rw b.waits (conflict_sym l g ∙ ap (λ (x : Lock). conflict x l) same ∙ c) in
              not_both (meets_waiter es s.stay g) (any_in (λ party. against_waiter g (stage_in es party)) i a) t
          place (inr i) = in_cons i (λ c. absurd (ne c)) (λ j. b.earlier q (before_here q p s.stay after j))

      test : (g : Lock) (b : Bool) → stage_in es q ≡ Waiting g → (meets_holder es g || meets_waiter es s.stay g) ≡ b
          → Standing S (offer_if (not b) s q g).entries ((offer_if (not b) s q g).stay ++ after)
      test g true e t = stays
      test g false e t =
          bool (eqb q p)
          (λ c. inl (own g e (eqb-true q p c) st))
          (λ c. changed S es (s.stay ++ (q ∷ after)) (s.stay ++ after) q (Holding g) (eqb-false q p c)
          (λ i. rest (eqb-false q p c) (in_either s.stay after i))
          (λ r m. before_around r p q s.stay after m)
          (λ h k b m. other g e (eqb-false q p c) (or_right (meets_holder es g) (meets_waiter es s.stay g) t) h k b m)
          st)
        where
          rest : q ≢ p → (q ≡ p) ⊎ In p (s.stay ++ after) → In p (s.stay ++ after)
          rest ne (inl c) = absurd (ne c)
          rest ne (inr i) = i

      by : (x : Stage) → stage_in es q ≡ x → Standing S (offer_to s q x).entries ((offer_to s q x).stay ++ after)
      by Out e = stays
      by (Waiting g) e = test g (meets_holder es g || meets_waiter es s.stay g) e refl
      by (Holding g) e = stays

  -- all are
  sweep_standing : (S : ℕ → Type 0) (after : List ℕ) (s : Sweep) → Standing S s.entries (s.stay ++ after) → Standing S (sweep s after).entries (sweep s after).stay
  unfolding sweep
  sweep_standing S [] s st = rw append-nil at st
  sweep_standing S (q ∷ after) s st = sweep_standing S after (offer s q) (offer_standing S s q after st)

  -- WHAT EVERY STEP KEEPS
  pub record Kept (S : ℕ → Type 0) (d : Desk) : Type 0 where
    pub shaped : Shaped d
    pub sound : Sound d
    pub standing : Standing S d.entries (queue_of d)

  kept_map : {S T : ℕ → Type 0} (d : Desk) → ((q : ℕ) → S q → T q) → Kept S d → Kept T d
  kept_map d f k = record { shaped = k.shaped; sound = k.sound; standing = standing_map d.entries (queue_of d) f k.standing }

  -- where nobody is left in S, p holds
  pub nobody_ahead : (S : ℕ → Type 0) (d : Desk) → Kept S d → ((q : ℕ) → S q → ⊥) → stage_at d p ≡ Holding l
  nobody_ahead S d k empty = by k.sound k.standing
    where
      by : Sound d → Standing S d.entries (queue_of d) → stage_at d p ≡ Holding l
      by s (inl h) = h
      by (K, s) (inr b) =
          let (i, h, e) = in_place b.listed in
          let u = sound_held K d (queue_of d) (sound_reads K d k.shaped s) s i h in
          let t : (meets_holder d.entries l || meets_waiter d.entries (take i (queue_of d)) l) ≡ true = rw (e, b.waits) at u in
          or_either (meets_holder d.entries l) (meets_waiter d.entries (take i (queue_of d)) l) t
          (λ m. let (q, below, a) = any_some (λ party. against_holder l (stage_in d.entries party)) 32 m in
          let (g, x, c) = against_holds l (stage_in d.entries q) a in
          absurd (empty q (b.holders q g x c)))
          (λ m. let (q, j, a) = any_found (λ party. against_waiter l (stage_in d.entries party)) (take i (queue_of d)) m in
          absurd (empty q (b.earlier q (rw e at (before_place q i (queue_of d) h j)))))

  -- ENTER of any party, over any tables
  module _ (S : ℕ → Type 0) (K : Hierarchy) (d : Desk) (q : ℕ) (k : Kept S d) where
    enter_standing : (g : Lock) (b : Bool) → free d g ≡ b → stage_at d q ≡ Out → (enter_if b d q g).desk.waiting ≤ 32
        → Standing S (enter_if b d q g).desk.entries (queue_of (enter_if b d q g).desk)
    enter_standing g true f out few =
        let c = sound_few d k.shaped k.sound in
        subst (λ (list : List ℕ). Standing S (set d.entries q (entry_of (Holding g))) list)
        (sym (queue_made (grant_to d q g) (queue_of d) refl c.0 (omega (arith, c))))
        (changed S d.entries (queue_of d) (queue_of d) q (Holding g) (out_apart d.entries (queue_of d) q out k.standing) (λ i. i) (λ r b. b) against k.standing)
      where
        -- it conflicts with no waiter, so not with p
        against : (h : Lock) → Holding g ≡ Holding h → Behind S d.entries (queue_of d) → conflict h l ≡ true → S q
        against h e b c =
            let same : g ≡ h = cc in
            let long = k.shaped.entries in
            let none_at = or_right (against_holder g (stage_at d p)) (against_waiter g (stage_at d p))
            (any_none (λ other. against_holder g (stage_at d other) || against_waiter g (stage_at d other)) 32 p (not-true _ f) (omega (arith, waiter_below d.entries p l b.waits))) in
            let a : conflict l g ≡ false = rw b.waits at none_at in
            not_both (conflict h l) c (ap (λ (x : Lock). conflict x l) (sym same) ∙ conflict_sym g l ∙ a)
    enter_standing g false f out few =
        let ne = out_apart d.entries (queue_of d) q out k.standing in
        subst (λ (list : List ℕ). Standing S (set d.entries q (entry_of (Waiting g))) list)
        (sym (queue_last_law d q g k.shaped k.sound few))
        (changed S d.entries (queue_of d) (queue_of d ++ (q ∷ [])) q (Waiting g) ne (λ i. in_front_law (queue_of d) (q ∷ []) i) (λ r b. before_snoc r p q (queue_of d) ne b)
        (λ h e b m. not_both true refl cc) k.standing)

    enter_kept : (mode : Mode) (names : List ℕ) (name_count : ℕ) → Kept S (enter_step K d q mode names name_count).desk
    unfolding enter_step
    enter_kept mode names name_count = by (enter_refusal K d q names name_count) refl
      where
        g : Lock
        g = lock_for K mode (take name_count names)

        by : (o : Option ℕ) → enter_refusal K d q names name_count ≡ o → Kept S (enter_unless o d q g).desk
        by (some j) e = k
        by none e =
            let f = step_facts K d q (ltb (length names) name_count) (enter_own K d q names name_count) e in
            let shape : Shaped (enter_unless none d q g).desk =
            subst (λ (o : Option ℕ). Shaped (enter_unless o d q g).desk) e (enter_shaped K d q mode names name_count k.shaped) in
            let sound : sound_desk K (enter_unless none d q g).desk ≡ true =
            subst (λ (o : Option ℕ). sound_desk K (enter_unless o d q g).desk ≡ true) e (enter_sound K d q mode names name_count k.shaped f.sound) in
            record {
              shaped = shape;
              sound = (K, sound);
              standing = enter_standing g (free d g) refl (enter_out K d q mode names name_count e)
                  (sound_few (enter_unless none d q g).desk shape (K, sound)).1;
            }

    -- LEAVE of another party, over any tables
    leave_kept : (list : List ℕ) → leave_refusal K d q list ≡ none → q ≢ p → Kept (λ r. S r × (eqb q r ≡ false)) (leave_unless none d q list).desk
    unfolding leave_step
    leave_kept list e ne =
        let f = step_facts K d q (ltb (length list) 32) (leave_own d q) e in
        let shape : Shaped (leave_unless none d q list).desk =
        subst (λ (o : Option ℕ). Shaped (leave_unless o d q list).desk) e (leave_shaped K d q list k.shaped) in
        let sound : sound_desk K (leave_unless none d q list).desk ≡ true =
        subst (λ (o : Option ℕ). sound_desk K (leave_unless o d q list).desk ≡ true) e (leave_sound K d q list k.shaped f.sound) in
        record {
          shaped = shape;
          sound = (K, sound);
          standing =
              subst (λ (stay : List ℕ). Standing T (after_leaving d q).entries stay)
              (sym (queue_made (leave_with (after_leaving d q) d list).desk (after_leaving d q).stay refl refl (sound_few (leave_unless none d q list).desk shape (K, sound)).1))
              (sweep_standing T (keep (λ other. not (eqb other q)) (queue_of d)) (leaving d q)
              (struck S d.entries (queue_of d) q ne k.standing));
        }
      where
        T : ℕ → Type 0
        T r = S r × (eqb q r ≡ false)

  -- ANY STEP, but a leave of p: of those in S, the one that leaves is gone
  pub call_kept : (S : ℕ → Type 0) (K : Hierarchy) (c : Call) (s : State) → Kept S s.desk → is_leave p (move_call K c s).event ≡ false
      → Kept (λ r. S r × (is_leave r (move_call K c s).event ≡ false)) (move_call K c s).state.desk
  unfolding move_call after_enter after_get after_put after_add after_leave listed leave_step
  call_kept S K (enter q mode names name_count) s k e = kept_map _ (λ r a. (a, refl)) (enter_kept S K s.desk q k mode names name_count)
  call_kept S K (get q node v c) s k e =
      kept_map _ (λ r a. (a, refl)) (rw (unchanged_get K s.desk q node (lend s.values v) c) k)
  call_kept S K (put q node value v c) s k e =
      kept_map _ (λ r a. (a, refl)) (rw (unchanged_put K s.desk q node value (lend s.values v) c) k)
  call_kept S K (add q node number v c) s k e =
      kept_map _ (λ r a. (a, refl)) (rw (unchanged_add K s.desk q node number (lend s.values v) c) k)
  call_kept S K (leave q list) s k e = by (leave_refusal K s.desk q list) refl e
    where
      After : Option ℕ → Moved
      After o = after_leave q s (leave_unless o s.desk q list)

      by : (o : Option ℕ) → leave_refusal K s.desk q list ≡ o → is_leave p (After o).event ≡ false
          → Kept (λ r. S r × (is_leave r (After o).event ≡ false)) (After o).state.desk
      by (some j) e n = kept_map s.desk (λ r a. (a, refl)) k
      by none e n = leave_kept S K s.desk q k list e (eqb-false q p n)
