-- What a change of one party's stage keeps: a call made, a visit ended, a waiter granted, a waiter that stays. Assumes nothing.
use mathlib.Core.Path.{◌≡◌, refl, sym, ap, ◌∙◌, subst}
use mathlib.Core.Logic.{◌⊎◌, inl, inr, ◌≢◌}
use mathlib.Core.List.{List, [], ◌∷◌, ◌++◌, append-nil}
use mathlib.Core.Bool.{Bool, true, false, not, or-true, true≢false}
use Prim.Native.Nat.{ℕ, ◌<◌}
use native.Mathlib.Omega.{arith}
use lib.Dec.{eqb}
use lib.ListN.{length, get_or, set, take, drop, take-append-drop, length-set, length-append, get_or-append}
use lib.Seq.{get_or-set_same, get_or-set_other, take-append-le, take-append_seam, get_or-append_seam}
use borrow.Author.Tests.{eqb-true, eqb-false, ne_eqb, not-true}
use Rattle.lists.specs.Lists.{keep}
use Rattle.lists.proofs.Bools.{bool, not_both}
use Rattle.lists.proofs.Bounded.{any_stop, any_none}
use Rattle.lists.proofs.Members.{In}
use Rattle.lists.proofs.Distinct.{any_some, any_alike, place_in, in_front_law, in_between, in_around, in_either}
use Rattle.lists.proofs.Distinct.{in_keep, keep_in, Distinct, distinct_last, distinct_between, distinct_keep}
use Rattle.locks.specs.declared.Lock.{Lock}
use Rattle.locks.specs.declared.Stage.{Stage}
use Rattle.locks.specs.declared.Stage.TheVariants.{Out, Waiting, Holding}
use Rattle.locks.specs.Locks.{conflict, real_interval}
use Rattle.locks.specs.Stages.{is_waiting, against_holder, against_waiter, of_lock}
use Rattle.locks.specs.Lent.{Hierarchy, cover_right, keeps_names, covers_names}
use Rattle.parties.proofs.Clauses.{Fits}
use Rattle.parties.specs.declared.Entry.{Entry}
use Rattle.parties.specs.Parties.{entry_of, stage_in, meets_holder}
use Rattle.parties.specs.Sound.{held_up}
use Rattle.history.proofs.Facts.{set_stage, stage_by, holder_below, conflict_sym}
use Rattle.soundness.proofs.Orderly.{Orderly, HeldUp}

-- STAGES after a store: at the party stored, at another, and at any
pub stage_same : (es : List Entry) (p : ℕ) (x : Stage) → p < length es → stage_in (set es p (entry_of x)) p ≡ x
stage_same es p x h = ap (λ (e : Entry). e.stage) (get_or-set_same es p (entry_of x) (entry_of Out) h)

pub stage_other : (es : List Entry) (p q : ℕ) (x : Stage) → q ≢ p → stage_in (set es p (entry_of x)) q ≡ stage_in es q
stage_other es p q x ne = ap (λ (e : Entry). e.stage) (get_or-set_other es p q (entry_of x) (entry_of Out) ne)

stage_any : (f : Stage → Bool) {b : Bool} (es : List Entry) (p q : ℕ) (x : Stage) → f x ≡ b → f (stage_in es q) ≡ b → f (stage_in (set es p (entry_of x)) q) ≡ b
stage_any f {b} es p q x h k = stage_by (λ y. f y ≡ b) es p q x (λ i. h) k

-- A LOCK that may be held or waited for: its interval is real, its cover and its names are right, and the cover's interval contains theirs
pub record Fit (H : Hierarchy) (l : Lock) : Type 0 where
  pub real : real_interval l.low l.high ≡ true
  pub cover : cover_right H l ≡ true
  pub names : keeps_names H l ≡ true
  pub covered : covers_names H l ≡ true

-- A CHANGE of a party's stage to x, and of the list with it: others stay on it or off it, and the party is on it if x waits
record Changed (p : ℕ) (x : Stage) (list new : List ℕ) : Type 0 where
  once : Distinct new
  there : (q : ℕ) → q ≢ p → In q new → In q list
  back : (q : ℕ) → q ≢ p → In q list → In q new
  on : is_waiting x ≡ true → In p new
  off : is_waiting x ≡ false → In p new → ⊥

changed : (H : Hierarchy) (es : List Entry) (p : ℕ) (x : Stage) (list new : List ℕ) → Orderly H es list → p < 32 → Changed p x list new
    → of_lock (λ l. real_interval l.low l.high) x ≡ true → Fits H x
    → ((q : ℕ) (g h : Lock) → x ≡ Holding g → stage_in es q ≡ Holding h → conflict h g ≡ false)
    → Orderly H (set es p (entry_of x)) new
changed H es p x list new o b c real fit alone = record {
  long = length-set es p (entry_of x) ∙ o.long;
  parties = λ q m. by q (λ e. omega (arith, e)) (λ ne. o.parties q (c.there q ne m));
  once = c.once;
  waits = λ q m. by q
      (λ e. bool (is_waiting x) (λ w. ap is_waiting (stage q e) ∙ w) (λ w. absurd (c.off w (subst (λ (k : ℕ). In k new) e m))))
      (λ ne. ap is_waiting (stage_other es p q x ne) ∙ o.waits q (c.there q ne m));
  listed = λ q h w. by q
      (λ e. subst (λ (k : ℕ). In k new) (sym e) (c.on (sym (ap is_waiting (stage q e)) ∙ w)))
      (λ ne. c.back q ne (o.listed q h (sym (ap is_waiting (stage_other es p q x ne)) ∙ w)));
  real = λ q k. stage_any (of_lock (λ l. real_interval l.low l.high)) es p q x real (o.real q k);
  fits = λ q k. record {
    cover = stage_any (of_lock (cover_right H)) es p q x fit.cover (o.fits q k).cover;
    names = stage_any (of_lock (keeps_names H)) es p q x fit.names (o.fits q k).names;
    covered = stage_any (of_lock (covers_names H)) es p q x fit.covered (o.fits q k).covered;
  };
  apart = λ q r g h ne eg eh. free q r g h ne (set_stage es p q x g eg) (set_stage es p r x h eh);
}
  where
    by : {P : Type 0} (q : ℕ) → (q ≡ p → P) → (q ≢ p → P) → P
    by q f g = bool (eqb q p) (λ e. f (eqb-true q p e)) (λ e. g (eqb-false q p e))

    stage : (q : ℕ) → q ≡ p → stage_in (set es p (entry_of x)) q ≡ x
    stage q e = rw e (stage_same es p x (omega (arith, o.long)))

    free : (q r : ℕ) (g h : Lock) → q ≢ r → ((p ≡ q) × (x ≡ Holding g)) ⊎ (stage_in es q ≡ Holding g) → ((p ≡ r) × (x ≡ Holding h)) ⊎ (stage_in es r ≡ Holding h)
        → conflict h g ≡ false
    free q r g h ne (inl a) (inl b) = absurd (ne (sym a.0 ∙ b.0))
    free q r g h ne (inl a) (inr b) = alone r g h a.1 b
    free q r g h ne (inr a) (inl b) = conflict_sym h g ∙ alone q h g b.1 a
    free q r g h ne (inr a) (inr b) = o.apart q r g h ne a b

-- a party on the list is another than one that does not wait
pub waits_apart : {H : Hierarchy} {es : List Entry} {list : List ℕ} → Orderly H es list → (p q : ℕ) → is_waiting (stage_in es p) ≡ false → In q list → q ≢ p
waits_apart {es = es} o p q n m e = not_both (is_waiting (stage_in es p)) (ap (λ (k : ℕ). is_waiting (stage_in es k)) (sym e) ∙ o.waits q m) n

-- a call made: a party that is out waits, last on the list
pub called : (H : Hierarchy) (es : List Entry) (list : List ℕ) (p : ℕ) (l : Lock) → Orderly H es list → p < 32 → stage_in es p ≡ Out
    → Fit H l → Orderly H (set es p (entry_of (Waiting l))) (list ++ (p ∷ []))
called H es list p l o b out fit =
    changed H es p (Waiting l) list (list ++ (p ∷ [])) o b
    (record {
      once = distinct_last list p o.once (λ m. waits_apart o p p (ap is_waiting out) m refl);
      there = λ q ne m. front q ne (in_either list [] m);
      back = λ q ne m. in_front_law list (p ∷ []) m;
      on = λ w. in_between p list [];
      off = λ w m. true≢false w;
    })
    fit.real (record { cover = fit.cover; names = fit.names; covered = fit.covered })
    (λ q g h e k. not_both true refl cc)
  where
    front : (q : ℕ) → q ≢ p → (p ≡ q) ⊎ In q (list ++ []) → In q list
    front q ne (inl e) = absurd (ne (sym e))
    front q ne (inr m) = rw append-nil at m

-- a visit or call ended: the party is out, and struck from the list
pub ended : (H : Hierarchy) (es : List Entry) (list : List ℕ) (p : ℕ) → Orderly H es list → p < 32
    → Orderly H (set es p (entry_of Out)) (keep (λ other. not (eqb other p)) list)
ended H es list p o b =
    changed H es p Out list (keep (λ other. not (eqb other p)) list) o b
    (record {
      once = distinct_keep (λ other. not (eqb other p)) list o.once;
      there = λ q ne m. (keep_in (λ other. not (eqb other p)) q list m).0;
      back = λ q ne m. in_keep (λ other. not (eqb other p)) m (rw (ne_eqb q p ne));
      on = λ w. absurd (true≢false (sym w));
      off = λ w m. eqb-false p p (not-true (eqb p p) (keep_in (λ other. not (eqb other p)) p list m).1) refl;
    })
    refl (record { cover = refl; names = refl; covered = refl })
    (λ q g h e k. not_both true refl cc)

-- no holder conflicts with a lock that meets none
no_holder : (es : List Entry) (l : Lock) → length es ≡ 32 → meets_holder es l ≡ false → (q : ℕ) (g h : Lock) → Holding l ≡ Holding g → stage_in es q ≡ Holding h
    → conflict h g ≡ false
no_holder es l long free q g h e k =
    let c : l ≡ g = cc in
    rw (← c) (rw k at (any_none (λ party. against_holder l (stage_in es party)) 32 q free (omega (arith, holder_below es q h k))))

-- a call granted at once: a party that is out holds
pub admitted : (H : Hierarchy) (es : List Entry) (list : List ℕ) (p : ℕ) (l : Lock) → Orderly H es list → p < 32 → stage_in es p ≡ Out
    → Fit H l → meets_holder es l ≡ false → Orderly H (set es p (entry_of (Holding l))) list
admitted H es list p l o b out fit free =
    changed H es p (Holding l) list list o b
    (record {
      once = o.once;
      there = λ q ne m. m;
      back = λ q ne m. m;
      on = λ w. absurd (true≢false (sym w));
      off = λ w m. waits_apart o p p (ap is_waiting out) m refl;
    })
    fit.real (record { cover = fit.cover; names = fit.names; covered = fit.covered }) (no_holder es l o.long free)

-- a waiter granted: it holds, and is off the list
pub granted : (H : Hierarchy) (es : List Entry) (stay after : List ℕ) (p : ℕ) (l : Lock) → Orderly H es (stay ++ (p ∷ after)) → stage_in es p ≡ Waiting l
    → meets_holder es l ≡ false → Orderly H (set es p (entry_of (Holding l))) (stay ++ after)
granted H es stay after p l o w free =
    changed H es p (Holding l) (stay ++ (p ∷ after)) (stay ++ after) o (o.parties p (in_between p stay after))
    (record {
      once = (distinct_between stay after p o.once).0;
      there = λ q ne m. in_around p stay after m;
      back = λ q ne m. rest q ne (in_either stay after m);
      on = λ w. absurd (true≢false (sym w));
      off = λ w. (distinct_between stay after p o.once).1;
    })
    (rw w at (o.real p below)) (record { cover = rw w at (o.fits p below).cover; names = rw w at (o.fits p below).names; covered = rw w at (o.fits p below).covered })
    (no_holder es l o.long free)
  where
    below : p < 32
    below = o.parties p (in_between p stay after)

    rest : (q : ℕ) → q ≢ p → (p ≡ q) ⊎ In q (stay ++ after) → In q (stay ++ after)
    rest q ne (inl e) = absurd (ne (sym e))
    rest q ne (inr m) = m

-- HELD UP. A holder against the lock is still there
still_against : (l : Lock) (x y : Stage) → ((g : Lock) → x ≡ Holding g → y ≡ Holding g) → against_holder l x ≡ true → against_holder l y ≡ true
still_against l Out y f t = absurd (true≢false (sym t))
still_against l (Waiting g) y f t = absurd (true≢false (sym t))
still_against l (Holding g) y f t = rw (f g refl) t

pub still_meets : (es fs : List Entry) (l : Lock) → ((p : ℕ) (g : Lock) → stage_in es p ≡ Holding g → stage_in fs p ≡ Holding g) → meets_holder es l ≡ true → meets_holder fs l ≡ true
still_meets es fs l more t =
    let (p, h, e) = any_some (λ party. against_holder l (stage_in es party)) 32 t in
    any_stop (λ party. against_holder l (stage_in fs party)) 32 p h (still_against l (stage_in es p) (stage_in fs p) (more p) e)

still_up : (es fs : List Entry) (earlier : List ℕ) (x : Stage) → ((p : ℕ) (g : Lock) → stage_in es p ≡ Holding g → stage_in fs p ≡ Holding g)
    → ((p : ℕ) → In p earlier → stage_in fs p ≡ stage_in es p) → held_up es earlier x ≡ true → held_up fs earlier x ≡ true
still_up es fs earlier Out more same t = t
still_up es fs earlier (Waiting l) more same t =
    bool (meets_holder es l)
    (λ e. rw (still_meets es fs l more e))
    (λ e. rw (any_alike (λ party. against_waiter l (stage_in fs party)) (λ party. against_waiter l (stage_in es party)) earlier (λ p m. ap (against_waiter l) (same p m)))
    (rw (rw e at t) (or-true (meets_holder fs l))))
still_up es fs earlier (Holding l) more same t = t

-- a store at a party that is not on the list and does not hold keeps it
pub up_set : (es : List Entry) (list : List ℕ) (p : ℕ) (x : Stage) → ((g : Lock) → stage_in es p ≡ Holding g → ⊥) → (In p list → ⊥) → HeldUp es list
    → HeldUp (set es p (entry_of x)) list
up_set es list p x idle off u i h =
    rw (stage_other es p (get_or list i 0) x (λ e. off (subst (λ (k : ℕ). In k list) e (place_in list i h))))
    (still_up es (set es p (entry_of x)) (take i list) (stage_in es (get_or list i 0))
    (λ q g e. stage_other es p q x (λ c. idle g (rw c at e)) ∙ e)
    (λ q m. stage_other es p q x (λ c. off (subst (λ (k : ℕ). In k list) c (in_take q m))))
    (u i h))
  where
    in_take : (q : ℕ) → In q (take i list) → In q list
    in_take q m = rw (take-append-drop i list) at (in_front_law (take i list) (drop i list) m)

-- one more, held up, at the end
pub up_last : (es : List Entry) (list : List ℕ) (p : ℕ) → HeldUp es list → held_up es list (stage_in es p) ≡ true → HeldUp es (list ++ (p ∷ []))
up_last es list p u t i h =
    bool (eqb i (length list))
    (λ e. rw (eqb-true i (length list) e, take-append_seam list (p ∷ []), get_or-append_seam list p [] 0) t)
    (λ e.
    let k : i < length list = omega (arith, length-append list (p ∷ []), eqb-false i (length list) e) in
    rw (take-append-le i list (p ∷ []) (omega arith), get_or-append list (p ∷ []) 0 i k) (u i k))
