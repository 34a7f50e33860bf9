-- A sound desk said of its entries and of the arrival list as a list, and that this is the same. Assumes nothing.
use mathlib.Core.Path.{◌≡◌, refl, sym, ap, ◌∙◌, subst}
use mathlib.Core.Logic.{◌≢◌}
use mathlib.Core.List.{List, ◌++◌}
use mathlib.Core.Bool.{Bool, true, false, not, ◌||◌}
use Prim.Native.Nat.{ℕ, ◌≤◌, ◌<◌}
use native.Mathlib.Omega.{arith}
use lib.Dec.{eqb, leb, ltb}
use lib.ListN.{length, get_or, take, replicate, get_or-append}
use lib.Seq.{length-take-le, get_or-take, take-take, take-append-le}
use borrow.Author.Tests.{eqb-true, eqb-false, eq-eqb, ne_eqb, leb-true, le-leb, ltb-true, lt-ltb, not-true}
use Rattle.lists.specs.Lists.{all_below}
use Rattle.lists.proofs.Bools.{bool, and_left, and_right, and_both}
use Rattle.lists.proofs.Bounded.{all_at, all_of, any_stop}
use Rattle.lists.proofs.Members.{In}
use Rattle.lists.proofs.Distinct.{any_some, place_in, in_place, Distinct, distinct_at, distinct_of, distinct_below}
use Rattle.locks.specs.declared.Lock.{Lock}
use Rattle.locks.specs.declared.Stage.{Stage}
use Rattle.locks.specs.declared.Stage.TheVariants.{Out, Waiting, Holding}
use Rattle.locks.specs.Locks.{conflict, real_interval}
use Rattle.locks.specs.Stages.{is_waiting, of_lock, holders_conflict}
use Rattle.locks.specs.Lent.{Hierarchy, cover_right, keeps_names, covers_names}
use Rattle.parties.specs.declared.Entry.{Entry}
use Rattle.parties.specs.Parties.{stage_in}
use Rattle.arrivals.specs.Arrivals.{queue_places}
use Rattle.parties.specs.Sound.{is_listed, held_up}
use Rattle.parties.proofs.Clauses.{Fits, Clauses, clauses, from_clauses}
use Rattle.desk.specs.declared.Desk.{Desk}
use Rattle.desk.specs.Desks.{stage_at, listed_at, queue_of}
use Rattle.desk.specs.Sound.{sound_desk}
use Rattle.history.proofs.Facts.{holders_apart_law, holder_below}

-- what the code's array types say of a desk: 32 entries, and 32 places for the arrival list
pub record Shaped (d : Desk) : Type 0 where
  pub entries : length d.entries ≡ 32
  pub queue : length d.queue ≡ 32

-- the list is the desk's arrival list
pub record Reads (d : Desk) (list : List ℕ) : Type 0 where
  pub few : length list ≤ 32
  pub count : d.waiting ≡ length list
  pub at : (i : ℕ) → i < length list → listed_at d i ≡ get_or list i 0
  pub front : (i : ℕ) → i < length list → take i d.queue ≡ take i list

-- all clauses of a sound desk but the last, of its entries and its list
pub record Orderly (H : Hierarchy) (es : List Entry) (list : List ℕ) : Type 0 where
  pub long : length es ≡ 32
  pub parties : (p : ℕ) → In p list → p < 32
  pub once : Distinct list
  pub waits : (p : ℕ) → In p list → is_waiting (stage_in es p) ≡ true
  pub listed : (p : ℕ) → p < 32 → is_waiting (stage_in es p) ≡ true → In p list
  pub real : (p : ℕ) → p < 32 → of_lock (λ l. real_interval l.low l.high) (stage_in es p) ≡ true
  pub fits : (p : ℕ) → p < 32 → Fits H (stage_in es p)
  pub apart : (p q : ℕ) (g h : Lock) → p ≢ q → stage_in es p ≡ Holding g → stage_in es q ≡ Holding h → conflict h g ≡ false

-- the last clause
abbrev pub HeldUp : List Entry → List ℕ → Type 0
HeldUp es list = (i : ℕ) → i < length list → held_up es (take i list) (stage_in es (get_or list i 0)) ≡ true

-- the clauses of a desk by name
abbrev OfDesk : Hierarchy → Desk → Type 0
OfDesk H d = Clauses H d.entries d.queue d.waiting

by_name : (H : Hierarchy) (d : Desk) → sound_desk H d ≡ true → OfDesk H d
by_name H d s = clauses H d.entries d.queue d.waiting s

-- a sound desk has its list in the first places of the queue
pub sound_reads : (H : Hierarchy) (d : Desk) → Shaped d → sound_desk H d ≡ true → Reads d (queue_of d)
sound_reads H d shape s =
    let few : d.waiting ≤ 32 = leb-true d.waiting 32 (and_left (leb d.waiting 32) (all_below d.waiting (λ i. ltb (listed_at d i) 32)) (by_name H d s).parties) in
    let long : length (queue_of d) ≡ d.waiting = length-take-le d.waiting d.queue (omega (arith, shape.queue)) in
    record {
      few = omega arith;
      count = sym long;
      at = λ i h. sym (get_or-take d.waiting d.queue i 0 (omega arith));
      front = λ i h. sym (take-take i d.waiting d.queue (omega arith));
    }

-- a desk whose queue is the places of a list
pub places_read : (d : Desk) (list : List ℕ) → d.queue ≡ queue_places list → d.waiting ≡ length list → length list ≤ 32 → Reads d list
places_read d list e w few =
    record {
      few = few;
      count = w;
      at = λ i h. rw e (get_or-take 32 (list ++ replicate 32 0) i 0 (omega arith) ∙ get_or-append list (replicate 32 0) 0 i h);
      front = λ i h. rw e (take-take i 32 (list ++ replicate 32 0) (omega arith) ∙ take-append-le i list (replicate 32 0) (omega arith));
    }

module _ (H : Hierarchy) (d : Desk) (list : List ℕ) (r : Reads d list) where
  -- a test at each place of the desk's list holds where it holds at each place of the list, and the other way round
  here : (f : ℕ → ℕ → Bool) → all_below d.waiting (λ i. f i (listed_at d i)) ≡ true → (i : ℕ) → i < length list → f i (get_or list i 0) ≡ true
  here f a i h = rw (r.at i h) at (all_at (λ i. f i (listed_at d i)) d.waiting i a (omega (arith, r.count)))

  there : (f : ℕ → ℕ → Bool) → ((i : ℕ) → i < length list → f i (get_or list i 0) ≡ true) → all_below d.waiting (λ i. f i (listed_at d i)) ≡ true
  there f g = all_of (λ i. f i (listed_at d i)) d.waiting (λ i h. let k : i < length list = omega (arith, r.count) in rw (r.at i k) (g i k))

  -- so at each member
  member : (f : ℕ → Bool) → all_below d.waiting (λ i. f (listed_at d i)) ≡ true → (p : ℕ) → In p list → f p ≡ true
  member f a p m = let (i, h, e) = in_place m in ap f (sym e) ∙ here (λ i p. f p) a i h

  -- from the test
  pub sound_orderly : length d.entries ≡ 32 → sound_desk H d ≡ true → Orderly H d.entries list
  sound_orderly long s = record {
    long = long;
    parties = λ p m. ltb-true p 32 (member (λ p. ltb p 32) below p m);
    once = distinct_of list apart;
    waits = member (λ p. is_waiting (stage_at d p)) waiting;
    listed = λ p h w. found p (rw w at (all_at (λ party. not (is_waiting (stage_at d party)) || is_listed d.queue d.waiting party) 32 p known h));
    real = λ p h. all_at (λ party. of_lock (λ l. real_interval l.low l.high) (stage_at d party)) 32 p c.real h;
    fits = λ p h. record {
      cover = all_at (λ party. of_lock (cover_right H) (stage_at d party)) 32 p c.covers h;
      names = all_at (λ party. of_lock (keeps_names H) (stage_at d party)) 32 p c.names h;
      covered = all_at (λ party. of_lock (covers_names H) (stage_at d party)) 32 p c.covered h;
    };
    apart = λ p q g h ne eg eh. holders_apart_law H d s p q g h (omega (arith, holder_below d.entries p g eg)) (omega (arith, holder_below d.entries q h eh)) ne eg eh;
  }
    where
      c : OfDesk H d
      c = by_name H d s

      below : all_below d.waiting (λ i. ltb (listed_at d i) 32) ≡ true
      below = and_right (leb d.waiting 32) (all_below d.waiting (λ i. ltb (listed_at d i) 32)) c.parties

      apart : (i j : ℕ) → j < i → i < length list → get_or list i 0 ≢ get_or list j 0
      apart i j h k =
          eqb-false (get_or list i 0) (get_or list j 0)
          (not-true (eqb (get_or list i 0) (get_or list j 0))
          (rw (r.at j (omega arith)) at (all_at (λ j. not (eqb (get_or list i 0) (listed_at d j))) i j
          (here (λ i x. all_below i (λ j. not (eqb x (listed_at d j)))) c.once i k) h)))

      waiting : all_below d.waiting (λ i. is_waiting (stage_at d (listed_at d i))) ≡ true
      waiting = and_left (all_below d.waiting (λ i. is_waiting (stage_at d (listed_at d i))))
          (all_below 32 (λ party. not (is_waiting (stage_at d party)) || is_listed d.queue d.waiting party)) c.listed

      known : all_below 32 (λ party. not (is_waiting (stage_at d party)) || is_listed d.queue d.waiting party) ≡ true
      known = and_right (all_below d.waiting (λ i. is_waiting (stage_at d (listed_at d i))))
          (all_below 32 (λ party. not (is_waiting (stage_at d party)) || is_listed d.queue d.waiting party)) c.listed

      found : (p : ℕ) → is_listed d.queue d.waiting p ≡ true → In p list
      found p t =
          let (i, h, e) = any_some (λ i. eqb (listed_at d i) p) d.waiting t in
          let k : i < length list = omega (arith, r.count) in
          subst (λ (x : ℕ). In x list) (sym (r.at i k) ∙ eqb-true (listed_at d i) p e) (place_in list i k)

  -- its last clause
  pub sound_held : sound_desk H d ≡ true → HeldUp d.entries list
  sound_held s i h = rw (r.front i h) at (here (λ i p. held_up d.entries (take i d.queue) (stage_at d p)) (by_name H d s).held i h)

  -- to the test
  pub orderly_sound : Orderly H d.entries list → HeldUp d.entries list → sound_desk H d ≡ true
  orderly_sound o u = from_clauses H d.entries d.queue d.waiting (record {
    parties = and_both (leb d.waiting 32) (all_below d.waiting (λ i. ltb (listed_at d i) 32)) (le-leb d.waiting 32 (omega (arith, r.count, r.few)))
        (there (λ i p. ltb p 32) (λ i h. lt-ltb (get_or list i 0) 32 (o.parties (get_or list i 0) (place_in list i h))));
    once = there (λ i p. all_below i (λ j. not (eqb p (listed_at d j)))) (λ i h. all_of (λ j. not (eqb (get_or list i 0) (listed_at d j))) i (λ j k.
        rw (r.at j (omega arith), ne_eqb (get_or list i 0) (get_or list j 0) (distinct_at list o.once i j k h))));
    listed = and_both (all_below d.waiting (λ i. is_waiting (stage_at d (listed_at d i)))) (all_below 32 (λ party. not (is_waiting (stage_at d party)) || is_listed d.queue d.waiting party))
        (there (λ i p. is_waiting (stage_at d p)) (λ i h. o.waits (get_or list i 0) (place_in list i h)))
        (all_of (λ party. not (is_waiting (stage_at d party)) || is_listed d.queue d.waiting party) 32
        (λ p h. bool (is_waiting (stage_at d p)) (λ w. rw w (on_list p (o.listed p h w))) (λ w. rw w)));
    real = all_of (λ party. of_lock (λ l. real_interval l.low l.high) (stage_at d party)) 32 o.real;
    covers = all_of (λ party. of_lock (cover_right H) (stage_at d party)) 32 (λ p h. (o.fits p h).cover);
    names = all_of (λ party. of_lock (keeps_names H) (stage_at d party)) 32 (λ p h. (o.fits p h).names);
    covered = all_of (λ party. of_lock (covers_names H) (stage_at d party)) 32 (λ p h. (o.fits p h).covered);
    apart = all_of (λ party. all_below party (λ other. not (holders_conflict (stage_at d party) (stage_at d other)))) 32 (λ p h.
        all_of (λ other. not (holders_conflict (stage_at d p) (stage_at d other))) p (λ q k. free p q k (stage_at d p) (stage_at d q) refl refl));
    held = there (λ i p. held_up d.entries (take i d.queue) (stage_at d p)) (λ i h. rw (r.front i h) (u i h));
  })
    where
      on_list : (p : ℕ) → In p list → is_listed d.queue d.waiting p ≡ true
      on_list p m =
          let (i, h, e) = in_place m in
          any_stop (λ i. eqb (listed_at d i) p) d.waiting i (omega (arith, r.count)) (eq-eqb (listed_at d i) p (r.at i h ∙ e))

      free : (p q : ℕ) → q < p → (x y : Stage) → stage_at d p ≡ x → stage_at d q ≡ y → not (holders_conflict x y) ≡ true
      free p q h Out y ex ey = refl
      free p q h (Waiting g) y ex ey = refl
      free p q h (Holding g) Out ex ey = refl
      free p q h (Holding g) (Waiting k) ex ey = refl
      free p q h (Holding g) (Holding k) ex ey = rw (o.apart p q g k (λ e. omega arith) ex ey)

-- a desk made of a list is sound where its entries and the list are: the list has room, since its parties are different and below 32
pub made_sound : (H : Hierarchy) (d : Desk) (list : List ℕ) → d.queue ≡ queue_places list → d.waiting ≡ length list → Orderly H d.entries list
    → HeldUp d.entries list → sound_desk H d ≡ true
made_sound H d list e w o u = orderly_sound H d list (places_read d list e w (distinct_below 32 list o.once o.parties)) o u
