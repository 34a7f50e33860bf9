-- The clauses of a sound desk by name, and which tests decide it. Assumes nothing.
use mathlib.Core.Path.{◌≡◌, refl, sym, ◌∙◌}
use mathlib.Core.List.{List}
use mathlib.Core.Bool.{Bool, true, false, not, ◌&&◌, ◌||◌}
use Prim.Native.Nat.{ℕ, ◌≤◌, ◌<◌}
use lib.Dec.{leb, ltb}
use lib.ListN.{take}
use borrow.Author.Tests.{leb-true}
use Rattle.lists.specs.Lists.{all_below, any_below}
use Rattle.lists.proofs.Bools.{bool, not_both, and_left, and_right, and_both}
use Rattle.lists.proofs.Bounded.{all_at, all_of}
use Rattle.locks.specs.declared.Stage.{Stage}
use Rattle.locks.specs.declared.Stage.TheVariants.{Out, Waiting, Holding}
use Rattle.locks.specs.Stages.{is_waiting, of_lock}
use Rattle.locks.specs.declared.Lock.{Lock}
use Rattle.locks.specs.Lent.{Hierarchy, interval_wrong, cover_right, keeps_names, covers_names}
use Rattle.locks.specs.Inner.{lock_fits}
use Rattle.locks.proofs.Tables.{lock_covered}
use Rattle.parties.specs.declared.Entry.{Entry}
use Rattle.parties.specs.Parties.{stage_in}
use Rattle.arrivals.specs.Arrivals.{listed_in}
use Rattle.parties.specs.Sound.{lists_parties, lists_once, is_listed, lists_waiting, lock_real, intervals_real, covers_right, names_kept, names_covered, holders_apart, held_up, waiters_held_up, sound_parties}
use Rattle.arrivals.specs.declared.Listed.{Listed}
use Rattle.parties.specs.Inner.{entry_right, entries_right}

-- the clauses one by one
pub record Clauses (H : Hierarchy) (entries : List Entry) (queue : List ℕ) (waiting : ℕ) : Type 0 where
  pub parties : lists_parties queue waiting ≡ true
  pub once : lists_once queue waiting ≡ true
  pub listed : lists_waiting entries queue waiting ≡ true
  pub real : intervals_real entries ≡ true
  pub covers : covers_right H entries ≡ true
  pub names : names_kept H entries ≡ true
  pub covered : names_covered H entries ≡ true
  pub apart : holders_apart entries ≡ true
  pub held : waiters_held_up entries queue waiting ≡ true

-- a right cover is real, of intervals that are not wrong
stage_covered : (H : Hierarchy) (s : Stage) → any_below H.n (interval_wrong H) ≡ false → of_lock (cover_right H) s ≡ true → of_lock lock_real s ≡ true
stage_covered H Out right e = refl
stage_covered H (Waiting l) right e = lock_covered H l right e
stage_covered H (Holding l) right e = lock_covered H l right e

-- what is asked of one lock, one by one
pub record Fits (H : Hierarchy) (s : Stage) : Type 0 where
  pub cover : of_lock (cover_right H) s ≡ true
  pub names : of_lock (keeps_names H) s ≡ true
  pub covered : of_lock (covers_names H) s ≡ true

lock_fits_law : (H : Hierarchy) (l : Lock) → lock_fits H l ≡ true → (cover_right H l ≡ true) × (keeps_names H l ≡ true) × (covers_names H l ≡ true)
lock_fits_law H l e =
    let two = and_left (cover_right H l && keeps_names H l) (covers_names H l) e in
    (and_left (cover_right H l) (keeps_names H l) two, and_right (cover_right H l) (keeps_names H l) two, and_right (cover_right H l && keeps_names H l) (covers_names H l) e)

fits_stage : (H : Hierarchy) (s : Stage) → of_lock (lock_fits H) s ≡ true → Fits H s
fits_stage H Out e = record { cover = refl; names = refl; covered = refl }
fits_stage H (Waiting l) e = let f = lock_fits_law H l e in record { cover = f.0; names = f.1; covered = f.2 }
fits_stage H (Holding l) e = let f = lock_fits_law H l e in record { cover = f.0; names = f.1; covered = f.2 }

-- and all at once
stage_fits : (H : Hierarchy) (s : Stage) → of_lock (cover_right H) s ≡ true → of_lock (keeps_names H) s ≡ true → of_lock (covers_names H) s ≡ true → of_lock (lock_fits H) s ≡ true
stage_fits H Out a b c = refl
stage_fits H (Waiting l) a b c = and_both _ (covers_names H l) (and_both (cover_right H l) (keeps_names H l) a b) c
stage_fits H (Holding l) a b c = and_both _ (covers_names H l) (and_both (cover_right H l) (keeps_names H l) a b) c

-- and who is held up waits
held_waits : (entries : List Entry) (earlier : List ℕ) (s : Stage) → held_up entries earlier s ≡ true → is_waiting s ≡ true
held_waits entries earlier Out e = e
held_waits entries earlier (Waiting l) e = refl
held_waits entries earlier (Holding l) e = e

module _ (H : Hierarchy) (entries : List Entry) (queue : List ℕ) (waiting : ℕ) where
  pub clauses : sound_parties H entries queue waiting ≡ true → Clauses H entries queue waiting
  unfolding sound_parties
  clauses s =
      let parties = lists_parties queue waiting in
      let once = lists_once queue waiting in
      let listed = lists_waiting entries queue waiting in
      let real = intervals_real entries in
      let covers = covers_right H entries in
      let names = names_kept H entries in
      let covered = names_covered H entries in
      let apart = holders_apart entries in
      let s8 = and_left (parties && once && listed && real && covers && names && covered && apart) (waiters_held_up entries queue waiting) s in
      let s7 = and_left (parties && once && listed && real && covers && names && covered) apart s8 in
      let s6 = and_left (parties && once && listed && real && covers && names) covered s7 in
      let s5 = and_left (parties && once && listed && real && covers) names s6 in
      let s4 = and_left (parties && once && listed && real) covers s5 in
      let s3 = and_left (parties && once && listed) real s4 in
      let s2 = and_left (parties && once) listed s3 in
      record {
        parties = and_left parties once s2;
        once = and_right parties once s2;
        listed = and_right (parties && once) listed s3;
        real = and_right (parties && once && listed) real s4;
        covers = and_right (parties && once && listed && real) covers s5;
        names = and_right (parties && once && listed && real && covers) names s6;
        covered = and_right (parties && once && listed && real && covers && names) covered s7;
        apart = and_right (parties && once && listed && real && covers && names && covered) apart s8;
        held = and_right (parties && once && listed && real && covers && names && covered && apart) (waiters_held_up entries queue waiting) s;
      }

  -- and back
  pub from_clauses : Clauses H entries queue waiting → sound_parties H entries queue waiting ≡ true
  unfolding sound_parties
  from_clauses c =
      and_both _ (waiters_held_up entries queue waiting)
      (and_both _ (holders_apart entries)
      (and_both _ (names_covered H entries)
      (and_both _ (names_kept H entries)
      (and_both _ (covers_right H entries)
      (and_both _ (intervals_real entries)
      (and_both _ (lists_waiting entries queue waiting)
      (and_both (lists_parties queue waiting) (lists_once queue waiting) c.parties c.once) c.listed) c.real) c.covers) c.names) c.covered) c.apart) c.held

  -- a sound desk lists at most 32
  pub sound_few : sound_parties H entries queue waiting ≡ true → waiting ≤ 32
  sound_few s = leb-true waiting 32 (and_left (leb waiting 32) (all_below waiting (λ i. ltb (listed_in queue i) 32)) (clauses s).parties)

  -- what breaks a clause breaks the whole
  pub unsound : (Clauses H entries queue waiting → ⊥) → false ≡ sound_parties H entries queue waiting
  unsound f = bool (sound_parties H entries queue waiting) (λ e. absurd (f (clauses e))) (λ e. sym e)

  -- each that waits is listed
  abbrev waiting_listed : ℕ → Bool
  waiting_listed party = not (is_waiting (stage_in entries party)) || is_listed queue waiting party

  -- each that is listed waits
  abbrev listed_wait : Bool
  listed_wait = all_below waiting (λ i. is_waiting (stage_in entries (listed_in queue i)))

module _ (H : Hierarchy) (entries : List Entry) (list : Listed) where
  pub entries_right_law : Clauses H entries list.places list.count → entries_right H entries list ≡ true
  entries_right_law c =
      all_of (λ party. entry_right H list party (stage_in entries party)) 32
      (λ i h. and_both (waiting_listed H entries list.places list.count i) _
      (all_at (waiting_listed H entries list.places list.count) 32 i (and_right (listed_wait H entries list.places list.count) _ c.listed) h)
      (stage_fits H (stage_in entries i) (at (cover_right H) c.covers i h) (at (keeps_names H) c.names i h) (at (covers_names H) c.covered i h)))
    where
      at : (p : Lock → Bool) → all_below 32 (λ party. of_lock p (stage_in entries party)) ≡ true → (i : ℕ) → i < 32 → of_lock p (stage_in entries i) ≡ true
      at p e i h = all_at (λ party. of_lock p (stage_in entries party)) 32 i e h

  -- TWO CLAUSES NEED NO PASS: the last then decides
  pub sound_held : any_below H.n (interval_wrong H) ≡ false → (lists_parties list.places list.count && lists_once list.places list.count) ≡ true
      → entries_right H entries list ≡ true → holders_apart entries ≡ true → waiters_held_up entries list.places list.count ≡ sound_parties H entries list.places list.count
  sound_held right listed entered apart =
      bool (waiters_held_up entries list.places list.count)
      (λ up.
      let each : (i : ℕ) → i < 32 → entry_right H list i (stage_in entries i) ≡ true
      = λ i h. all_at (λ party. entry_right H list party (stage_in entries party)) 32 i entered h in
      let fit : (i : ℕ) → i < 32 → Fits H (stage_in entries i)
      = λ i h. fits_stage H (stage_in entries i) (and_right (waiting_listed H entries list.places list.count i) _ (each i h)) in
      let real : intervals_real entries ≡ true
      = all_of (λ party. of_lock lock_real (stage_in entries party)) 32
      (λ i h. stage_covered H (stage_in entries i) right (fit i h).cover) in
      let wait : listed_wait H entries list.places list.count ≡ true
      = all_of (λ i. is_waiting (stage_in entries (listed_in list.places i))) list.count
      (λ i h. held_waits entries (take i list.places) (stage_in entries (listed_in list.places i))
      (all_at (λ k. held_up entries (take k list.places) (stage_in entries (listed_in list.places k))) list.count i up h)) in
      up ∙ sym (from_clauses H entries list.places list.count (record {
        parties = and_left (lists_parties list.places list.count) (lists_once list.places list.count) listed;
        once = and_right (lists_parties list.places list.count) (lists_once list.places list.count) listed;
        listed = and_both (listed_wait H entries list.places list.count) _ wait
            (all_of (waiting_listed H entries list.places list.count) 32 (λ i h. and_left (waiting_listed H entries list.places list.count i) _ (each i h)));
        real = real;
        covers = all_of (λ party. of_lock (cover_right H) (stage_in entries party)) 32 (λ i h. (fit i h).cover);
        names = all_of (λ party. of_lock (keeps_names H) (stage_in entries party)) 32 (λ i h. (fit i h).names);
        covered = all_of (λ party. of_lock (covers_names H) (stage_in entries party)) 32 (λ i h. (fit i h).covered);
        apart = apart;
        held = up;
      })))
      (λ up. up ∙ unsound H entries list.places list.count (λ c. not_both _ c.held up))
