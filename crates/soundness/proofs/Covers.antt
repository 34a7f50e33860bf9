-- THEOREMS about the cover that enter takes (02, point 1). Assumes nothing.
use mathlib.Core.Path.{◌≡◌, refl, sym, ap, subst}
use mathlib.Core.Logic.{◌⊎◌, inl, inr}
use mathlib.Core.List.{List, [], ◌∷◌}
use mathlib.Core.Bool.{Bool, true, false}
use mathlib.Core.Option.{Option, none, some}
use Prim.Native.Nat.{ℕ, ◌≤◌, ◌<◌}
use native.Mathlib.Omega.{arith}
use lib.Dec.{ltb}
use lib.ListN.{length, take, length-take}
use lib.Seq.{length-take-le}
use borrow.Author.Tests.{ltb-false, not-false}
use Rattle.lists.specs.Lists.{any_below}
use Rattle.lists.specs.Answer.{Answer, done, refused, Check}
use Rattle.covers.specs.Cover.{interval_at, call_interval, IsCover}
use Rattle.covers.specs.declared.Interval.{Interval}
use Rattle.lists.proofs.Bools.{not_both}
use Rattle.lists.proofs.Refusals.{refusal_none}
use Rattle.lists.proofs.Members.{In, head}
use Rattle.interval_laws.specs.Covers.{Rooted}
use Rattle.interval_laws.proofs.Laws.{call_bounds}
use Rattle.interval_laws.proofs.Covers.{contains_ends, contains_by, cover_is, one_name_again}
use Rattle.locks.specs.declared.Mode.{Mode}
use Rattle.locks.specs.declared.Lock.{Lock}
use Rattle.locks.specs.declared.Stage.{Stage}
use Rattle.locks.specs.declared.Stage.TheVariants.{Out, Waiting, Holding}
use Rattle.locks.specs.Stages.{is_out}
use Rattle.desk.specs.declared.Desk.{Desk}
use Rattle.locks.specs.Lent.{Hierarchy, low_in, high_in, cover_in, interval_wrong, names_wrong, lock_for, inside_lock}
use Rattle.locks.proofs.Tables.{not_wrong}
use Rattle.desk.specs.Desks.{stage_at}
use Rattle.desk.specs.Steps.{enter_own, granted, StepFacts, Admission, waits, enter_refusal, free, enter_if, enter_unless, enter_step}
use Rattle.desk.proofs.Facts.{step_own, step_facts}
use Rattle.desk.proofs.Called.{names_few, names_nodes}
use Rattle.history.proofs.Facts.{right_ordered}
use Rattle.soundness.proofs.Changes.{stage_same}

-- where refusal 10 finds no interval wrong, the intervals are rooted
pub right_rooted : (H : Hierarchy) → any_below H.n (interval_wrong H) ≡ false → Rooted H.n H.intervals
right_rooted H fine = record {
  ordered = right_ordered H fine;
  in_root = λ node h. let i = not_wrong H node fine h in contains_by (interval_at H.intervals 0) (interval_at H.intervals node) i.1 i.2;
}

-- where the test says that a party is out, its stage is that
pub is_out_law : (x : Stage) → is_out x ≡ true → x ≡ Out
is_out_law Out e = refl
is_out_law (Waiting l) e = not_both true refl (sym e)
is_out_law (Holding l) e = not_both true refl (sym e)

-- AN ENTER THAT IS NOT REFUSED, over any tables and, but where said, any desk
module _ (H : Hierarchy) (d : Desk) (party : ℕ) (mode : Mode) (names : List ℕ) (name_count : ℕ) (fine : enter_refusal H d party names name_count ≡ none) where
  -- the names of the call
  abbrev called : List ℕ
  called = take name_count names

  -- and its lock
  abbrev lock : Lock
  lock = lock_for H mode called

  -- what it alone looks at
  abbrev own : List Check
  own = enter_own H d party names name_count

  facts : StepFacts H d party (ltb (length names) name_count)
  facts = step_facts H d party _ own fine

  -- 15 does not hold
  named : names_wrong H.n names name_count ≡ false
  named = (refusal_none own (step_own H d party _ own fine)).1.0

  rooted : Rooted H.n H.intervals
  rooted = right_rooted H facts.intervals_right

  -- its party is out;
  pub enter_out : stage_at d party ≡ Out
  enter_out = is_out_law (stage_at d party) (not-false (is_out (stage_at d party)) (refusal_none own (step_own H d party _ own fine)).0)

  -- it has a name,
  pub enter_some : 1 ≤ length called
  enter_some =
      omega (arith, length-take-le name_count names (ltb-false (length names) name_count facts.own_lent), (names_few H.n names name_count named).0)

  -- eight at most,
  pub enter_few : length called ≤ 8
  enter_few = omega (arith, length-take name_count names, (names_few H.n names name_count named).1)

  -- and each is a node
  pub enter_nodes : (r : ℕ) → In r called → r < H.n
  enter_nodes = names_nodes H.n names name_count named

  -- at the desk that it hands back, from one with 32 entries, the party holds this lock, or waits for it;
  pub enter_stage : length d.entries ≡ 32
      → (stage_at (enter_step H d party mode names name_count).desk party ≡ Holding lock) ⊎ (stage_at (enter_step H d party mode names name_count).desk party ≡ Waiting lock)
  unfolding enter_step
  enter_stage long = rw fine (by (free d lock))
    where
      here : party < length d.entries
      here = omega (arith, long, facts.party_below)

      by : (b : Bool) → (stage_at (enter_if b d party lock).desk party ≡ Holding lock) ⊎ (stage_at (enter_if b d party lock).desk party ≡ Waiting lock)
      by true = inl (stage_same d.entries party (Holding lock) here)
      by false = inr (stage_same d.entries party (Waiting lock) here)

  -- the lock is on the cover: of all nodes whose interval contains the call's the narrowest, of equally narrow ones the lowest number;
  pub enter_cover : IsCover H.n H.intervals (call_interval H.intervals called) lock.cover
  enter_cover = by called enter_some enter_nodes
    where
      by : (ns : List ℕ) → 1 ≤ length ns → ((r : ℕ) → In r ns → r < H.n) → IsCover H.n H.intervals (call_interval H.intervals ns) (cover_in H ns)
      by [] l f = absurd (omega arith)
      by (name ∷ ns) l f = cover_is H.n H.intervals rooted name ns f

  -- whose interval, the lock's, contains each name's;
  pub enter_covers : (name : ℕ) → In name called → inside_lock H name lock ≡ true
  enter_covers name i =
      let b = call_bounds H.intervals called enter_some in
      let e = contains_ends (interval_at H.intervals lock.cover) (call_interval H.intervals called) enter_cover.around in
      contains_by (interval_at H.intervals lock.cover) (interval_at H.intervals name) (omega (arith, e.0, b.low_each name i)) (omega (arith, e.1, b.high_each name i))

  -- and where the call names one node, however often, the lock has that node's interval
  pub enter_one : (x : ℕ) → ((r : ℕ) → In r called → r ≡ x) → (lock.low ≡ low_in H x) × (lock.high ≡ high_in H x)
  enter_one x same = let e = by called enter_some enter_nodes same in (ap (λ (a : Interval). a.low) e, ap (λ (a : Interval). a.high) e)
    where
      by : (ns : List ℕ) → 1 ≤ length ns → ((r : ℕ) → In r ns → r < H.n) → ((r : ℕ) → In r ns → r ≡ x) → interval_at H.intervals (cover_in H ns) ≡ interval_at H.intervals x
      by [] l f g = absurd (omega arith)
      by (name ∷ ns) l f g =
          let h : x < H.n = omega (arith, f name head, g name head) in
          one_name_again H.n H.intervals x name ns h (rooted.ordered x h) g

-- THE COVER THAT ENTER ANSWERS WITH is the cover, over any tables and desk
pub granted_cover : (H : Hierarchy) (d : Desk) (party : ℕ) (mode : Mode) (names : List ℕ) (name_count c : ℕ)
    → (enter_step H d party mode names name_count).answer ≡ done (granted c)
    → IsCover H.n H.intervals (call_interval H.intervals (take name_count names)) c
unfolding enter_step
granted_cover H d party mode names name_count c e = by (enter_refusal H d party names name_count) refl e
  where
    l : Lock
    l = lock_for H mode (take name_count names)

    cover_of_answer : Answer Admission → ℕ
    cover_of_answer (done (granted cover)) = cover
    cover_of_answer (done waits) = 0
    cover_of_answer (refused k) = 0

    admitted : (b : Bool) → (enter_if b d party l).answer ≡ done (granted c) → cover_in H (take name_count names) ≡ c
    admitted true e = ap cover_of_answer e
    admitted false e = not_both true refl cc

    by : (o : Option ℕ) → enter_refusal H d party names name_count ≡ o → (enter_unless o d party l).answer ≡ done (granted c)
        → IsCover H.n H.intervals (call_interval H.intervals (take name_count names)) c
    by (some k) fine e = not_both true refl cc
    by none fine e =
        subst (IsCover H.n H.intervals (call_interval H.intervals (take name_count names))) (admitted (free d l) e) (enter_cover H d party mode names name_count fine)
