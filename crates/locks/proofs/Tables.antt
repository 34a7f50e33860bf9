-- What is read of the lent tables: intervals that are wrong, covers, names. Assumes nothing.
use mathlib.Core.Path.{◌≡◌, refl, sym, ap, ◌∙◌}
use mathlib.Core.Bool.{Bool, true, false, not, ◌&&◌, ◌||◌}
use Prim.Native.Nat.{ℕ, ◌*◌, ◌/◌, ◌-◌, ◌≤◌, ◌<◌}
use native.Mathlib.Omega.{arith}
use lib.Dec.{eqb, leb, ltb}
use lib.ListN.{length, get_or-eq_default}
use borrow.Author.Tests.{eqb-true, lt-ltb, le-ltb, lt-leb, leb-true, ltb-true, ltb-false, not-false}
use Rattle.lists.specs.Lists.{any_below}
use Rattle.lists.proofs.Bools.{bool, and_left, and_right, or_left, or_right, over_not, three_not}
use Rattle.lists.proofs.Bounded.{any_none, any_stop}
use Rattle.locks.specs.declared.Lock.{Lock}
use Rattle.locks.specs.Locks.{real_interval}
use Rattle.locks.specs.Lent.{Hierarchy, low_in, high_in, interval_wrong, cover_right}
use Rattle.locks.specs.Inner.{outside}

-- half of a length is below a number just where the length is below twice the number
pub half_ltb : (a b : ℕ) → ltb (a / 2) b ≡ ltb a (2 * b)
half_ltb a b =
    bool (ltb (a / 2) b)
    (λ e. e ∙ sym (lt-ltb a (2 * b) (let h : a / 2 < b = ltb-true (a / 2) b e in omega arith)))
    (λ e. e ∙ sym (le-ltb a (2 * b) (let h : b ≤ a / 2 = ltb-false (a / 2) b e in omega arith)))

-- the five tests of an interval
pub outside_tests : (low high least most : ℕ) → ((((ltb low 1 || ltb high low) || ltb 256 high) || ltb low least) || ltb most high) ≡ outside low high least most
outside_tests low high least most =
    rw (over_not 1 low, over_not low high, over_not high 256)
    (ap (λ (b : Bool). (b || ltb low least) || ltb most high) (three_not (leb 1 low) (leb low high) (leb high 256)))

-- no interval is real whose high is 0
no_high : (low : ℕ) → real_interval low 0 ≡ false
no_high low = bool (leb 1 low) (λ e. let some : 1 ≤ low = leb-true 1 low e in rw (e, lt-leb low 0 (omega arith)) refl) (λ e. rw e refl)

-- a table that is too short has a wrong interval: that of the last node
pub short_wrong : (H : Hierarchy) → length H.intervals / 2 < H.n → any_below H.n (interval_wrong H) ≡ true
short_wrong H h =
    let last : high_in H (H.n - 1) ≡ 0 = get_or-eq_default H.intervals 0 (omega arith) in
    let none : real_interval (low_in H (H.n - 1)) (high_in H (H.n - 1)) ≡ false = ap (real_interval (low_in H (H.n - 1))) last ∙ no_high (low_in H (H.n - 1)) in
    any_stop (interval_wrong H) H.n (H.n - 1) (omega arith) (rw none refl)

-- the interval of a node, where refusal 10 finds none wrong, is real and inside node 0's
pub not_wrong : (H : Hierarchy) (node : ℕ) → any_below H.n (interval_wrong H) ≡ false → node < H.n
    → (real_interval (low_in H node) (high_in H node) ≡ true) × (low_in H 0 ≤ low_in H node) × (high_in H node ≤ high_in H 0)
not_wrong H node right h =
    let low = low_in H node in
    let high = high_in H node in
    let w = any_none (interval_wrong H) H.n node right h in
    let u = or_left (not (real_interval low high) || ltb low (low_in H 0)) (ltb (high_in H 0) high) w in (
      not-false (real_interval low high) (or_left (not (real_interval low high)) (ltb low (low_in H 0)) u),
      ltb-false low (low_in H 0) (or_right (not (real_interval low high)) (ltb low (low_in H 0)) u),
      ltb-false (high_in H 0) high (or_right (not (real_interval low high) || ltb low (low_in H 0)) (ltb (high_in H 0) high) w),
    )

-- a cover that is right, of intervals that are not wrong, is real
pub lock_covered : (H : Hierarchy) (l : Lock) → any_below H.n (interval_wrong H) ≡ false → cover_right H l ≡ true → real_interval l.low l.high ≡ true
lock_covered H l right e =
    let below = ltb l.cover H.n in
    let low = eqb (low_in H l.cover) l.low in
    let high = eqb (high_in H l.cover) l.high in
    let two = and_left (below && low) high e in
    let here = ltb-true l.cover H.n (and_left below low two) in
    let same : low_in H l.cover ≡ l.low = eqb-true _ _ (and_right below low two) in
    let same' : high_in H l.cover ≡ l.high = eqb-true _ _ (and_right (below && low) high e) in
    ap (λ (k : ℕ). real_interval k l.high) (sym same) ∙ ap (real_interval (low_in H l.cover)) (sym same') ∙ (not_wrong H l.cover right here).0
