-- What a step is lent of a table, and the table afterwards. Assumes nothing.
use mathlib.Core.Path.{◌≡◌, refl, sym, ap, ◌∙◌}
use mathlib.Core.Logic.{◌≢◌}
use mathlib.Core.List.{List, [], ◌∷◌, ◌++◌}
use mathlib.Core.Option.{Option, none, some}
use Prim.Native.Nat.{ℕ, zero, suc, ◌+◌, ◌*◌, ◌≤◌, ◌<◌}
use native.Mathlib.Omega.{arith}
use lib.ListN.{length, get_or, set, take, drop, length-take, length-set, length-append, get_or-append}
use lib.Seq.{get_or-take, get_or-set_other, set_out, take-length, take_at}
use lib.Dec.{ltb}
use borrow.Author.Tests.{ltb-true, ltb-false}
use Rattle.lists.proofs.Bools.{bool}
use Rattle.lists.specs.Lists.{over}
use Rattle.lists.specs.Answer.{refusal}
use Rattle.locks.specs.Lent.{Hierarchy, low_in, high_in}
use Rattle.desk.specs.declared.Desk.{Desk}
use Rattle.desk.specs.Steps.{get_unless, put_own, add_own, value_checks, scratch_left, put_unless, put_step, sum64, add_step}
use Rattle.runs.specs.Run.{Lending, whole, part, lend, restored, Step, lent_to}

-- a place of the table that is lent
lend_seen : (t : List ℕ) (l : Lending) (i : ℕ) → i < length t → i < length (lend t l) → get_or (lend t l) i 0 ≡ get_or t i 0
unfolding lend
lend_seen t whole i h k = refl
lend_seen t (part places behind) i h k =
    let j : i < places = omega (arith, rw length-take at k) in
    rw (get_or-take places (t ++ behind) i 0 j) (get_or-append t behind 0 i h)

-- any place of it, where what is lent is long enough
pub lend_at : (t : List ℕ) (l : Lending) (i : ℕ) → i < length t → length t ≤ length (lend t l) → get_or (lend t l) i 0 ≡ get_or t i 0
lend_at t l i h k = lend_seen t l i h (omega arith)

-- of a table as long, as much is lent
pub lend_long : (t u : List ℕ) (l : Lending) → length t ≡ length u → length (lend t l) ≡ length (lend u l)
unfolding lend
lend_long t u whole e = e
lend_long t u (part places behind) e =
    omega (arith, e, length-take places (t ++ behind), length-take places (u ++ behind), length-append t behind, length-append u behind)

-- a store at another place of the table is not seen there
take_other : (t : List ℕ) (k : ℕ) (b : List ℕ) (r i x : ℕ) → r ≢ i → get_or (take k (set t r x ++ b)) i 0 ≡ get_or (take k (t ++ b)) i 0
take_other [] k b r i x ne = refl
take_other (y ∷ t) zero b zero i x ne = refl
take_other (y ∷ t) zero b (suc r) i x ne = refl
take_other (y ∷ t) (suc k) b zero zero x ne = absurd (ne refl)
take_other (y ∷ t) (suc k) b zero (suc i) x ne = refl
take_other (y ∷ t) (suc k) b (suc r) zero x ne = refl
take_other (y ∷ t) (suc k) b (suc r) (suc i) x ne = take_other t k b r i x (λ e. ne (ap suc e))

pub lend_other : (t : List ℕ) (l : Lending) (r i x : ℕ) → r ≢ i → get_or (lend (set t r x) l) i 0 ≡ get_or (lend t l) i 0
unfolding lend
lend_other t whole r i x ne = get_or-set_other t r i x 0 (λ e. ne (sym e))
lend_other t (part places behind) r i x ne = take_other t places behind r i x ne

-- a buffer as long as the table is the table afterwards
pub restored_full : (t b : List ℕ) → length b ≡ length t → restored t b ≡ b
unfolding restored over
restored_full t b e = take_at b (drop (length b) t) (length t) e

-- the first places, left as they were
restored_take : (t : List ℕ) (k : ℕ) (b : List ℕ) → restored t (take k (t ++ b)) ≡ t
unfolding restored over
restored_take [] k b = refl
restored_take (y ∷ t) zero b = take-length (y ∷ t)
restored_take (y ∷ t) (suc k) b = ap (y ∷◌) (restored_take t k b)

-- and with one changed
restored_set : (t : List ℕ) (k : ℕ) (b : List ℕ) (r x : ℕ) → r < length (take k (t ++ b)) → restored t (set (take k (t ++ b)) r x) ≡ set t r x
unfolding restored over
restored_set [] k b r x h = refl
restored_set (y ∷ t) zero b r x h = absurd (omega arith)
restored_set (y ∷ t) (suc k) b zero x h = ap (x ∷◌) (restored_take t k b)
restored_set (y ∷ t) (suc k) b (suc r) x h = ap (y ∷◌) (restored_set t k b r x (omega arith))

-- what is lent, left as it was
pub restored_lend : (t : List ℕ) (l : Lending) → restored t (lend t l) ≡ t
unfolding lend
restored_lend t whole = restored_full t t refl
restored_lend t (part places behind) = restored_take t places behind

-- and with one place changed
pub restored_lend_set : (t : List ℕ) (l : Lending) (r x : ℕ) → r < length (lend t l) → restored t (set (lend t l) r x) ≡ set t r x
unfolding lend
restored_lend_set t whole r x h = restored_full t (set t r x) (length-set t r x)
restored_lend_set t (part places behind) r x h = restored_set t places behind r x h

-- a number added to what is seen there is added to the table's
pub restored_lend_sum : (t : List ℕ) (l : Lending) (r x : ℕ) → r < length (lend t l)
    → restored t (set (lend t l) r (sum64 (get_or (lend t l) r 0) x)) ≡ set t r (sum64 (get_or t r 0) x)
restored_lend_sum t l r x h =
    restored_lend_set t l r (sum64 (get_or (lend t l) r 0) x) h
    ∙ bool (ltb r (length t))
    (λ e. ap (λ (v : ℕ). set t r (sum64 v x)) (lend_seen t l r (ltb-true r (length t) e) h))
    (λ e. set_out t r (sum64 (get_or (lend t l) r 0) x) (ltb-false r (length t) e) ∙ sym (set_out t r (sum64 (get_or t r 0) x) (ltb-false r (length t) e)))

-- THE INTERVALS as a step is lent them are the hierarchy's, where it has two numbers for each node and they are long enough
module _ (H : Hierarchy) (two_each : length H.intervals ≡ 2 * H.n) (x : Step) (node : ℕ) (h : node < H.n) (long : 2 * H.n ≤ length (lent_to x H).intervals) where
  pub low_lent : low_in (lent_to x H) node ≡ low_in H node
  unfolding lent_to
  low_lent = lend_at H.intervals x.intervals (2 * node) (omega arith) (omega arith)

  pub high_lent : high_in (lent_to x H) node ≡ high_in H node
  unfolding lent_to
  high_lent = lend_at H.intervals x.intervals (2 * node + 1) (omega arith) (omega arith)

-- WHATEVER IT ANSWERS, a get has the scratch that it is left,
pub get_left : (o : Option ℕ) (d : Desk) (value : ℕ) (scratch : List ℕ) → (get_unless o d value scratch).scratch ≡ scratch
get_left none d value scratch = refl
get_left (some k) d value scratch = refl

-- and so has a put or add
pub put_left : (o : Option ℕ) (d : Desk) (node value : ℕ) (values scratch : List ℕ) → (put_unless o d node value values scratch).scratch ≡ scratch
put_left none d node value values scratch = refl
put_left (some k) d node value values scratch = refl

-- A PUT OR ADD changes no desk,
unless_same : (o : Option ℕ) (d : Desk) (node value : ℕ) (values scratch : List ℕ) → (put_unless o d node value values scratch).desk ≡ d
unless_same none d node value values scratch = refl
unless_same (some k) d node value values scratch = refl

-- and leaves as many values as it was lent
unless_length : (o : Option ℕ) (d : Desk) (node value : ℕ) (values scratch : List ℕ) → length (put_unless o d node value values scratch).values ≡ length values
unless_length none d node value values scratch = length-set values node value
unless_length (some k) d node value values scratch = refl

module _ (H : Hierarchy) (d : Desk) (party node : ℕ) where
  pub put_same : (value : ℕ) (values scratch : List ℕ) → (put_step H d party node value values scratch).desk ≡ d
  unfolding put_step
  put_same value values scratch = unless_same (refusal (value_checks H d party node values scratch (put_own d party))) d node value values (scratch_left H values scratch)

  pub put_length : (value : ℕ) (values scratch : List ℕ) → length (put_step H d party node value values scratch).values ≡ length values
  unfolding put_step
  put_length value values scratch = unless_length (refusal (value_checks H d party node values scratch (put_own d party))) d node value values (scratch_left H values scratch)

  pub add_same : (number : ℕ) (values scratch : List ℕ) → (add_step H d party node number values scratch).desk ≡ d
  unfolding add_step
  add_same number values scratch =
      unless_same (refusal (value_checks H d party node values scratch (add_own d party))) d node (sum64 (get_or values node 0) number) values (scratch_left H values scratch)

  pub add_length : (number : ℕ) (values scratch : List ℕ) → length (add_step H d party node number values scratch).values ≡ length values
  unfolding add_step
  add_length number values scratch =
      unless_length (refusal (value_checks H d party node values scratch (add_own d party))) d node (sum64 (get_or values node 0) number) values (scratch_left H values scratch)
