-- The turns of a loop over a list. A loop that goes through a list l from place 0 keeps, with what is left, `f (drop i l)`, equal to a result r that
-- does not change. Each lemma takes that equation to the next place, or to the end. The element that the turn read is x, by `get_or l i d ≡ x`: `refl`
-- where the loop reads l itself, and `get_or-take k l i d h` where the loop is over `take k l` and reads l. A loop that keeps what is done, `f (take i l)`, goes
-- on by `take_step`.
-- Assumes nothing.
use mathlib.Core.Path.{◌≡◌, refl, sym, ap, ◌∙◌}
use mathlib.Core.List.{List, [], ◌∷◌, ◌++◌, map, append-nil}
use mathlib.Core.Bool.{Bool, true, false}
use Prim.Native.Nat.{ℕ, zero, suc, ◌+◌, ◌<◌, ◌≤◌}
use native.Mathlib.Numerals.{add-one}
use native.Mathlib.Nat.{not-suc-le-zero, le_of_suc-le-suc}
use native.Mathlib.Omega.{arith}
use borrow.Author.Fill.{fill_more}
use lib.ListN.{length, get_or, take, drop, set, replicate, length-set, drop_of_length-le, length-map}
use lib.Seq.{take-suc, drop-cons, drop-length, take_at, length-take-le}
use Rattle.lists.specs.Lists.{one, kept_if, every, any, count, keep, sum}
use Rattle.lists.proofs.Bools.{bool, and_left, and_right}

-- the length of an array that is a field, from what owning the struct tells: `search (field_length, needs)`
pub field_length : {A B : Type 0} (f : A → B) (l : List A) (n : ℕ) → length (map f l) ≡ n → length l ≡ n
field_length f l n e = sym (length-map l f) ∙ e

module _ {A : Type 0} where
  -- the list from place i on, by its first element
  pub drop_step : (l : List A) (i : ℕ) (d : A) {x : A} → get_or l i d ≡ x → i < length l → drop i l ≡ x ∷ drop (i + 1) l
  drop_step l i d at h = rw (← at, add-one, drop-cons l i d) refl

  -- the list up to place i and that one, with it last
  pub take_step : (l : List A) (i : ℕ) (d : A) → i < length l → take (i + 1) l ≡ take i l ++ (get_or l i d ∷ [])
  take_step l i d h = ap (λ (k : ℕ). take k l) (add-one i) ∙ take-suc l i d h

  -- within the list no default is read
  pub get_d_any : (l : List A) (i : ℕ) (d d' : A) → i < length l → get_or l i d ≡ get_or l i d'
  get_d_any [] i d d' h = absurd (not-suc-le-zero h)
  get_d_any (x ∷ xs) zero d d' h = refl
  get_d_any (x ∷ xs) (suc i) d d' h = get_d_any xs i d d' (le_of_suc-le-suc h)

  -- a test of every element, with the invariant `every p (drop i l) ≡ r`
  pub every_stop : (p : A → Bool) (l : List A) (i : ℕ) (d : A) {x : A} {r : Bool} → every p (drop i l) ≡ r → get_or l i d ≡ x → p x ≡ false → i < length l → false ≡ r
  unfolding every
  every_stop p l i d inv at e h = rw (drop_step l i d at h, e) at inv

  pub every_next : (p : A → Bool) (l : List A) (i : ℕ) (d : A) {x : A} {r : Bool} → every p (drop i l) ≡ r → get_or l i d ≡ x → p x ≡ true → i < length l
      → every p (drop (i + 1) l) ≡ r
  unfolding every
  every_next p l i d inv at e h = rw (drop_step l i d at h, e) at inv

  pub every_end : (p : A → Bool) (l : List A) (i : ℕ) {r : Bool} → every p (drop i l) ≡ r → length l ≤ i → true ≡ r
  unfolding every
  every_end p l i inv h = rw (drop_of_length-le l h) at inv

  -- what holds of every element holds of the one at a place
  pub every_at : (p : A → Bool) (l : List A) (i : ℕ) (d : A) → every p l ≡ true → i < length l → p (get_or l i d) ≡ true
  unfolding every
  every_at p [] i d e h = absurd (not-suc-le-zero h)
  every_at p (x ∷ l) zero d e h = and_left (p x) (every p l) e
  every_at p (x ∷ l) (suc i) d e h = every_at p l i d (and_right (p x) (every p l) e) (le_of_suc-le-suc h)

  -- what is kept of a list and another behind it
  pub keep_append : (p : A → Bool) (xs ys : List A) → keep p (xs ++ ys) ≡ keep p xs ++ keep p ys
  unfolding keep
  keep_append p [] ys = refl
  keep_append p (x ∷ xs) ys = by (p x) (keep_append p xs ys)
    where
      by : (t : Bool) → keep p (xs ++ ys) ≡ keep p xs ++ keep p ys → kept_if t x (keep p (xs ++ ys)) ≡ kept_if t x (keep p xs) ++ keep p ys
      by true e = ap (λ (l : List A). x ∷ l) e
      by false e = e

  -- how many are kept
  pub keep_count : (p : A → Bool) (xs : List A) → length (keep p xs) ≡ count p xs
  unfolding keep count
  keep_count p [] = refl
  keep_count p (x ∷ xs) = by (p x) (keep_count p xs)
    where
      by : (b : Bool) → length (keep p xs) ≡ count p xs → length (kept_if b x (keep p xs)) ≡ one b + count p xs
      by true e = omega arith
      by false e = omega arith

  -- a test of some element, with the invariant `any p (drop i l) ≡ r`
  pub any_stop : (p : A → Bool) (l : List A) (i : ℕ) (d : A) {x : A} {r : Bool} → any p (drop i l) ≡ r → get_or l i d ≡ x → p x ≡ true → i < length l → true ≡ r
  unfolding any
  any_stop p l i d inv at e h = rw (drop_step l i d at h, e) at inv

  pub any_next : (p : A → Bool) (l : List A) (i : ℕ) (d : A) {x : A} {r : Bool} → any p (drop i l) ≡ r → get_or l i d ≡ x → p x ≡ false → i < length l
      → any p (drop (i + 1) l) ≡ r
  unfolding any
  any_next p l i d inv at e h = rw (drop_step l i d at h, e) at inv

  pub any_end : (p : A → Bool) (l : List A) (i : ℕ) {r : Bool} → any p (drop i l) ≡ r → length l ≤ i → false ≡ r
  unfolding any
  any_end p l i inv h = rw (drop_of_length-le l h) at inv

  pub count_end : (p : A → Bool) (l : List A) (i : ℕ) (n : ℕ) {r : ℕ} → n + count p (drop i l) ≡ r → length l ≤ i → n ≡ r
  unfolding count
  count_end p l i n inv h = let q = rw (drop_of_length-le l h) at inv in omega arith

-- a sum, with the invariant `n + sum (drop i l) ≡ r`
module _ (l : List ℕ) (i n : ℕ) {r : ℕ} (inv : n + sum (drop i l) ≡ r) where
  pub sum_next : {x : ℕ} → get_or l i 0 ≡ x → i < length l → n + x + sum (drop (i + 1) l) ≡ r
  unfolding sum
  sum_next at h = let e = ap sum (drop_step l i 0 at h) in omega (arith, inv, e)

  pub sum_end : length l ≤ i → n ≡ r
  unfolding sum
  sum_end h = let e = ap sum (drop_of_length-le l h) in omega (arith, inv, e)

-- one at most
pub one_most : (b : Bool) → one b ≤ 1
one_most true = omega arith
one_most false = omega arith

-- a list has at least as many as are counted
pub count_most : {A : Type 0} (p : A → Bool) (l : List A) → count p l ≤ length l
unfolding count
count_most p [] = omega arith
count_most p (x ∷ xs) = omega (arith, one_most (p x), count_most p xs)

-- no more are kept than there are
pub keep_few : {A : Type 0} (p : A → Bool) (l : List A) → length (keep p l) ≤ length l
unfolding keep
keep_few p [] = omega arith
keep_few p (x ∷ xs) = let r = keep_few p xs in bool (p x) (λ e. rw e (omega arith)) (λ e. rw e (omega arith))

-- a list that is filled with one value, from the front on
pub record Filling (v : ℕ) (l₀ l : List ℕ) (i : ℕ) : Type 0 where
  pub so_far : i ≤ length l₀
  pub long : length l ≡ length l₀
  pub same : l ≡ replicate i v ++ drop i l₀

pub filling_start : (v : ℕ) (l : List ℕ) → Filling v l l 0
filling_start v l = record { so_far = omega arith; long = refl; same = refl }

pub filling_more : (v : ℕ) (l₀ l : List ℕ) (i : ℕ) → Filling v l₀ l i → i < length l → Filling v l₀ (set l i v) (i + 1)
filling_more v l₀ l i f h =
    record {
      so_far = omega (arith, f.long);
      long = length-set l i v ∙ f.long;
      same = ap (λ (t : List ℕ). set t i v) f.same ∙ fill_more i v l₀ (omega (arith, f.long));
    }

pub filling_end : (v : ℕ) (l₀ l : List ℕ) (i : ℕ) → Filling v l₀ l i → length l ≤ i → l ≡ replicate (length l₀) v
filling_end v l₀ l i f h =
    let e : i ≡ length l₀ = omega (arith, f.so_far, f.long) in
    f.same ∙ rw (e, drop-length l₀, append-nil (replicate (length l₀) v)) refl

-- a part that was lent and came back, of the same length: it can be lent again, and is what came back
pub lent : {A : Type 0} (n : ℕ) (part l : List A) → n ≤ length l → length part ≡ length (take n l) → take n (part ++ drop n l) ≡ part
lent n part l h e = take_at part (drop n l) n (e ∙ length-take-le n l h)
