-- The 32 places of an arrival list: one party more, and what is read back. Assumes nothing.
use mathlib.Core.Path.{◌≡◌, refl, sym, ap, ◌∙◌}
use mathlib.Core.List.{List, [], ◌∷◌, ◌++◌, append_assoc, append-nil}
use mathlib.Core.Bool.{Bool, true, false}
use Prim.Native.Nat.{ℕ, zero, suc, ◌+◌, ◌≤◌, ◌<◌, min}
use native.Mathlib.Omega.{arith}
use lib.Dec.{ltb}
use lib.ListN.{length, get_or, take, drop, set, replicate, length-append, length-replicate, length-take}
use borrow.Author.Tests.{lt-ltb, ltb-true, ltb-false}
use lib.Seq.{take-append_seam, length-take-le, take-take, take_at, take_all}
use Rattle.lists.specs.Lists.{keep, kept_if}
use Rattle.lists.proofs.Loops.{take_step, keep_few}
use Rattle.lists.proofs.Bools.{bool}
use Rattle.arrivals.specs.declared.Listed.{Listed}
use Rattle.arrivals.specs.Arrivals.{list_of, queue_places, pushed, Lists}

take_zeros : (m k : ℕ) → m ≤ k → ◌≡◌ {A = List ℕ} (take m (replicate k 0)) (replicate m 0)
take_zeros zero k h = refl
take_zeros (suc m) zero h = absurd (omega arith)
take_zeros (suc m) (suc k) h = ap (0 ∷◌) (take_zeros m k (omega arith))

-- a list with zeros behind it, cut at n: one element more takes the place of a zero
push_zeros : (n k : ℕ) (l : List ℕ) (x : ℕ) → length l < n → n ≤ length l + k → set (take n (l ++ replicate k 0)) (length l) x ≡ take n ((l ++ (x ∷ [])) ++ replicate k 0)
push_zeros zero k l x h g = absurd (omega arith)
push_zeros (suc n) zero [] x h g = absurd (omega arith)
push_zeros (suc n) (suc k) [] x h g = ap (x ∷◌) (take_zeros n k (omega arith) ∙ sym (take_zeros n (suc k) (omega arith)))
push_zeros (suc n) k (y ∷ l) x h g = ap (y ∷◌) (push_zeros n k l x (omega arith) (omega arith))

pub places_length : (l : List ℕ) → length (queue_places l) ≡ 32
places_length l =
    let z : length {A = ℕ} (replicate 32 0) ≡ 32 = length-replicate {A = ℕ} 32 0 in
    length-take-le 32 (l ++ replicate 32 0) (omega (arith, length-append l (replicate 32 0)))

-- a party goes last
pub places_push : (l : List ℕ) (x : ℕ) → length l < 32 → set (queue_places l) (length l) x ≡ queue_places (l ++ (x ∷ []))
places_push l x h = push_zeros 32 32 l x h (omega arith)

-- what stands at the front is the list
pub places_take : (l : List ℕ) → length l ≤ 32 → take (length l) (queue_places l) ≡ l
places_take l h = take-take (length l) 32 (l ++ replicate 32 0) h ∙ take-append_seam l (replicate 32 0)

-- a full list has no place for one more
pub places_full : (l : List ℕ) (x : ℕ) → length l ≡ 32 → queue_places l ≡ queue_places (l ++ (x ∷ []))
places_full l x h =
    take_at l (replicate 32 0) 32 h ∙ sym (ap (take 32) (append_assoc l (x ∷ []) (replicate 32 0)) ∙ take_at l ((x ∷ []) ++ replicate 32 0) 32 h)

-- the elements kept of one more
kept_append : (b : Bool) (y : ℕ) (xs ys : List ℕ) → kept_if b y (xs ++ ys) ≡ kept_if b y xs ++ ys
kept_append true y xs ys = refl
kept_append false y xs ys = refl

keep_snoc : (p : ℕ → Bool) (xs : List ℕ) (x : ℕ) → keep p (xs ++ (x ∷ [])) ≡ keep p xs ++ kept_if (p x) x []
unfolding keep
keep_snoc p [] x = refl
keep_snoc p (y ∷ xs) x = ap (kept_if (p y) y) (keep_snoc p xs x) ∙ kept_append (p y) y (keep p xs) (kept_if (p x) x [])

pub keep_more : (p : ℕ → Bool) (l : List ℕ) (i : ℕ) → i < length l → keep p (take (i + 1) l) ≡ keep p (take i l) ++ kept_if (p (get_or l i 0)) (get_or l i 0) []
keep_more p l i h = ap (keep p) (take_step l i 0 h) ∙ keep_snoc p (take i l) (get_or l i 0)

-- a list and the zeros behind it
zeros_behind : (l : List ℕ) (n k : ℕ) → length l ≤ n → n ≤ k → take n (l ++ replicate k 0) ≡ l ++ drop (length l) (replicate n 0)
zeros_behind [] n k h g = take_zeros n k g
zeros_behind (x ∷ l) zero k h g = absurd (omega arith)
zeros_behind (x ∷ l) (suc n) k h g = ap (x ∷◌) (zeros_behind l n k (omega arith) (omega arith))

-- what is taken of the places is not more than there are
pub cut_take : (places : List ℕ) (count k : ℕ) → length places ≡ 32 → k ≡ min count 32 → take k places ≡ take count places
cut_take places count k long e =
    bool (ltb count 32)
    (λ h. let few : count < 32 = ltb-true count 32 h in let same : k ≡ count = omega arith in ap (λ (i : ℕ). take i places) same)
    (λ h. let many : 32 ≤ count = ltb-false count 32 h in take_all k places (omega arith) ∙ sym (take_all count places (omega arith)))

-- the first places, copied over zeros
pub places_copied : (places : List ℕ) (count n : ℕ) → length places ≡ 32 → n ≡ min count 32 → take n places ++ drop n (replicate 32 0) ≡ queue_places (take count places)
places_copied places count n long e =
    let same : length (take n places) ≡ n = length-take-le n places (omega arith) in
    ap (λ (k : ℕ). take n places ++ drop k (replicate 32 0)) (sym same)
    ∙ sym (zeros_behind (take n places) 32 32 (omega arith) (omega arith))
    ∙ ap queue_places (cut_take places count n long e)

-- ONE PARTY MORE in an arrival list that has a place left
pub lists_push : (r : Listed) (list : List ℕ) (x : ℕ) → length list < 32 → Lists r list → Lists (pushed r x) (list ++ (x ∷ []))
lists_push r list x h (p, q) =
    let free : ltb r.count 32 ≡ true = lt-ltb r.count 32 (omega arith) in
    rw free (ap (λ (k : ℕ). set r.places k x) q ∙ ap (λ (t : List ℕ). set t (length list) x) p ∙ places_push list x h, omega (arith, q, length-append list (x ∷ [])))

pub push_count : (r : Listed) (x : ℕ) → r.count < 32 → (pushed r x).count ≡ r.count + 1
push_count r x h = rw (lt-ltb r.count 32 h) refl

-- those kept of the first parties of a list, and of one more
module _ (p : ℕ → Bool) (l : List ℕ) (r : Listed) (i : ℕ) (h : i < length l) (few : length l ≤ 32) (k : Lists r (keep p (take i l))) where
  pub kept_yes : p (get_or l i 0) ≡ true → Lists (pushed r (get_or l i 0)) (keep p (take (i + 1) l))
  kept_yes e =
      rw (keep_more p l i h, e) (lists_push r (keep p (take i l)) (get_or l i 0) (omega (arith, keep_few p (take i l), length-take-le i l (omega arith))) k)

  pub kept_no : p (get_or l i 0) ≡ false → Lists r (keep p (take (i + 1) l))
  kept_no e = rw (keep_more p l i h, e, append-nil (keep p (take i l))) k

-- a party last in a list whose places are tidy, or nowhere where the list is full
pub last_pushed : (list : Listed) (x : ℕ) → length list.places ≡ 32
    → (pushed (record { places = queue_places (list_of list); count = list.count }) x).places ≡ queue_places (list_of list ++ (x ∷ []))
last_pushed list x long =
    bool (ltb list.count 32)
    (λ e. let few : list.count < 32 = ltb-true list.count 32 e in
    let same : length (list_of list) ≡ list.count = length-take-le list.count list.places (omega arith) in
    rw e (ap (λ (k : ℕ). set (queue_places (list_of list)) k x) (sym same) ∙ places_push (list_of list) x (omega arith)))
    (λ e. let many : 32 ≤ list.count = ltb-false list.count 32 e in
    rw e (places_full (list_of list) x (ap length (take_all list.count list.places (omega arith)) ∙ long)))

-- those kept of an arrival list are no more than it has places
pub kept_places : (p : ℕ → Bool) (places : List ℕ) (count : ℕ) → length places ≡ 32 → length (keep p (take count places)) ≤ 32
kept_places p places count long =
    let n : length (take count places) ≤ 32 = simp length-take (omega arith) in
    omega (arith, keep_few p (take count places))

-- a list that a struct counts and places is what is taken of its places
pub listed_take : (r : Listed) (list : List ℕ) → Lists r list → length list ≤ 32 → list_of r ≡ list
listed_take r list (p, q) few = ap (λ (k : ℕ). take k r.places) q ∙ ap (take (length list)) p ∙ places_take list few
