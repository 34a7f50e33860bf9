-- Who stands before whom in a list, and the arrival list of a desk that was made of a list. Assumes nothing.
use mathlib.Core.Path.{◌≡◌, refl, sym, ap, subst, ◌∙◌}
use mathlib.Core.Logic.{◌⊎◌, inl, inr, ◌≢◌}
use mathlib.Core.List.{List, [], ◌∷◌, ◌++◌}
use mathlib.Core.Bool.{Bool}
use Prim.Native.Nat.{ℕ, zero, suc, ◌≤◌, ◌<◌}
use native.Mathlib.Omega.{arith}
use lib.Dec.{eqb}
use lib.ListN.{length, get_or, take}
use borrow.Author.Tests.{eqb-false, eq-eqb, ne_eqb}
use Rattle.lists.specs.Lists.{keep}
use Rattle.lists.proofs.Bools.{bool}
use Rattle.lists.proofs.Members.{In, head, tail, in_nil, in_cons}
use Rattle.lists.proofs.Distinct.{in_split, in_around, place_in, keep_in, Distinct}
use Rattle.arrivals.specs.Arrivals.{queue_places}
use Rattle.arrivals.proofs.Queues.{listed_take}
use Rattle.desk.specs.declared.Desk.{Desk}
use Rattle.desk.specs.Desks.{queue_of}
use Rattle.fairness.specs.Ahead.{front_of}

-- q STANDS BEFORE p in a list
abbrev pub Before : ℕ → ℕ → List ℕ → Type 0
Before q p [] = ⊥
Before q p (x ∷ xs) = ((x ≡ q) × In p xs) ⊎ Before q p xs

pub before_in : (q p : ℕ) (xs : List ℕ) → Before q p xs → In q xs
before_in q p (x ∷ xs) (inl (e, i)) = subst (λ (k : ℕ). In k (x ∷ xs)) e head
before_in q p [] x' = elim x' [ ]
before_in q p (x ∷ xs) (inr b) = tail (before_in q p xs b)

-- whoever stands before the last of a list is among the others
pub before_last : (q p y : ℕ) (xs : List ℕ) → Before q p (xs ++ (y ∷ [])) → In q xs
before_last q p y [] (inl (e, i)) = in_nil i
before_last q p y [] (inr b) = absurd b
before_last q p y (x ∷ xs) (inl (e, i)) = subst (λ (k : ℕ). In k (x ∷ xs)) e head
before_last q p y (x ∷ xs) (inr b) = tail (before_last q p y xs b)

-- one more at the end stands before nobody
pub before_snoc : (q p y : ℕ) (xs : List ℕ) → y ≢ p → Before q p (xs ++ (y ∷ [])) → Before q p xs
before_snoc q p y [] ne (inl (e, i)) = in_nil i
before_snoc q p y [] ne (inr b) = absurd b
before_snoc q p y (x ∷ xs) ne (inl (e, i)) = inl (e, front (in_split xs (y ∷ []) i))
  where
    front : In p xs ⊎ In p (y ∷ []) → In p xs
    front (inl j) = j
    front (inr j) = in_cons j (λ c. absurd (ne c)) (λ k. in_nil k)
before_snoc q p y (x ∷ xs) ne (inr b) = inr (before_snoc q p y xs ne b)

-- one more in between keeps the order of the others
pub before_around : (q p y : ℕ) (xs ys : List ℕ) → Before q p (xs ++ ys) → Before q p (xs ++ (y ∷ ys))
before_around q p y [] ys b = inr b
before_around q p y (x ∷ xs) ys (inl (e, i)) = inl (e, in_around y xs ys i)
before_around q p y (x ∷ xs) ys (inr b) = inr (before_around q p y xs ys b)

-- and stands before those behind it
pub before_here : (q p : ℕ) (xs ys : List ℕ) → In p ys → Before q p (xs ++ (q ∷ ys))
before_here q p [] ys i = inl (refl, i)
before_here q p (x ∷ xs) ys i = inr (before_here q p xs ys i)

-- those kept are in their order
pub before_keep : (f : ℕ → Bool) (q p : ℕ) (xs : List ℕ) → Before q p (keep f xs) → Before q p xs
unfolding keep
before_keep f q p [] b = b
before_keep f q p (x ∷ xs) b = bool (f x) (λ e. taken (before_keep f q p xs) (rw e at b)) (λ e. inr (before_keep f q p xs (rw e at b)))
  where
    taken : (Before q p (keep f xs) → Before q p xs) → Before q p (x ∷ keep f xs) → Before q p (x ∷ xs)
    taken more (inl (e, i)) = inl (e, (keep_in f p xs i).0)
    taken more (inr c) = inr (more c)

-- those in the places before a place stand before whoever is there
pub before_place : (q : ℕ) (i : ℕ) (xs : List ℕ) → i < length xs → In q (take i xs) → Before q (get_or xs i 0) xs
before_place q i [] h m = absurd (omega arith)
before_place q zero (x ∷ xs) h m = in_nil m
before_place q (suc i) (x ∷ xs) h m = in_cons m (λ e. inl (e, place_in xs i (omega arith))) (λ j. inr (before_place q i xs (omega arith) j))

-- THE FRONT of a list before a party: in a list of different parties, whoever stands before it is there,
pub before_front : (q p : ℕ) (xs : List ℕ) → Distinct xs → Before q p xs → In q (front_of p xs)
unfolding front_of
before_front q p [] s b = elim b [ ]
before_front q p (x ∷ xs) s b = rw (ne_eqb x p (λ e. s.0 (subst (λ (k : ℕ). In k xs) (sym e) (behind_it b)))) (by (before_front q p xs s.1) b)
  where
    later : (ys : List ℕ) → Before q p ys → In p ys
    later [] b = elim b [ ]
    later (y ∷ ys) (inl (e, i)) = tail i
    later (y ∷ ys) (inr c) = tail (later ys c)

    behind_it : Before q p (x ∷ xs) → In p xs
    behind_it (inl (e, i)) = i
    behind_it (inr c) = later xs c

    by : (Before q p xs → In q (front_of p xs)) → Before q p (x ∷ xs) → In q (x ∷ front_of p xs)
    by rest (inl (e, i)) = subst (λ (k : ℕ). In k (x ∷ front_of p xs)) e head
    by rest (inr c) = tail (rest c)

-- one of the front is another than the party, and one of the list
pub front_in : (q p : ℕ) (xs : List ℕ) → In q (front_of p xs) → In q xs × (q ≢ p)
unfolding front_of
front_in q p [] i = in_nil i
front_in q p (x ∷ xs) i =
    bool (eqb x p)
    (λ e. in_nil (rw e at i))
    (λ e. in_cons (rw e at i) (λ c. (subst (λ (k : ℕ). In k (x ∷ xs)) c head, λ f. eqb-false x p e (c ∙ f))) (λ j. let (k, ne) = front_in q p xs j in (tail k, ne)))

-- and it is what stands before the party where that stands first
pub front_is : (p : ℕ) (xs ys : List ℕ) → (In p xs → ⊥) → front_of p (xs ++ (p ∷ ys)) ≡ xs
unfolding front_of
front_is p [] ys n = rw (eq-eqb p p refl)
front_is p (x ∷ xs) ys n = rw (ne_eqb x p (λ e. n (subst (λ (k : ℕ). In k (x ∷ xs)) e head))) (ap (x ∷◌) (front_is p xs ys (λ i. n (tail i))))

-- A DESK MADE OF A LIST has that arrival list, where the 32 places hold it
pub queue_made : (d : Desk) (list : List ℕ) → d.queue ≡ queue_places list → d.waiting ≡ length list → length list ≤ 32 → queue_of d ≡ list
queue_made d list e w few = listed_take (record { places = d.queue; count = d.waiting }) list (e, w) few
