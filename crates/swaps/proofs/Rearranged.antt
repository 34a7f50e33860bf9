-- REARRANGING A LIST, of anything: steps that go from one state to the next and tell something, each with a number (its party). Where two neighbours of different numbers may be taken in either
-- order, so may a whole list in any order that keeps the order of each number's own. It sees no desk. Assumes nothing.
use mathlib.Core.Path.{◌≡◌, refl, sym, ap, subst, ◌∙◌}
use mathlib.Core.Logic.{◌≢◌}
use mathlib.Core.List.{List, [], ◌∷◌, ◌++◌}
use mathlib.Core.Bool.{false}
use Prim.Native.Nat.{ℕ}
use lib.Dec.{eqb}
use borrow.Author.Tests.{eqb-true, eqb-false, eq-eqb, ne_eqb}
use Rattle.lists.specs.Lists.{kept_if, keep}
use Rattle.lists.proofs.Bools.{bool}
use Rattle.lists.proofs.Loops.{keep_append}
use Rattle.lists.proofs.Kept.{nothing_there, All, all_front, all_insert, keep_past}

module _ {X S T : Type 0} (number : X → ℕ) (go : X → S → S) (tell : X → S → T) (number_told : T → ℕ) (tells : (x : X) (s : S) → number_told (tell x s) ≡ number x) where
  -- the list taken from a state: where it leads, and what it tells
  unfoldable pub go_all : List X → S → S
  go_all [] s = s
  go_all (x ∷ xs) s = go_all xs (go x s)

  unfoldable pub say_all : List X → S → List T
  say_all [] s = []
  say_all (x ∷ xs) s = tell x s ∷ say_all xs (go x s)

  -- those of one number, and what they tell
  abbrev of_number : ℕ → List X → List X
  of_number k xs = keep (λ x. eqb (number x) k) xs

  abbrev told_number : ℕ → List T → List T
  told_number k ts = keep (λ t. eqb (number_told t) k) ts

  -- two lists come to the same
  pub record Alike (s : S) (xs ys : List X) : Type 0 where
    pub leads : go_all xs s ≡ go_all ys s
    pub said : (k : ℕ) → told_number k (say_all xs s) ≡ told_number k (say_all ys s)

  alike_refl : (s : S) (xs : List X) → Alike s xs xs
  alike_refl s xs = record { leads = refl; said = λ k. refl }

  alike_then : {s : S} {xs ys zs : List X} → Alike s xs ys → Alike s ys zs → Alike s xs zs
  alike_then a b = record { leads = a.leads ∙ b.leads; said = λ k. a.said k ∙ b.said k }

  alike_cons : (s : S) (x : X) (xs ys : List X) → Alike (go x s) xs ys → Alike s (x ∷ xs) (x ∷ ys)
  unfolding go_all say_all keep
  alike_cons s x xs ys a = record { leads = a.leads; said = λ k. ap (kept_if (eqb (number_told (tell x s)) k) (tell x s)) (a.said k) }

  -- what a list in two parts leads to and tells
  go_append : (xs ys : List X) (s : S) → go_all (xs ++ ys) s ≡ go_all ys (go_all xs s)
  unfolding go_all
  go_append [] ys s = refl
  go_append (x ∷ xs) ys s = go_append xs ys (go x s)

  say_append : (xs ys : List X) (s : S) → say_all (xs ++ ys) s ≡ say_all xs s ++ say_all ys (go_all xs s)
  unfolding go_all say_all
  say_append [] ys s = refl
  say_append (x ∷ xs) ys s = ap (tell x s ∷◌) (say_append xs ys (go x s))

  behind : (s : S) (xs ys zs : List X) → Alike s xs ys → Alike s (xs ++ zs) (ys ++ zs)
  behind s xs ys zs a = record {
    leads = go_append xs zs s ∙ ap (go_all zs) a.leads ∙ sym (go_append ys zs s);
    said = λ k. said_both k xs ∙ rw (a.said k, a.leads) (sym (said_both k ys));
  }
    where
      said_both : (k : ℕ) (us : List X) → told_number k (say_all (us ++ zs) s) ≡ told_number k (say_all us s) ++ told_number k (say_all zs (go_all us s))
      said_both k us = ap (told_number k) (say_append us zs s) ∙ keep_append (λ t. eqb (number_told t) k) (say_all us s) (say_all zs (go_all us s))

  -- with more before and behind
  pub alike_within : (s : S) (before xs ys after : List X) → Alike (go_all before s) xs ys → Alike s (before ++ (xs ++ after)) (before ++ (ys ++ after))
  unfolding go_all
  alike_within s [] xs ys after a = behind s xs ys after a
  alike_within s (x ∷ before) xs ys after a = alike_cons s x (before ++ (xs ++ after)) (before ++ (ys ++ after)) (alike_within (go x s) before xs ys after a)

  -- THE FIRST OF A NUMBER in a list: what stands before it is of other numbers
  record Found (k : ℕ) (x : X) (rest ys : List X) : Type 0 where
    front : List X
    back : List X
    whole : ys ≡ front ++ (x ∷ back)
    others : All (λ u. k ≢ number u) front
    left : of_number k (front ++ back) ≡ rest

  find : (k : ℕ) (x : X) (rest ys : List X) → of_number k ys ≡ x ∷ rest → Found k x rest ys
  unfolding keep
  find k x rest [] e = nothing_there (sym e)
  find k x rest (y ∷ ys) e = bool (eqb (number y) k) (λ t. here (rw t at e)) (λ t. later t (find k x rest ys (rw t at e)))
    where
      here : y ∷ of_number k ys ≡ x ∷ rest → Found k x rest (y ∷ ys)
      here h =
          let same : y ≡ x = cc in
          let more : of_number k ys ≡ rest = cc in
          record { front = []; back = ys; whole = ap (◌∷ ys) same; others = tt; left = more }

      later : eqb (number y) k ≡ false → Found k x rest ys → Found k x rest (y ∷ ys)
      later t f = record {
        front = y ∷ f.front;
        back = f.back;
        whole = ap (y ∷◌) f.whole;
        others = (λ h. eqb-false (number y) k t (sym h), f.others);
        left = rw t f.left;
      }

  -- a list with none of any number is empty
  none_at_all : (ys : List X) → ((k : ℕ) → of_number k [] ≡ of_number k ys) → ys ≡ []
  unfolding keep
  none_at_all [] f = refl
  none_at_all (y ∷ ys) f = nothing_there (sym (rw (eq-eqb (number y) (number y) refl) at (f (number y))))

  -- STEPS with P, at states with I, which they keep; two neighbours of different numbers may be taken in either order
  module _ (P : X → Type 0) (I : S → Type 0) (keeps : (x : X) (s : S) → P x → I s → I (go x s))
      (swaps : (x y : X) (s : S) → P x → P y → I s → number x ≢ number y → (go x (go y s) ≡ go y (go x s)) × (tell x (go y s) ≡ tell x s) × (tell y (go x s) ≡ tell y s)) where
    neighbours : (s : S) (x y : X) (zs : List X) → P x → P y → I s → number x ≢ number y → Alike s (x ∷ y ∷ zs) (y ∷ x ∷ zs)
    unfolding go_all say_all keep
    neighbours s x y zs p q i ne =
        let (state, first, second) = swaps x y s p q i ne in
        record {
          leads = ap (go_all zs) (sym state);
          said = λ k. rw (first, second, state) (apart k (say_all zs (go y (go x s))));
        }
      where
        apart : (k : ℕ) (ts : List T)
            → kept_if (eqb (number_told (tell x s)) k) (tell x s) (kept_if (eqb (number_told (tell y s)) k) (tell y s) (told_number k ts))
            ≡ kept_if (eqb (number_told (tell y s)) k) (tell y s) (kept_if (eqb (number_told (tell x s)) k) (tell x s) (told_number k ts))
        apart k ts =
            bool (eqb (number_told (tell x s)) k)
            (λ t. rw (t, ne_eqb (number_told (tell y s)) k (λ h. ne (sym (tells x s) ∙ eqb-true (number_told (tell x s)) k t ∙ sym h ∙ tells y s))) refl)
            (λ t. rw t refl)

    -- a step pulled to the front over steps of other numbers
    pull : (x : X) (us vs : List X) (s : S) → P x → All P us → All (λ u. number x ≢ number u) us → I s → Alike s (x ∷ (us ++ vs)) (us ++ (x ∷ vs))
    pull x [] vs s p a b i = alike_refl s (x ∷ vs)
    pull x (u ∷ us) vs s p a b i =
        alike_then (neighbours s x u (us ++ vs) p a.0 i b.0)
        (alike_cons s u (x ∷ (us ++ vs)) (us ++ (x ∷ vs)) (pull x us vs (go u s) p a.1 b.1 (keeps u s a.0 i)))

    -- ANY REARRANGEMENT that keeps the order of each number's own
    pub rearranged : (xs ys : List X) → All P xs → ((k : ℕ) → of_number k xs ≡ of_number k ys) → All P ys × ((s : S) → I s → Alike s xs ys)
    unfolding keep
    rearranged [] ys a f = rw (none_at_all ys f) (tt, λ s i. alike_refl s [])
    rearranged (x ∷ xs) ys a f =
        from (find (number x) x (of_number (number x) xs) ys (sym (f (number x)) ∙ rw (eq-eqb (number x) (number x) refl)))
        (λ zs. rearranged xs zs a.1)
      where
        same : (g : Found (number x) x (of_number (number x) xs) ys) (k : ℕ) → of_number k xs ≡ of_number k (g.front ++ g.back)
        same g k =
            bool (eqb (number x) k)
            (λ t. subst (λ (j : ℕ). of_number j xs ≡ of_number j (g.front ++ g.back)) (eqb-true (number x) k t) (sym g.left))
            (λ t. rw t at (f k) ∙ ap (of_number k) g.whole ∙ keep_past (λ u. eqb (number u) k) x g.front g.back t)

        from : Found (number x) x (of_number (number x) xs) ys
            → ((zs : List X) → ((k : ℕ) → of_number k xs ≡ of_number k zs) → All P zs × ((s : S) → I s → Alike s xs zs))
            → All P ys × ((s : S) → I s → Alike s (x ∷ xs) ys)
        from g more =
            let (b, alike) = more (g.front ++ g.back) (same g) in
            subst (λ (zs : List X). All P zs × ((s : S) → I s → Alike s (x ∷ xs) zs)) (sym g.whole) (
              all_insert P g.front g.back x a.0 b,
              λ s i. alike_then (alike_cons s x xs (g.front ++ g.back) (alike (go x s) (keeps x s a.0 i)))
                  (pull x g.front g.back s a.0 (all_front P g.front g.back b) g.others i),
            )
