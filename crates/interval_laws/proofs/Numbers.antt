-- How many numbers a walk gives: no node has two, no two nodes have the same, and each number is at most the count of the nodes. Assumes nothing.
use mathlib.Core.Path.{◌≡◌, refl, sym, ap, ◌∙◌}
use mathlib.Core.List.{List, [], ◌∷◌}
use Prim.Native.Nat.{ℕ, zero, suc, ◌+◌, ◌≤◌, ◌<◌}
use native.Mathlib.Omega.{arith}
use lib.Dec.{eqb}
use lib.ListN.{length, get_or, set, replicate, length-set, length-replicate}
use lib.Seq.{get_or-set_same, get_or-set_other}
use borrow.Author.Tests.{eqb-true, eqb-false}
use Rattle.lists.specs.Lists.{zeros}
use Rattle.hierarchy.specs.Hierarchy.{children}
use Rattle.intervals.specs.Numbering.{Walk, at, marked, numbered, meet, visit, inside, walk, numbering}
use Rattle.lists.proofs.Bools.{bool}
use Rattle.lists.proofs.Marks.{zeros_fall, zeros_replicate, set_get, within, zero_at}
use Rattle.lists.proofs.Loops.{get_d_any}

-- next numbers were given, an unseen node has none, and each is below the next
pub record Counts (n : ℕ) (s : Walk) : Type 0 where
  pub some : 1 ≤ s.next
  pub alike : length s.numbers ≡ length s.marks
  pub total : s.next + zeros s.numbers ≡ n + 1
  pub plain : (i : ℕ) → get_or s.marks i 0 ≡ 0 → get_or s.numbers i 0 ≡ 0
  pub below : (i : ℕ) → get_or s.numbers i 0 < s.next
  pub once : (i j : ℕ) → 1 ≤ get_or s.numbers i 0 → get_or s.numbers i 0 ≡ get_or s.numbers j 0 → i ≡ j

module _ (n : ℕ) where
  -- the next number is new
  numbered_once : (c : ℕ) (s : Walk) → Counts n s → c < length s.numbers → (i j : ℕ) → 1 ≤ get_or (set s.numbers c s.next) i 0
      → get_or (set s.numbers c s.next) i 0 ≡ get_or (set s.numbers c s.next) j 0 → i ≡ j
  numbered_once c s k l i j h e =
      let here : get_or (set s.numbers c s.next) c 0 ≡ s.next = get_or-set_same s.numbers c s.next 0 l in
      let at_c : (x : ℕ) → x ≡ c → get_or (set s.numbers c s.next) x 0 ≡ s.next
      = λ x q. ap (λ (y : ℕ). get_or (set s.numbers c s.next) y 0) q ∙ here in
      let other : (x : ℕ) → (x ≡ c → ⊥) → get_or (set s.numbers c s.next) x 0 ≡ get_or s.numbers x 0
      = λ x d. get_or-set_other s.numbers c x s.next 0 d in
      bool (eqb i c)
      (λ p. let a = eqb-true i c p in bool (eqb j c)
      (λ q. a ∙ sym (eqb-true j c q))
      (λ q. absurd (omega (arith, e, at_c i a, other j (eqb-false j c q), k.below j))))
      (λ p. let a = other i (eqb-false i c p) in bool (eqb j c)
      (λ q. absurd (omega (arith, e, a, at_c j (eqb-true j c q), k.below i)))
      (λ q. k.once i j (omega (arith, h, a)) (sym a ∙ e ∙ other j (eqb-false j c q))))

  counts_numbered : (c : ℕ) (s : Walk) → Counts n s → 1 ≤ get_or s.marks c 0 → get_or s.numbers c 0 ≡ 0 → Counts n (numbered c s)
  counts_numbered c s k o e =
      let m : c < length s.marks = within s.marks c 0 (λ q. omega arith) in
      let l : c < length s.numbers = omega (arith, k.alike) in
      let f = zeros_fall s.numbers c s.next 0 (get_d_any s.numbers c 1 0 l ∙ e) k.some in
      record {
        some = omega (arith, k.some);
        alike = length-set s.numbers c s.next ∙ k.alike;
        total = omega (arith, f, k.total);
        plain = λ i h.
            bool (eqb i c)
            (λ q. let a = ap (λ (x : ℕ). get_or s.marks x 0) (eqb-true i c q) in absurd (omega (arith, a)))
            (λ q. get_or-set_other s.numbers c i s.next 0 (eqb-false i c q) ∙ k.plain i h);
        below = λ i. set_get (λ (v : ℕ). v < s.next + 1) s.numbers c s.next i 0 (omega arith) (omega (arith, k.below i));
        once = λ i j h e. numbered_once c s k l i j h e;
      }

  counts_marked : (r m : ℕ) (s : Walk) → Counts n s → 1 ≤ m → Counts n (marked r m s)
  counts_marked r m s k h =
      record {
        some = k.some;
        alike = k.alike ∙ sym (length-set s.marks r m);
        total = k.total;
        plain = λ i a. set_get (λ (v : ℕ). v ≡ 0 → get_or s.numbers i 0 ≡ 0) s.marks r m i 0 (λ e. absurd (omega arith)) (k.plain i) a;
        below = k.below;
        once = k.once;
      }

  abbrev Counting : (ℕ → Walk → Walk) → Type 0
  Counting into = (c : ℕ) (s : Walk) → Counts n s → get_or s.marks c 2 ≡ 0 → Counts n (into c s)

  counts_meet : (into : ℕ → Walk → Walk) → Counting into → (c : ℕ) (s : Walk) → Counts n s → Counts n (meet into c s)
  unfolding meet
  counts_meet into f c s k =
      bool (eqb (get_or s.marks c 2) 0)
      (λ e. rw e (f c s k (eqb-true _ _ e)))
      (λ e. rw e (bool (eqb (get_or s.marks c 2) 1)
      (λ e. rw e
      (let o : get_or s.marks c 2 ≡ 1 = eqb-true _ _ e in
      let i : c < length s.marks = within s.marks c 2 (λ q. omega arith) in
      bool (eqb (get_or s.numbers c 1) 0)
      (λ e. rw e
      (counts_numbered c s k (omega (arith, o, get_d_any s.marks c 2 0 i)) (get_d_any s.numbers c 0 1 (omega (arith, i, k.alike)) ∙ eqb-true _ _ e)))
      (λ e. rw e k)))
      (λ e. rw e k)))

  counts_visit : (into : ℕ → Walk → Walk) → Counting into → (cs : List ℕ) (s : Walk) → Counts n s → Counts n (visit into cs s)
  unfolding visit
  counts_visit into f [] s k = k
  counts_visit into f (c ∷ cs) s k = counts_visit into f cs (meet into c s) (counts_meet into f c s k)

  counts_inside : (into : ℕ → Walk → Walk) → Counting into → (r : ℕ) (cs : List ℕ) (s : Walk) → Counts n s → get_or s.marks r 2 ≡ 0 → Counts n (inside into r cs (marked r 1 s))
  unfolding inside
  counts_inside into f r [] s k u =
      let i : r < length s.marks = within s.marks r 2 (λ q. omega arith) in
      counts_numbered r (marked r 1 s) (counts_marked r 1 s k (omega arith)) (omega (arith, get_or-set_same s.marks r 1 0 i)) (k.plain r (get_d_any s.marks r 0 2 i ∙ u))
  counts_inside into f r (c ∷ cs) s k u = counts_visit into f (c ∷ cs) (marked r 1 s) (counts_marked r 1 s k (omega arith))

  pub counts_walk : (k : ℕ) (es : List ℕ) → Counting (walk k es)
  unfolding walk
  counts_walk zero es c s k u = k
  counts_walk (suc j) es c s k u = counts_marked c 2 (inside (walk j es) c (children es c) (marked c 1 s)) (counts_inside (walk j es) (counts_walk j es) c (children es c) s k u) (omega arith)

  abbrev fresh : Walk
  fresh = at 1 (replicate n 0) (replicate n 0)

  counts_all : (es : List ℕ) → 1 ≤ n → Counts n (walk n es 0 fresh)
  counts_all es h =
      let l = length-replicate {A = ℕ} n 0 in
      let k : Counts n fresh =
      record {
        some = omega arith;
        alike = refl;
        total = omega (arith, zeros_replicate n);
        plain = λ i h. zero_at n i;
        below = λ i. omega (arith, zero_at n i);
        once = λ i j h e. absurd (omega (arith, h, zero_at n i));
      } in
      counts_walk n es 0 fresh k (get_d_any (replicate n 0) 0 2 0 (omega (arith, l)) ∙ zero_at n 0)

  -- each number of n nodes is at most n
  pub numbering_most : (es : List ℕ) → 1 ≤ n → (i : ℕ) → get_or (numbering n es) i 0 ≤ n
  unfolding numbering
  numbering_most es h i = let w = counts_all es h in omega (arith, w.total, w.below i)

  -- and taken once
  pub numbering_once : (es : List ℕ) → 1 ≤ n → (i j : ℕ) → 1 ≤ get_or (numbering n es) i 0 → get_or (numbering n es) i 0 ≡ get_or (numbering n es) j 0 → i ≡ j
  unfolding numbering
  numbering_once es h i j = (counts_all es h).once i j
