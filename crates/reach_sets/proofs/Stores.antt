-- Tables of sets: what stands in one after a node's set was put into it, and how much room is left. Assumes nothing.
use mathlib.Core.Path.{◌≡◌, refl, sym, ap, ◌∙◌}
use mathlib.Core.List.{List, [], ◌∷◌, ◌++◌}
use mathlib.Core.Bool.{false, ◌&&◌}
use Prim.Native.Nat.{ℕ, zero, suc, ◌+◌, ◌*◌, ◌/◌, ◌%◌, ◌^◌, ◌≤◌, ◌<◌}
use native.Mathlib.Omega.{arith}
use lib.Dec.{eqb}
use lib.Bits.{bit_or, or_add_and, and_le_r}
use lib.ListN.{length, get_or, set, take, drop, replicate, length-set}
use lib.Seq.{get_or-set_same, get_or-set_other, ext_get_or}
use borrow.Author.Tests.{lt-ltb, eqb-true, eqb-false}
use Rattle.lists.proofs.Bools.{bool, not_both}
use Rattle.reach_sets.specs.declared.NodeSet.{NodeSet}
use Rattle.reach_sets.specs.Sets.{word_at, set_at, stored_at, set_to}
use Rattle.reach_sets.specs.Inner.{single_of, room}
use Rattle.reach_sets.proofs.Nodes.{four, same_words}

-- a set is its four words
pub four_words : (s : NodeSet) → length s.words ≡ 4 → record { words = word_at s 0 ∷ word_at s 1 ∷ word_at s 2 ∷ word_at s 3 ∷ [] } ≡ s
four_words s l =
    ap (λ (ws : List ℕ). record { words = ws })
    (ext_get_or 0 (word_at s 0 ∷ word_at s 1 ∷ word_at s 2 ∷ word_at s 3 ∷ []) s.words (sym l)
    (four (λ k. get_or (word_at s 0 ∷ word_at s 1 ∷ word_at s 2 ∷ word_at s 3 ∷ []) k 0 ≡ word_at s k) refl refl refl refl))

-- four stores side by side put four numbers in the place of four
four_set : (i : ℕ) (t : List ℕ) (a b c d : ℕ) → i + 3 < length t
    → set (set (set (set t i a) (i + 1) b) (i + 2) c) (i + 3) d ≡ take i t ++ (a ∷ b ∷ c ∷ d ∷ drop 4 (drop i t))
four_set zero [] a b c d h = absurd (omega arith)
four_set zero (w ∷ []) a b c d h = absurd (omega arith)
four_set zero (w ∷ x ∷ []) a b c d h = absurd (omega arith)
four_set zero (w ∷ x ∷ y ∷ []) a b c d h = absurd (omega arith)
four_set zero (w ∷ x ∷ y ∷ z ∷ t) a b c d h = refl
four_set (suc i) [] a b c d h = absurd (omega arith)
four_set (suc i) (w ∷ t) a b c d h =
    let p1 : suc i + 1 ≡ suc (i + 1) = omega arith in
    let p2 : suc i + 2 ≡ suc (i + 2) = omega arith in
    let p3 : suc i + 3 ≡ suc (i + 3) = omega arith in
    rw (p1, p2, p3) (ap (λ (l : List ℕ). w ∷ l) (four_set i t a b c d (omega arith)))

-- so they are a copy of a set's words
pub words_copied : (t : List ℕ) (node : ℕ) (s : NodeSet) → length s.words ≡ 4 → 4 * node + 3 < length t
    → stored_at t node s ≡ take (4 * node) t ++ (s.words ++ drop 4 (drop (4 * node) t))
words_copied t node s l h =
    four_set (4 * node) t (word_at s 0) (word_at s 1) (word_at s 2) (word_at s 3) h
    ∙ ap (λ (x : NodeSet). take (4 * node) t ++ (x.words ++ drop 4 (drop (4 * node) t))) (four_words s l)

module _ (t : List ℕ) (node : ℕ) (s : NodeSet) where
  abbrev t1 : List ℕ
  t1 = set t (4 * node) (word_at s 0)

  abbrev t2 : List ℕ
  t2 = set t1 (4 * node + 1) (word_at s 1)

  abbrev t3 : List ℕ
  t3 = set t2 (4 * node + 2) (word_at s 2)

  stored_long : length (stored_at t node s) ≡ length t
  stored_long =
      length-set t3 (4 * node + 3) (word_at s 3) ∙ length-set t2 (4 * node + 2) (word_at s 2) ∙ length-set t1 (4 * node + 1) (word_at s 1)
      ∙ length-set t (4 * node) (word_at s 0)

  -- another place stays
  stored_off : (i : ℕ) → (i ≡ 4 * node → ⊥) → (i ≡ 4 * node + 1 → ⊥) → (i ≡ 4 * node + 2 → ⊥) → (i ≡ 4 * node + 3 → ⊥) → get_or (stored_at t node s) i 0 ≡ get_or t i 0
  stored_off i a b c d =
      get_or-set_other t3 (4 * node + 3) i (word_at s 3) 0 d
      ∙ get_or-set_other t2 (4 * node + 2) i (word_at s 2) 0 c
      ∙ get_or-set_other t1 (4 * node + 1) i (word_at s 1) 0 b
      ∙ get_or-set_other t (4 * node) i (word_at s 0) 0 a

  stored_other : (x : ℕ) → (x ≡ node → ⊥) → set_at (stored_at t node s) x ≡ set_at t x
  stored_other x d =
      rw (
        stored_off (4 * x) (λ e. d (omega (arith, e))) (λ e. absurd (omega (arith, e))) (λ e. absurd (omega (arith, e))) (λ e. absurd (omega (arith, e))),
        stored_off (4 * x + 1) (λ e. absurd (omega (arith, e))) (λ e. d (omega (arith, e))) (λ e. absurd (omega (arith, e))) (λ e. absurd (omega (arith, e))),
        stored_off (4 * x + 2) (λ e. absurd (omega (arith, e))) (λ e. absurd (omega (arith, e))) (λ e. d (omega (arith, e))) (λ e. absurd (omega (arith, e))),
        stored_off (4 * x + 3) (λ e. absurd (omega (arith, e))) (λ e. absurd (omega (arith, e))) (λ e. absurd (omega (arith, e))) (λ e. d (omega (arith, e))),
      ) refl

  module _ (h : 4 * node + 3 < length t) where
    long1 : length t1 ≡ length t
    long1 = length-set t (4 * node) (word_at s 0)

    long2 : length t2 ≡ length t
    long2 = length-set t1 (4 * node + 1) (word_at s 1) ∙ long1

    long3 : length t3 ≡ length t
    long3 = length-set t2 (4 * node + 2) (word_at s 2) ∙ long2

    stored_same : length s.words ≡ 4 → set_at (stored_at t node s) node ≡ s
    stored_same l =
        rw (
          get_or-set_other t3 (4 * node + 3) (4 * node) (word_at s 3) 0 (λ e. absurd (omega (arith, e)))
              ∙ get_or-set_other t2 (4 * node + 2) (4 * node) (word_at s 2) 0 (λ e. absurd (omega (arith, e)))
              ∙ get_or-set_other t1 (4 * node + 1) (4 * node) (word_at s 1) 0 (λ e. absurd (omega (arith, e)))
              ∙ get_or-set_same t (4 * node) (word_at s 0) 0 (omega arith),
          get_or-set_other t3 (4 * node + 3) (4 * node + 1) (word_at s 3) 0 (λ e. absurd (omega (arith, e)))
              ∙ get_or-set_other t2 (4 * node + 2) (4 * node + 1) (word_at s 2) 0 (λ e. absurd (omega (arith, e)))
              ∙ get_or-set_same t1 (4 * node + 1) (word_at s 1) 0 (omega (arith, long1)),
          get_or-set_other t3 (4 * node + 3) (4 * node + 2) (word_at s 3) 0 (λ e. absurd (omega (arith, e)))
              ∙ get_or-set_same t2 (4 * node + 2) (word_at s 2) 0 (omega (arith, long2)),
          get_or-set_same t3 (4 * node + 3) (word_at s 3) 0 (omega (arith, long3)),
        ) (four_words s l)

  -- a node's set put into the table
  module _ (h : node < length t / 4) where
    pub put_is : set_to t node s ≡ stored_at t node s
    put_is = rw (lt-ltb node (length t / 4) h) refl

    pub put_same : length s.words ≡ 4 → set_at (set_to t node s) node ≡ s
    put_same l = rw put_is (stored_same (omega arith) l)

    pub put_other : (x : ℕ) → (x ≡ node → ⊥) → set_at (set_to t node s) x ≡ set_at t x
    put_other x d = rw put_is (stored_other x d)

    pub put_long : length (set_to t node s) ≡ length t
    put_long = rw put_is stored_long

-- ---- the room that is left

-- a word stored takes the place of another
room_set : (l : List ℕ) (i v : ℕ) → i < length l → v < 2 ^ 64 → get_or l i 0 < 2 ^ 64 → room (set l i v) + v ≡ room l + get_or l i 0
unfolding room
room_set [] i v h a b = absurd (omega arith)
room_set (x ∷ xs) zero v h a b = omega arith
room_set (x ∷ xs) (suc i) v h a b = let r = room_set xs i v (omega arith) a b in omega (arith, r)

-- or loses no bit
pub or_more : (a b : ℕ) → a ≤ bit_or a b
or_more a b = omega (arith, or_add_and a b, and_le_r a b)

-- four numbers that do not fall, and are not all the same, have a greater sum
one_more : (a b : ℕ) → a ≤ b → eqb a b ≡ false → a < b
one_more a b h e = let d = eqb-false a b e in omega (arith, d)

not_all : (a a' b b' c c' d d' : ℕ) → a ≤ a' → b ≤ b' → c ≤ c' → d ≤ d' → (eqb a a' && eqb b b' && eqb c c' && eqb d d') ≡ false → a + b + c + d < a' + b' + c' + d'
not_all a a' b b' c c' d d' ha hb hc hd e =
    bool (eqb a a')
    (λ p. bool (eqb b b')
    (λ q. bool (eqb c c')
    (λ r. bool (eqb d d')
    (λ s. not_both (eqb a a' && eqb b b' && eqb c c' && eqb d d') (rw (p, q, r, s) refl) e)
    (λ s. let g = one_more d d' hd s in omega (arith, g)))
    (λ r. let g = one_more c c' hc r in omega (arith, g)))
    (λ q. let g = one_more b b' hb q in omega (arith, g)))
    (λ p. let g = one_more a a' ha p in omega (arith, g))

module _ (t : List ℕ) (node : ℕ) (s : NodeSet) (h : 4 * node + 3 < length t) (small : (i : ℕ) → get_or t i 0 < 2 ^ 64) (fits : (k : ℕ) → k < 4 → word_at s k < 2 ^ 64) where
  -- four words stored
  room_stored : room (stored_at t node s) + (word_at s 0 + word_at s 1 + word_at s 2 + word_at s 3)
      ≡ room t + (get_or t (4 * node) 0 + get_or t (4 * node + 1) 0 + get_or t (4 * node + 2) 0 + get_or t (4 * node + 3) 0)
  room_stored =
      let a1 : get_or (t1 t node s) (4 * node + 1) 0 ≡ get_or t (4 * node + 1) 0 = get_or-set_other t (4 * node) (4 * node + 1) (word_at s 0) 0 (λ e. absurd (omega (arith, e))) in
      let a2 : get_or (t2 t node s) (4 * node + 2) 0 ≡ get_or t (4 * node + 2) 0
      = get_or-set_other (t1 t node s) (4 * node + 1) (4 * node + 2) (word_at s 1) 0 (λ e. absurd (omega (arith, e)))
      ∙ get_or-set_other t (4 * node) (4 * node + 2) (word_at s 0) 0 (λ e. absurd (omega (arith, e))) in
      let a3 : get_or (t3 t node s) (4 * node + 3) 0 ≡ get_or t (4 * node + 3) 0
      = get_or-set_other (t2 t node s) (4 * node + 2) (4 * node + 3) (word_at s 2) 0 (λ e. absurd (omega (arith, e)))
      ∙ get_or-set_other (t1 t node s) (4 * node + 1) (4 * node + 3) (word_at s 1) 0 (λ e. absurd (omega (arith, e)))
      ∙ get_or-set_other t (4 * node) (4 * node + 3) (word_at s 0) 0 (λ e. absurd (omega (arith, e))) in
      let r0 = room_set t (4 * node) (word_at s 0) (omega arith) (fits 0 (omega arith)) (small (4 * node)) in
      let r1 = room_set (t1 t node s) (4 * node + 1) (word_at s 1) (omega (arith, long1 t node s h)) (fits 1 (omega arith)) (omega (arith, a1, small (4 * node + 1))) in
      let r2 = room_set (t2 t node s) (4 * node + 2) (word_at s 2) (omega (arith, long2 t node s h)) (fits 2 (omega arith)) (omega (arith, a2, small (4 * node + 2))) in
      let r3 = room_set (t3 t node s) (4 * node + 3) (word_at s 3) (omega (arith, long3 t node s h)) (fits 3 (omega arith)) (omega (arith, a3, small (4 * node + 3))) in
      omega (arith, a1, a2, a3, r0, r1, r2, r3)

  -- a set that grew leaves less
  pub room_falls : ((k : ℕ) → k < 4 → word_at (set_at t node) k ≤ word_at s k) → same_words (set_at t node) s ≡ false → room (stored_at t node s) < room t
  room_falls more other =
      let grew = not_all (word_at (set_at t node) 0) (word_at s 0) (word_at (set_at t node) 1) (word_at s 1) (word_at (set_at t node) 2) (word_at s 2) (word_at (set_at t node) 3) (word_at s 3)
      (more 0 (omega arith)) (more 1 (omega arith)) (more 2 (omega arith)) (more 3 (omega arith)) other in
      omega (arith, room_stored, grew)

-- ---- each node's own set, in turn

pub record Starting (table₀ : List ℕ) (node : ℕ) (table : List ℕ) : Type 0 where
  pub long : length table ≡ length table₀
  pub each : (x : ℕ) → x < node → set_at table x ≡ single_of x

pub starting_start : (table : List ℕ) → Starting table 0 table
starting_start table = record { long = refl; each = λ x h. absurd (omega arith) }

pub starting_more : (n : ℕ) (table₀ : List ℕ) (node : ℕ) (table : List ℕ) → Starting table₀ node table → length table₀ ≡ 4 * n → node < n
    → (s : NodeSet) → s ≡ single_of node → (table' : List ℕ) → table' ≡ set_to table node s → Starting table₀ (node + 1) table'
starting_more n table₀ node table k whole h s is table' e =
    let l : node < length table / 4 = omega (arith, k.long) in
    record {
      long = rw e (put_long table node s l ∙ k.long);
      each = λ x a.
          rw e
          (bool (eqb x node)
          (λ q. let p = eqb-true x node q in rw p (put_same table node s l (rw is (length-set {A = ℕ} (replicate 4 0) (node / 64) (2 ^ (node % 64)))) ∙ is))
          (λ q. let d = eqb-false x node q in put_other table node s l x d ∙ k.each x (omega (arith, a, d))));
    }
