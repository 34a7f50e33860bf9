-- Where the passes have ended, the table has the reach of each node, as the definition has it. Assumes nothing.
use mathlib.Core.Path.{◌≡◌, refl, sym, ap, ◌∙◌, subst}
use mathlib.Core.List.{List, ◌++◌}
use mathlib.Core.Bool.{Bool, true, false, not}
use Prim.Native.Nat.{ℕ, zero, suc, ◌+◌, ◌*◌, ◌/◌, ◌%◌, ◌^◌, ◌<◌}
use native.Mathlib.Omega.{arith}
use lib.Dec.{eqb}
use lib.ListN.{length, get_or, take, drop, length-take, drop_of_length-le}
use lib.Seq.{drop-cons, get_or-take, get_or-drop}
use borrow.Author.Tests.{eqb-false, ne_eqb, not-true}
use Rattle.lists.specs.Lists.{one, Below}
use Rattle.lists.proofs.Bools.{bool, not_both}
use Rattle.hierarchy.specs.Hierarchy.{Edge, Reach, flagged, reach}
use Rattle.hierarchy.specs.Hierarchy.Reach.{self, step}
use Rattle.hierarchy.specs.Inner.{On}
use Rattle.hierarchy.proofs.Reaches.{reach_all_law, reach_only, reach_within}
use Rattle.hierarchy.proofs.Legals.{Promise}
use Rattle.reach_sets.specs.declared.NodeSet.{NodeSet}
use Rattle.reach_sets.specs.Sets.{bit, word_at, has, set_at, word_of, set_of, sets_from, set_table}
use Rattle.reach_sets.specs.Inner.{single_of, Has, Kept, Settled}
use Rattle.reach_sets.proofs.Bits.{word_bit, word_small}
use Rattle.reach_sets.proofs.Nodes.{four, has_self, has_only, Words, same_set}

-- ---- a set of flags

-- a flag, as a test and as a number
pub on_flag : (flags : List ℕ) (x : ℕ) → On flags x → flagged flags x ≡ true
on_flag flags x o = ap not (ne_eqb (get_or flags x 0) 0 (λ e. omega (arith, o, e)))

pub flag_on : (flags : List ℕ) (x : ℕ) → flagged flags x ≡ true → On flags x
flag_on flags x f = let d = eqb-false (get_or flags x 0) 0 (not-true (eqb (get_or flags x 0) 0) f) in omega (arith, d)

one_is : (b : Bool) → eqb (one b) 1 ≡ b
one_is true = refl
one_is false = refl

-- word k has the flags from 64 k on
part_bit : (flags : List ℕ) (at i : ℕ) → i < 64 → bit (word_of (take 64 (drop at flags))) i ≡ one (flagged flags (at + i))
part_bit flags at i h =
    word_bit (take 64 (drop at flags)) i
    ∙ ap (λ (f : ℕ). one (not (eqb f 0))) (get_or-take 64 (drop at flags) i 0 h ∙ get_or-drop at flags i 0)

set_bit : (flags : List ℕ) (k : ℕ) → k < 4 → (i : ℕ) → i < 64 → bit (word_at (set_of flags) k) i ≡ one (flagged flags (64 * k + i))
set_bit flags =
    four (λ k. (i : ℕ) → i < 64 → bit (word_at (set_of flags) k) i ≡ one (flagged flags (64 * k + i)))
    (part_bit flags 0) (part_bit flags 64) (part_bit flags 128) (part_bit flags 192)

-- a node is in it where it has a flag
pub has_flagged : (flags : List ℕ) (y : ℕ) → y < 256 → has (set_of flags) y ≡ flagged flags y
has_flagged flags y h =
    let e : 64 * (y / 64) + y % 64 ≡ y = omega arith in
    ap (λ (b : ℕ). eqb b 1) (set_bit flags (y / 64) (omega arith) (y % 64) (omega arith)) ∙ one_is (flagged flags (64 * (y / 64) + y % 64)) ∙ ap (flagged flags) e

flags_words : (flags : List ℕ) → Words (set_of flags)
flags_words flags = (refl, four (λ k. word_at (set_of flags) k < 2 ^ 64) (small flags) (small (drop 64 flags)) (small (drop 128 flags)) (small (drop 192 flags)))
  where
    small : (l : List ℕ) → word_of (take 64 l) < 2 ^ 64
    small l = word_small 64 (take 64 l) (simp length-take (omega arith))

-- ---- the table

module _ (n : ℕ) (es : List ℕ) (promise : Promise n es) (t₀ t : List ℕ)
    (start : (x : ℕ) → x < n → set_at t₀ x ≡ single_of x) (kept : Kept es t₀ t) (settled : Settled es t) (small : Below (2 ^ 64) t) where
  ends : (p c : ℕ) → Edge es p c → c < n
  ends p c e = (promise.edge p c e).child_below

  -- what a node has, it reaches
  has_reach : (x y : ℕ) → x < n → y < 256 → Has t x y → Reach es x y
  has_reach x y h g a =
      let f = kept.from x y g a in
      let z : f.of < n = reach_within n ends f.way h in
      let q : y ≡ f.of = has_only f.of y (omega (arith, z, promise.few)) (ap (λ (s : NodeSet). has s y) (sym (start f.of z)) ∙ f.has_it) in
      subst (Reach es x) (sym q) f.way

  -- and what it reaches, it has
  along : {x y : ℕ} → Reach es x y → y < 256 → Has t y y → Has t x y
  along self h a = a
  along {x = x} {y = y} (step {child = c} e w) h a = settled x c e y h (along w h a)

  reach_has : (x y : ℕ) → x < n → Reach es x y → Has t x y
  reach_has x y h w =
      let l : y < n = reach_within n ends w h in
      let s : y < 256 = omega (arith, l, promise.few) in
      along w s (kept.more y y s (ap (λ (s : NodeSet). has s y) (start y l) ∙ has_self y s))

  -- so it has the definition's set
  pub set_is : (x : ℕ) → x < n → set_at t x ≡ set_of (reach n es x)
  set_is x h =
      same_set (set_at t x) (set_of (reach n es x)) (refl, four (λ k. word_at (set_at t x) k < 2 ^ 64) (small (4 * x)) (small (4 * x + 1)) (small (4 * x + 2)) (small (4 * x + 3)))
      (flags_words (reach n es x))
      (λ y g.
      bool (has (set_at t x) y)
      (λ a. a ∙ sym (has_flagged (reach n es x) y g ∙ on_flag (reach n es x) y (reach_all_law es n ends x y h (has_reach x y h g a))))
      (λ a. a ∙ sym (bool (has (set_of (reach n es x)) y)
      (λ b. not_both (has (set_at t x) y) (reach_has x y h (reach_only es n ends x y (flag_on (reach n es x) y (sym (has_flagged (reach n es x) y g) ∙ b)))) a)
      (λ b. b))))

-- a table of sets, one by one
table_from : (n : ℕ) (es t : List ℕ) → ((x : ℕ) → x < n → set_at t x ≡ set_of (reach n es x)) → (k node : ℕ) → node + k ≡ n → length t ≡ 4 * n
    → drop (4 * node) t ≡ sets_from n es k node
unfolding sets_from
table_from n es t f zero node e l = drop_of_length-le t {i = 4 * node} (omega arith)
table_from n es t f (suc k) node e l =
    let a : suc (4 * node) ≡ 4 * node + 1 = omega arith in
    let b : suc (4 * node + 1) ≡ 4 * node + 2 = omega arith in
    let c : suc (4 * node + 2) ≡ 4 * node + 3 = omega arith in
    let d : suc (4 * node + 3) ≡ 4 * suc node = omega arith in
    drop-cons t (4 * node) 0 (omega arith)
    ∙ rw (a, drop-cons t (4 * node + 1) 0 (omega arith), b, drop-cons t (4 * node + 2) 0 (omega arith), c, drop-cons t (4 * node + 3) 0 (omega arith), d)
    (ap (λ (s : NodeSet). s.words ++ drop (4 * suc node) t) (f node (omega arith))
    ∙ ap (λ (r : List ℕ). (set_of (reach n es node)).words ++ r) (table_from n es t f k (suc node) (omega arith) l))

pub table_is : (n : ℕ) (es t : List ℕ) → ((x : ℕ) → x < n → set_at t x ≡ set_of (reach n es x)) → length t ≡ 4 * n → t ≡ set_table n es
unfolding set_table
table_is n es t f l = table_from n es t f n 0 (omega arith) l

-- the set of a node in the definition's table, whatever stands behind it
sets_at : (n : ℕ) (es behind : List ℕ) (k node i : ℕ) → i < k → set_at (sets_from n es k node ++ behind) i ≡ set_of (reach n es (node + i))
unfolding sets_from
sets_at n es behind zero node i h = absurd (omega arith)
sets_at n es behind (suc k) node zero h = let e : node + 0 ≡ node = omega arith in rw e refl
sets_at n es behind (suc k) node (suc i) h =
    let a : 4 * suc i ≡ suc (suc (suc (suc (4 * i)))) = omega arith in
    let b : 4 * suc i + 1 ≡ suc (suc (suc (suc (4 * i + 1)))) = omega arith in
    let c : 4 * suc i + 2 ≡ suc (suc (suc (suc (4 * i + 2)))) = omega arith in
    let d : 4 * suc i + 3 ≡ suc (suc (suc (suc (4 * i + 3)))) = omega arith in
    let e : node + suc i ≡ suc node + i = omega arith in
    rw (d, c, b, a, e) (sets_at n es behind k (suc node) i (omega arith))

pub table_set : (n : ℕ) (es behind : List ℕ) (x : ℕ) → x < n → set_at (set_table n es ++ behind) x ≡ set_of (reach n es x)
unfolding set_table
table_set n es behind x h = let e : 0 + x ≡ x = omega arith in sets_at n es behind n 0 x h ∙ ap (λ (y : ℕ). set_of (reach n es y)) e

sets_long : (n : ℕ) (es : List ℕ) (k node : ℕ) → length (sets_from n es k node) ≡ 4 * k
unfolding sets_from
sets_long n es zero node = refl
sets_long n es (suc k) node = let r = sets_long n es k (suc node) in omega (arith, r)

pub table_long : (n : ℕ) (es : List ℕ) → length (set_table n es) ≡ 4 * n
unfolding set_table
table_long n es = sets_long n es n 0
