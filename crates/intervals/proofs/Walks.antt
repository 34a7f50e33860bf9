-- What a walk keeps, and how the rest of the edge table is walked. Assumes nothing.
use mathlib.Core.Path.{◌≡◌, refl, sym, ap, ◌∙◌}
use mathlib.Core.List.{List, [], ◌∷◌}
use mathlib.Core.Bool.{Bool, true, false}
use Prim.Native.Nat.{ℕ, zero, suc, ◌+◌, ◌*◌, ◌≤◌, ◌<◌}
use native.Mathlib.Omega.{arith}
use lib.Dec.{eqb}
use lib.ListN.{length, get_or, set, replicate, length-set, length-replicate}
use borrow.Author.Tests.{eqb-true, eq-eqb, ne_eqb}
use Rattle.hierarchy.specs.Hierarchy.{edges_of, children}
use Rattle.intervals.specs.Numbering.{Walk, at, marked, numbered, meet, visit, inside, walk, numbering}
use Rattle.lists.specs.Lists.{zeros}
use Rattle.hierarchy.specs.Inner.{ends_at, Edges}
use Rattle.intervals.specs.Inner.{Ready, Fresh}
use Rattle.hierarchy.specs.declared.Ends.{Ends}
use Rattle.lists.proofs.Bools.{bool}
use Rattle.lists.proofs.Marks.{zeros_set, zeros_fall, zeros_replicate, zero_at}
use Rattle.lists.proofs.Loops.{get_d_any}
use Rattle.hierarchy.proofs.EdgeLoops.{rest, rest_other, rest_child, end_children, turn, child_below}

-- what holds of the walk s' that s has become: the tables keep their lengths, seen stays seen, and the counter stays within what was left to number
pub record After (s s' : Walk) : Type 0 where
  pub marks_long : length s'.marks ≡ length s.marks
  pub numbers_long : length s'.numbers ≡ length s.numbers
  pub seen : zeros s'.marks ≤ zeros s.marks
  pub room : s'.next + (zeros s'.marks + zeros s'.numbers) ≤ s.next + (zeros s.marks + zeros s.numbers)
  pub up : s.next ≤ s'.next

pub after_refl : (s : Walk) → After s s
after_refl s = record { marks_long = refl; numbers_long = refl; seen = omega arith; room = omega arith; up = omega arith }

pub after_trans : (s t u : Walk) → After s t → After t u → After s u
after_trans s t u a b = record { marks_long = cc; numbers_long = cc; seen = omega arith; room = omega arith; up = omega arith }

pub after_numbered : (c : ℕ) (s : Walk) → 1 ≤ s.next → get_or s.numbers c 1 ≡ 0 → After s (numbered c s)
after_numbered c s h e =
    let z = zeros_fall s.numbers c s.next 0 e h in
    record { marks_long = refl; numbers_long = length-set s.numbers c s.next; seen = omega arith; room = omega arith; up = omega arith }

-- into is a walk of an unseen node that keeps what After says
abbrev pub Keeps : (ℕ → Walk → Walk) → Type 0
Keeps into = (c : ℕ) (s : Walk) → 1 ≤ s.next → get_or s.marks c 2 ≡ 0 → After s (into c s)

pub after_meet : (into : ℕ → Walk → Walk) → Keeps into → (c : ℕ) (s : Walk) → 1 ≤ s.next → After s (meet into c s)
unfolding meet
after_meet into k c s h =
    bool (eqb (get_or s.marks c 2) 0)
    (λ a. rw a (k c s h (eqb-true _ _ a)))
    (λ a. rw a (bool (eqb (get_or s.marks c 2) 1)
    (λ b. rw b (bool (eqb (get_or s.numbers c 1) 0) (λ d. rw d (after_numbered c s h (eqb-true _ _ d))) (λ d. rw d (after_refl s))))
    (λ b. rw b (after_refl s))))

pub after_visit : (into : ℕ → Walk → Walk) → Keeps into → (cs : List ℕ) (s : Walk) → 1 ≤ s.next → After s (visit into cs s)
unfolding visit
after_visit into k [] s h = after_refl s
after_visit into k (c ∷ cs) s h =
    let m = after_meet into k c s h in
    after_trans s (meet into c s) (visit into cs (meet into c s)) m (after_visit into k cs (meet into c s) (omega arith))

-- r is opened, and later closed: an unseen node less
after_open : (r : ℕ) (s t : Walk) → get_or s.marks r 2 ≡ 0 → After (marked r 1 s) t → After s (marked r 2 t)
after_open r s t e a =
    let f = zeros_fall s.marks r 1 1 e (omega arith) in
    let g = zeros_set t.marks r 2 (omega arith) in
    record { marks_long = length-set t.marks r 2 ∙ a.marks_long ∙ length-set s.marks r 1; numbers_long = a.numbers_long; seen = omega arith; room = omega arith; up = omega arith }

-- a leaf: r is closed with the next number
after_leaf : (r : ℕ) (s : Walk) → 1 ≤ s.next → get_or s.marks r 2 ≡ 0 → After s (marked r 2 (numbered r (marked r 1 s)))
after_leaf r s h e =
    let f = zeros_fall s.marks r 1 1 e (omega arith) in
    let g = zeros_set (set s.marks r 1) r 2 (omega arith) in
    let n = zeros_set s.numbers r s.next h in
    record { marks_long = simp length-set; numbers_long = simp length-set; seen = omega arith; room = omega arith; up = omega arith }

after_inside : (into : ℕ → Walk → Walk) → Keeps into → (r : ℕ) (cs : List ℕ) (s : Walk) → 1 ≤ s.next → get_or s.marks r 2 ≡ 0 → After s (marked r 2 (inside into r cs (marked r 1 s)))
unfolding inside
after_inside into k r [] s h e = after_leaf r s h e
after_inside into k r (c ∷ cs) s h e = after_open r s (visit into (c ∷ cs) (marked r 1 s)) e (after_visit into k (c ∷ cs) (marked r 1 s) h)

pub after_walk : (k : ℕ) (es : List ℕ) → Keeps (walk k es)
unfolding walk
after_walk zero es r s h e = after_refl s
after_walk (suc k) es r s h e = after_inside (walk k es) (after_walk k es) r (children es r) s h e

abbrev pub last_if : Bool → ℕ → Walk → Walk
last_if true r s = numbered r s
last_if false r s = s

-- the loop's own view: the children cs are left, and no child was met so far where leaf is true
unfoldable pub finish : (ℕ → Walk → Walk) → ℕ → List ℕ → Bool → Walk → Walk
finish into r [] leaf s = last_if leaf r s
finish into r (c ∷ cs) leaf s = finish into r cs false (meet into c s)

finish_visit : (into : ℕ → Walk → Walk) (r : ℕ) (cs : List ℕ) (s : Walk) → finish into r cs false s ≡ visit into cs s
unfolding finish visit
finish_visit into r [] s = refl
finish_visit into r (c ∷ cs) s = finish_visit into r cs (meet into c s)

pub finish_inside : (into : ℕ → Walk → Walk) (r : ℕ) (cs : List ℕ) (s : Walk) → finish into r cs true s ≡ inside into r cs s
unfolding finish inside visit
finish_inside into r [] s = refl
finish_inside into r (c ∷ cs) s = finish_visit into r cs (meet into c s)

-- how a child within the tables is met, by what the code reads of it
module _ (into : ℕ → Walk → Walk) (c : ℕ) (s : Walk) (h : c < length s.marks) where
  mark : get_or s.marks c 2 ≡ get_or s.marks c 0
  mark = get_d_any s.marks c 2 0 h

  pub meet_unseen : get_or s.marks c 0 ≡ 0 → meet into c s ≡ into c s
  unfolding meet
  meet_unseen m = rw (eq-eqb (get_or s.marks c 2) 0 (mark ∙ m))

  pub meet_other : (get_or s.marks c 0 ≡ 0 → ⊥) → (get_or s.marks c 0 ≡ 1 → ⊥) → meet into c s ≡ s
  unfolding meet
  meet_other m o = rw (ne_eqb (get_or s.marks c 2) 0 (λ e. m (sym mark ∙ e)), ne_eqb (get_or s.marks c 2) 1 (λ e. o (sym mark ∙ e)))

  module _ (g : c < length s.numbers) (m : get_or s.marks c 0 ≡ 1) where
    number : get_or s.numbers c 1 ≡ get_or s.numbers c 0
    number = get_d_any s.numbers c 1 0 g

    pub meet_open : get_or s.numbers c 0 ≡ 0 → meet into c s ≡ numbered c s
    unfolding meet
    meet_open n =
        rw
        (ne_eqb (get_or s.marks c 2) 0 (λ e. omega (arith, mark)), eq-eqb (get_or s.marks c 2) 1 (mark ∙ m), eq-eqb (get_or s.numbers c 1) 0 (number ∙ n))

    pub meet_numbered : (get_or s.numbers c 0 ≡ 0 → ⊥) → meet into c s ≡ s
    unfolding meet
    meet_numbered n =
        rw
        (ne_eqb (get_or s.marks c 2) 0 (λ e. omega (arith, mark)), eq-eqb (get_or s.marks c 2) 1 (mark ∙ m), ne_eqb (get_or s.numbers c 1) 0 (λ e. n (sym number ∙ e)))

-- the loop of a walk of a node, opened at s₀, at edge e: what is left to do from s gives what was to be done from s₀
pub record Left (edges : List ℕ) (count node : ℕ) (s₀ : Walk) (e : ℕ) (leaf : Bool) (s : Walk) : Type 0 where
  pub after : After s₀ s
  pub same :
      (k : ℕ) → zeros s₀.marks ≤ k
      → finish (walk k (edges_of edges count)) node (children (rest edges count e) node) leaf s ≡ inside (walk k (edges_of edges count)) node (children (edges_of edges count) node) s₀

module _ (n count : ℕ) (edges : List ℕ) (fits : Edges n count edges) (node : ℕ) (s₀ : Walk) where
  pub left_start : Left edges count node s₀ 0 true s₀
  left_start =
      record {
        after = after_refl s₀;
        same = λ k h. finish_inside (walk k (edges_of edges count)) node (children (edges_of edges count) node) s₀;
      }

  module _ (e : ℕ) (leaf : Bool) (s : Walk) (l : Left edges count node s₀ e leaf s) where
    module _ (here : e < count) (ends : Ends) (is : ends ≡ ends_at edges e) where
      is_parent : ends.parent ≡ get_or edges (2 * e) 0
      is_parent = ap (λ (x : Ends). x.parent) is

      is_child : ends.child ≡ get_or edges (2 * e + 1) 0
      is_child = ap (λ (x : Ends). x.child) is

      pub left_within : ends.child < n
      left_within = omega (arith, is_child, child_below n count edges fits e here)

      pub left_other : (ends.parent ≡ node → ⊥) → Left edges count node s₀ (e + 1) leaf s
      left_other d =
          record {
            after = l.after;
            same = λ k h.
                ap (λ (cs : List ℕ). finish (walk k (edges_of edges count)) node cs leaf s)
                (sym (rest_other edges count e (turn n count edges fits e here) node (λ p. d (is_parent ∙ p))))
                ∙ l.same k h;
          }

      pub left_child : ends.parent ≡ node → 1 ≤ s₀.next → (s' : Walk) → ((k : ℕ) → zeros s₀.marks ≤ k → s' ≡ meet (walk k (edges_of edges count)) ends.child s)
          → Left edges count node s₀ (e + 1) false s'
      unfolding finish
      left_child p one s' q =
          record {
            after =
                rw (q (zeros s₀.marks) (omega arith))
                (after_trans s₀ s (meet (walk (zeros s₀.marks) (edges_of edges count)) ends.child s) l.after
                (after_meet (walk (zeros s₀.marks) (edges_of edges count)) (after_walk (zeros s₀.marks) (edges_of edges count)) ends.child s (omega (arith, l.after.up))));
            same = λ k h.
                ap (λ (t : Walk). finish (walk k (edges_of edges count)) node (children (rest edges count (e + 1)) node) false t) (q k h)
                ∙ ap (λ (cs : List ℕ). finish (walk k (edges_of edges count)) node cs leaf s)
                (ap (λ (x : ℕ). x ∷ children (rest edges count (e + 1)) node) is_child
                ∙ sym (rest_child edges count e (turn n count edges fits e here) node (sym is_parent ∙ p)))
                ∙ l.same k h;
          }

    pub left_end : count ≤ e → (k : ℕ) → zeros s₀.marks ≤ k → last_if leaf node s ≡ inside (walk k (edges_of edges count)) node (children (edges_of edges count) node) s₀
    unfolding finish
    left_end z k h =
        ap (λ (cs : List ℕ). finish (walk k (edges_of edges count)) node cs leaf s) (sym (end_children edges count e (omega arith) node))
        ∙ l.same k h

-- the walk of an unseen node, once its loop is done
pub walk_end : (es : List ℕ) (r : ℕ) (s t : Walk) → get_or s.marks r 2 ≡ 0
    → ((k : ℕ) → zeros (set s.marks r 1) ≤ k → t ≡ inside (walk k es) r (children es r) (marked r 1 s))
    → (k : ℕ) → zeros s.marks ≤ k → marked r 2 t ≡ walk k es r s
unfolding walk
walk_end es r s t u q zero h = absurd (let f = zeros_fall s.marks r 1 1 u (omega arith) in omega arith)
walk_end es r s t u q (suc k) h = let f = zeros_fall s.marks r 1 1 u (omega arith) in ap (marked r 2) (q k (omega arith))

-- the numbering: a walk of node 0, of n nodes, once the tables are cleared
module _ (n count : ℕ) (edges numbers₀ marks numbers : List ℕ) (f : Fresh n count edges numbers₀) (m : marks ≡ replicate n 0)
    (z : numbers ≡ replicate (length numbers₀) 0) where
  long : length marks ≡ n
  long = ap length m ∙ length-replicate n 0

  unseen : zeros marks ≡ n
  unseen = ap zeros m ∙ zeros_replicate n

  unnumbered : numbers ≡ replicate n 0
  unnumbered = z ∙ ap (λ (k : ℕ). replicate k 0) f.alike

  pub fresh_ready : Ready 0 1 count edges marks numbers
  fresh_ready =
      record {
        here = omega (arith, f.some, long);
        unseen = ap (λ (t : List ℕ). get_or t 0 0) m ∙ zero_at n 0;
        alike = ap length unnumbered ∙ length-replicate n 0 ∙ sym long;
        ends = rw long f.ends;
        first = omega arith;
        room = omega (arith, f.few, unseen, ap zeros unnumbered ∙ zeros_replicate n);
      }

  pub fresh_end : (t : Walk) → ((k : ℕ) → zeros marks ≤ k → t ≡ walk k (edges_of edges count) 0 (at 1 marks numbers))
      → t.numbers ≡ numbering n (edges_of edges count)
  unfolding numbering
  fresh_end t q = ap (λ (w : Walk). w.numbers) (q n (omega (arith, unseen))) ∙ rw (m, unnumbered) refl
