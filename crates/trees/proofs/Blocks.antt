-- In a tree the walk of a node numbers just the nodes that it reaches, one after the other. Assumes nothing.
use mathlib.Core.Path.{◌≡◌, refl, sym, ap, ◌∙◌, subst}
use mathlib.Core.Logic.{◌⊎◌, ⊎_elim, inl, inr}
use mathlib.Core.List.{List, [], ◌∷◌}
use mathlib.Core.Bool.{false}
use Prim.Native.Nat.{ℕ, zero, suc, ◌+◌, ◌≤◌, ◌<◌}
use native.Mathlib.Omega.{arith}
use lib.Dec.{eqb, ltb}
use lib.ListN.{length, get_or, replicate, length-set, length-replicate}
use lib.Seq.{get_or-set_same, get_or-set_other}
use borrow.Author.Tests.{eqb-true, eqb-false, ltb-true, ltb-false}
use Rattle.lists.specs.Lists.{zeros}
use Rattle.lists.proofs.Bools.{bool}
use Rattle.lists.proofs.Members.{In, head, tail, in_nil, in_cons}
use Rattle.lists.proofs.Distinct.{Distinct}
use Rattle.lists.proofs.Marks.{zeros_set, opened, zeros_replicate, set_get, zero_at}
use Rattle.hierarchy.specs.Hierarchy.{children, Edge, Reach}
use Rattle.hierarchy.specs.Hierarchy.Reach.{self, step}
use Rattle.hierarchy.proofs.EdgeLoops.{child_of, edge_of}
use Rattle.hierarchy.proofs.Legals.{Promise}
use Rattle.intervals.specs.Numbering.{Walk, at, marked, numbered, meet, visit, inside, walk, numbering}
use Rattle.intervals.proofs.Walks.{meet_unseen}
use Rattle.trees.specs.Tree.{several_parents}
use Rattle.trees.proofs.Parents.{parent_once, children_once}

-- the numbers of the nodes that x reaches are those from one number on to before another, each of them taken
pub record Block (es numbers : List ℕ) (x from to : ℕ) : Type 0 where
  pub within : (y : ℕ) → Reach es x y → 1 ≤ get_or numbers y 0 → (from ≤ get_or numbers y 0) × (get_or numbers y 0 < to)
  pub taken : (k : ℕ) → from ≤ k → k < to → (y : ℕ) × Reach es x y × (get_or numbers y 0 ≡ k)

-- a node's mark in a walk: 0 unseen, 1 open, 2 closed
abbrev mark : Walk → ℕ → ℕ
mark s y = get_or s.marks y 0

-- and its number, 0 where it has none
abbrev num : Walk → ℕ → ℕ
num s y = get_or s.numbers y 0

-- an unseen node has no number; a closed node's children are closed; a seen node's parents are seen; a closed node's reach has a block of numbers
record Good (es : List ℕ) (n : ℕ) (s : Walk) : Type 0 where
  some : 1 ≤ s.next
  marks_long : length s.marks ≡ n
  numbers_long : length s.numbers ≡ n
  plain : (y : ℕ) → mark s y ≡ 0 → num s y ≡ 0
  shut : (p c : ℕ) → Edge es p c → 2 ≤ mark s p → 2 ≤ mark s c
  through : (p c : ℕ) → Edge es p c → 1 ≤ mark s c → 1 ≤ mark s p
  blocks : (x : ℕ) → 2 ≤ mark s x → (from : ℕ) × (to : ℕ) × Block es s.numbers x from to

-- s has become t: what was seen is as it was, and what is seen now is one of some first nodes, or all its parents were unseen
record Goes (es : List ℕ) (n : ℕ) (First : ℕ → Type 0) (s t : Walk) : Type 0 where
  good : Good es n t
  fewer : zeros t.marks ≤ zeros s.marks
  up : s.next ≤ t.next
  same : (y : ℕ) → 1 ≤ mark s y → mark t y ≡ mark s y
  same_number : (y : ℕ) → 1 ≤ mark s y → num t y ≡ num s y
  new : (y : ℕ) → mark s y ≡ 0 → 1 ≤ mark t y → First y ⊎ ((p : ℕ) → Edge es p y → mark s p ≡ 0)

-- children cs of r were walked: their reaches have the numbers from s's next to before t's, and each of these is of a node that r reaches
record Visited (es : List ℕ) (n r : ℕ) (cs : List ℕ) (s t : Walk) : Type 0 where
  goes : Goes es n (λ y. In y cs) s t
  closed : (c : ℕ) → In c cs → 2 ≤ mark t c
  within : (c : ℕ) → In c cs → (y : ℕ) → Reach es c y → 1 ≤ num t y → (s.next ≤ num t y) × (num t y < t.next)
  taken : (k : ℕ) → s.next ≤ k → k < t.next → (y : ℕ) × Reach es r y × (num t y ≡ k)

-- a number of marks is 0, or it is not
seen_or : {P : Type 0} (m : ℕ) → (m ≡ 0 → P) → (1 ≤ m → P) → P
seen_or zero f g = f refl
seen_or (suc m) f g = g (omega arith)

same_or : {P : Type 0} (x y : ℕ) → (x ≡ y → P) → ((x ≡ y → ⊥) → P) → P
same_or x y f g = bool (eqb x y) (λ e. f (eqb-true x y e)) (λ e. g (eqb-false x y e))

module _ (es : List ℕ) (n : ℕ) (none : several_parents es ≡ false) (ends : (p c : ℕ) → Edge es p c → c < n) where
  -- a numbered node is seen
  numbered_seen : (s : Walk) → Good es n s → (y : ℕ) → 1 ≤ num s y → 1 ≤ mark s y
  numbered_seen s g y h = seen_or (mark s y) (λ u. absurd (omega (arith, h, g.plain y u))) (λ a. a)

  -- a closed node reaches closed nodes only
  closed_on : (s : Walk) → Good es n s → {x y : ℕ} → Reach es x y → 2 ≤ mark s x → 2 ≤ mark s y
  closed_on s g self h = h
  closed_on s g {x = x} (step {child = c} e w) h = closed_on s g w (g.shut x c e h)

  -- where the reach of x keeps its numbers, x keeps its block
  block_same : (numbers numbers' : List ℕ) (x from to : ℕ) → ((y : ℕ) → Reach es x y → get_or numbers' y 0 ≡ get_or numbers y 0) → Block es numbers x from to → Block es numbers' x from to
  block_same numbers numbers' x from to f b =
      record {
        within = λ y w h. let q = b.within y w (omega (arith, h, f y w)) in (omega (arith, q.0, f y w), omega (arith, q.1, f y w));
        taken = λ k h g. let q = b.taken k h g in (q.0, q.1, f q.0 q.1 ∙ q.2);
      }

  -- a walk into an unseen node with seen parents, where at most b nodes are unseen: it is closed, and its reach has the numbers given meanwhile
  abbrev Walks : ℕ → (ℕ → Walk → Walk) → Type 0
  Walks b into =
      (c : ℕ) (s : Walk) → Good es n s → c < n → mark s c ≡ 0 → ((p : ℕ) → Edge es p c → 1 ≤ mark s p) → zeros s.marks ≤ b
      → Goes es n (λ y. y ≡ c) s (into c s) × (2 ≤ mark (into c s) c) × Block es (into c s).numbers c s.next (into c s).next

  module _ (b : ℕ) (into : ℕ → Walk → Walk) (k : Walks b into) (r : ℕ) where
    -- a child more, before the others
    visit_more : (c : ℕ) (cs : List ℕ) (s m t : Walk) → Good es n s → 1 ≤ mark s r → Edge es r c
        → Goes es n (λ y. y ≡ c) s m → 2 ≤ mark m c → Block es m.numbers c s.next m.next
        → Visited es n r cs m t → Visited es n r (c ∷ cs) s t
    visit_more c cs s m t ok seen e g shut block v =
        let back : (p : ℕ) → mark m p ≡ 0 → mark s p ≡ 0 = λ p u. seen_or (mark s p) (λ a. a) (λ a. absurd (omega (arith, a, u, g.same p a))) in
        let here : (y : ℕ) → Reach es c y → 1 ≤ num t y → (s.next ≤ num t y) × (num t y < t.next)
        = λ y w h.
        let a = closed_on m g.good w shut in
        let q = v.goes.same_number y (omega (arith, a)) in
        let d = block.within y w (omega (arith, h, q)) in
        (omega (arith, d.0, q), omega (arith, d.1, q, v.goes.up)) in
        record {
          goes =
              record {
                good = v.goes.good;
                fewer = omega (arith, g.fewer, v.goes.fewer);
                up = omega (arith, g.up, v.goes.up);
                same = λ y a. let q = g.same y a in v.goes.same y (omega (arith, a, q)) ∙ q;
                same_number = λ y a. v.goes.same_number y (omega (arith, a, g.same y a)) ∙ g.same_number y a;
                new = λ y u a.
                    seen_or (mark m y)
                    (λ z. ⊎_elim (λ i. inl (tail i)) (λ f. inr (λ p d. back p (f p d))) (v.goes.new y z a))
                    (λ z. ⊎_elim (λ q. inl (subst (λ (x : ℕ). In x (c ∷ cs)) (sym q) head)) inr (g.new y u z));
              };
          closed = λ d i. in_cons i (λ q. subst (λ (x : ℕ). 2 ≤ mark t x) q (omega (arith, shut, v.goes.same c (omega (arith, shut))))) (v.closed d);
          within = λ d i.
              in_cons i
              (λ q. subst (λ (x : ℕ). (y : ℕ) → Reach es x y → 1 ≤ num t y → (s.next ≤ num t y) × (num t y < t.next)) q here)
              (λ j y w h. let d = v.within d j y w h in (omega (arith, d.0, g.up), d.1));
          taken = λ j h l.
              bool (ltb j m.next)
              (λ q.
              let d = block.taken j h (ltb-true j m.next q) in
              let a = numbered_seen m g.good d.0 (omega (arith, d.2, h, ok.some)) in
              (d.0, step e d.1, v.goes.same_number d.0 a ∙ d.2))
              (λ q. v.taken j (ltb-false j m.next q) l);
        }

    -- a visit of unseen children, none of them twice, of the seen node r
    abbrev Visits : List ℕ → Type 0
    Visits cs =
        (s : Walk) → Good es n s → 1 ≤ mark s r → ((c : ℕ) → In c cs → Edge es r c) → ((c : ℕ) → In c cs → mark s c ≡ 0) → Distinct cs
        → zeros s.marks ≤ b → Visited es n r cs s (visit into cs s)

    -- of no children
    visits_none : Visits []
    unfolding visit
    visits_none s ok seen edge unseen once z =
        record {
          goes =
              record {
                good = ok;
                fewer = omega arith;
                up = omega arith;
                same = λ y a. refl;
                same_number = λ y a. refl;
                new = λ y u a. absurd (omega (arith, u, a));
              };
          closed = λ c i. in_nil i;
          within = λ c i. in_nil i;
          taken = λ j h l. absurd (omega arith);
        }

    -- after the walk of its sibling a child is still unseen
    sibling : (c d : ℕ) (cs : List ℕ) (s m : Walk) → Goes es n (λ y. y ≡ c) s m → 1 ≤ mark s r → (In c cs → ⊥) → In d cs → Edge es r d → mark s d ≡ 0 → mark m d ≡ 0
    sibling c d cs s m g seen off i e u =
        seen_or (mark m d) (λ a. a)
        (λ a. absurd
        (⊎_elim
        (λ q. off (subst (λ (x : ℕ). In x cs) q i))
        (λ f. omega (arith, seen, f r e))
        (g.new d u a)))

    -- of a child and others
    visits_more : (c : ℕ) (cs : List ℕ) → Visits cs → Visits (c ∷ cs)
    unfolding visit
    visits_more c cs rest s ok seen edge unseen once z =
        let e = edge c head in
        let l = ends r c e in
        let q : meet into c s ≡ into c s = meet_unseen into c s (omega (arith, ok.marks_long, l)) (unseen c head) in
        let w = k c s ok l (unseen c head) (λ p d. subst (λ (x : ℕ). 1 ≤ mark s x) (parent_once none e d) seen) z in
        let g = w.0 in
        rw q
        (visit_more c cs s (into c s) (visit into cs (into c s)) ok seen e g w.1 w.2
        (rest (into c s) g.good (omega (arith, seen, g.same r seen)) (λ d i. edge d (tail i))
        (λ d i. sibling c d cs s (into c s) g seen once.0 i (edge d (tail i)) (unseen d (tail i)))
        once.1 (omega (arith, z, g.fewer))))

    visits : (cs : List ℕ) → Visits cs
    visits [] = visits_none
    visits (c ∷ cs) = visits_more c cs (visits cs)

  -- an unseen node with seen parents is opened
  opens : (r : ℕ) (s : Walk) → Good es n s → r < n → mark s r ≡ 0 → ((p : ℕ) → Edge es p r → 1 ≤ mark s p) → Goes es n (λ y. y ≡ r) s (marked r 1 s)
  opens r s ok h u par =
      let o : Walk = marked r 1 s in
      let other : (y : ℕ) → (y ≡ r → ⊥) → mark o y ≡ mark s y = λ y d. get_or-set_other s.marks r y 1 0 d in
      let was : (y : ℕ) → 1 ≤ mark s y → mark o y ≡ mark s y = λ y a. other y (λ q. omega (arith, u, a, ap (mark s) q)) in
      let low : (y : ℕ) → 2 ≤ mark o y → 2 ≤ mark s y
      = λ y a. set_get (λ (v : ℕ). 2 ≤ v → 2 ≤ mark s y) s.marks r 1 y 0 (λ q. absurd (omega arith)) (λ q. q) a in
      let more : (y : ℕ) → 1 ≤ mark s y → 1 ≤ mark o y = λ y a. omega (arith, a, was y a) in
      record {
        good =
            record {
              some = ok.some;
              marks_long = length-set s.marks r 1 ∙ ok.marks_long;
              numbers_long = ok.numbers_long;
              plain = λ y a. set_get (λ (v : ℕ). v ≡ 0 → num s y ≡ 0) s.marks r 1 y 0 (λ q. absurd (omega arith)) (ok.plain y) a;
              shut = λ p c e a. let d = ok.shut p c e (low p a) in omega (arith, d, was c (omega (arith, d)));
              through = λ p c e a.
                  more p
                  (same_or c r
                  (λ q. par p (subst (λ (x : ℕ). Edge es p x) q e))
                  (λ q. ok.through p c e (omega (arith, a, other c q))));
              blocks = λ x a. ok.blocks x (low x a);
            };
        fewer = zeros_set s.marks r 1 (omega arith);
        up = omega arith;
        same = was;
        same_number = λ y a. refl;
        new = λ y z a. same_or y r inl (λ q. absurd (omega (arith, z, a, other y q)));
      }

  -- a node without children takes the next number
  leaf_numbered : (r : ℕ) (s o : Walk) → Goes es n (λ y. y ≡ r) s o → r < n → mark s r ≡ 0 → mark o r ≡ 1 → Goes es n (λ y. y ≡ r) s (numbered r o)
  leaf_numbered r s o g h u m =
      let ok = g.good in
      let other : (y : ℕ) → (y ≡ r → ⊥) → num (numbered r o) y ≡ num o y = λ y d. get_or-set_other o.numbers r y o.next 0 d in
      record {
        good =
            record {
              some = omega (arith, ok.some);
              marks_long = ok.marks_long;
              numbers_long = length-set o.numbers r o.next ∙ ok.numbers_long;
              plain = λ y a. other y (λ q. omega (arith, m, a, ap (mark o) q)) ∙ ok.plain y a;
              shut = ok.shut;
              through = ok.through;
              blocks = λ x a.
                  let d = ok.blocks x a in
                  (d.0, d.1, block_same o.numbers (numbered r o).numbers x d.0 d.1 (λ y w. other y (λ q. omega (arith, m, closed_on o ok w a, ap (mark o) q))) d.2);
            };
        fewer = g.fewer;
        up = omega (arith, g.up);
        same = g.same;
        same_number = λ y a. other y (λ q. omega (arith, u, a, ap (mark s) q)) ∙ g.same_number y a;
        new = g.new;
      }

  -- a node is closed, once its children are
  closes : (r : ℕ) (s t : Walk) (from to : ℕ) → Goes es n (λ y. y ≡ r) s t → r < n → mark s r ≡ 0 → mark t r ≡ 1 → ((c : ℕ) → Edge es r c → 2 ≤ mark t c)
      → Block es t.numbers r from to → Goes es n (λ y. y ≡ r) s (marked r 2 t) × (2 ≤ mark (marked r 2 t) r) × Block es t.numbers r from to
  closes r s t from to g h u m kids block =
      let ok = g.good in
      let f : Walk = marked r 2 t in
      let here : mark f r ≡ 2 = get_or-set_same t.marks r 2 0 (omega (arith, h, ok.marks_long)) in
      let other : (y : ℕ) → (y ≡ r → ⊥) → mark f y ≡ mark t y = λ y d. get_or-set_other t.marks r y 2 0 d in
      let more : (y : ℕ) → 1 ≤ mark t y → 1 ≤ mark f y = λ y a. set_get (λ (v : ℕ). 1 ≤ v) t.marks r 2 y 0 (omega arith) a in
      let less : (y : ℕ) → 1 ≤ mark f y → 1 ≤ mark t y = λ y a. same_or y r (λ q. omega (arith, m, ap (mark t) q)) (λ q. omega (arith, a, other y q)) in (
        record {
          good =
              record {
                some = ok.some;
                marks_long = length-set t.marks r 2 ∙ ok.marks_long;
                numbers_long = ok.numbers_long;
                plain = λ y a. set_get (λ (v : ℕ). v ≡ 0 → num t y ≡ 0) t.marks r 2 y 0 (λ q. absurd (omega arith)) (ok.plain y) a;
                shut = λ p c e a.
                    set_get (λ (v : ℕ). 2 ≤ v) t.marks r 2 c 0 (omega arith)
                    (same_or p r
                    (λ q. kids c (subst (λ (x : ℕ). Edge es x c) q e))
                    (λ q. ok.shut p c e (omega (arith, a, other p q))));
                through = λ p c e a. more p (ok.through p c e (less c a));
                blocks = λ x a.
                    same_or x r
                    (λ q. (from, to, subst (λ (y : ℕ). Block es t.numbers y from to) (sym q) block))
                    (λ q. ok.blocks x (omega (arith, a, other x q)));
              };
          fewer = omega (arith, g.fewer, zeros_set t.marks r 2 (omega arith));
          up = g.up;
          same = λ y a. other y (λ q. omega (arith, u, a, ap (mark s) q)) ∙ g.same y a;
          same_number = g.same_number;
          new = λ y z a. g.new y z (less y a);
        },
        omega (arith, here),
        block,
      )

  -- a node was opened and its children were walked
  opened_visited : (r : ℕ) (cs : List ℕ) (s o t : Walk) → Goes es n (λ y. y ≡ r) s o → Goes es n (λ y. In y cs) o t → mark s r ≡ 0 → ((c : ℕ) → In c cs → Edge es r c) → Goes es n (λ y. y ≡ r) s t
  opened_visited r cs s o t g v u edge =
      let back : (p : ℕ) → mark o p ≡ 0 → mark s p ≡ 0 = λ p a. seen_or (mark s p) (λ q. q) (λ q. absurd (omega (arith, q, a, g.same p q))) in
      record {
        good = v.good;
        fewer = omega (arith, g.fewer, v.fewer);
        up = omega (arith, g.up, v.up);
        same = λ y a. let q = g.same y a in v.same y (omega (arith, a, q)) ∙ q;
        same_number = λ y a. v.same_number y (omega (arith, a, g.same y a)) ∙ g.same_number y a;
        new = λ y z a.
            seen_or (mark o y)
            (λ q. ⊎_elim
            (λ i. inr (λ p e. subst (λ (x : ℕ). mark s x ≡ 0) (parent_once none (edge y i) e) u))
            (λ f. inr (λ p e. back p (f p e)))
            (v.new y q a))
            (λ q. g.new y z q);
      }

  -- a node without children reaches itself alone
  stays : {x y : ℕ} → Reach es x y → ((c : ℕ) → Edge es x c → ⊥) → y ≡ x
  stays self f = refl
  stays (step {child = c} e w) f = absurd (f c e)

  -- a numbered node that one without a number reaches is reached by a child
  further : {P : Type 0} {x y : ℕ} (f : ℕ → ℕ) → Reach es x y → f x ≡ 0 → 1 ≤ f y → ((d : ℕ) → Edge es x d → Reach es d y → P) → P
  further f self z a g = absurd (omega arith)
  further f (step {child = d} e w) z a g = g d e w

  -- the walk of a node with the children cs
  walks_inside : (b : ℕ) (into : ℕ → Walk → Walk) → Walks b into → (r : ℕ) (cs : List ℕ) (s : Walk)
      → ((c : ℕ) → In c cs → Edge es r c) → ((c : ℕ) → Edge es r c → In c cs) → Distinct cs
      → Good es n s → r < n → mark s r ≡ 0 → ((p : ℕ) → Edge es p r → 1 ≤ mark s p) → zeros s.marks ≤ b + 1
      → Goes es n (λ y. y ≡ r) s (marked r 2 (inside into r cs (marked r 1 s))) × (2 ≤ mark (marked r 2 (inside into r cs (marked r 1 s))) r)
      × Block es (inside into r cs (marked r 1 s)).numbers r s.next (inside into r cs (marked r 1 s)).next
  unfolding inside
  walks_inside b into k r [] s edge child once ok h u par z =
      let o : Walk = marked r 1 s in
      let g = opens r s ok h u par in
      let m : mark o r ≡ 1 = get_or-set_same s.marks r 1 0 (omega (arith, h, ok.marks_long)) in
      let here : num (numbered r o) r ≡ s.next = get_or-set_same s.numbers r s.next 0 (omega (arith, h, ok.numbers_long)) in
      let alone : (y : ℕ) → Reach es r y → num (numbered r o) y ≡ s.next
      = λ y w. ap (num (numbered r o)) (stays w (λ c e. in_nil (child c e))) ∙ here in
      closes r s (numbered r o) s.next (s.next + 1) (leaf_numbered r s o g h u m) h u m (λ c e. in_nil (child c e))
      (record {
        within = λ y w a. let q = alone y w in (omega (arith, q), omega (arith, q));
        taken = λ j a l. (r, self, here ∙ (let q : s.next ≡ j = omega arith in q));
      })
  walks_inside b into k r (c ∷ cs) s edge child once ok h u par z =
      let o : Walk = marked r 1 s in
      let g = opens r s ok h u par in
      let m : mark o r ≡ 1 = get_or-set_same s.marks r 1 0 (omega (arith, h, ok.marks_long)) in
      let q = opened s.marks r (omega (arith, h, ok.marks_long)) u in
      let unseen : (d : ℕ) → In d (c ∷ cs) → mark o d ≡ 0
      = λ d i.
      get_or-set_other s.marks r d 1 0 (λ q. omega (arith, u, par r (subst (λ (x : ℕ). Edge es r x) q (edge d i))))
      ∙ seen_or (mark s d) (λ a. a) (λ a. absurd (omega (arith, u, ok.through r d (edge d i) a))) in
      let v = visits b into k r (c ∷ cs) o g.good (omega (arith, m)) edge unseen once (omega (arith, q, z)) in
      let t : Walk = visit into (c ∷ cs) o in
      let mt : mark t r ≡ 1 = v.goes.same r (omega (arith, m)) ∙ m in
      let mine : num t r ≡ 0 = v.goes.same_number r (omega (arith, m)) ∙ ok.plain r u in
      closes r s t s.next t.next (opened_visited r (c ∷ cs) s o t g v.goes u edge) h u mt (λ d e. v.closed d (child d e))
      (record {
        within = λ y w a. further (num t) w mine a (λ d e x. v.within d (child d e) y x a);
        taken = v.taken;
      })

  walks : (k : ℕ) → Walks k (walk k es)
  unfolding walk
  walks zero r s ok h u par z = absurd (let q = opened s.marks r (omega (arith, h, ok.marks_long)) u in omega (arith, q, z))
  walks (suc k) r s ok h u par z =
      walks_inside k (walk k es) (walks k) r (children es r) s (edge_of es r) (λ c e. child_of e) (children_once es r none) ok h u par (omega arith)

-- in a legal hierarchy that is a tree, each node's reach has a block of numbers
pub block_of : (n : ℕ) (es : List ℕ) → Promise n es → several_parents es ≡ false
    → (x : ℕ) → x < n → (from : ℕ) × (to : ℕ) × Block es (numbering n es) x from to
unfolding numbering
block_of n es promise none x h =
    let ends : (p c : ℕ) → Edge es p c → c < n = λ p c e. (promise.edge p c e).child_below in
    let fresh : Walk = at 1 (replicate n 0) (replicate n 0) in
    let start : Good es n fresh =
    record {
      some = omega arith;
      marks_long = length-replicate n 0;
      numbers_long = length-replicate n 0;
      plain = λ y a. zero_at n y;
      shut = λ p c e a. absurd (omega (arith, a, zero_at n p));
      through = λ p c e a. absurd (omega (arith, a, zero_at n c));
      blocks = λ y a. absurd (omega (arith, a, zero_at n y));
    } in
    let w = walks es n none ends n 0 fresh start promise.some (zero_at n 0) (λ p e. absurd ((promise.edge p 0 e).not_root refl)) (omega (arith, zeros_replicate n)) in
    w.0.good.blocks x (closed_on es n none ends (walk n es 0 fresh) w.0.good (promise.reached x h) w.1)
