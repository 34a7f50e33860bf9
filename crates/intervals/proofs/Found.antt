-- The walk sees the nodes that the root reaches, and each of them reaches a numbered node. Assumes nothing.
use mathlib.Core.Path.{◌≡◌, sym, ap, ◌∙◌, subst}
use mathlib.Core.List.{List, [], ◌∷◌}
use Prim.Native.Nat.{ℕ, zero, suc, ◌+◌, ◌≤◌, ◌<◌}
use native.Mathlib.Omega.{arith}
use lib.Dec.{eqb}
use lib.ListN.{length, get_or, set, replicate, length-set, length-replicate}
use lib.Seq.{get_or-set_same, get_or-set_other}
use borrow.Author.Tests.{eqb-true, eqb-false}
use Rattle.lists.specs.Lists.{zeros}
use Rattle.hierarchy.specs.Hierarchy.{children, Edge, Reach}
use Rattle.hierarchy.specs.Hierarchy.Reach.{self, step}
use Rattle.intervals.specs.Numbering.{Walk, at, marked, numbered, meet, visit, inside, walk}
use Rattle.lists.proofs.Bools.{bool}
use Rattle.lists.proofs.Members.{In, head, tail, in_nil, in_cons}
use Rattle.hierarchy.proofs.EdgeLoops.{child_of, edge_of}
use Rattle.lists.proofs.Marks.{zeros_set, opened, zeros_replicate, set_get, zero_at}
use Rattle.lists.proofs.Loops.{get_d_any}

-- r reaches a node that has a number
pub record Found (es : List ℕ) (s : Walk) (r : ℕ) : Type 0 where
  pub leaf : ℕ
  pub way : Reach es r leaf
  pub has : 1 ≤ get_or s.numbers leaf 0

-- each closed node reaches a numbered one
abbrev pub Good : List ℕ → Walk → Type 0
Good es s = (i : ℕ) → 2 ≤ get_or s.marks i 0 → Found es s i

-- each child of a closed node is seen
abbrev pub Shut : List ℕ → Walk → Type 0
Shut es s = (i c : ℕ) → 2 ≤ get_or s.marks i 0 → Edge es i c → 1 ≤ get_or s.marks c 2

pub record Whole (es : List ℕ) (n : ℕ) (s : Walk) : Type 0 where
  pub some : 1 ≤ s.next
  pub marks_long : length s.marks ≡ n
  pub numbers_long : length s.numbers ≡ n
  pub good : Good es s
  pub shut : Shut es s

pub record Onward (es : List ℕ) (n : ℕ) (s s' : Walk) : Type 0 where
  pub whole : Whole es n s'
  pub fewer : zeros s'.marks ≤ zeros s.marks
  pub grow : (x : ℕ) → 1 ≤ get_or s.numbers x 0 → 1 ≤ get_or s'.numbers x 0
  pub seen : (i : ℕ) → 1 ≤ get_or s.marks i 2 → 1 ≤ get_or s'.marks i 2
  pub opens : (i : ℕ) → get_or s'.marks i 0 ≡ 1 → get_or s.marks i 0 ≡ 1

module _ (es : List ℕ) (n : ℕ) where
  on_refl : (s : Walk) → Whole es n s → Onward es n s s
  on_refl s w = record { whole = w; fewer = omega arith; grow = λ x h. h; seen = λ i h. h; opens = λ i h. h }

  on_trans : (s t u : Walk) → Onward es n s t → Onward es n t u → Onward es n s u
  on_trans s t u a b =
      record {
        whole = b.whole;
        fewer = omega (arith, a.fewer, b.fewer);
        grow = λ x h. b.grow x (a.grow x h);
        seen = λ i h. b.seen i (a.seen i h);
        opens = λ i h. a.opens i (b.opens i h);
      }

  found_grow : (s t : Walk) (r : ℕ) → ((x : ℕ) → 1 ≤ get_or s.numbers x 0 → 1 ≤ get_or t.numbers x 0) → Found es s r → Found es t r
  found_grow s t r g f = record { leaf = f.leaf; way = f.way; has = g f.leaf f.has }

  on_numbered : (c : ℕ) (s : Walk) → Whole es n s → Onward es n s (numbered c s)
  on_numbered c s w =
      let g : (x : ℕ) → 1 ≤ get_or s.numbers x 0 → 1 ≤ get_or (set s.numbers c s.next) x 0 = λ x h. set_get (λ (v : ℕ). 1 ≤ v) s.numbers c s.next x 0 w.some h in
      record {
        whole =
            record {
              some = omega (arith, w.some);
              marks_long = w.marks_long;
              numbers_long = length-set s.numbers c s.next ∙ w.numbers_long;
              good = λ i h. found_grow s (numbered c s) i g (w.good i h);
              shut = w.shut;
            };
        fewer = omega arith;
        grow = g;
        seen = λ i h. h;
        opens = λ i h. h;
      }

  found_self : (c : ℕ) (s : Walk) → Whole es n s → c < n → Found es (numbered c s) c
  found_self c s w h =
      record { leaf = c; way = self; has = rw (get_or-set_same s.numbers c s.next 0 (omega (arith, w.numbers_long))) w.some }

  -- a walk into an unseen node, where at most b nodes are unseen, closes it
  abbrev Settles : ℕ → (ℕ → Walk → Walk) → Type 0
  Settles b into = (c : ℕ) (s : Walk) → Whole es n s → c < n → get_or s.marks c 0 ≡ 0 → zeros s.marks ≤ b → Onward es n s (into c s) × (2 ≤ get_or (into c s).marks c 0)

  -- c was met: it is seen, and reaches a numbered node
  abbrev Met : Walk → ℕ → Type 0
  Met s c = (1 ≤ get_or s.marks c 2) × Found es s c

  met_on : (s t : Walk) (c : ℕ) → Onward es n s t → Met s c → Met t c
  met_on s t c o m = (o.seen c m.0, found_grow s t c o.grow m.1)

  module _ (b : ℕ) (into : ℕ → Walk → Walk) (k : Settles b into) where
    on_meet : (c : ℕ) (s : Walk) → Whole es n s → c < n → zeros s.marks ≤ b → Onward es n s (meet into c s) × Met (meet into c s) c
    unfolding meet
    on_meet c s w h z =
        let m : get_or s.marks c 2 ≡ get_or s.marks c 0 = get_d_any s.marks c 2 0 (omega (arith, w.marks_long)) in
        let a : get_or s.numbers c 1 ≡ get_or s.numbers c 0 = get_d_any s.numbers c 1 0 (omega (arith, w.numbers_long)) in
        bool (eqb (get_or s.marks c 2) 0)
        (λ e. rw e
        (let q = k c s w h (sym m ∙ eqb-true _ _ e) z in
        (q.0, (omega (arith, q.1, get_d_any (into c s).marks c 2 0 (omega (arith, q.0.whole.marks_long))), q.0.whole.good c q.1))))
        (λ e. rw e
        (let u : get_or s.marks c 2 ≡ 0 → ⊥ = eqb-false _ _ e in
        bool (eqb (get_or s.marks c 2) 1)
        (λ e. rw e
        (let o : get_or s.marks c 2 ≡ 1 = eqb-true _ _ e in
        bool (eqb (get_or s.numbers c 1) 0)
        (λ e. rw e (on_numbered c s w, (omega (arith, o), found_self c s w h)))
        (λ e. rw e (on_refl s w, (omega (arith, o), record { leaf = c; way = self; has = let v : get_or s.numbers c 1 ≡ 0 → ⊥ = eqb-false _ _ e in omega (arith, a, v) })))))
        (λ e. rw e
        (let v : get_or s.marks c 2 ≡ 1 → ⊥ = eqb-false _ _ e in (on_refl s w, (omega (arith, u), w.good c (omega (arith, m, u, v))))))))

    on_visit : (cs : List ℕ) (s : Walk) → Whole es n s → ((c : ℕ) → In c cs → c < n) → zeros s.marks ≤ b
        → Onward es n s (visit into cs s) × ((c : ℕ) → In c cs → Met (visit into cs s) c)
    unfolding visit
    on_visit [] s w h z = (on_refl s w, λ c i. in_nil i)
    on_visit (c ∷ cs) s w h z =
        let m = on_meet c s w (h c head) z in
        let v = on_visit cs (meet into c s) m.0.whole (λ d i. h d (tail i)) (omega (arith, m.0.fewer)) in (
          on_trans s (meet into c s) (visit into cs (meet into c s)) m.0 v.0,
          λ d i. in_cons i (λ q. subst (λ (x : ℕ). Met (visit into cs (meet into c s)) x) q (met_on (meet into c s) (visit into cs (meet into c s)) c v.0 m.1)) (v.1 d),
        )

  -- r is opened
  opened_whole : (r : ℕ) (s : Walk) → Whole es n s → get_or s.marks r 0 ≡ 0 → r < n → Whole es n (marked r 1 s)
  opened_whole r s w u h =
      let low : (i : ℕ) → 2 ≤ get_or (set s.marks r 1) i 0 → 2 ≤ get_or s.marks i 0
      = λ i g. set_get (λ (v : ℕ). 2 ≤ v → 2 ≤ get_or s.marks i 0) s.marks r 1 i 0 (λ a. absurd (omega arith)) (λ a. a) g in
      record {
        some = w.some;
        marks_long = length-set s.marks r 1 ∙ w.marks_long;
        numbers_long = w.numbers_long;
        good = λ i g. found_grow s (marked r 1 s) i (λ x a. a) (w.good i (low i g));
        shut = λ i c g e. set_get (λ (v : ℕ). 1 ≤ v) s.marks r 1 c 2 (omega arith) (w.shut i c (low i g) e);
      }

  -- r is closed, once its children are seen and it reaches a numbered node
  on_close : (r : ℕ) (s t : Walk) → r < n → get_or s.marks r 0 ≡ 0 → length s.marks ≡ n → Onward es n (marked r 1 s) t → ((c : ℕ) → Edge es r c → 1 ≤ get_or t.marks c 2) → Found es t r
      → Onward es n s (marked r 2 t) × (2 ≤ get_or (set t.marks r 2) r 0)
  on_close r s t h u l o kids f =
      let z = opened s.marks r (omega (arith, l)) u in
      let here : get_or (set t.marks r 2) r 0 ≡ 2 = get_or-set_same t.marks r 2 0 (omega (arith, o.whole.marks_long)) in
      let other : (i : ℕ) → (i ≡ r → ⊥) → get_or (set t.marks r 2) i 0 ≡ get_or t.marks i 0 = λ i d. get_or-set_other t.marks r i 2 0 d in
      let up : (c : ℕ) → 1 ≤ get_or t.marks c 2 → 1 ≤ get_or (set t.marks r 2) c 2 = λ c a. set_get (λ (v : ℕ). 1 ≤ v) t.marks r 2 c 2 (omega arith) a in (
        record {
          whole =
              record {
                some = o.whole.some;
                marks_long = length-set t.marks r 2 ∙ o.whole.marks_long;
                numbers_long = o.whole.numbers_long;
                good = λ i g.
                    found_grow t (marked r 2 t) i (λ x a. a)
                    (bool (eqb i r)
                    (λ e. subst (λ (x : ℕ). Found es t x) (sym (eqb-true i r e)) f)
                    (λ e. o.whole.good i (omega (arith, g, other i (eqb-false i r e)))));
                shut = λ i c g e.
                    up c
                    (bool (eqb i r)
                    (λ q. kids c (subst (λ (x : ℕ). Edge es x c) (eqb-true i r q) e))
                    (λ q. o.whole.shut i c (omega (arith, g, other i (eqb-false i r q))) e));
              };
          fewer = omega (arith, z, o.fewer, zeros_set t.marks r 2 (omega arith));
          grow = o.grow;
          seen = λ i a. up i (o.seen i (set_get (λ (v : ℕ). 1 ≤ v) s.marks r 1 i 2 (omega arith) a));
          opens = λ i a.
              bool (eqb i r)
              (λ e. let q = ap (λ (x : ℕ). get_or (set t.marks r 2) x 0) (eqb-true i r e) in absurd (omega (arith, a, here, q)))
              (λ e. let d = eqb-false i r e in sym (get_or-set_other s.marks r i 1 0 d) ∙ o.opens i (sym (other i d) ∙ a));
        },
        omega (arith, here),
      )

  module _ (ends : (p c : ℕ) → Edge es p c → c < n) where
    on_inside : (b : ℕ) (into : ℕ → Walk → Walk) → Settles b into → (r : ℕ) (cs : List ℕ) (s : Walk)
        → ((c : ℕ) → In c cs → Edge es r c) → ((c : ℕ) → Edge es r c → In c cs)
        → Whole es n s → r < n → get_or s.marks r 0 ≡ 0 → zeros s.marks ≤ b + 1
        → Onward es n s (marked r 2 (inside into r cs (marked r 1 s))) × (2 ≤ get_or (marked r 2 (inside into r cs (marked r 1 s))).marks r 0)
    unfolding inside
    on_inside b into k r [] s f g w h u z =
        let o = opened_whole r s w u h in
        on_close r s (numbered r (marked r 1 s)) h u w.marks_long (on_numbered r (marked r 1 s) o) (λ c e. in_nil (g c e)) (found_self r (marked r 1 s) o h)
    on_inside b into k r (c ∷ cs) s f g w h u z =
        let o = opened_whole r s w u h in
        let q = opened s.marks r (omega (arith, w.marks_long)) u in
        let v = on_visit b into k (c ∷ cs) (marked r 1 s) o (λ d i. ends r d (f d i)) (omega (arith, q)) in
        let m = (v.1 c head).1 in
        on_close r s (visit into (c ∷ cs) (marked r 1 s)) h u w.marks_long v.0 (λ d e. (v.1 d (g d e)).0)
        (record { leaf = m.leaf; way = step (f c head) m.way; has = m.has })

    pub on_walk : (k : ℕ) → Settles k (walk k es)
    unfolding walk
    on_walk zero r s w h u z = absurd (let q = opened s.marks r (omega (arith, w.marks_long)) u in omega (arith, q))
    on_walk (suc k) r s w h u z = on_inside k (walk k es) (on_walk k) r (children es r) s (edge_of es r) (λ c e. child_of e) w h u (omega arith)

    -- the walk of node 0, of n fresh nodes
    abbrev fresh : Walk
    fresh = at 1 (replicate n 0) (replicate n 0)

    fresh_whole : Whole es n fresh
    fresh_whole =
        record {
          some = omega arith;
          marks_long = length-replicate n 0;
          numbers_long = length-replicate n 0;
          good = λ i h. absurd (omega (arith, h, zero_at n i));
          shut = λ i c h e. absurd (omega (arith, h, zero_at n i));
        }

    module _ (some : 1 ≤ n) where
      pub from_root : Onward es n fresh (walk n es 0 fresh) × (2 ≤ get_or (walk n es 0 fresh).marks 0 0)
      from_root = on_walk n 0 fresh fresh_whole some (zero_at n 0) (omega (arith, zeros_replicate n))

      -- a seen node is closed in the end, so a closed node's children are closed
      shut_in : (i c : ℕ) → 2 ≤ get_or (walk n es 0 fresh).marks i 0 → Edge es i c → 2 ≤ get_or (walk n es 0 fresh).marks c 0
      shut_in i c h e =
          let o = from_root.0 in
          let a = o.whole.shut i c h e in
          let m = get_d_any (walk n es 0 fresh).marks c 2 0 (omega (arith, o.whole.marks_long, ends i c e)) in
          bool (eqb (get_or (walk n es 0 fresh).marks c 0) 1)
          (λ q. absurd (omega (arith, o.opens c (eqb-true _ _ q), zero_at n c)))
          (λ q. let d : get_or (walk n es 0 fresh).marks c 0 ≡ 1 → ⊥ = eqb-false _ _ q in omega (arith, a, m, d))

      closed_on : {r x : ℕ} → Reach es r x → 2 ≤ get_or (walk n es 0 fresh).marks r 0 → 2 ≤ get_or (walk n es 0 fresh).marks x 0
      closed_on self h = h
      closed_on {r = r} (step {child = c} e w) h = closed_on w (shut_in r c h e)

      -- each node that the root reaches reaches a numbered node
      pub reached_found : (x : ℕ) → Reach es 0 x → Found es (walk n es 0 fresh) x
      reached_found x w = from_root.0.whole.good x (closed_on w from_root.1)
