-- Records that reading takes: head, values and steps in this order; and a head, values and steps of them are taken again. Assumes nothing.
use mathlib.Core.Path.{◌≡◌, refl, sym, ap, ap₂, subst, ◌∙◌}
use mathlib.Core.List.{List, [], ◌∷◌, ◌++◌, append_assoc}
use mathlib.Core.Bool.{Bool, true, false, not, cond, ◌&&◌, or-false}
use Prim.Native.Nat.{ℕ, suc, ◌+◌, ◌*◌, ◌/◌, ◌%◌, ◌≤◌, ◌<◌}
use native.Mathlib.Omega.{arith}
use borrow.Author.Tests.{eqb-true, eqb-false, eq-eqb, ne_eqb, leb-true, leb-false, le-leb, lt-ltb}
use lib.Dec.{eqb, leb}
use lib.ListN.{length, take, drop, length-append}
use lib.Seq.{take_at, drop_at}
use Rattle.lists.specs.Lists.{every, keep, kept_if, count, one}
use Rattle.lists.proofs.Kept.{every_drop, every_keep, every_kept, keep_none}
use Rattle.lists.proofs.Loops.{keep_count}
use Rattle.lists.proofs.Bools.{bool, and_left, and_right, and_both}
use Rattle.blocks.specs.Record.{ReadStage, kind_of, size_in, value_in, begun, faulty, reached, record_right}
use Rattle.blocks.specs.Block.{after_record}
use Rattle.blocks.proofs.Rows.{after_stays}
use Rattle.block_laws.proofs.ByKind.{one_of_eight, place_of, ordered, in_turn, past_record, right_by_kind, after_by_kind}
use Rattle.replay.specs.Replay.{edge_count_of, step_records}
use Rattle.cutting.specs.Cut.{head_records, value_record, value_records}
use Rattle.cutting.proofs.Parts.{of_head, of_value, of_step, head_no_value, head_no_step, value_no_step, step_no_head, step_no_value, else_step}

-- the stage after records, one by one
unfoldable pub after_each : ReadStage → List (List ℕ) → ReadStage
after_each t [] = t
after_each t (r ∷ rs) = after_each (after_record t r) rs

-- records that reading takes
abbrev pub Taken : List (List ℕ) → Type 0
Taken rs = (after_each begun rs).wrong ≡ 0

each_append : (t : ReadStage) (xs ys : List (List ℕ)) → after_each t (xs ++ ys) ≡ after_each (after_each t xs) ys
unfolding after_each
each_append t [] ys = refl
each_append t (r ∷ xs) ys = each_append (after_record t r) xs ys

-- a refusal stays, so a stage that leads to none is none
stuck : (rs : List (List ℕ)) (t : ReadStage) → eqb t.wrong 0 ≡ false → after_each t rs ≡ t
unfolding after_each
stuck [] t e = refl
stuck (r ∷ rs) t e = ap (λ (u : ReadStage). after_each u rs) (after_stays t r (eqb-false t.wrong 0 e)) ∙ stuck rs t e

before : (t : ReadStage) (rs : List (List ℕ)) → (after_each t rs).wrong ≡ 0 → t.wrong ≡ 0
before t rs h = bool (eqb t.wrong 0) (λ e. eqb-true t.wrong 0 e) (λ e. sym (ap (λ (u : ReadStage). u.wrong) (stuck rs t e)) ∙ h)

-- A RECORD at a stage without a refusal, by its kind
abbrev fits : ReadStage → List ℕ → Bool
fits t r = record_right r && (ordered t (kind_of r) && in_turn t (kind_of r) r)

by_kind : (t : ReadStage) (r : List ℕ) → t.wrong ≡ 0 → after_record t r ≡ cond (fits t r) (past_record t (kind_of r) r) (faulty 4 t)
by_kind t r z =
    let after : Bool → ReadStage = λ b. cond (b && (ordered t (kind_of r) && in_turn t (kind_of r) r)) (past_record t (kind_of r) r) (faulty 4 t) in
    after_by_kind t r
    ∙ ap (λ (w : ℕ). cond (eqb w 0) (after (one_of_eight (kind_of r) r)) t) z
    ∙ ap after (sym (right_by_kind r))

-- one that fits is taken
goes : (t : ReadStage) (r : List ℕ) → t.wrong ≡ 0 → record_right r ≡ true → ordered t (kind_of r) ≡ true → in_turn t (kind_of r) r ≡ true → after_record t r ≡ past_record t (kind_of r) r
goes t r z a b c =
    by_kind t r z
    ∙ ap (λ (x : Bool). cond x (past_record t (kind_of r) r) (faulty 4 t))
    (and_both (record_right r) (ordered t (kind_of r) && in_turn t (kind_of r) r) a (and_both (ordered t (kind_of r)) (in_turn t (kind_of r) r) b c))

-- and one that was taken fits
pub record Went (t : ReadStage) (r : List ℕ) (rs : List (List ℕ)) : Type 0 where
  pub right : record_right r ≡ true
  pub order : ordered t (kind_of r) ≡ true
  pub turn : in_turn t (kind_of r) r ≡ true
  pub past : after_record t r ≡ past_record t (kind_of r) r
  pub on : (after_each (past_record t (kind_of r) r) rs).wrong ≡ 0

pub went : (t : ReadStage) (r : List ℕ) (rs : List (List ℕ)) → (after_each t (r ∷ rs)).wrong ≡ 0 → Went t r rs
unfolding after_each
went t r rs h =
    let z : t.wrong ≡ 0 = before t (r ∷ rs) h in
    let after : Bool → ReadStage = λ b. cond b (past_record t (kind_of r) r) (faulty 4 t) in
    bool (fits t r)
    (λ e. let past = by_kind t r z ∙ ap after e in
    record {
      right = and_left (record_right r) (ordered t (kind_of r) && in_turn t (kind_of r) r) e;
      order = and_left (ordered t (kind_of r)) (in_turn t (kind_of r) r) (and_right (record_right r) (ordered t (kind_of r) && in_turn t (kind_of r) r) e);
      turn = and_right (ordered t (kind_of r)) (in_turn t (kind_of r) r) (and_right (record_right r) (ordered t (kind_of r) && in_turn t (kind_of r) r) e);
      past = past;
      on = sym (ap (λ (u : ReadStage). (after_each u rs).wrong) past) ∙ h;
    })
    (λ e.
    let four : ◌≡◌ {A = ℕ} 4 0 = sym (ap (λ (u : ReadStage). u.wrong) (by_kind t r z ∙ ap after e)) ∙ before (after_record t r) rs h in
    absurd (omega arith))

-- THE ORDER. Behind the first record each has kind 2 at least, and its place is never before that of the last
pub order_later : (t : ReadStage) (kind : ℕ) → 1 ≤ t.at → ordered t kind ≡ true → (2 ≤ kind) × (t.at ≤ place_of kind)
order_later t kind z h =
    let no : eqb t.at 0 ≡ false = ne_eqb t.at 0 (λ e. omega arith) in
    let g : (leb 2 kind && leb t.at (place_of kind)) ≡ true = rw (no, le-leb 1 t.at z) at h in
    (leb-true 2 kind (and_left (leb 2 kind) (leb t.at (place_of kind)) g), leb-true t.at (place_of kind) (and_right (leb 2 kind) (leb t.at (place_of kind)) g))

later_order : (t : ReadStage) (kind : ℕ) → 1 ≤ t.at → 2 ≤ kind → t.at ≤ place_of kind → ordered t kind ≡ true
later_order t kind z a b =
    let no : eqb t.at 0 ≡ false = ne_eqb t.at 0 (λ e. omega arith) in
    rw (no, le-leb 1 t.at z, le-leb 2 kind a, le-leb t.at (place_of kind) b)

later : (a : ℕ) (rs : List (List ℕ)) (t : ReadStage) → 1 ≤ a → a ≤ t.at → (after_each t rs).wrong ≡ 0 → every (λ r. leb 2 (kind_of r) && leb a (place_of (kind_of r))) rs ≡ true
unfolding every
later a [] t some h k = refl
later a (r ∷ rs) t some h k =
    let w = went t r rs k in
    let o = order_later t (kind_of r) (omega arith) w.order in
    and_both (leb 2 (kind_of r) && leb a (place_of (kind_of r))) (every (λ r. leb 2 (kind_of r) && leb a (place_of (kind_of r))) rs)
    (and_both (leb 2 (kind_of r)) (leb a (place_of (kind_of r))) (le-leb 2 (kind_of r) o.0) (le-leb a (place_of (kind_of r)) (omega (arith, o.1))))
    (later a rs (past_record t (kind_of r) r) some (omega (arith, o.1)) w.on)

-- places of the three kinds
place_head : (r : List ℕ) → of_head r ≡ true → place_of (kind_of r) ≡ 1
place_head r e = ap (λ (b : Bool). cond b 1 (cond (of_value r) 2 3)) e

place_value : (r : List ℕ) → of_value r ≡ true → place_of (kind_of r) ≡ 2
place_value r e = ap place_of (eqb-true (kind_of r) 8 e)

place_step : (r : List ℕ) → of_step r ≡ true → place_of (kind_of r) ≡ 3
place_step r e = ap (λ (b : Bool). cond b 1 (cond (of_value r) 2 3)) (step_no_head r e) ∙ ap (λ (b : Bool). cond b 2 3) (step_no_value r e)

-- so behind a value stands none of the head, and behind a step no value
behind : (a : ℕ) (p : List ℕ → Bool) → ((r : List ℕ) → p r ≡ true → place_of (kind_of r) < a) → (rs : List (List ℕ)) (t : ReadStage) → 1 ≤ a → a ≤ t.at → (after_each t rs).wrong ≡ 0
    → keep p rs ≡ []
behind a p f rs t some h k =
    keep_none p (λ r. leb 2 (kind_of r) && leb a (place_of (kind_of r)))
    (λ r e. bool (p r)
    (λ q. absurd (omega (arith, f r q, leb-true a (place_of (kind_of r)) (and_right (leb 2 (kind_of r)) (leb a (place_of (kind_of r))) e))))
    (λ q. q))
    rs (later a rs t some h k)

-- THE THREE PARTS. Of a record and others
abbrev parts_of : List (List ℕ) → List (List ℕ)
parts_of rs = head_records rs ++ (keep of_value rs ++ step_records rs)

one_part : (r : List ℕ) (rs : List (List ℕ)) {a b c : Bool} → of_head r ≡ a → of_value r ≡ b → of_step r ≡ c
    → parts_of (r ∷ rs) ≡ kept_if a r (head_records rs) ++ (kept_if b r (keep of_value rs) ++ kept_if c r (step_records rs))
unfolding keep
one_part r rs {a} {b} {c} p q s =
    let parts : Bool → Bool → Bool → List (List ℕ) = λ x y z. kept_if x r (head_records rs) ++ (kept_if y r (keep of_value rs) ++ kept_if z r (step_records rs)) in
    ap (λ (x : Bool). parts x (of_value r) (of_step r)) p ∙ ap (λ (y : Bool). parts a y (of_step r)) q ∙ ap (parts a b) s

ahead : (r : List ℕ) (xs ys : List (List ℕ)) → xs ≡ [] → xs ++ (r ∷ ys) ≡ r ∷ (xs ++ ys)
ahead r xs ys e = ap (λ (l : List (List ℕ)). l ++ (r ∷ ys)) e ∙ sym (ap (λ (l : List (List ℕ)). r ∷ (l ++ ys)) e)

-- of records behind the first
parted : (rs : List (List ℕ)) (t : ReadStage) → 1 ≤ t.at → (after_each t rs).wrong ≡ 0 → parts_of rs ≡ rs
unfolding keep
parted [] t h k = refl
parted (r ∷ rs) t h k =
    let w = went t r rs k in
    let o = order_later t (kind_of r) h w.order in
    let u : ReadStage = past_record t (kind_of r) r in
    let ih = ap (λ (l : List (List ℕ)). r ∷ l) (parted rs u (omega (arith, o.1)) w.on) in
    let no-head : 2 ≤ u.at → head_records rs ≡ [] = λ q. behind 2 of_head (λ x f. omega (arith, place_head x f)) rs u (omega arith) q w.on in
    bool (of_head r)
    (λ e. one_part r rs e (head_no_value r e) (head_no_step r e) ∙ ih)
    (λ e. bool (of_value r)
    (λ f. one_part r rs e f (value_no_step r f) ∙ ahead r (head_records rs) (keep of_value rs ++ step_records rs) (no-head (omega (arith, place_value r f))) ∙ ih)
    (λ f. let s = else_step r e f in
    let no_value = behind 3 of_value (λ x q. omega (arith, place_value x q)) rs u (omega arith) (omega (arith, place_step r s)) w.on in
    one_part r rs e f s ∙ ap (λ (l : List (List ℕ)). head_records rs ++ l) (ahead r (keep of_value rs) (step_records rs) no_value)
    ∙ ahead r (head_records rs) (keep of_value rs ++ step_records rs) (no-head (omega (arith, place_step r s))) ∙ ih))

-- the first is the size record
pub record First (r : List ℕ) (rs : List (List ℕ)) : Type 0 where
  pub kind : kind_of r ≡ 1
  pub past : after_record begun r ≡ reached 1 (size_in r) 0
  pub on : (after_each (reached 1 (size_in r) 0) rs).wrong ≡ 0

pub first : (r : List ℕ) (rs : List (List ℕ)) → Taken (r ∷ rs) → First r rs
first r rs h =
    let w = went begun r rs h in
    let kind = eqb-true (kind_of r) 1 (sym (or-false (eqb (kind_of r) 1)) ∙ w.order) in
    let past = ap (λ (k : ℕ). past_record begun k r) kind in
    record { kind = kind; past = w.past ∙ past; on = sym (ap (λ (u : ReadStage). (after_each u rs).wrong) past) ∙ w.on }

pub first_head : (r : List ℕ) (rs : List (List ℕ)) → Taken (r ∷ rs) → of_head r ≡ true
first_head r rs h = ap (λ (k : ℕ). leb k 2) (first r rs h).kind

-- SHAPE: the head, then the values, then the steps
pub shape : (rs : List (List ℕ)) → Taken rs → rs ≡ head_records rs ++ (keep of_value rs ++ step_records rs)
unfolding keep
shape [] h = refl
shape (r ∷ rs) h =
    let e = first_head r rs h in
    sym (one_part r rs e (head_no_value r e) (head_no_step r e) ∙ ap (λ (l : List (List ℕ)). r ∷ l) (parted rs (reached 1 (size_in r) 0) (omega arith) (first r rs h).on))

-- the head is the size record and the edges
heads_edges : (rs : List (List ℕ)) → every (λ r. leb 2 (kind_of r) && leb 1 (place_of (kind_of r))) rs ≡ true → count of_head rs ≡ edge_count_of rs
unfolding count every
heads_edges [] h = refl
heads_edges (r ∷ rs) h =
    let a = and_left (leb 2 (kind_of r) && leb 1 (place_of (kind_of r))) (every (λ r. leb 2 (kind_of r) && leb 1 (place_of (kind_of r))) rs) h in
    let two : 2 ≤ kind_of r = leb-true 2 (kind_of r) (and_left (leb 2 (kind_of r)) (leb 1 (place_of (kind_of r))) a) in
    let ih = heads_edges rs (and_right (leb 2 (kind_of r) && leb 1 (place_of (kind_of r))) (every (λ r. leb 2 (kind_of r) && leb 1 (place_of (kind_of r))) rs) h) in
    bool (of_head r)
    (λ e. let l : kind_of r ≤ 2 = leb-true (kind_of r) 2 e in omega (arith, ih, ap one e, ap one (eq-eqb (kind_of r) 2 (omega arith))))
    (λ e. let l : 2 < kind_of r = leb-false (kind_of r) 2 e in omega (arith, ih, ap one e, ap one (ne_eqb (kind_of r) 2 (λ q. omega arith))))

pub head_count : (r : List ℕ) (rs : List (List ℕ)) → Taken (r ∷ rs) → length (head_records (r ∷ rs)) ≡ 1 + edge_count_of (r ∷ rs)
unfolding count
head_count r rs h =
    let f = first r rs h in
    let e = heads_edges rs (later 1 rs (reached 1 (size_in r) 0) (omega arith) (omega arith) f.on) in
    keep_count of_head (r ∷ rs) ∙ omega (arith, e, ap one (first_head r rs h), ap (λ (k : ℕ). one (eqb k 2)) f.kind)

-- so it is as many records in front,
pub head_front : (rs : List (List ℕ)) → Taken rs → head_records rs ≡ take (1 + edge_count_of rs) rs
unfolding keep count
head_front [] h = refl
head_front (r ∷ rs) h =
    let all : List (List ℕ) = r ∷ rs in
    sym (ap (take (1 + edge_count_of all)) (shape all h) ∙ take_at (head_records all) (keep of_value all ++ step_records all) (1 + edge_count_of all) (head_count r rs h))

-- and behind it and the values stand the steps
pub steps_behind : (rs : List (List ℕ)) → Taken rs → step_records rs ≡ drop (1 + edge_count_of rs + count (λ r. eqb (kind_of r) 8) rs) rs
unfolding keep count
steps_behind [] h = refl
steps_behind (r ∷ rs) h =
    let all : List (List ℕ) = r ∷ rs in
    let n : ℕ = 1 + edge_count_of all + count of_value all in
    let long : length (head_records all ++ keep of_value all) ≡ n = length-append (head_records all) (keep of_value all) ∙ omega (arith, head_count r rs h, keep_count of_value all) in
    sym
    (ap (drop n) (shape all h ∙ sym (append_assoc (head_records all) (keep of_value all) (step_records all)))
    ∙ drop_at (head_records all ++ keep of_value all) (step_records all) n long)

-- TAKEN AGAIN. All records are right
all_right : (rs : List (List ℕ)) (t : ReadStage) → (after_each t rs).wrong ≡ 0 → every record_right rs ≡ true
unfolding every
all_right [] t h = refl
all_right (r ∷ rs) t h =
    let w = went t r rs h in
    and_both (record_right r) (every record_right rs) w.right (all_right rs (past_record t (kind_of r) r) w.on)

-- edges leave the stage as it is
heads_stay : (rs : List (List ℕ)) (size : ℕ) → every of_head rs ≡ true → (after_each (reached 1 size 0) rs).wrong ≡ 0 → after_each (reached 1 size 0) rs ≡ reached 1 size 0
unfolding after_each every
heads_stay [] size e h = refl
heads_stay (r ∷ rs) size e h =
    let t : ReadStage = reached 1 size 0 in
    let w = went t r rs h in
    let o = order_later t (kind_of r) (omega arith) w.order in
    let k : kind_of r ≡ 2 = omega (arith, o.0, leb-true (kind_of r) 2 (and_left (of_head r) (every of_head rs) e)) in
    let same : past_record t (kind_of r) r ≡ t = ap (λ (x : ℕ). past_record t x r) k in
    ap (λ (u : ReadStage). after_each u rs) (w.past ∙ same)
    ∙ heads_stay rs size (and_right (of_head r) (every of_head rs) e) (sym (ap (λ (u : ReadStage). (after_each u rs).wrong) same) ∙ w.on)

-- the head by itself
head_read : (r : List ℕ) (rs : List (List ℕ)) → Taken (r ∷ rs) → after_each begun (head_records (r ∷ rs)) ≡ reached 1 (size_in r) 0
unfolding keep after_each
head_read r rs h =
    let f = first r rs h in
    let t : ReadStage = reached 1 (size_in r) 0 in
    let rest : List (List ℕ) = keep of_value rs ++ step_records rs in
    let front = before (after_each t (head_records rs)) rest (ap (λ (u : ReadStage). u.wrong) (sym (each_append t (head_records rs) rest) ∙ ap (after_each t) (parted rs t (omega arith) f.on)) ∙ f.on) in
    ap (λ (b : Bool). after_each begun (kept_if b r (head_records rs))) (first_head r rs h)
    ∙ ap (λ (u : ReadStage). after_each u (head_records rs)) f.past
    ∙ heads_stay (head_records rs) (size_in r) (every_keep of_head rs) front

-- THE VALUES: of each value record the value is the one given
four_back : (x : ℕ) → (x % 256 + 256 * (x / 256 % 256)) + 65536 * (x / 65536 % 256 + 256 * (x / 16777216)) ≡ x
four_back x = omega arith

pub value_back : (node value : ℕ) → value_in (value_record node value) ≡ value
value_back node x = ap₂ (λ (low high : ℕ). low + 4294967296 * high) (four_back (x % 4294967296)) (four_back (x / 4294967296)) ∙ omega arith

value_right_law : (node v : ℕ) → eqb v 0 ≡ false → record_right (value_record node v) ≡ true
unfolding every
value_right_law node v e = right_by_kind (value_record node v) ∙ ap (λ (x : ℕ). not (eqb x 0)) (value_back node v) ∙ ap not e

-- after the head, and among the values
record Ready (n : ℕ) (t : ReadStage) : Type 0 where
  fine : t.wrong ≡ 0
  some : 1 ≤ t.at
  most : t.at ≤ 2
  sized : t.size ≡ n

values_read : (n : ℕ) (values : List ℕ) (node : ℕ) (t : ReadStage) → Ready n t → t.next ≤ node → node + length values ≤ n → Ready n (after_each t (value_records node values))
unfolding after_each value_records
values_read n [] node t f a b = f
values_read n (v ∷ values) node t f a b =
    let r : List ℕ = value_record node v in
    let rest : List (List ℕ) = value_records (suc node) values in
    bool (eqb v 0)
    (λ e. subst (λ (c : Bool). Ready n (after_each t (kept_if (not c) r rest))) (sym e) (values_read n values (suc node) t f (omega arith) (omega arith)))
    (λ e. let turn : in_turn t 8 r ≡ true = rw (le-leb t.next node a, lt-ltb node t.size (omega (arith, f.sized))) refl in
    let g = goes t r f.fine (value_right_law node v e) (later_order t 8 f.some (omega arith) f.most) turn in
    subst (λ (c : Bool). Ready n (after_each t (kept_if (not c) r rest))) (sym e)
    (subst (λ (u : ReadStage). Ready n (after_each u rest)) (sym g)
    (values_read n values (suc node) (past_record t 8 r) (record { fine = refl; some = omega arith; most = omega arith; sized = f.sized }) (omega arith) (omega arith))))

-- THE STEPS
steps_read : (rs : List (List ℕ)) (t : ReadStage) → t.wrong ≡ 0 → 1 ≤ t.at → t.at ≤ 3 → every record_right rs ≡ true → every of_step rs ≡ true → (after_each t rs).wrong ≡ 0
unfolding after_each every
steps_read [] t z a b h k = z
steps_read (r ∷ rs) t z a b h k =
    let s = and_left (of_step r) (every of_step rs) k in
    let p = place_step r s in
    let three : 3 ≤ kind_of r = leb-true 3 (kind_of r) (and_left (leb 3 (kind_of r)) (not (of_value r)) s) in
    let turn : in_turn t (kind_of r) r ≡ true = rw (step_no_value r s) refl in
    let g = goes t r z (and_left (record_right r) (every record_right rs) h) (later_order t (kind_of r) a (omega arith) (omega arith)) turn in
    ap (λ (u : ReadStage). (after_each u rs).wrong) g
    ∙ steps_read rs (past_record t (kind_of r) r) refl (omega arith) (omega arith) (and_right (record_right r) (every record_right rs) h) (and_right (of_step r) (every of_step rs) k)

-- A HEAD, VALUES AND STEPS of records that reading takes are taken
pub parts_taken : (r : List ℕ) (rs : List (List ℕ)) (values : List ℕ) (k : ℕ) → Taken (r ∷ rs) → length values ≡ size_in r
    → Taken (head_records (r ∷ rs) ++ (value_records 0 values ++ drop k (step_records (r ∷ rs))))
parts_taken r rs values k h l =
    let all : List (List ℕ) = r ∷ rs in
    let t : ReadStage = reached 1 (size_in r) 0 in
    let steps : List (List ℕ) = drop k (step_records all) in
    let v = values_read (size_in r) values 0 t (record { fine = refl; some = omega arith; most = omega arith; sized = refl }) (omega arith) (omega arith) in
    ap (λ (u : ReadStage). u.wrong)
    (each_append begun (head_records all) (value_records 0 values ++ steps)
    ∙ ap (λ (u : ReadStage). after_each u (value_records 0 values ++ steps)) (head_read r rs h)
    ∙ each_append t (value_records 0 values) steps)
    ∙ steps_read steps (after_each t (value_records 0 values)) v.fine v.some (omega (arith, v.most))
    (every_drop record_right k (step_records all) (every_kept record_right of_step all (all_right all begun h)))
    (every_drop of_step k (step_records all) (every_keep of_step all))
