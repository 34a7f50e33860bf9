-- WHAT A GET, PUT OR ADD DOES, refused or not: it keeps the desk, and neither its refusal nor its scratch hangs on what the values are. So two of different parties may be taken in
-- either order, over a hierarchy whose intervals lie one inside the other along reach. Assumes nothing.
use mathlib.Core.Path.{◌≡◌, refl, sym, ap, ◌∙◌}
use mathlib.Core.Logic.{inl, inr, ◌≢◌}
use mathlib.Core.List.{List}
use mathlib.Core.Bool.{true, ◌||◌, true≢false}
use mathlib.Core.Option.{Option, none, some}
use Prim.Native.Nat.{ℕ, ◌≤◌, ◌<◌}
use native.Mathlib.Omega.{arith}
use lib.Dec.{ltb}
use lib.ListN.{length, get_or, replicate, length-replicate}
use borrow.Author.Tests.{not-false}
use Rattle.lists.specs.Answer.{answer_of, Check, refusal}
use Rattle.lists.proofs.Refusals.{NoneHolds, refusal_none}
use Rattle.locks.specs.declared.Lock.{Lock}
use Rattle.locks.specs.declared.Stage.TheVariants.{Holding}
use Rattle.locks.specs.Stages.{adds_only}
use Rattle.locks.specs.Lent.{Hierarchy, low_in, high_in, inside_lock}
use Rattle.desk.specs.declared.Desk.{Desk}
use Rattle.desk.specs.Desks.{stage_at}
use Rattle.desk.specs.Sound.{sound_desk}
use Rattle.desk.specs.Steps.{step_checks, node_checks, value_checks, scratch_left, get_own, get_unless, get_step, put_own, put_unless, put_step, sum64, add_own, add_step}
use Rattle.runs.specs.Run.{Lending, lend, Call, enter, get, put, add, leave, Step, lent_to, Event, got, stored, added, State}
use Rattle.runs.specs.Run.{after_get, after_put, after_add, move_call, move}
use Rattle.runs.proofs.Lends.{lend_long, lend_other, restored_lend, restored_lend_set, restored_lend_sum, get_left, put_left}
use Rattle.history.specs.History.{Op, did_get, did_put, did_add, leaves}
use Rattle.history.proofs.Rows.{node_of, mode_of, Commute, commute_leaves}
use Rattle.history.proofs.Facts.{holders_apart_law, Touch, touch, touch_own, touch_long}
use Rattle.history.proofs.Nested.{Nested, touch_inside, touch_ordered}
use Rattle.history.proofs.Serializable.{permits, may_get, may_put, may_add, length_leaves, holders_commute}
use Rattle.swaps.specs.Order.{accesses, is_access, call_party, party_of, not_refused, scratch_from, Told, tell, Swapped, call_cleared, cleared}

-- A GET, PUT OR ADD by the op that it does: the call of a party, lent so much of the values and this scratch,
abbrev call_by : ℕ → Lending → List ℕ → Op (Unit {0}) → Call
call_by p l c (did_get node note) = get p node l c
call_by p l c (did_put node value) = put p node value l c
call_by p l c (did_add node number) = add p node number l c

-- and what it alone looks at
abbrev own_by : Desk → ℕ → Op (Unit {0}) → List Check
own_by d p (did_get node note) = get_own d p
own_by d p (did_put node value) = put_own d p
own_by d p (did_add node number) = add_own d p

-- each such call is one of these
record Access (c : Call) : Type 0 where
  party : ℕ
  lending : Lending
  scratch : List ℕ
  op : Op (Unit {0})
  is : call_by party lending scratch op ≡ c

access : (c : Call) → accesses c ≡ true → Access c
access (enter p mode names name_count) e = absurd (true≢false (sym e))
access (get p node l c) e = record { party = p; lending = l; scratch = c; op = did_get node tt; is = refl }
access (put p node value l c) e = record { party = p; lending = l; scratch = c; op = did_put node value; is = refl }
access (add p node number l c) e = record { party = p; lending = l; scratch = c; op = did_add node number; is = refl }
access (leave p list) e = absurd (true≢false (sym e))

by_party : (p : ℕ) (l : Lending) (c : List ℕ) (o : Op (Unit {0})) → call_party (call_by p l c o) ≡ p
by_party p l c (did_get node note) = refl
by_party p l c (did_put node value) = refl
by_party p l c (did_add node number) = refl

-- what it leaves of the values, and its event, by its refusal
abbrev left_by : Option ℕ → List ℕ → Op (Unit {0}) → List ℕ
left_by none v o = leaves v o
left_by (some k) v o = v

abbrev event_by : Option ℕ → ℕ → Lending → List ℕ → Op (Unit {0}) → Event ℕ
event_by r p l v (did_get node note) = got p node (answer_of r (get_or (lend v l) node 0))
event_by r p l v (did_put node value) = stored p node value (answer_of r tt)
event_by r p l v (did_add node number) = added p node number (answer_of r tt)

left_length : (r : Option ℕ) (v : List ℕ) (o : Op (Unit {0})) → length (left_by r v o) ≡ length v
left_length none v o = length_leaves v o
left_length (some k) v o = refl

module _ (K : Hierarchy) (d : Desk) (p : ℕ) (l : Lending) (c : List ℕ) (o : Op (Unit {0})) where
  -- its refusal: of the values only their length counts
  refusal_at : List ℕ → Option ℕ
  refusal_at v = refusal (value_checks K d p (node_of o) (lend v l) c (own_by d p o))

  refusal_long : (v w : List ℕ) → length v ≡ length w → refusal_at v ≡ refusal_at w
  unfolding refusal_at
  refusal_long v w e = rw (lend_long v w l e) refl

  -- where it is not refused: what it knows, and that its node's place is lent
  knows : (v : List ℕ) → refusal_at v ≡ none → Touch K d p (node_of o) (lend v l) c
  unfolding refusal_at
  knows v e = touch K d p (node_of o) (lend v l) c (own_by d p o) e

  place_lent : (v : List ℕ) → refusal_at v ≡ none → node_of o < length (lend v l)
  place_lent v e = let t = knows v e in omega (arith, t.at_node.below, touch_long K d p (node_of o) (lend v l) c t)

-- WHAT IT DOES: the desk stays; values and event are these
module _ (K : Hierarchy) (s : State) (p : ℕ) (l : Lending) (c : List ℕ) where
  abbrev refusal_of : Op (Unit {0}) → Option ℕ
  refusal_of o = refusal_at K s.desk p l c o s.values

  moved : (o : Op (Unit {0})) → move_call K (call_by p l c o) s
      ≡ record { state = record { hierarchy = s.hierarchy; desk = s.desk; values = left_by (refusal_of o) s.values o }; event = event_by (refusal_of o) p l s.values o }
  unfolding refusal_at move_call get_step put_step add_step after_get after_put after_add leaves node_of
  moved (did_get node note) = by (refusal_of (did_get node note))
    where
      by : (r : Option ℕ) → after_get p node s (get_unless r s.desk (get_or (lend s.values l) node 0) (scratch_left K (lend s.values l) c))
          ≡ record { state = record { hierarchy = s.hierarchy; desk = s.desk; values = left_by r s.values (did_get node note) }; event = event_by r p l s.values (did_get node note) }
      by none = refl
      by (some k) = refl
  moved (did_put node value) = by (refusal_of (did_put node value)) (place_lent K s.desk p l c (did_put node value) s.values)
    where
      by : (r : Option ℕ) → (r ≡ none → node < length (lend s.values l))
          → after_put p node value s (put_unless r s.desk node value (lend s.values l) (scratch_left K (lend s.values l) c))
          ≡ record { state = record { hierarchy = s.hierarchy; desk = s.desk; values = left_by r s.values (did_put node value) }; event = event_by r p l s.values (did_put node value) }
      by none h = rw (restored_lend_set s.values l node value (h refl)) refl
      by (some k) h = rw (restored_lend s.values l) refl
  moved (did_add node number) = by (refusal_of (did_add node number)) (place_lent K s.desk p l c (did_add node number) s.values)
    where
      by : (r : Option ℕ) → (r ≡ none → node < length (lend s.values l))
          → after_add p node number s (put_unless r s.desk node (sum64 (get_or (lend s.values l) node 0) number) (lend s.values l) (scratch_left K (lend s.values l) c))
          ≡ record { state = record { hierarchy = s.hierarchy; desk = s.desk; values = left_by r s.values (did_add node number) }; event = event_by r p l s.values (did_add node number) }
      by none h = rw (restored_lend_sum s.values l node number (h refl)) refl
      by (some k) h = rw (restored_lend s.values l) refl

  -- the scratch that it leaves
  scratch_left_law : (o : Op (Unit {0})) → scratch_from K (call_by p l c o) s ≡ scratch_left K (lend s.values l) c
  unfolding get_step put_step add_step
  scratch_left_law (did_get node note) = get_left (refusal (value_checks K s.desk p node (lend s.values l) c (get_own s.desk p))) s.desk (get_or (lend s.values l) node 0) (scratch_left K (lend s.values l) c)
  scratch_left_law (did_put node value) =
      put_left (refusal (value_checks K s.desk p node (lend s.values l) c (put_own s.desk p))) s.desk node value (lend s.values l) (scratch_left K (lend s.values l) c)
  scratch_left_law (did_add node number) =
      put_left (refusal (value_checks K s.desk p node (lend s.values l) c (add_own s.desk p))) s.desk node (sum64 (get_or (lend s.values l) node 0) number) (lend s.values l)
      (scratch_left K (lend s.values l) c)

-- WHAT STANDS IN THE SCRATCH is not looked at, only how long it is
scratch_alike : (K : Hierarchy) (s : State) (p : ℕ) (l : Lending) (c c' : List ℕ) (o : Op (Unit {0})) → length c ≡ length c' → move_call K (call_by p l c o) s ≡ move_call K (call_by p l c' o) s
unfolding refusal_at
scratch_alike K s p l c c' o e =
    moved K s p l c o
    ∙ ap (λ (r : Option ℕ). record { state = record { hierarchy = s.hierarchy; desk = s.desk; values = left_by r s.values o }; event = event_by r p l s.values o })
    (ap (λ (k : ℕ). refusal (step_checks K s.desk p (ltb (length (lend s.values l)) K.n || ltb k 256) (node_checks K s.desk p (node_of o) (own_by s.desk p o)))) e)
    ∙ sym (moved K s p l c' o)

pub scratch_unread : (K : Hierarchy) (s : State) (p node : ℕ) (l : Lending) (c c' : List ℕ) → length c ≡ length c'
    → (move_call K (get p node l c) s ≡ move_call K (get p node l c') s) × ((value : ℕ) → move_call K (put p node value l c) s ≡ move_call K (put p node value l c') s)
    × ((number : ℕ) → move_call K (add p node number l c) s ≡ move_call K (add p node number l c') s)
scratch_unread K s p node l c c' e =
    (scratch_alike K s p l c c' (did_get node tt) e, λ value. scratch_alike K s p l c c' (did_put node value) e, λ number. scratch_alike K s p l c c' (did_add node number) e)

-- so a step does what it does with zeros there
pub cleared_same : (x : Step) (s : State) → move (cleared x) s ≡ move x s
unfolding lent_to move
cleared_same x s = by x.call
  where
    by : (c : Call) → move_call (lent_to x s.hierarchy) (call_cleared c) s ≡ move_call (lent_to x s.hierarchy) c s
    by (enter p mode names name_count) = refl
    by (get p node l c) = scratch_alike (lent_to x s.hierarchy) s p l (replicate (length c) 0) c (did_get node tt) (length-replicate (length c) 0)
    by (put p node value l c) = scratch_alike (lent_to x s.hierarchy) s p l (replicate (length c) 0) c (did_put node value) (length-replicate (length c) 0)
    by (add p node number l c) = scratch_alike (lent_to x s.hierarchy) s p l (replicate (length c) 0) c (did_add node number) (length-replicate (length c) 0)
    by (leave p list) = refl

-- WHERE IT IS NOT REFUSED, over a hierarchy of which it is lent: its party holds, the node's interval lies inside the hold's, and the hold's mode permits the op
record Does (H : Hierarchy) (d : Desk) (p : ℕ) (o : Op (Unit {0})) : Type 0 where
  party_below : p < 32
  hold : Lock
  holds : stage_at d p ≡ Holding hold
  ordered : low_in H (node_of o) ≤ high_in H (node_of o)
  within : inside_lock H (node_of o) hold ≡ true
  own : permits hold.mode (mode_of o) ≡ true
  tables : Hierarchy
  sound : sound_desk tables d ≡ true

-- what it alone looks at says of the hold's mode
own_permits : (d : Desk) (p : ℕ) (hold : Lock) → stage_at d p ≡ Holding hold → (o : Op (Unit {0})) → NoneHolds (own_by d p o) → permits hold.mode (mode_of o) ≡ true
unfolding mode_of
own_permits d p hold h (did_get node note) f = may_get hold.mode (rw h at f.0)
own_permits d p hold h (did_put node value) f = may_put hold.mode (rw h at f.0) (rw h at f.1.0)
own_permits d p hold h (did_add node number) f = may_add hold.mode (rw h at (not-false (adds_only (stage_at d p)) f.0))

module _ (H : Hierarchy) (nested : Nested H) (d : Desk) where
  does : (x : Step) (p : ℕ) (l : Lending) (c : List ℕ) (o : Op (Unit {0})) (v : List ℕ) → refusal_at (lent_to x H) d p l c o v ≡ none → Does H d p o
  unfolding refusal_at lent_to
  does x p l c o v e =
      let t = knows (lent_to x H) d p l c o v e in
      let at_node = t.at_node in
      record {
        party_below = t.step.party_below;
        hold = at_node.hold;
        holds = at_node.holds;
        ordered = touch_ordered H nested x d p (node_of o) (lend v l) c t;
        within = touch_inside H nested x d p (node_of o) (lend v l) c t;
        own = own_permits d p at_node.hold at_node.holds o (refusal_none (own_by d p o) (touch_own (lent_to x H) d p (node_of o) (lend v l) c (own_by d p o) e));
        tables = lent_to x H;
        sound = t.step.sound;
      }

  -- so two of different parties commute: holders do not conflict
  commute : (p q : ℕ) (o k : Op (Unit {0})) → p ≢ q → Does H d p o → Does H d q k → Commute o k
  commute p q o k ne a b =
      holders_commute H a.hold b.hold o k a.ordered a.within a.own b.within b.own
      (holders_apart_law a.tables d a.sound p q a.hold b.hold a.party_below b.party_below ne a.holds b.holds)

-- ops that commute, each done or refused: what both leave, and what the one tells behind the other
left_either : (r t : Option ℕ) (v : List ℕ) (o k : Op (Unit {0})) → (r ≡ none → t ≡ none → Commute o k) → left_by t (left_by r v o) k ≡ left_by r (left_by t v k) o
left_either none none v o k c = commute_leaves v o k (c refl refl)
left_either none (some i) v o k c = refl
left_either (some i) none v o k c = refl
left_either (some i) (some j) v o k c = refl

seen_past : (v : List ℕ) (l : Lending) (o : Op (Unit {0})) (node : ℕ) → Commute o (did_get node tt) → get_or (lend (leaves v o) l) node 0 ≡ get_or (lend v l) node 0
unfolding Commute leaves node_of mode_of
seen_past v l (did_get r note) node h = refl
seen_past v l (did_put r x) node (inl h) = lend_other v l r node x h
seen_past v l (did_put r x) node (inr h) = absurd (true≢false (sym h))
seen_past v l (did_add r x) node (inl h) = lend_other v l r node (sum64 (get_or v r 0) x) h
seen_past v l (did_add r x) node (inr h) = absurd (true≢false (sym h))

event_past : (r t : Option ℕ) (q : ℕ) (l : Lending) (v : List ℕ) (o k : Op (Unit {0})) → (r ≡ none → t ≡ none → Commute o k) → event_by t q l (left_by r v o) k ≡ event_by t q l v k
event_past (some i) t q l v o k c = refl
event_past none (some j) q l v o (did_get node note) c = refl
event_past none none q l v o (did_get node note) c = ap (λ (x : ℕ). got q node (answer_of none x)) (seen_past v l o node (c refl refl))
event_past none t q l v o (did_put node value) c = refl
event_past none t q l v o (did_add node number) c = refl

-- AT ONE HIERARCHY AND DESK, whatever the values
module _ (H : Hierarchy) (d : Desk) where
  abbrev at : List ℕ → State
  at v = record { hierarchy = H; desk = d; values = v }

  -- a step that is a get, put or add, by what it does at values as many
  module _ (x : Step) (a : Access x.call) (v : List ℕ) where
    abbrev its_refusal : Option ℕ
    its_refusal = refusal_at (lent_to x H) d a.party a.lending a.scratch a.op v

    moves : (w : List ℕ) → length w ≡ length v
        → move x (at w) ≡ record { state = at (left_by its_refusal w a.op); event = event_by its_refusal a.party a.lending w a.op }
    unfolding move
    moves w e =
        ap (λ (c : Call). move_call (lent_to x H) c (at w)) (sym a.is) ∙ moved (lent_to x H) (at w) a.party a.lending a.scratch a.op
        ∙ ap (λ (r : Option ℕ). record { state = at (left_by r w a.op); event = event_by r a.party a.lending w a.op })
        (refusal_long (lent_to x H) d a.party a.lending a.scratch a.op w v e)

    scratch_same : (w : List ℕ) → length w ≡ length v → scratch_from (lent_to x H) x.call (at w) ≡ scratch_from (lent_to x H) x.call (at v)
    scratch_same w e = left w ∙ rw (lend_long w v a.lending e) (sym (left v))
      where
        left : (u : List ℕ) → scratch_from (lent_to x H) x.call (at u) ≡ scratch_left (lent_to x H) (lend u a.lending) a.scratch
        left u = ap (λ (c : Call). scratch_from (lent_to x H) c (at u)) (sym a.is) ∙ scratch_left_law (lent_to x H) (at u) a.party a.lending a.scratch a.op

told_alike : (x : Step) {e e' : Event ℕ} {c c' : List ℕ} → e ≡ e' → c ≡ c' → ◌≡◌ {A = Told} (record { step = x; event = e; scratch = c }) (record { step = x; event = e'; scratch = c' })
told_alike x e c = rw (e, c) refl

-- TWO STEPS of different parties, each a get, put or add, refused or not
module _ (H : Hierarchy) (nested : Nested H) (d : Desk) (v : List ℕ) where
  -- what the one is told behind the other
  told_past : (x y : Step) (a : Access x.call) (b : Access y.call) → (its_refusal H d x a v ≡ none → its_refusal H d y b v ≡ none → Commute a.op b.op)
      → tell y (move x (at H d v)).state ≡ tell y (at H d v)
  told_past x y a b c =
      let r = its_refusal H d x a v in
      let t = its_refusal H d y b v in
      let long = left_length r v a.op in
      rw (moves H d x a v v refl, moves H d y b v (left_by r v a.op) long, moves H d y b v v refl)
      (told_alike y (event_past r t b.party b.lending v a.op b.op c) (scratch_same H d y b v (left_by r v a.op) long))

  commuting : (x y : Step) (a : Access x.call) (b : Access y.call) → a.party ≢ b.party → its_refusal H d x a v ≡ none → its_refusal H d y b v ≡ none → Commute a.op b.op
  commuting x y a b ne f g =
      commute H nested d a.party b.party a.op b.op ne
      (does H nested d x a.party a.lending a.scratch a.op v f) (does H nested d y b.party b.lending b.scratch b.op v g)

  swap_at : (x y : Step) (a : Access x.call) (b : Access y.call) → a.party ≢ b.party → Swapped x y (at H d v)
  swap_at x y a b ne =
      let r = its_refusal H d x a v in
      let t = its_refusal H d y b v in
      record {
        first = told_past y x b a (commuting y x b a (λ e. ne (sym e)));
        second = told_past x y a b (commuting x y a b ne);
        state =
            rw (moves H d x a v v refl, moves H d y b v v refl, moves H d y b v (left_by r v a.op) (left_length r v a.op), moves H d x a v (left_by t v b.op) (left_length t v b.op))
            (ap (at H d) (sym (left_either r t v a.op b.op (commuting x y a b ne))));
      }

-- the party of such a step
access_party : (c : Call) (a : Access c) → call_party c ≡ a.party
access_party c a = ap call_party (sym a.is) ∙ by_party a.party a.lending a.scratch a.op

-- so they may be taken in either order
pub either_order : (s : State) → Nested s.hierarchy → (x y : Step) → is_access x ≡ true → is_access y ≡ true → party_of x ≢ party_of y → Swapped x y s
either_order s nested x y ax ay ne =
    let a = access x.call ax in
    let b = access y.call ay in
    swap_at s.hierarchy nested s.desk s.values x y a b (λ e. ne (access_party x.call a ∙ e ∙ sym (access_party y.call b)))

-- and each keeps hierarchy and desk,
pub access_keeps : (s : State) (x : Step) → is_access x ≡ true → ((move x s).state.hierarchy ≡ s.hierarchy) × ((move x s).state.desk ≡ s.desk)
access_keeps s x ax = let e = moves s.hierarchy s.desk x (access x.call ax) s.values s.values refl in rw e (refl, refl)

-- and is, where it is not refused, of a party that holds
pub access_holds : (s : State) (x : Step) → is_access x ≡ true → not_refused (move x s).event ≡ true → (l : Lock) × (stage_at s.desk (party_of x) ≡ Holding l)
access_holds s x ax n =
    let a = access x.call ax in
    let e = moves s.hierarchy s.desk x a s.values s.values refl in
    by a (not_refused_law (its_refusal s.hierarchy s.desk x a s.values) a (rw e at n))
  where
    not_refused_law : (r : Option ℕ) (a : Access x.call) → not_refused (event_by r a.party a.lending s.values a.op) ≡ true → r ≡ none
    not_refused_law none a m = refl
    not_refused_law (some k) a m = no a.op m
      where
        no : (o : Op (Unit {0})) → not_refused (event_by (some k) a.party a.lending s.values o) ≡ true → some k ≡ none
        no (did_get node note) m = absurd (true≢false (sym m))
        no (did_put node value) m = absurd (true≢false (sym m))
        no (did_add node number) m = absurd (true≢false (sym m))

    by : (a : Access x.call) → its_refusal s.hierarchy s.desk x a s.values ≡ none → (l : Lock) × (stage_at s.desk (party_of x) ≡ Holding l)
    by a f =
        let t = knows (lent_to x s.hierarchy) s.desk a.party a.lending a.scratch a.op s.values f in
        (t.at_node.hold, ap (stage_at s.desk) (access_party x.call a) ∙ t.at_node.holds)
