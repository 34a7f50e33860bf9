-- DEMAND 3, one theorem over a whole list of steps: `serializable`, from any start values, and `demand_3`, from zeros. Assumes nothing.
use mathlib.Core.Path.{◌≡◌, refl, sym, ap, subst, ◌∙◌}
use mathlib.Core.Logic.{◌⊎◌, inl, inr, ◌≢◌}
use mathlib.Core.List.{List, [], ◌∷◌, ◌++◌, map}
use mathlib.Core.Bool.{Bool, true, false, not, ◌||◌, true≢false}
use mathlib.Core.Option.{Option, none, some}
use Prim.Native.Nat.{ℕ, suc, ◌≤◌}
use native.Mathlib.Omega.{arith}
use lib.Dec.{eqb, leb}
use lib.ListN.{length, get_or, set, take, drop, replicate, length-set, length-replicate}
use lib.Seq.{take-append_seam}
use borrow.Author.Tests.{eqb-true, eqb-false, eq-eqb, leb-true, le-leb, not-false}
use Rattle.lists.specs.Lists.{keep, over}
use Rattle.lists.specs.Answer.{Check, refusal}
use Rattle.lists.proofs.Bools.{and_left, and_right}
use Rattle.lists.proofs.Refusals.{NoneHolds, refusal_none}
use Rattle.locks.specs.declared.Mode.{Mode}
use Rattle.locks.specs.declared.Mode.TheVariants.{Reading, Writing, Adding}
use Rattle.locks.specs.declared.Lock.{Lock}
use Rattle.locks.specs.declared.Stage.{Stage}
use Rattle.locks.specs.declared.Stage.TheVariants.{Out, Waiting, Holding}
use Rattle.locks.specs.Locks.{compatible, share, conflict}
use Rattle.locks.specs.Stages.{is_reading, is_adding, reads_only, adds_only}
use Rattle.locks.specs.Lent.{Hierarchy, low_in, high_in, lock_for, inside_lock}
use Rattle.parties.specs.Parties.{entry_of}
use Rattle.sweeps.specs.Sweeps.{Sweep, sweep}
use Rattle.desk.specs.Steps.{get_own, put_own, add_own, sum64, value_checks, enter_refusal, leave_refusal, free, grant_to, enter_if, enter_unless, enter_step}
use Rattle.desk.specs.Steps.{get_unless, get_step, put_unless, put_step, add_step, leave_with, leave_unless, leave_step}
use Rattle.runs.specs.Run.{Lending, lend, Call, enter, get, put, add, leave, Step, lent_to, State, start}
use Rattle.runs.specs.Run.{Moved, after_enter, after_get, after_put, after_add, listed, after_leave, move_call, move, also_ran, run}
use Rattle.runs.specs.Over.{start_over, run_over}
use Rattle.runs.proofs.Lends.{lend_at, restored_lend, restored_lend_set, restored_lend_sum}
use Rattle.runs.proofs.Runs.{run_over_law}
use Rattle.history.specs.History.{Op, did_get, did_put, did_add, Transaction, begun, visited, add_to_latest, noted, history_from, history}
use Rattle.history.specs.History.{bare, bare_event, ops_in, counted, counted_from, finds, leaves, serial_finds, serial_leaves}
use Rattle.history.specs.Serial.{Built, Serial, SerialOver}
use Rattle.desk.specs.declared.Desk.{Desk}
use Rattle.desk.specs.Desks.{stage_at, queue_of}
use Rattle.history.proofs.Rows.{compatible_sym, node_of, mode_of, Commute, commute_sym, Clear, Clear_map, Clear_new, Clear_granted, Clear_add}
use Rattle.history.proofs.Rows.{Clear_visited, insert_leaves, insert_finds, append_leaves, append_finds, ops_in_add_law, ops_in_new_law, row_order}
use Rattle.history.proofs.Nested.{Nested, built_nested, touch_inside, touch_ordered}
use Rattle.history.proofs.Modes.{is_adding_law, is_writing}
use Rattle.history.proofs.Facts.{set_stage, holder_below, all_out, sweep_length, sweep_holds, holders_apart_law, Touch, touch, touch_own, touch_long}

-- MODES AND LOCKS. What a visit may do: get in a reading one, get and put in a writing one, add in an adding one
pub permits : Mode → Mode → Bool
permits Reading Reading = true
permits Reading Writing = false
permits Reading Adding = false
permits Writing Reading = true
permits Writing Writing = true
permits Writing Adding = false
permits Adding Reading = false
permits Adding Writing = false
permits Adding Adding = true

-- what goes with the visit goes with what it may do
permitted : (m a b : Mode) → permits m a ≡ true → compatible m b ≡ true → compatible a b ≡ true
unfolding permits
permitted Reading Reading b p c = c
permitted Reading Writing b p c = absurd (true≢false (sym p))
permitted Reading Adding b p c = absurd (true≢false (sym p))
permitted Writing a Reading p c = absurd (true≢false (sym c))
permitted Writing a Writing p c = absurd (true≢false (sym c))
permitted Writing a Adding p c = absurd (true≢false (sym c))
permitted Adding Reading b p c = absurd (true≢false (sym p))
permitted Adding Writing b p c = absurd (true≢false (sym p))
permitted Adding Adding b p c = c

-- from what each step looks at: get
pub may_get : (m : Mode) → is_adding m ≡ false → permits m Reading ≡ true
unfolding permits
may_get Reading a = refl
may_get Writing a = refl
may_get Adding a = absurd (true≢false a)

-- put
pub may_put : (m : Mode) → is_reading m ≡ false → is_adding m ≡ false → permits m Writing ≡ true
unfolding permits
may_put m r a = rw (is_writing m r a) refl

-- add
pub may_add : (m : Mode) → is_adding m ≡ true → permits m Adding ≡ true
unfolding permits
may_add m a = rw (is_adding_law m a) refl

no_conflict : (a b : Lock) → conflict a b ≡ false → share a b ≡ true → compatible a.mode b.mode ≡ true
no_conflict a b c s = not-false (compatible a.mode b.mode) (rw s at c)

-- two locks around one node share a number
sharing : (H : Hierarchy) (node : ℕ) (a b : Lock) → low_in H node ≤ high_in H node → inside_lock H node a ≡ true → inside_lock H node b ≡ true → share a b ≡ true
sharing H node a b o i j =
    let al = leb-true a.low (low_in H node) (and_left _ _ i) in
    let ah = leb-true (high_in H node) a.high (and_right (leb a.low (low_in H node)) _ i) in
    let bl = leb-true b.low (low_in H node) (and_left _ _ j) in
    let bh = leb-true (high_in H node) b.high (and_right (leb b.low (low_in H node)) _ j) in
    rw (le-leb a.low b.high (omega arith), le-leb b.low a.high (omega arith))

pub length_leaves : {A : Type 0} (u : List ℕ) (o : Op A) → length (leaves u o) ≡ length u
unfolding leaves
length_leaves u (did_get r a) = refl
length_leaves u (did_put r x) = length-set u r x
length_leaves u (did_add r x) = length-set u r (sum64 (get_or u r 0) x)

-- the op is on a node whose interval is not inside the lock's, or goes together with the lock's mode
Safe : {A : Type 0} → Hierarchy → Lock → Op A → Type 0
Safe H l o = inside_lock H (node_of o) l ≡ true → compatible l.mode (mode_of o) ≡ true

-- an op of the holder's own, and one that is safe for its lock, commute
own_commutes : {A : Type 0} (H : Hierarchy) (l : Lock) (o : Op A) → inside_lock H (node_of o) l ≡ true → permits l.mode (mode_of o) ≡ true → (k : Op A) → Safe H l k → Commute o k
unfolding Commute Safe
own_commutes H l o i own k s = step (eqb (node_of o) (node_of k)) refl
  where
    step : (b : Bool) → eqb (node_of o) (node_of k) ≡ b → (node_of o ≢ node_of k) ⊎ (compatible (mode_of o) (mode_of k) ≡ true)
    step false e = inl (eqb-false _ _ e)
    step true e = inr (permitted l.mode (mode_of o) (mode_of k) own (s (rw (eqb-true (node_of o) (node_of k) e) at i)))

-- and it is safe for every other holder
own_safe : {A : Type 0} (H : Hierarchy) (l g : Lock) (o : Op A) → low_in H (node_of o) ≤ high_in H (node_of o) → inside_lock H (node_of o) l ≡ true → permits l.mode (mode_of o) ≡ true
    → conflict g l ≡ false → Safe H g o
unfolding Safe
own_safe H l g o h i own c j =
    compatible_sym g.mode (mode_of o)
    ∙ permitted l.mode (mode_of o) g.mode own (compatible_sym l.mode g.mode ∙ no_conflict g l c (sharing H (node_of o) g l h j i))

-- so an op of one holder and an op of another commute
pub holders_commute : {A : Type 0} (H : Hierarchy) (l g : Lock) (o q : Op A) → low_in H (node_of o) ≤ high_in H (node_of o)
    → inside_lock H (node_of o) l ≡ true → permits l.mode (mode_of o) ≡ true → inside_lock H (node_of q) g ≡ true → permits g.mode (mode_of q) ≡ true
    → conflict g l ≡ false → Commute o q
holders_commute H l g o q h i own j other c = commute_sym q o (own_commutes H g q j other o (own_safe H l g o h i own c))

-- from the values u
module _ (u : List ℕ) where
  -- THE INVARIANT between two steps. row: the book's; answered: the same with each get's answer noted; m: the gets, puts and adds not refused
  record Kept (s : State) (row : List (Transaction (Unit {0}))) (answered : List (Transaction ℕ)) (m : ℕ) : Type 0 where
    -- in the hierarchy the intervals lie one inside the other along reach
    nested : Nested s.hierarchy
    sized : length s.values ≡ s.hierarchy.n
    parties : length s.desk.entries ≡ 32
    values : s.values ≡ serial_leaves u row
    notes : answered ≡ serial_finds u row
    whole : ops_in row ≡ m
    clear : (q : ℕ) (l : Lock) → stage_at s.desk q ≡ Holding l → Clear (Safe s.hierarchy l) q row

  -- the step's event takes the invariant on
  Onward : List (Transaction (Unit {0})) → List (Transaction ℕ) → ℕ → Moved → Type 0
  Onward row notes m x = Kept x.state (noted row (bare_event x.event)) (noted notes x.event) (counted m x.event)

  module _ (s : State) (row : List (Transaction (Unit {0}))) (notes : List (Transaction ℕ)) (m : ℕ) (k : Kept s row notes m) where
    abbrev H : Hierarchy
    H = s.hierarchy

    -- A GET, PUT OR ADD: p, which holds l, does o
    touched : (p : ℕ) (l : Lock) (o : Op (Unit {0})) → stage_at s.desk p ≡ Holding l → low_in H (node_of o) ≤ high_in H (node_of o) → inside_lock H (node_of o) l ≡ true
        → permits l.mode (mode_of o) ≡ true → ((q : ℕ) (g : Lock) → p ≢ q → stage_at s.desk q ≡ Holding g → conflict g l ≡ false)
        → Kept (record { hierarchy = H; desk = s.desk; values = leaves s.values o }) (add_to_latest p o row) (add_to_latest p (finds s.values o) notes) (suc m)
    touched p l o e h i own apart = record {
      nested = k.nested;
      sized = length_leaves s.values o ∙ k.sized;
      parties = k.parties;
      values = ap (λ w. leaves w o) k.values ∙ sym (insert_leaves u p o row mine);
      notes = rw (k.values, k.notes) (sym (insert_finds u p o row mine));
      whole = ops_in_add_law p o row (Clear_visited (k.clear p l e)) ∙ ap suc k.whole;
      clear = λ q g eg. Clear_add (Safe H g) q p o row (other q g eg (eqb p q) refl) (k.clear q g eg);
    }
      where
        mine : Clear (Commute o) p row
        mine = Clear_map (own_commutes H l o i own) (k.clear p l e)

        other : (q : ℕ) (g : Lock) → stage_at s.desk q ≡ Holding g → (b : Bool) → eqb p q ≡ b → (p ≡ q) ⊎ Safe H g o
        other q g eg true eb = inl (eqb-true p q eb)
        other q g eg false eb = inr (own_safe H l g o h i own (apart q g (eqb-false p q eb) eg))

    -- A NEW DESK d, whose holders held before or have a new visit among those of qs
    granted_kept : (d : Desk) (qs : List ℕ) → length d.entries ≡ 32
        → ((q : ℕ) (l : Lock) → stage_at d q ≡ Holding l → (visited {A = Unit {0}} q (map begun qs) ≡ true) ⊎ (stage_at s.desk q ≡ Holding l))
        → Kept (record { hierarchy = H; desk = d; values = s.values }) (row ++ map begun qs) (notes ++ map begun qs) m
    granted_kept d qs long from = record {
      nested = k.nested;
      sized = k.sized;
      parties = long;
      values = k.values ∙ sym (append_leaves u row qs);
      notes = ap (◌++ map begun qs) k.notes ∙ sym (append_finds u row qs);
      whole = ops_in_new_law row qs ∙ k.whole;
      clear = λ q l e. step q l (from q l e);
    }
      where
        step : (q : ℕ) (l : Lock) → (visited {A = Unit {0}} q (map begun qs) ≡ true) ⊎ (stage_at s.desk q ≡ Holding l) → Clear (Safe H l) q (row ++ map begun qs)
        step q l (inl v) = Clear_granted (Safe H l) q row qs v
        step q l (inr e) = Clear_new (Safe H l) q row qs (k.clear q l e)

    -- ENTER
    enter_kept : (p : ℕ) (l : Lock) (o : Option ℕ) → Onward row notes m (after_enter p s (enter_unless o s.desk p l))
    unfolding Onward after_enter visited begun noted counted bare_event
    enter_kept p l (some n) = k
    enter_kept p l none = step (free s.desk l)
      where
        long : (x : Stage) → length (set s.desk.entries p (entry_of x)) ≡ 32
        long x = length-set s.desk.entries p (entry_of x) ∙ k.parties

        step : (b : Bool) → Onward row notes m (after_enter p s (enter_if b s.desk p l))
        step true = granted_kept (grant_to s.desk p l) (p ∷ []) (long (Holding l)) (λ q g e. new q g (set_stage s.desk.entries p q (Holding l) g e))
          where
            new : (q : ℕ) (g : Lock) → ((p ≡ q) × (Holding l ≡ Holding g)) ⊎ (stage_at s.desk q ≡ Holding g) → ((eqb p q || false) ≡ true) ⊎ (stage_at s.desk q ≡ Holding g)
            new q g (inl e) = inl (rw (eq-eqb p q e.0))
            new q g (inr e) = inr e
        step false = record {
          nested = k.nested;
          sized = k.sized;
          parties = long (Waiting l);
          values = k.values;
          notes = k.notes;
          whole = k.whole;
          clear = λ q g e. old q g (set_stage s.desk.entries p q (Waiting l) g e);
        }
          where
            old : (q : ℕ) (g : Lock) → ((p ≡ q) × (Waiting l ≡ Holding g)) ⊎ (stage_at s.desk q ≡ Holding g) → Clear (Safe H g) q row
            old q g (inl e) = absurd (let z : ◌≡◌ {A = ℕ} 0 1 = cc in omega arith)
            old q g (inr e) = k.clear q g e

    -- LEAVE
    leave_kept : (p : ℕ) (list : List ℕ) (o : Option ℕ) → Onward row notes m (after_leave p s (leave_unless o s.desk p list))
    unfolding Onward after_leave noted counted bare_event listed over
    leave_kept p list (some n) = k
    leave_kept p list none =
        rw (take-append_seam t.granted (drop (length t.granted) list))
        (granted_kept (leave_with t s.desk list).desk t.granted (sweep_length others from₀ ∙ length-set s.desk.entries p (entry_of Out) ∙ k.parties)
        (λ q l e. held q l (sweep_holds q l others from₀ e)))
      where
        from₀ : Sweep
        from₀ = record { entries = set s.desk.entries p (entry_of Out); stay = []; granted = [] }

        others : List ℕ
        others = keep (λ other. not (eqb other p)) (queue_of s.desk)

        t : Sweep
        t = sweep from₀ others

        was : (q : ℕ) (l : Lock) → ((p ≡ q) × (Out ≡ Holding l)) ⊎ (stage_at s.desk q ≡ Holding l) → stage_at s.desk q ≡ Holding l
        was q l (inl e) = absurd (let z : ◌≡◌ {A = ℕ} 0 1 = cc in omega arith)
        was q l (inr e) = e

        held : (q : ℕ) (l : Lock) → (visited {A = Unit {0}} q (map begun t.granted) ≡ true) ⊎ (stage_at (record { entries = from₀.entries; queue = []; waiting = 0; grants = [] }) q ≡ Holding l)
            → (visited {A = Unit {0}} q (map begun t.granted) ≡ true) ⊎ (stage_at s.desk q ≡ Holding l)
        held q l (inl v) = inl v
        held q l (inr e) = inr (was q l (set_stage s.desk.entries p q Out l e))

    -- GET, PUT and ADD share this
    touch_kept : (x : Step) (l : Lending) (c : List ℕ) (p : ℕ) (o : Op (Unit {0})) → (t : Touch (lent_to x H) s.desk p (node_of o) (lend s.values l) c)
        → permits t.at_node.hold.mode (mode_of o) ≡ true
        → Kept (record { hierarchy = H; desk = s.desk; values = leaves s.values o }) (add_to_latest p o row) (add_to_latest p (finds s.values o) notes) (suc m)
    unfolding lent_to
    touch_kept x l c p o t own =
        let at_node = t.at_node in
        touched p at_node.hold o at_node.holds (touch_ordered H k.nested x s.desk p (node_of o) (lend s.values l) c t)
        (touch_inside H k.nested x s.desk p (node_of o) (lend s.values l) c t) own
        (λ q g ne e. holders_apart_law (lent_to x H) s.desk t.step.sound p q at_node.hold g t.step.party_below
        (omega (arith, holder_below s.desk.entries q g e, k.parties)) ne at_node.holds e)

    -- the n values are lent
    enough : (x : Step) (l : Lending) (c : List ℕ) (p node : ℕ) → Touch (lent_to x H) s.desk p node (lend s.values l) c → length s.values ≤ length (lend s.values l)
    unfolding lent_to
    enough x l c p node t = omega (arith, touch_long (lent_to x H) s.desk p node (lend s.values l) c t, k.sized)

    get_kept : (x : Step) (l : Lending) (c left_over : List ℕ) (p node : ℕ) (o : Option ℕ)
        → (o ≡ none → Touch (lent_to x H) s.desk p node (lend s.values l) c × (adds_only (stage_at s.desk p) ≡ false))
        → Onward row notes m (after_get p node s (get_unless o s.desk (get_or (lend s.values l) node 0) left_over))
    unfolding Onward after_get noted counted bare_event bare leaves finds node_of mode_of lent_to
    get_kept x l c left_over p node (some n) t = k
    get_kept x l c left_over p node none t =
        let (f, gets) = t refl in
        rw (lend_at s.values l node (omega (arith, f.at_node.below, k.sized)) (enough x l c p node f))
        (touch_kept x l c p (did_get node tt) f (may_get f.at_node.hold.mode (rw f.at_node.holds at gets)))

    put_kept : (x : Step) (l : Lending) (c left_over : List ℕ) (p node value : ℕ) (o : Option ℕ)
        → (o ≡ none → Touch (lent_to x H) s.desk p node (lend s.values l) c × (reads_only (stage_at s.desk p) ≡ false) × (adds_only (stage_at s.desk p) ≡ false))
        → Onward row notes m (after_put p node value s (put_unless o s.desk node value (lend s.values l) left_over))
    unfolding Onward after_put noted counted bare_event bare leaves finds node_of mode_of lent_to
    put_kept x l c left_over p node value (some n) t = rw (restored_lend s.values l) k
    put_kept x l c left_over p node value none t =
        let (f, reads, adds) = t refl in
        rw (restored_lend_set s.values l node value (omega (arith, f.at_node.below, k.sized, enough x l c p node f)))
        (touch_kept x l c p (did_put node value) f (may_put f.at_node.hold.mode (rw f.at_node.holds at reads) (rw f.at_node.holds at adds)))

    add_kept : (x : Step) (l : Lending) (c left_over : List ℕ) (p node number : ℕ) (o : Option ℕ)
        → (o ≡ none → Touch (lent_to x H) s.desk p node (lend s.values l) c × (not (adds_only (stage_at s.desk p)) ≡ false))
        → Onward row notes m (after_add p node number s (put_unless o s.desk node (sum64 (get_or (lend s.values l) node 0) number) (lend s.values l) left_over))
    unfolding Onward after_add noted counted bare_event bare leaves finds node_of mode_of lent_to
    add_kept x l c left_over p node number (some n) t = rw (restored_lend s.values l) k
    add_kept x l c left_over p node number none t =
        let (f, adds) = t refl in
        rw (restored_lend_sum s.values l node number (omega (arith, f.at_node.below, k.sized, enough x l c p node f)))
        (touch_kept x l c p (did_add node number) f
        (may_add f.at_node.hold.mode (rw f.at_node.holds at (not-false (adds_only (stage_at s.desk p)) adds))))

    -- what each of the three knows where none of its checks refuses it
    module _ (x : Step) (l : Lending) (c : List ℕ) (p node : ℕ) (own : List Check) (e : refusal (value_checks (lent_to x H) s.desk p node (lend s.values l) c own) ≡ none) where
      known : Touch (lent_to x H) s.desk p node (lend s.values l) c
      known = touch (lent_to x H) s.desk p node (lend s.values l) c own e

      own_known : NoneHolds own
      own_known = refusal_none own (touch_own (lent_to x H) s.desk p node (lend s.values l) c own e)

    call_kept : (x : Step) (c : Call) → Onward row notes m (move_call (lent_to x H) c s)
    unfolding move_call enter_step get_step put_step add_step leave_step
    call_kept x (enter p mode names name_count) =
        enter_kept p (lock_for (lent_to x H) mode (take name_count names)) (enter_refusal (lent_to x H) s.desk p names name_count)
    call_kept x (get p node l c) =
        let own : List Check = get_own s.desk p in
        get_kept x l c _ p node _ (λ e. (known x l c p node own e, (own_known x l c p node own e).0))
    call_kept x (put p node value l c) =
        let own : List Check = put_own s.desk p in
        put_kept x l c _ p node value _ (λ e. let f = own_known x l c p node own e in (known x l c p node own e, f.0, f.1.0))
    call_kept x (add p node number l c) =
        let own : List Check = add_own s.desk p in
        add_kept x l c _ p node number _ (λ e. (known x l c p node own e, (own_known x l c p node own e).0))
    call_kept x (leave p list) = leave_kept p list (leave_refusal (lent_to x H) s.desk p list)

  run_kept : (xs : List Step) (s : State) (row : List (Transaction (Unit {0}))) (notes : List (Transaction ℕ)) (m : ℕ) → Kept s row notes m
      → Kept (run xs s).state (history_from row (map bare_event (run xs s).events)) (history_from notes (run xs s).events) (counted_from m (run xs s).events)
  unfolding run also_ran history_from counted_from move
  run_kept [] s row notes m k = k
  run_kept (x ∷ xs) s row notes m k = run_kept xs _ _ _ _ (unfold Onward in call_kept s row notes m k x x.call)

  start_kept : (H : Hierarchy) → Nested H → length u ≡ H.n → Kept (start H u) [] [] 0
  unfolding serial_leaves serial_finds ops_in
  start_kept H nested h = record {
    nested = nested;
    sized = h;
    parties = refl;
    values = refl;
    notes = refl;
    whole = refl;
    clear = λ q l e. nobody l (sym (all_out 32 q) ∙ e);
  }
    where
      nobody : {X : Type 0} (l : Lock) → Out ≡ Holding l → X
      nobody l e = absurd (let z : ◌≡◌ {A = ℕ} 0 1 = cc in omega arith)

-- THE THEOREM: over a built hierarchy, any list of steps, from a fresh desk and any n values, leaves and answers what the whole visits do,
-- performed in order of granting from those values
pub serializable : (H : Hierarchy) → Built H → (values : List ℕ) → length values ≡ H.n → (steps : List Step) → Serial values (run steps (start H values))
unfolding history
serializable H b values sized steps =
    let k = run_kept values steps (start H values) [] [] 0 (start_kept values H (built_nested H b) sized) in
    record { leaves = k.values; answers = k.notes; whole = k.whole; order = row_order (run steps (start H values)).events }

-- demand 3: from n values of zero
pub demand_3 : (H : Hierarchy) → Built H → (steps : List Step) → Serial (replicate H.n 0) (run steps (start H (replicate H.n 0)))
demand_3 H b steps = serializable H b (replicate H.n 0) (length-replicate H.n 0) steps

-- THE SAME with the hierarchy beside the state
pub serializable_over : (H : Hierarchy) → Built H → (values : List ℕ) → length values ≡ H.n → (steps : List Step)
    → SerialOver values (run_over H steps (start_over values))
serializable_over H b values sized steps = subst (Serial values) (run_over_law H steps (start_over values)) (serializable H b values sized steps)

pub demand_3_over : (H : Hierarchy) → Built H → (steps : List Step) → SerialOver (replicate H.n 0) (run_over H steps (start_over (replicate H.n 0)))
demand_3_over H b steps = serializable_over H b (replicate H.n 0) (length-replicate H.n 0) steps
