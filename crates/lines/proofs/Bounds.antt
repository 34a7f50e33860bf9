-- How long an answer's text can be: what the numbers of a run are below, step by step. Assumes nothing.
use mathlib.Core.Path.{◌≡◌, refl, sym, subst, ◌∙◌}
use mathlib.Core.Bool.{Bool, true, false, cond, not, ◌||◌}
use mathlib.Core.List.{List, [], ◌∷◌, ◌++◌}
use mathlib.Core.Option.{Option, none, some}
use Prim.Native.Nat.{ℕ, zero, suc, ◌+◌, ◌*◌, ◌≤◌, ◌<◌}
use native.Mathlib.Nat.{pow-zero, pow-suc}
use native.Mathlib.Omega.{arith}
use lib.Dec.{eqb, leb, ltb}
use lib.ListN.{length, get_or, take, drop, set, replicate, length-append, length-set, length-take, get_or-eq_default}
use lib.Seq.{get_or-take, take-append_seam}
use borrow.Author.Tests.{leb-true, ltb-true, ltb-false}
use Rattle.lists.proofs.Loops.{keep_few}
use Rattle.lists.proofs.Marks.{set_get, zero_at}
use Rattle.lists.specs.Lists.{all_below, every, kept_if, keep, over, Below}
use Rattle.lists.specs.Answer.{Answer, done, refused as denied, Check, refusal}
use Rattle.covers.specs.Cover.{call_interval}
use Rattle.lists.proofs.Bools.{bool, and_left, and_right}
use Rattle.lists.proofs.Bounded.{all_at}
use Rattle.lists.proofs.Refusals.{refused_here, refused_later}
use Rattle.hierarchy.proofs.Legals.{right_size}
use Rattle.covers.proofs.Covers.{closest_below}
use Rattle.blocks.specs.Record.{kind_of, party_in, mode_in, name_count_in, names_in, node_in, value_in}
use Rattle.locks.specs.declared.Mode.{Mode}
use Rattle.locks.specs.declared.Lock.{Lock}
use Rattle.locks.specs.declared.Stage.{Stage}
use Rattle.locks.specs.declared.Stage.TheVariants.{Out, Waiting, Holding}
use Rattle.desk.specs.declared.Desk.{Desk}
use Rattle.locks.specs.Locks.{mode_numbered}
use Rattle.locks.specs.Lent.{Hierarchy, cover_in, lock_for}
use Rattle.parties.specs.Parties.{entry_of, stage_in, meets_holder, meets_waiter}
use Rattle.desk.specs.Desks.{listed_at, queue_of, fresh_desk}
use Rattle.parties.specs.Sound.{lists_parties}
use Rattle.sweeps.specs.Sweeps.{Sweep, stays_waiting, is_granted, offer_if, offer_to, offer, sweep}
use Rattle.desk.specs.Steps.{get_own, put_own, add_own, PutResult, StepFacts, step_checks, value_checks, free, enter_refusal, enter_if, enter_unless, enter_step}
use Rattle.desk.specs.Steps.{scratch_left, get_unless, get_step, put_unless, put_step, sum64, add_step, after_leaving, leave_refusal, leave_unless, leave_step}
use Rattle.desk.proofs.Facts.{step_facts}
use Rattle.grants.proofs.Counts.{grant_below, grants_below, grants_length}
use Rattle.parties.proofs.Clauses.{clauses, sound_few}
use Rattle.replay.specs.Replay.{StepAnswer, refused, enter_line, get_line, put_line, add_line, leave_line, answer_in}
use Rattle.replay.specs.Replay.{enter_call, fresh_scratch, get_call, put_call, add_call, leave_call, step_of, perform_step}
use Rattle.runs.specs.Run.{lend, Call, lent_to, State, listed, after_enter, after_get, after_put, after_add, after_leave, move_call, move}
use Rattle.runs.proofs.Lends.{restored_full, put_length, add_length}
use Rattle.opening.proofs.Bytes.{below_append}
use Rattle.texts.specs.Text.{decimal, space, spaced, answer_text}
use Rattle.texts.proofs.Puts.{decimal_most}

-- LISTS whose numbers are below a bound
module _ (m : ℕ) where
  below_keep : (p : ℕ → Bool) (l : List ℕ) → Below m l → Below m (keep p l)
  unfolding keep
  below_keep p [] f = f
  below_keep p (x ∷ xs) f = by (p x) (below_keep p xs (λ i. f (suc i)))
    where
      by : (b : Bool) → Below m (keep p xs) → Below m (kept_if b x (keep p xs))
      by true g zero = f 0
      by true g (suc i) = g i
      by false g i = g i

-- NUMBERS AND WORDS. A number of 64 bits has at most 20 digits
pub digits_most : (n : ℕ) → n < 18446744073709551616 → length (decimal n) ≤ 20
digits_most n h = decimal_most (suc n) 20 n (omega arith) (omega arith)

-- and one of 8 bits at most 3
spaced_most : (l : List ℕ) → Below 256 l → length (spaced l) ≤ 4 * length l
unfolding spaced
spaced_most [] f = omega arith
spaced_most (x ∷ xs) f =
    let few : length (decimal x) ≤ 3 = decimal_most (suc x) 3 x (omega (arith, f 0, pow-suc 10 2, pow-suc 10 1, pow-suc 10 0, pow-zero 10)) (omega arith) in
    omega (arith, length-append (space ++ decimal x) (spaced xs), spaced_most xs (λ i. f (suc i)))

-- an answer of at most 132 bytes: `left`, and 32 parties of three digits
abbrev pub Short : StepAnswer → Type 0
Short a = length (answer_text a) ≤ 132

-- REFUSALS have two digits
abbrev Low : List Check → Type 0
Low cs = every (λ c. leb c.number 99) cs ≡ true

abbrev pub AtMost : Option ℕ → Type 0
AtMost none = Unit {0}
AtMost (some k) = k ≤ 99

pub refusal_low : (cs : List Check) → Low cs → AtMost (refusal cs)
unfolding refusal every
refusal_low [] l = tt
refusal_low (c ∷ cs) l =
    bool c.holds
    (λ e. subst AtMost (sym (refused_here c cs e)) (leb-true c.number 99 (and_left (leb c.number 99) (every (λ x. leb x.number 99) cs) l)))
    (λ e. subst AtMost (sym (refused_later c cs e)) (refusal_low cs (and_right (leb c.number 99) (every (λ x. leb x.number 99) cs) l)))

refused_short : (k : ℕ) → k ≤ 99 → Short (refused k)
refused_short k h = omega (arith, digits_most k (omega arith))

-- THE DESK: what its numbers are at most
pub record Bounded (d : Desk) : Type 0 where
  pub entries : length d.entries ≡ 32
  pub waiting : d.waiting ≤ 33
  pub grants_long : length d.grants ≡ 32
  pub grants : Below 4294967296 d.grants

-- a step that is not refused found n right and the arrival list in order
module _ (H : Hierarchy) (d : Desk) (party : ℕ) (short : Bool) (own : List Check) (e : refusal (step_checks H d party short own) ≡ none) where
  facts : StepFacts H d party short
  facts = step_facts H d party short own e

  lists : lists_parties d.queue d.waiting ≡ true
  lists = (clauses H d.entries d.queue d.waiting facts.sound).parties

  few_wait : d.waiting ≤ 32
  few_wait = sound_few H d.entries d.queue d.waiting facts.sound

  cover_most : (names : List ℕ) → cover_in H names < 256
  cover_most names =
      let size = right_size H.n facts.sized in
      omega (arith, size.1, closest_below H.intervals (call_interval H.intervals names) H.n size.0)

  queue_bytes : Below 256 (queue_of d)
  queue_bytes i =
      bool (ltb i d.waiting)
      (λ a.
      let h = ltb-true i d.waiting a in
      let party-few = ltb-true (listed_at d i) 32 (all_at (λ k. ltb (listed_at d k) 32) d.waiting i (and_right (leb d.waiting 32) (all_below d.waiting (λ k. ltb (listed_at d k) 32)) lists) h) in
      omega (arith, get_or-take d.waiting d.queue i 0 h, party-few))
      (λ a. omega (arith, get_or-eq_default (queue_of d) 0 {n = i} (omega (arith, ltb-false i d.waiting a, length-take d.waiting d.queue))))

-- ENTER
module _ (H : Hierarchy) (d : Desk) (party : ℕ) (mode : Mode) (names : List ℕ) (name_count : ℕ) (b : Bounded d) where
  abbrev lock : Lock
  lock = lock_for H mode (take name_count names)

  enter_by_law : (o : Option ℕ) → enter_refusal H d party names name_count ≡ o → AtMost o
      → Bounded (enter_unless o d party lock).desk × Short (enter_line (enter_unless o d party lock).answer)
  enter_by_law (some k) e low = (b, refused_short k low)
  enter_by_law none e low = if_free (free d lock)
    where
      if_free : (t : Bool) → Bounded (enter_if t d party lock).desk × Short (enter_line (enter_if t d party lock).answer)
      if_free true = (
        record {
          entries = length-set d.entries party _ ∙ b.entries;
          waiting = b.waiting;
          grants_long = length-set d.grants party _ ∙ b.grants_long;
          grants = grant_below party d.grants b.grants;
        },
        let c = cover_most H d party _ _ e (take name_count names) in omega (arith, digits_most (cover_in H (take name_count names)) (omega arith)),
      )
      if_free false = (
        record { entries = length-set d.entries party _ ∙ b.entries; waiting = omega (arith, few_wait H d party _ _ e); grants_long = b.grants_long; grants = b.grants },
        omega arith,
      )

  pub enter_bounded : Bounded (enter_step H d party mode names name_count).desk × Short (enter_line (enter_step H d party mode names name_count).answer)
  unfolding enter_step every
  enter_bounded =
      enter_by_law (enter_refusal H d party names name_count) refl (refusal_low _ refl)

-- GET, whatever scratch it leaves
module _ (H : Hierarchy) (d : Desk) (party node : ℕ) (values scratch : List ℕ) (b : Bounded d) (v : Below 18446744073709551616 values) where
  get_by : (o : Option ℕ) (wiped : List ℕ) → AtMost o
      → Bounded (get_unless o d (get_or values node 0) wiped).desk × Short (get_line (get_unless o d (get_or values node 0) wiped).answer)
  get_by (some k) wiped low = (b, refused_short k low)
  get_by none wiped low = (b, omega (arith, digits_most (get_or values node 0) (v node)))

  pub get_bounded : Bounded (get_step H d party node values scratch).desk × Short (get_line (get_step H d party node values scratch).answer)
  unfolding get_step every
  get_bounded =
      let checks : List Check = value_checks H d party node values scratch (get_own d party) in
      get_by (refusal checks) (scratch_left H values scratch) (refusal_low checks refl)

-- PUT AND ADD, with the line of the one or the other, whatever scratch they leave
module _ (line : Answer (Unit {0}) → StepAnswer) where
  abbrev WriteBounded : PutResult → Type 0
  WriteBounded x = Bounded x.desk × Below 18446744073709551616 x.values × Short (line x.answer)

  write_by : (d : Desk) (node value : ℕ) (values wiped : List ℕ) → Bounded d → Below 18446744073709551616 values → value < 18446744073709551616
      → Short (line (done tt)) → ((k : ℕ) → k ≤ 99 → Short (line (denied k))) → (o : Option ℕ) → AtMost o → WriteBounded (put_unless o d node value values wiped)
  write_by d node value values wiped b v wide short few (some k) low = (b, v, few k low)
  write_by d node value values wiped b v wide short few none low =
      (b, (λ i. set_get (λ (k : ℕ). k < 18446744073709551616) values node value i 0 wide (v i)), short)

module _ (H : Hierarchy) (d : Desk) (party node number : ℕ) (values scratch : List ℕ) (b : Bounded d) (v : Below 18446744073709551616 values) where
  pub put_bounded : number < 18446744073709551616 → WriteBounded put_line (put_step H d party node number values scratch)
  unfolding put_step every
  put_bounded wide =
      let checks : List Check = value_checks H d party node values scratch (put_own d party) in
      write_by put_line d node number values (scratch_left H values scratch) b v wide (omega arith) refused_short (refusal checks) (refusal_low checks refl)

  pub add_bounded : WriteBounded add_line (add_step H d party node number values scratch)
  unfolding add_step every
  add_bounded =
      let checks : List Check = value_checks H d party node values scratch (add_own d party) in
      write_by add_line d node (sum64 (get_or values node 0) number) values (scratch_left H values scratch) b v (omega arith) (omega arith) refused_short (refusal checks)
      (refusal_low checks refl)

-- LEAVE. Of k waiters that a pass took each stays or is granted
record Swept (k : ℕ) (s : Sweep) : Type 0 where
  entries : length s.entries ≡ 32
  taken : length s.stay + length s.granted ≡ k
  granted : Below 256 s.granted

offered : (k : ℕ) (s : Sweep) (party : ℕ) → party < 256 → Swept k s → Swept (suc k) (offer s party)
unfolding offer
offered k s party h w = by (stage_in s.entries party)
  where
    stays : Swept (suc k) (stays_waiting s party)
    stays = record { entries = w.entries; taken = omega (arith, w.taken, length-append s.stay (party ∷ [])); granted = w.granted }

    one : Below 256 (party ∷ [])
    one zero = h
    one (suc i) = omega arith

    goes : (l : Lock) → Swept (suc k) (is_granted s party l)
    goes l =
        record {
          entries = length-set s.entries party _ ∙ w.entries;
          taken = omega (arith, w.taken, length-append s.granted (party ∷ []));
          granted = below_append 256 s.granted (party ∷ []) w.granted one;
        }

    test : (b : Bool) (l : Lock) → Swept (suc k) (offer_if b s party l)
    test true l = goes l
    test false l = stays

    by : (st : Stage) → Swept (suc k) (offer_to s party st)
    by Out = stays
    by (Waiting l) = test (not (meets_holder s.entries l || meets_waiter s.entries s.stay l)) l
    by (Holding l) = stays

swept : (qs : List ℕ) (k : ℕ) (s : Sweep) → Below 256 qs → Swept k s → Swept (k + length qs) (sweep s qs)
unfolding sweep
swept [] k s f w = subst (λ (n : ℕ). Swept n s) (let e : k ≡ k + 0 = omega arith in e) w
swept (q ∷ qs) k s f w =
    subst (λ (n : ℕ). Swept n (sweep (offer s q) qs)) (let e : suc k + length qs ≡ k + suc (length qs) = omega arith in e)
    (swept qs (suc k) (offer s q) (λ i. f (suc i)) (offered k s q (f 0) w))

module _ (H : Hierarchy) (d : Desk) (party : ℕ) (b : Bounded d) where
  abbrev list : List ℕ
  list = replicate 32 0

  abbrev others : List ℕ
  others = keep (λ other. not (eqb other party)) (queue_of d)

  leave_by_law : (o : Option ℕ) → leave_refusal H d party list ≡ o → AtMost o
      → Bounded (leave_unless o d party list).desk × Short (leave_line (listed (leave_unless o d party list).list (leave_unless o d party list).answer))
  unfolding over listed
  leave_by_law (some k) e low = (b, refused_short k low)
  leave_by_law none e low =
      let s : Sweep = after_leaving d party in
      let few = few_wait H d party _ _ e in
      let all : Below 256 others = below_keep 256 (λ other. not (eqb other party)) (queue_of d) (queue_bytes H d party _ _ e) in
      let start : Swept 0 (record { entries = set d.entries party (entry_of Out); stay = []; granted = [] }) =
      record { entries = length-set d.entries party _ ∙ b.entries; taken = refl; granted = λ i. omega arith } in
      let w : Swept (0 + length others) s = swept others 0 _ all start in
      let most : length others ≤ 32 = omega (arith, keep_few (λ other. not (eqb other party)) (queue_of d), length-take d.waiting d.queue) in
      let same : take (length s.granted) (s.granted ++ drop (length s.granted) list) ≡ s.granted = take-append_seam s.granted (drop (length s.granted) list) in (
        record {
          entries = w.entries;
          waiting = omega (arith, w.taken, most);
          grants_long = grants_length s.granted d.grants ∙ b.grants_long;
          grants = grants_below s.granted d.grants b.grants;
        },
        rw same (omega (arith, spaced_most s.granted w.granted, w.taken, most)),
      )

  pub leave_bounded : Bounded (leave_step H d party list).desk × Short (leave_line (listed (leave_step H d party list).list (leave_step H d party list).answer))
  unfolding leave_step every
  leave_bounded =
      leave_by_law (leave_refusal H d party list) refl (refusal_low _ refl)

-- A STEP, by its kind
pub record Fine (s : State) : Type 0 where
  pub desk : Bounded s.desk
  pub values : Below 18446744073709551616 s.values

-- a number in eight bytes
pub number_wide : (r : List ℕ) → Below 256 r → value_in r < 18446744073709551616
number_wide r bytes = omega (arith, bytes 4, bytes 5, bytes 6, bytes 7, bytes 8, bytes 9, bytes 10, bytes 11)

module _ (s : State) (r : List ℕ) (bytes : Below 256 r) (f : Fine s) where
  abbrev H : Hierarchy
  H = lent_to (step_of r) s.hierarchy

  abbrev asks : Bool → Bool → Bool → Bool → Call
  asks a b c d = cond a (enter_call r) (cond b (get_call r) (cond c (put_call r) (cond d (leave_call r) (add_call r))))

  asks_fine : (a b c d : Bool) → Fine (move_call H (asks a b c d) s).state × Short (answer_in (move_call H (asks a b c d) s).event)
  unfolding move_call lend after_enter after_get after_put after_add after_leave
  asks_fine true b c d =
      let x = enter_bounded H s.desk (party_in r) (mode_numbered (mode_in r)) (names_in r) (name_count_in r) f.desk in (record { desk = x.0; values = f.values }, x.1)
  asks_fine false true c d = let x = get_bounded H s.desk (party_in r) (node_in r) s.values fresh_scratch f.desk f.values in (record { desk = x.0; values = f.values }, x.1)
  asks_fine false false true d =
      let x = put_bounded H s.desk (party_in r) (node_in r) (value_in r) s.values fresh_scratch f.desk f.values (number_wide r bytes) in
      (record { desk = x.0; values = rw (restored_full s.values _ (put_length H s.desk (party_in r) (node_in r) (value_in r) s.values fresh_scratch)) x.1 }, x.2)
  asks_fine false false false true = let x = leave_bounded H s.desk (party_in r) f.desk in (record { desk = x.0; values = f.values }, x.1)
  asks_fine false false false false =
      let x = add_bounded H s.desk (party_in r) (node_in r) (value_in r) s.values fresh_scratch f.desk f.values in
      (record { desk = x.0; values = rw (restored_full s.values _ (add_length H s.desk (party_in r) (node_in r) (value_in r) s.values fresh_scratch)) x.1 }, x.2)

  pub perform_fine : Fine (perform_step s r).state × Short (answer_in (perform_step s r).event)
  unfolding move
  perform_fine = asks_fine (eqb (kind_of r) 3) (eqb (kind_of r) 4) (eqb (kind_of r) 5) (eqb (kind_of r) 6)

pub fresh_bounded : Bounded fresh_desk
fresh_bounded = record { entries = refl; waiting = omega arith; grants_long = refl; grants = λ i. omega (arith, zero_at 32 i) }
