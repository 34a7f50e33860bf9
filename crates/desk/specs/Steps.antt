-- The five steps, each a total function of all that it is given: what it answers, and the desk and buffers that it leaves. Assumes nothing.
use Rattle.std.specs.Prelude.{◌≡◌, ℕ, ◌+◌, ◌*◌, ◌%◌, ◌^◌, ◌<◌, ◌≤◌, Bool, true, false, not, ◌||◌, ltb, List, [], ◌∷◌, ◌++◌, length, take, replicate, nat_lt, slice_index, slice_set}
use Rattle.std.proofs.Math.Option.{Option, none, some}
use Rattle.lists.specs.Lists.{any_below, over}
use Rattle.lists.specs.Answer.{Answer, done, refused, Check, ◌when◌, refusal}
use Rattle.hierarchy.specs.Hierarchy.{edges_of, some_edge, size_wrong, edges_too_many, edge_wrong, in_reach}
use Rattle.naming.specs.Names.{names_of}
use Rattle.locks.specs.declared.Mode.{Mode}
use Rattle.locks.specs.declared.Lock.{Lock}
use Rattle.locks.specs.declared.Stage.TheVariants.{Waiting, Holding}
use Rattle.locks.specs.Stages.{is_out, is_waiting, reads_only, adds_only}
use Rattle.locks.specs.Lent.{Hierarchy, tables_short, interval_wrong, names_wrong, lock_for, in_named}
use Rattle.parties.specs.Parties.{entry_of, is_free}
use Rattle.arrivals.specs.Arrivals.{queue_places}
use Rattle.grants.specs.Grants.{count_grant, count_grants}
use Rattle.sweeps.specs.Sweeps.{Sweep, leaving_of}
use Rattle.desk.specs.declared.Desk.{Desk}
use Rattle.desk.specs.Desks.{stage_at, queue_of}
use Rattle.desk.specs.Sound.{sound_desk}

-- WHAT EVERY STEP LOOKS AT: 1, 5 to 7, 10 and 11, then what is its own

-- of what every step looks at, what is asked of lengths and counts alone; `short` says that what is lent to this step alone is too short, `own` is what follows
abbrev pub size_checks : Hierarchy → (short : Bool) → List Check → List Check
size_checks H short own =
    1 when (tables_short H || short)
    ∷ 5 when size_wrong H.n
    ∷ 6 when edges_too_many H.edge_count
    ∷ own

-- what every step looks at; `own` is what it alone looks at
abbrev pub step_checks : Hierarchy → Desk → ℕ → (short : Bool) → List Check → List Check
step_checks H d party short own =
    size_checks H short
    (7 when some_edge (edge_wrong H.n) (edges_of H.edges H.edge_count)
    ∷ 10 when (any_below H.n (interval_wrong H) || not (sound_desk H d))
    ∷ 11 when ltb 31 party
    ∷ own)

-- the same by name: what a step that none of these refuses knows (`step_facts`, proofs/Facts)
pub record StepFacts (H : Hierarchy) (d : Desk) (party : ℕ) (short : Bool) : Type 0 where
  -- 1: the intervals, the edges and what is lent to this step alone are long enough
  pub intervals_lent : 2 * H.n ≤ length H.intervals
  pub edges_lent : 2 * H.edge_count ≤ length H.edges
  pub own_lent : short ≡ false
  -- 5, 6, 7: n, the edge count and each edge are right
  pub sized : size_wrong H.n ≡ false
  pub edges_few : edges_too_many H.edge_count ≡ false
  pub edges_right : some_edge (edge_wrong H.n) (edges_of H.edges H.edge_count) ≡ false
  -- 10: each interval is right, and the desk is sound
  pub intervals_right : any_below H.n (interval_wrong H) ≡ false
  pub sound : sound_desk H d ≡ true
  -- 11: the party is one of 0 to 31
  pub party_below : party < 32

-- ENTER

-- granted with the cover, or waits
pub data Admission : Type 0 where
  granted : (cover : ℕ) → Admission
  waits : Admission

-- what enter leaves: the next desk, and its answer
pub record EnterResult : Type 0 where
  pub desk : Desk
  pub answer : Answer Admission

-- what enter alone looks at
abbrev pub enter_own : Hierarchy → Desk → ℕ → List ℕ → ℕ → List Check
enter_own H d party names name_count =
    12 when not (is_out (stage_at d party))
    ∷ 15 when names_wrong H.n names name_count
    ∷ []

-- enter is lent as many names as its name count says
abbrev pub enter_refusal : Hierarchy → Desk → ℕ → List ℕ → ℕ → Option ℕ
enter_refusal H d party names name_count =
    refusal (step_checks H d party (nat_lt (length names) name_count) (enter_own H d party names name_count))

-- the party holds the lock, and the grant counts for it; behind the arrival list stand zeros
abbrev pub grant_to : Desk → ℕ → Lock → Desk
grant_to d party l =
    record { entries = slice_set d.entries party (entry_of (Holding l)); queue = queue_places (queue_of d); waiting = d.waiting; grants = count_grant d.grants party }

-- the party waits for it, last in arrival order
abbrev pub queue_last : Desk → ℕ → Lock → Desk
queue_last d party l =
    record { entries = slice_set d.entries party (entry_of (Waiting l)); queue = queue_places (queue_of d ++ (party ∷ [])); waiting = d.waiting + 1; grants = d.grants }

-- it conflicts with no holder and no waiter
abbrev pub free : Desk → Lock → Bool
free d l = is_free d.entries l

-- granted where the lock is free
abbrev pub enter_if : Bool → Desk → ℕ → Lock → EnterResult
enter_if true d party l = record { desk = grant_to d party l; answer = done (granted l.cover) }
enter_if false d party l = record { desk = queue_last d party l; answer = done waits }

-- a refusal changes nothing
abbrev pub enter_unless : Option ℕ → Desk → ℕ → Lock → EnterResult
enter_unless (some k) d party l = record { desk = d; answer = refused k }
enter_unless none d party l = enter_if (free d l) d party l

-- granted, with the cover, exactly when it conflicts with no holder and no waiter; otherwise it waits
unfoldable pub enter_step : Hierarchy → Desk → ℕ → Mode → List ℕ → ℕ → EnterResult
enter_step H d party mode names name_count =
    enter_unless (enter_refusal H d party names name_count) d party (lock_for H mode (take name_count names))

-- GET

-- what get, put and add look at besides; `own` is what the one of them alone looks at
abbrev pub node_checks : Hierarchy → Desk → ℕ → ℕ → List Check → List Check
node_checks H d party node own =
    13 when is_out (stage_at d party)
    ∷ 14 when is_waiting (stage_at d party)
    ∷ 15 when not (nat_lt node H.n)
    ∷ 16 when not (in_named H node (stage_at d party))
    ∷ own

-- the same by name: what a get, put or add that none of these refuses knows (`node_facts`, proofs/Facts)
pub record NodeFacts (H : Hierarchy) (d : Desk) (party node : ℕ) : Type 0 where
  -- 13, 14: the party holds
  pub hold : Lock
  pub holds : stage_at d party ≡ Holding hold
  -- 15: the node is one of the hierarchy's
  pub below : node < H.n
  -- 16: it is in the reach of one of the hold's names
  pub reached : in_reach H.n (edges_of H.edges H.edge_count) (names_of hold.names) node ≡ true

-- get, put and add are lent the n values, and a scratch of 256 bytes for the search
abbrev pub values_short : Hierarchy → (values scratch : List ℕ) → Bool
values_short H values scratch = nat_lt (length values) H.n || nat_lt (length scratch) 256

-- what get, put and add look at
abbrev pub value_checks : Hierarchy → Desk → ℕ → ℕ → (values scratch : List ℕ) → List Check → List Check
value_checks H d party node values scratch own = step_checks H d party (values_short H values scratch) (node_checks H d party node own)

-- scratch is unchanged after refusal 1; after any other end, refused or not, its first 256 bytes are zero and the rest unchanged
abbrev pub search_after : (short : Bool) → List ℕ → List ℕ
search_after true scratch = scratch
search_after false scratch = over (replicate 256 0) scratch

-- the scratch that get, put and add leave; 1 is the first thing looked at
abbrev pub scratch_left : Hierarchy → (values scratch : List ℕ) → List ℕ
scratch_left H values scratch = search_after (tables_short H || values_short H values scratch) scratch

-- what get leaves: the next desk, the scratch, and its answer, a value
pub record GetResult : Type 0 where
  pub desk : Desk
  pub scratch : List ℕ
  pub answer : Answer ℕ

-- get changes no desk
abbrev pub get_unless : Option ℕ → Desk → ℕ → List ℕ → GetResult
get_unless (some k) d value scratch = record { desk = d; scratch = scratch; answer = refused k }
get_unless none d value scratch = record { desk = d; scratch = scratch; answer = done value }

-- what get alone looks at: 18 in an adding visit
abbrev pub get_own : Desk → ℕ → List Check
get_own d party = 18 when adds_only (stage_at d party) ∷ []

-- the value of a node in the reach of one of the hold's names, in a visit that isn't adding
unfoldable pub get_step : Hierarchy → Desk → ℕ → ℕ → (values scratch : List ℕ) → GetResult
get_step H d party node values scratch =
    get_unless (refusal (value_checks H d party node values scratch (get_own d party))) d (slice_index values node) (scratch_left H values scratch)

-- PUT

-- what put leaves, and add: the next desk, the values in what it was lent, the scratch, and its answer
pub record PutResult : Type 0 where
  pub desk : Desk
  pub values : List ℕ
  pub scratch : List ℕ
  pub answer : Answer (Unit {0})

-- a refusal changes nothing but the scratch
abbrev pub put_unless : Option ℕ → Desk → ℕ → ℕ → (values scratch : List ℕ) → PutResult
put_unless (some k) d node value values scratch = record { desk = d; values = values; scratch = scratch; answer = refused k }
put_unless none d node value values scratch = record { desk = d; values = slice_set values node value; scratch = scratch; answer = done tt }

-- what put alone looks at: 17 in a reading visit, 18 in an adding one
abbrev pub put_own : Desk → ℕ → List Check
put_own d party =
    17 when reads_only (stage_at d party)
    ∷ 18 when adds_only (stage_at d party)
    ∷ []

-- the same for a writing visit; that one value becomes the given number
unfoldable pub put_step : Hierarchy → Desk → ℕ → ℕ → ℕ → (values scratch : List ℕ) → PutResult
put_step H d party node value values scratch =
    put_unless (refusal (value_checks H d party node values scratch (put_own d party))) d node value values (scratch_left H values scratch)

-- ADD

-- a number added to a value, modulo 2 to the 64
abbrev pub sum64 : (value number : ℕ) → ℕ
sum64 value number = (value + number) % 2 ^ 64

-- what add alone looks at: 18 in a visit that isn't adding
abbrev pub add_own : Desk → ℕ → List Check
add_own d party = 18 when not (adds_only (stage_at d party)) ∷ []

-- as put, for an adding visit; that one value becomes the sum of itself and the given number
unfoldable pub add_step : Hierarchy → Desk → ℕ → ℕ → ℕ → (values scratch : List ℕ) → PutResult
add_step H d party node number values scratch =
    put_unless (refusal (value_checks H d party node values scratch (add_own d party))) d node (sum64 (slice_index values node) number) values (scratch_left H values scratch)

-- LEAVE

-- a holder gives up its hold, a waiter its call; the others are then taken
abbrev pub after_leaving : Desk → ℕ → Sweep
after_leaving d party = leaving_of d.entries (queue_of d) party

-- what leave leaves: the next desk, the lent list, and its answer, the count of the parties granted
pub record LeaveResult : Type 0 where
  pub desk : Desk
  pub list : List ℕ
  pub answer : Answer ℕ

-- the answer counts the granted parties and lists them in order from byte 0 of the lent buffer; each grant counts for the party granted
abbrev pub leave_with : Sweep → Desk → List ℕ → LeaveResult
leave_with s d list =
    record {
      desk = record { entries = s.entries; queue = queue_places s.stay; waiting = length s.stay; grants = count_grants d.grants s.granted };
      list = over s.granted list;
      answer = done (length s.granted);
    }

-- a refusal changes nothing
abbrev pub leave_unless : Option ℕ → Desk → ℕ → List ℕ → LeaveResult
leave_unless (some k) d party list = record { desk = d; list = list; answer = refused k }
leave_unless none d party list = leave_with (after_leaving d party) d list

-- what leave alone looks at
abbrev pub leave_own : Desk → ℕ → List Check
leave_own d party = 13 when is_out (stage_at d party) ∷ []

-- leave is lent its 32 bytes
abbrev pub leave_refusal : Hierarchy → Desk → ℕ → List ℕ → Option ℕ
leave_refusal H d party list = refusal (step_checks H d party (nat_lt (length list) 32) (leave_own d party))

-- a holder gives up its hold, a waiter its call; waiters are then taken once in arrival order
unfoldable pub leave_step : Hierarchy → Desk → ℕ → List ℕ → LeaveResult
leave_step H d party list = leave_unless (leave_refusal H d party list) d party list
