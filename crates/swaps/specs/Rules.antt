-- Desks with other rules than the papers' in three of the places that point 10 of 02 hangs on, only to show that it is false of them. Assumes nothing.
use Rattle.std.specs.Prelude.{◌≡◌, ◌≢◌, List, [], ◌∷◌, map, Bool, true, false, ℕ, get_or, take}
use Rattle.std.proofs.Math.Option.{Option, none, some}
use Rattle.lists.specs.Answer.{refused, Check, ◌when◌, refusal, answer_of}
use Rattle.locks.specs.declared.Mode.{Mode}
use Rattle.locks.specs.declared.Mode.TheVariants.{Reading, Writing, Adding}
use Rattle.locks.specs.declared.Lock.{Lock}
use Rattle.locks.specs.declared.Stage.{Stage}
use Rattle.locks.specs.declared.Stage.TheVariants.{Out, Waiting, Holding}
use Rattle.locks.specs.Stages.{adds_only}
use Rattle.locks.specs.Lent.{Hierarchy, lock_for}
use Rattle.parties.specs.Parties.{entry_of}
use Rattle.desk.specs.declared.Desk.{Desk}
use Rattle.desk.specs.Desks.{stage_at}
use Rattle.desk.specs.Steps.{EnterResult, enter_refusal, free, enter_if, value_checks, put_own, put_unless, sum64, add_own}
use Rattle.runs.specs.Run.{lend, restored, Call, enter, get, put, add, leave, Step, lent_to, got, State, Moved, after_enter, after_put, after_add, move_call}
use Rattle.history.specs.Serial.{Built}
use Rattle.swaps.specs.Order.{is_access, party_of, not_refused}

-- the three places: which mode a visit is seen as where it is asked whether two holds conflict; whose get is turned away with 18; and what a get leaves in place of the value that it answers
pub record Rules : Type 0 where
  pub seen_as : Mode → Mode
  pub may_not_get : Stage → Bool
  pub leaves_behind : ℕ → ℕ

-- a writing visit is seen as a reading one
abbrev pub writers_read : Mode → Mode
writers_read Reading = Reading
writers_read Writing = Reading
writers_read Adding = Adding

-- an adding visit is seen as a reading one
abbrev pub adders_read : Mode → Mode
adders_read Reading = Reading
adders_read Writing = Writing
adders_read Adding = Reading

-- THE PAPERS': its own; that of an adding visit; and that very value
abbrev pub paper_rules : Rules
paper_rules = record { seen_as = λ mode. mode; may_not_get = adds_only; leaves_behind = λ value. value }

-- a get counts itself: it leaves one more
abbrev pub gets_count : Rules
gets_count = record { seen_as = λ mode. mode; may_not_get = adds_only; leaves_behind = λ value. sum64 value 1 }

-- a writing visit is seen as a reading one: so readers are let in where one writes, and see what it puts (and a writer is let in where others read or write)
abbrev pub writers_pass : Rules
writers_pass = record { seen_as = writers_read; may_not_get = adds_only; leaves_behind = λ value. value }

-- an adding visit is seen as a reading one: so readers are let in where one adds, and see the sums (and an adder is let in where others read)
abbrev pub adders_pass : Rules
adders_pass = record { seen_as = adders_read; may_not_get = adds_only; leaves_behind = λ value. value }

-- no get is turned away with 18: so an adding visit sees the sums of another
abbrev pub adders_get : Rules
adders_get = record { seen_as = λ mode. mode; may_not_get = λ stage. false; leaves_behind = λ value. value }

-- a lock with its mode as it is seen
abbrev pub lock_seen : (Mode → Mode) → Lock → Lock
lock_seen f l = record { mode = f l.mode; cover = l.cover; low = l.low; high = l.high; names = l.names }

-- a party's stage with it
abbrev pub stage_seen : (Mode → Mode) → Stage → Stage
stage_seen f Out = Out
stage_seen f (Waiting l) = Waiting (lock_seen f l)
stage_seen f (Holding l) = Holding (lock_seen f l)

-- the desk with all of them
abbrev pub desk_seen : (Mode → Mode) → Desk → Desk
desk_seen f d = record { entries = map (λ e. entry_of (stage_seen f e.stage)) d.entries; queue = d.queue; waiting = d.waiting; grants = d.grants }

-- the refusal of a get, put or add by these rules, where `own` is what it alone looks at: the desk is sound where it is sound as it is seen
abbrev pub refusal_by : Rules → Hierarchy → Desk → ℕ → ℕ → (values scratch : List ℕ) → List Check → Option ℕ
refusal_by rules H d party node values scratch own = refusal (value_checks H (desk_seen rules.seen_as d) party node values scratch own)

-- an enter by these rules: granted exactly when the lock, as it is seen, conflicts with no holder and no waiter of the desk as it is seen
abbrev pub enter_by : Rules → Option ℕ → Desk → ℕ → Lock → EnterResult
enter_by rules (some k) d party l = record { desk = d; answer = refused k }
enter_by rules none d party l = enter_if (free (desk_seen rules.seen_as d) (lock_seen rules.seen_as l)) d party l

-- a get by these rules
abbrev pub get_by : Rules → Option ℕ → ℕ → ℕ → (values scratch : List ℕ) → State → Moved
get_by rules o party node values scratch s =
    record {
      state =
          record {
            hierarchy = s.hierarchy;
            desk = s.desk;
            values = restored s.values (put_unless o s.desk node (rules.leaves_behind (get_or values node 0)) values scratch).values;
          };
      event = got party node (answer_of o (get_or values node 0));
    }

-- one step by these rules, over the tables as lent; a leave is the desk's own
unfoldable pub move_by : Rules → Hierarchy → Call → State → Moved
move_by rules H (enter party mode names name_count) s =
    after_enter party s
    (enter_by rules (enter_refusal H (desk_seen rules.seen_as s.desk) party names name_count) s.desk party (lock_for H mode (take name_count names)))
move_by rules H (get party node l scratch) s =
    get_by rules (refusal_by rules H s.desk party node (lend s.values l) scratch (18 when rules.may_not_get (stage_at s.desk party) ∷ [])) party node (lend s.values l) scratch s
move_by rules H (put party node value l scratch) s =
    after_put party node value s
    (put_unless (refusal_by rules H s.desk party node (lend s.values l) scratch (put_own s.desk party)) s.desk node value (lend s.values l) scratch)
move_by rules H (add party node number l scratch) s =
    after_add party node number s
    (put_unless (refusal_by rules H s.desk party node (lend s.values l) scratch (add_own s.desk party)) s.desk node (sum64 (get_or (lend s.values l) node 0) number)
    (lend s.values l) scratch)
move_by rules H (leave party list) s = move_call H (leave party list) s

-- a step of a list by these rules
abbrev pub step_by : Rules → Step → State → Moved
step_by rules x s = move_by rules (lent_to x s.hierarchy) x.call s

-- taken in either order, by these rules
pub record SwappedBy (rules : Rules) (x y : Step) (s : State) : Type 0 where
  pub first : (step_by rules x (step_by rules y s).state).event ≡ (step_by rules x s).event
  pub second : (step_by rules y (step_by rules x s).state).event ≡ (step_by rules y s).event
  pub state : (step_by rules x (step_by rules y s).state).state ≡ (step_by rules y (step_by rules x s).state).state

-- NEIGHBOURS MAY SWAP on a desk with these rules, as 02 has it: over a built hierarchy, a get, put or add of one party and then one of another, neither refused, may be taken in either order
abbrev pub NeighboursMaySwap : Rules → Type 0
NeighboursMaySwap rules =
    (s : State) → Built s.hierarchy → (x y : Step) → is_access x ≡ true → is_access y ≡ true → party_of x ≢ party_of y
    → not_refused (step_by rules x s).event ≡ true → not_refused (step_by rules y (step_by rules x s).state).event ≡ true
    → SwappedBy rules x y s
