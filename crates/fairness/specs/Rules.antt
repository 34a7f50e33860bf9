-- Desks with other rules than the paper's in two of the places that point 8 of 02 hangs on, only to show that it is false of them. Assumes nothing.
use Rattle.std.specs.Prelude.{◌≡◌, List, [], ◌∷◌, reverse, Bool, true, false, not, ℕ, eqb, length, set, take}
use Rattle.std.proofs.Math.Option.{Option, none, some}
use Rattle.lists.specs.Lists.{keep}
use Rattle.lists.specs.Answer.{done, refused}
use Rattle.locks.specs.declared.Mode.{Mode}
use Rattle.locks.specs.declared.Lock.{Lock}
use Rattle.locks.specs.declared.Stage.TheVariants.{Out, Holding}
use Rattle.locks.specs.Stages.{is_holding}
use Rattle.locks.specs.Lent.{Hierarchy, lock_for}
use Rattle.parties.specs.declared.Entry.{Entry}
use Rattle.parties.specs.Parties.{entry_of, meets_holder, is_free}
use Rattle.sweeps.specs.Sweeps.{sweep_of}
use Rattle.desk.specs.declared.Desk.{Desk}
use Rattle.desk.specs.Desks.{stage_at, queue_of}
use Rattle.desk.specs.Steps.{waits, EnterResult, LeaveResult, enter_refusal, enter_if, leave_with, leave_refusal}
use Rattle.runs.specs.Run.{Call, enter, get, put, add, leave, State, Moved, after_enter, after_leave, move_call, Ran, also_ran}
use Rattle.fairness.specs.AnySteps.{AnyStep}
use Rattle.fairness.specs.Ahead.{numbers_below, has_left, all_left}

-- the two places: whether a newcomer is let in, by those at the desk; and in which order the waiters are taken, by the arrival list
pub record Rules : Type 0 where
  pub admits : List Entry → Lock → Bool
  pub turns : List ℕ → List ℕ

-- THE PAPER'S: it conflicts with no holder and no waiter; and in arrival order
abbrev pub paper_rules : Rules
paper_rules = record { admits = is_free; turns = λ list. list }

-- a newcomer passes waiters that it conflicts with: it is let in where it conflicts with no holder
abbrev pub newcomers_pass : Rules
newcomers_pass = record { admits = λ entries l. not (meets_holder entries l); turns = λ list. list }

-- waiters are taken from the back (those that stay are then listed in the order in which they were taken)
abbrev pub from_the_back : Rules
from_the_back = record { admits = is_free; turns = reverse }

-- AND OF WHO IS AHEAD: only those that hold
abbrev pub only_holders : Desk → List ℕ
only_holders d = keep (λ party. is_holding (stage_at d party)) (numbers_below 32)

-- enter by these rules
abbrev pub enter_by : Rules → Option ℕ → Desk → ℕ → Lock → EnterResult
enter_by rules (some k) d party l = record { desk = d; answer = refused k }
enter_by rules none d party l = enter_if (rules.admits d.entries l) d party l

-- leave by these rules
abbrev pub leave_by : Rules → Option ℕ → Desk → ℕ → List ℕ → LeaveResult
leave_by rules (some k) d party list = record { desk = d; list = list; answer = refused k }
leave_by rules none d party list =
    leave_with (sweep_of (set d.entries party (entry_of Out)) (rules.turns (keep (λ other. not (eqb other party)) (queue_of d)))) d list

-- one step by these rules: of get, put and add they say nothing
unfoldable pub move_by : Rules → Hierarchy → Call → State → Moved
move_by rules K (enter party mode names name_count) s =
    after_enter party s (enter_by rules (enter_refusal K s.desk party names name_count) s.desk party (lock_for K mode (take name_count names)))
move_by rules K (get party node v scratch) s = move_call K (get party node v scratch) s
move_by rules K (put party node value v scratch) s = move_call K (put party node value v scratch) s
move_by rules K (add party node number v scratch) s = move_call K (add party node number v scratch) s
move_by rules K (leave party list) s = after_leave party s (leave_by rules (leave_refusal K s.desk party list) s.desk party list)

-- steps one after the other, each having the desk that the one before handed back
unfoldable pub run_by : Rules → List AnyStep → State → Ran
run_by rules [] s = record { state = s; events = [] }
run_by rules (x ∷ xs) s = also_ran (move_by rules x.tables x.call s) (run_by rules xs (move_by rules x.tables x.call s).state)

-- NOBODY IS PASSED OVER by a desk with these rules, where `first` are those who count as ahead: a call of a party begins to wait at a desk; then come any steps, among which all
-- those have left, and its own party has not: the party holds what it called for
abbrev pub NobodyPassedOver : Rules → (first : Desk → List ℕ) → Type 0
NobodyPassedOver rules first =
    (K : Hierarchy) (d : Desk) → length d.entries ≡ 32 → length d.queue ≡ 32 → (p : ℕ) (mode : Mode) (names : List ℕ) (name_count : ℕ)
    → let l = lock_for K mode (take name_count names) in let began = enter_by rules (enter_refusal K d p names name_count) d p l in began.answer ≡ done waits
    → (s : State) → s.desk ≡ began.desk → (steps : List AnyStep) → let ran = run_by rules steps s in
    all_left (first d) ran.events ≡ true → has_left ran.events p ≡ false → stage_at ran.state.desk p ≡ Holding l
