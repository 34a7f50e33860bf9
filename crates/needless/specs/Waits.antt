-- The report over a file (02, point 2): all waits, and the needless ones. Assumes nothing.
use Rattle.std.specs.Prelude.{List, [], ◌∷◌, Bool, true, false, not, cond, ◌&&◌, ℕ, ◌+◌, get_or, set, replicate}
use Rattle.std.proofs.Math.Option.{Option, none, some}
use Rattle.lists.specs.Lists.{one, any_below}
use Rattle.lists.specs.Answer.{refusal}
use Rattle.hierarchy.specs.Hierarchy.{edges_of, in_reach, hierarchy_checks}
use Rattle.blocks.specs.Record.{party_in, mode_in, names_in}
use Rattle.blocks.specs.File.{file_checks, file_records}
use Rattle.locks.specs.declared.Mode.{Mode}
use Rattle.locks.specs.declared.Lock.{Lock}
use Rattle.locks.specs.declared.Stage.{Stage}
use Rattle.locks.specs.declared.Stage.TheVariants.{Out, Waiting, Holding}
use Rattle.locks.specs.Locks.{compatible, mode_numbered}
use Rattle.locks.specs.Lent.{Hierarchy}
use Rattle.desk.specs.declared.Desk.{Desk}
use Rattle.desk.specs.Desks.{stage_at}
use Rattle.runs.specs.Run.{State}
use Rattle.replay.specs.Replay.{StepAnswer, granted, waits, value, stored, added, left, refused, performed, perform_step}
use Rattle.replay.specs.Replay.{record_list, size_of, edge_table, edge_count_of, step_records, built_of, start_of}
use Rattle.needless.specs.declared.Waits.{Waits}

-- THE TWO NUMBERS, all waits and needless ones. No wait
abbrev pub no_waits : Waits
no_waits = record { all = 0; needless = 0 }

-- one wait, needless or not
abbrev pub one_wait : (needless : Bool) → Waits
one_wait needless = record { all = 1; needless = one needless }

-- both together
abbrev pub plus : Waits → Waits → Waits
plus a b = record { all = a.all + b.all; needless = a.needless + b.needless }

-- THE NAMES of each of the 32 parties' visits, which the report keeps, since the desk does not. At first nobody has named anything
abbrev pub nothing_named : List (List ℕ)
nothing_named = replicate 32 []

-- what a party has named
abbrev pub names_of : List (List ℕ) → ℕ → List ℕ
names_of named party = get_or named party []

-- the answer is waits: only an enter's is
abbrev pub is_waits : StepAnswer → Bool
is_waits (granted cover) = false
is_waits waits = true
is_waits (value number) = false
is_waits stored = false
is_waits added = false
is_waits (left parties) = false
is_waits (refused number) = false

-- the answer makes a visit: an enter's that is granted or waits
abbrev pub makes_visit : StepAnswer → Bool
makes_visit (granted cover) = true
makes_visit waits = true
makes_visit (value number) = false
makes_visit stored = false
makes_visit added = false
makes_visit (left parties) = false
makes_visit (refused number) = false

-- after a step: an enter that makes a visit has named the nodes of its record; no other step, and none that is refused, names any. What a party that has left
-- had named stays here unused
abbrev pub named_after : List ℕ → StepAnswer → List (List ℕ) → List (List ℕ)
named_after r answer named = cond (makes_visit answer) (set named (party_in r) (names_in r)) named

-- NEEDLESS. The reach of the named nodes meets that of others: some node is in both (`meet_reach` in needless_laws: a way leads to it from one of the names
-- and from one of the others)
abbrev pub reaches_meet : ℕ → List ℕ → List ℕ → List ℕ → Bool
reaches_meet n es names others = any_below n (λ node. in_reach n es names node && in_reach n es others node)

-- one that holds or waits for this lock stands in the newcomer's way: it is no reader against a reader, nor, like two readers, one adding visit against another (point 5),
-- and has named nodes whose reach meets the newcomer's
abbrev pub lock_in_way : ℕ → List ℕ → Mode → List ℕ → Lock → List ℕ → Bool
lock_in_way n es mode names l theirs = not (compatible l.mode mode) && reaches_meet n es theirs names

-- a party at this stage does: a holder or a waiter
abbrev pub in_way : ℕ → List ℕ → Mode → List ℕ → Stage → List ℕ → Bool
in_way n es mode names Out theirs = false
in_way n es mode names (Waiting l) theirs = lock_in_way n es mode names l theirs
in_way n es mode names (Holding l) theirs = lock_in_way n es mode names l theirs

-- a wait is needless if no holder or earlier waiter does. Of the desk before its enter: whoever waits there is earlier, and the newcomer is out
abbrev pub is_needless : Hierarchy → Desk → List (List ℕ) → Mode → List ℕ → Bool
is_needless H d named mode names =
    not (any_below 32 (λ party. in_way H.n (edges_of H.edges H.edge_count) mode names (stage_at d party) (names_of named party)))

-- THE REPORT. Of a step, by its answer: one that is refused counts as no wait
abbrev pub waits_by : StepAnswer → (needless : Bool) → Waits
waits_by answer needless = cond (is_waits answer) (one_wait needless) no_waits

-- a wait is judged at its enter, on the hierarchy and the desk and by the names before that step
abbrev pub waits_of_step : State → List (List ℕ) → List ℕ → StepAnswer → Waits
waits_of_step s named r answer = waits_by answer (is_needless s.hierarchy s.desk named (mode_numbered (mode_in r)) (names_in r))

-- of the step records one after the other
unfoldable pub waits_of_steps : State → List (List ℕ) → List (List ℕ) → Waits
waits_of_steps s named [] = no_waits
waits_of_steps s named (r ∷ rs) =
    plus (waits_of_step s named r (performed (perform_step s r)).answer)
    (waits_of_steps (performed (perform_step s r)).state (named_after r (performed (perform_step s r)).answer named) rs)

-- a hierarchy that is refused counts as no wait
abbrev pub records_unless : Option ℕ → List (List ℕ) → Waits
records_unless (some k) rs = no_waits
records_unless none rs = waits_of_steps (start_of (built_of rs) rs) nothing_named (step_records rs)

-- of a file's records
unfoldable pub waits_of_records : List (List ℕ) → Waits
waits_of_records rs = records_unless (refusal (hierarchy_checks (size_of rs) (edge_table rs) (edge_count_of rs))) rs

-- a file that is refused counts as no wait
abbrev pub waits_unless : Option ℕ → List ℕ → Waits
waits_unless (some k) file = no_waits
waits_unless none file = waits_of_records (record_list (file_records file))

-- the report over a file
unfoldable pub waits_of : List ℕ → Waits
waits_of file = waits_unless (refusal (file_checks file)) file
