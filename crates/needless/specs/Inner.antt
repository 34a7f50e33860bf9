-- Terms of the contracts of private functions only: no definition of the paper is here. Assumes nothing.
use Rattle.std.specs.Prelude.{◌≡◌, List, [], ◌∷◌, Bool, true, false, not, cond, ◌&&◌, ℕ, ◌*◌, ◌≤◌, ◌<◌, length}
use Rattle.lists.specs.Lists.{any_below, every}
use Rattle.hierarchy.specs.Hierarchy.{edges_of, Legal}
use Rattle.locks.specs.declared.Mode.{Mode}
use Rattle.locks.specs.declared.Mode.TheVariants.{Writing}
use Rattle.locks.specs.declared.Stage.{Stage}
use Rattle.locks.specs.declared.Stage.TheVariants.{Out, Waiting, Holding}
use Rattle.locks.specs.Locks.{compatible}
use Rattle.locks.specs.Lent.{Hierarchy}
use Rattle.parties.specs.declared.Entry.{Entry}
use Rattle.parties.specs.Parties.{stage_in}
use Rattle.reach_sets.specs.declared.NodeSet.{NodeSet}
use Rattle.reach_sets.specs.Sets.{meets, set_at, set_to, call_set, set_table}
use Rattle.replay.specs.declared.Outcome.{Outcome}
use Rattle.replay.specs.Answers.{step_meaning}
use Rattle.replay.specs.Replay.{record_list, is_record, step_records, state_of}
use Rattle.needless.specs.declared.Waits.{Waits}
use Rattle.needless.specs.declared.Progress.{Progress}
use Rattle.needless.specs.Waits.{no_waits, one_wait, plus, is_waits, makes_visit, names_of, waits_of_steps}

-- the party holds or waits
abbrev pub here : Stage → Bool
here Out = false
here (Waiting l) = true
here (Holding l) = true

-- its mode; of one that is out, which is asked for none, writing
abbrev pub mode_of : Stage → Mode
mode_of Out = Writing
mode_of (Waiting l) = l.mode
mode_of (Holding l) = l.mode

-- it stands in a newcomer's way, by the sets of their calls
abbrev pub set_in_way : Stage → NodeSet → Mode → NodeSet → Bool
set_in_way stage theirs mode s = here stage && not (compatible (mode_of stage) mode) && meets theirs s

-- one of the 32 parties does
abbrev pub some_in_way : List Entry → List ℕ → Mode → NodeSet → Bool
some_in_way entries called mode s = any_below 32 (λ party. set_in_way (stage_in entries party) (set_at called party) mode s)

-- an answer makes a visit; the parties of a leave play no part in it
abbrev pub visits : Outcome → Bool
visits outcome = makes_visit (step_meaning outcome [])

-- an answer is waits
abbrev pub waited : Outcome → Bool
waited outcome = is_waits (step_meaning outcome [])

-- a wait where the test holds
abbrev pub waits_if : Bool → (needless : Bool) → Waits
waits_if b needless = cond b (one_wait needless) no_waits

-- the sets of the parties' calls after an answer
abbrev pub called_after : Bool → ℕ → NodeSet → List ℕ → List ℕ
called_after b party s called = cond b (set_to called party s) called

-- the reaches of n nodes
pub record Sets (n : ℕ) (es sets : List ℕ) : Type 0 where
  pub few : n ≤ 256
  pub are : sets ≡ set_table n es

-- the sets of the parties' calls, by what they have named
pub record Called (sets : List ℕ) (named : List (List ℕ)) (called : List ℕ) : Type 0 where
  pub parties : length named ≡ 32
  pub long : length called ≡ 128
  pub each : (party : ℕ) → party < 32 → set_at called party ≡ call_set sets (names_of named party)

-- the waits so far, and those of the records left
abbrev pub waits_left : Hierarchy → Progress → List ℕ → List (List ℕ) → List (List ℕ) → Waits
waits_left H p values named rs = plus p.waits (waits_of_steps (state_of H p.desk values) named (step_records rs))

-- what is so after a record: the sets are those of what is named then, and what is left comes to the same
pub record Counted (H : Hierarchy) (sets bytes : List ℕ) (p : Progress) (values : List ℕ) (named : List (List ℕ)) (p' : Progress) (values' called' : List ℕ) : Type 0 where
  pub named' : List (List ℕ)
  pub called_for : Called sets named' called'
  pub left : (rs : List (List ℕ)) → waits_left H p' values' named' rs ≡ waits_left H p values named (bytes ∷ rs)

-- over the reaches of the hierarchy, whatever the parties have named before it
abbrev pub Counts : Hierarchy → List ℕ → List ℕ → Progress → List ℕ → List ℕ → Progress → List ℕ → List ℕ → Type 0
Counts H sets bytes p values called p' values' called' =
    Sets H.n (edges_of H.edges H.edge_count) sets → (named : List (List ℕ)) → Called sets named called → Counted H sets bytes p values named p' values' called'

-- what counting over a built hierarchy asks
pub record Countable (n edge_count : ℕ) (edges records : List ℕ) : Type 0 where
  pub legal : Legal n edges edge_count
  pub whole : 2 * edge_count ≤ length edges
  pub right : every is_record (record_list records) ≡ true
