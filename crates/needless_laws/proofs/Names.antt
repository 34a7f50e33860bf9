-- Visits that name one node: each party's lock, held or waited for, has the interval of its one name. What keeps this. Assumes nothing.
use mathlib.Core.Path.{◌≡◌, sym, subst}
use mathlib.Core.List.{List, [], ◌∷◌}
use mathlib.Core.Bool.{true}
use mathlib.Core.Option.{none}
use Prim.Native.Nat.{ℕ, ◌<◌}
use lib.Dec.{eqb}
use lib.ListN.{length, get_or, set, take}
use lib.Seq.{get_or-set_same, get_or-set_other}
use borrow.Author.Tests.{eqb-true, eqb-false}
use Rattle.lists.proofs.Bools.{bool}
use Rattle.lists.proofs.Members.{In, in_nil, in_cons}
use Rattle.lists.proofs.Distinct.{every_in, place_in}
use Rattle.locks.specs.declared.Mode.{Mode}
use Rattle.locks.specs.declared.Lock.{Lock}
use Rattle.locks.specs.declared.Stage.{Stage}
use Rattle.locks.specs.declared.Stage.TheVariants.{Out, Waiting, Holding}
use Rattle.locks.specs.Lent.{Hierarchy, low_in, high_in, lock_for}
use Rattle.parties.specs.declared.Entry.{Entry}
use Rattle.parties.specs.Parties.{entry_of, stage_in}
use Rattle.sweeps.specs.Sweeps.{Sweep, sweep}
use Rattle.desk.specs.declared.Desk.{Desk}
use Rattle.desk.specs.Steps.{enter_refusal}
use Rattle.history.proofs.Facts.{stage_by, sweep_stage}
use Rattle.soundness.proofs.Changes.{stage_same, stage_other}
use Rattle.soundness.proofs.Covers.{enter_some, enter_nodes, enter_one}
use Rattle.needless.specs.Waits.{names_of}
use Rattle.needless_laws.specs.Visits.{one_node}

-- THE INVARIANT of one lock: the names are one node, however often, and the lock has the node's interval
pub record NamedBy (H : Hierarchy) (l : Lock) (names : List ℕ) : Type 0 where
  pub node : ℕ
  pub below : node < H.n
  pub low : l.low ≡ low_in H node
  pub high : l.high ≡ high_in H node
  pub there : In node names
  pub same : (r : ℕ) → In r names → r ≡ node

-- of what a party holds or waits for; nothing is asked of a party that is out
abbrev pub StageNamed : Hierarchy → Stage → List ℕ → Type 0
StageNamed H Out names = Unit {0}
StageNamed H (Waiting l) names = NamedBy H l names
StageNamed H (Holding l) names = NamedBy H l names

-- of all parties
abbrev pub AllNamed : Hierarchy → List Entry → List (List ℕ) → Type 0
AllNamed H entries named = (party : ℕ) → StageNamed H (stage_in entries party) (names_of named party)

-- names that are one node are the first one
one_node_law : (names : List ℕ) → one_node names ≡ true → (r : ℕ) → In r names → r ≡ get_or names 0 0
one_node_law [] e r i = in_nil i
one_node_law (name ∷ names) e r i = in_cons i sym (λ j. eqb-true r name (every_in (λ other. eqb other name) e j))

-- where the call is not refused, its lock has the interval of the one name
pub call_named : (H : Hierarchy) (d : Desk) (party : ℕ) (mode : Mode) (names : List ℕ) (name_count : ℕ) → enter_refusal H d party names name_count ≡ none
    → one_node (take name_count names) ≡ true → NamedBy H (lock_for H mode (take name_count names)) (take name_count names)
call_named H d party mode names name_count fine one =
    let x : ℕ = get_or (take name_count names) 0 0 in
    let there : In x (take name_count names) = place_in (take name_count names) 0 (enter_some H d party mode names name_count fine) in
    let same = one_node_law (take name_count names) one in
    let interval = enter_one H d party mode names name_count fine x same in
    record { node = x; below = enter_nodes H d party mode names name_count fine x there; low = interval.0; high = interval.1; there = there; same = same }

-- THE DESK. A party stored with its names
pub named_set : (H : Hierarchy) (entries : List Entry) (named : List (List ℕ)) (p : ℕ) (x : Stage) (names : List ℕ)
    → p < length entries → p < length named → StageNamed H x names → AllNamed H entries named
    → AllNamed H (set entries p (entry_of x)) (set named p names)
named_set H entries named p x names he hn new old q =
    bool (eqb q p)
    (λ e. rw (eqb-true q p e, stage_same entries p x he, get_or-set_same named p names [] hn) new)
    (λ e. rw (stage_other entries p q x (eqb-false q p e), get_or-set_other named p q names [] (eqb-false q p e)) (old q))

module _ (H : Hierarchy) (named : List (List ℕ)) where
  -- a stage stored for a party whose names stay: a leave, or a waiter granted
  pub named_kept : (entries : List Entry) (p : ℕ) (x : Stage) → StageNamed H x (names_of named p) → AllNamed H entries named → AllNamed H (set entries p (entry_of x)) named
  named_kept entries p x new old q = stage_by (λ y. StageNamed H y (names_of named q)) entries p q x (λ e. subst (λ (r : ℕ). StageNamed H x (names_of named r)) e new) (old q)

  -- LEAVE'S PASS moves locks unchanged: a waiter granted holds what it waited for
  pub sweep_named : (parties : List ℕ) (s : Sweep) → AllNamed H s.entries named → AllNamed H (sweep s parties).entries named
  sweep_named parties s old q = sweep_stage (λ y. StageNamed H y (names_of named q)) (λ l h. h) q parties s (old q)
