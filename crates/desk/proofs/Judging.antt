-- What a judgement of the desk says: how the checks of every step and then a step's own decide, and what a step knows that none of them refuses. Assumes nothing.
use Rattle.std.proofs.Common.{◌≡◌, ℕ, ◌<◌, ◌≤◌, Bool, false, ◌||◌, ltb, List, [], ◌++◌, length, take, drop, replicate, sym, refl, ap, ◌∙◌, arith, ltb-false, length-append, length-take-le}
use lib.ListN.{length-replicate}
use lib.Seq.{take-append-le}
use mathlib.Core.Option.{none}
use Rattle.lists.specs.Lists.{over}
use Rattle.lists.specs.Answer.{Check, refusal}
use Rattle.lists.proofs.Bools.{or_left, or_right}
use Rattle.lists.proofs.Marks.{take_zeros}
use Rattle.lists.proofs.Refusals.{refusal_none}
use Rattle.hierarchy.proofs.Legals.{right_size}
use Rattle.naming.specs.Names.{ascending, named}
use Rattle.naming.specs.Inner.{kept_names}
use Rattle.locks.specs.Lent.{Hierarchy}
use Rattle.parties.proofs.Clauses.{sound_few}
use Rattle.desk.specs.declared.Desk.{Desk}
use Rattle.desk.specs.Steps.{step_checks, StepFacts, enter_own, enter_refusal, value_checks, search_after}
use Rattle.desk.proofs.Called.{names_stored}
use Rattle.desk.proofs.Facts.{step_own, step_facts, node_facts}

-- an arrival list that is sound is within its places
pub few_waiting : (H : Hierarchy) (d : Desk) (party : ℕ) (short : Bool) → StepFacts H d party short → d.waiting ≤ 32
few_waiting H d party short f = sound_few H d.entries d.queue d.waiting f.sound

-- where the n values are lent, the node has one
pub value_lent : (H : Hierarchy) (d : Desk) (party node : ℕ) (values scratch : List ℕ) (own : List Check)
    → refusal (value_checks H d party node values scratch own) ≡ none → node < length values
value_lent H d party node values scratch own e =
    let step = step_facts H d party _ _ e in
    let at_node = node_facts H d party node own (step_own H d party _ _ e) in
    omega (arith, at_node.below, ltb-false (length values) H.n (or_left (ltb (length values) H.n) (ltb (length scratch) 256) step.own_lent))

-- THE SCRATCH OF A SEARCH, where nothing is too short
module _ (short few : Bool) (scratch : List ℕ) (e : (short || (few || ltb (length scratch) 256)) ≡ false) where
  pub search_room : 256 ≤ length scratch
  search_room = ltb-false _ 256 (or_right few (ltb (length scratch) 256) (or_right short (few || ltb (length scratch) 256) e))

  -- its first bytes are wiped
  pub search_wiped : (front : List ℕ) → front ≡ replicate (length (take 256 scratch)) 0 → front ++ drop 256 scratch ≡ search_after (short || (few || ltb (length scratch) 256)) scratch
  unfolding over
  search_wiped front w = rw (e, w, length-take-le 256 scratch search_room, length-replicate {A = ℕ} 256 0) refl

  -- of which fewer are lent on
  pub search_front : (front : List ℕ) → front ≡ replicate (length (take 256 scratch)) 0 → (n : ℕ) → n ≤ 256
      → (n ≤ length (front ++ drop 256 scratch)) × (take n (front ++ drop 256 scratch) ≡ replicate n 0)
  search_front front w n h =
      let zeros : front ≡ replicate 256 0 = w ∙ ap (λ (k : ℕ). replicate k 0) (length-take-le 256 scratch search_room) in
      let long : length front ≡ 256 = ap length zeros ∙ length-replicate {A = ℕ} 256 0 in
      (omega (arith, length-append front (drop 256 scratch)), take-append-le n front (drop 256 scratch) (omega arith) ∙ ap (take n) zeros ∙ take_zeros n 256 h)

-- AN ENTER THAT IS NOT REFUSED
module _ (H : Hierarchy) (d : Desk) (party : ℕ) (names : List ℕ) (name_count : ℕ) (e : enter_refusal H d party names name_count ≡ none) where
  pub enter_facts : StepFacts H d party (ltb (length names) name_count)
  enter_facts = step_facts H d party _ _ e

  -- its names are kept as they are, ascending and each once
  pub enter_named : kept_names (take name_count names) ≡ named (ascending (take name_count names))
  enter_named =
      let right = refusal_none (step_checks H d party (ltb (length names) name_count) (enter_own H d party names name_count)) e in
      names_stored H.n names name_count right.1.1.1.1.1.1.1.0 (right_size H.n enter_facts.sized).1
