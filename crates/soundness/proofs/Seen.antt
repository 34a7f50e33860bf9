-- THEOREMS: a visit sees just the reach of the records that it named, over any tables and any desk (02, point 6). Assumes nothing.
use mathlib.Core.Path.{◌≡◌, refl, ap, ◌∙◌}
use mathlib.Core.List.{List, [], ◌∷◌}
use mathlib.Core.Bool.{Bool, true, false, not, ◌&&◌}
use mathlib.Core.Option.{Option, none, some}
use Prim.Native.Nat.{ℕ, ◌≤◌, ◌<◌}
use native.Mathlib.Omega.{arith}
use lib.Dec.{leb, ltb}
use lib.ListN.{length, get_or}
use borrow.Author.Tests.{ne_eqb, lt-ltb, leb-true, not-true}
use Rattle.lists.specs.Lists.{any, every}
use Rattle.lists.specs.Answer.{done, refused, Check, ◌when◌, refusal}
use Rattle.lists.proofs.Bools.{bool, not_both, and_left, and_right}
use Rattle.lists.proofs.Bounded.{all_at}
use Rattle.lists.proofs.Refusals.{refusal_none, refused_here}
use Rattle.lists.proofs.Members.{In}
use Rattle.lists.proofs.Distinct.{any_in, any_found}
use Rattle.hierarchy.specs.Hierarchy.{edges_of, edge_wrong, Edge, Reach, flagged, reach, in_reach}
use Rattle.hierarchy.proofs.Legals.{no_edge, right_edge}
use Rattle.hierarchy.proofs.Reaches.{reach_all_law, reach_only}
use Rattle.naming.specs.Names.{rises, ascending, names_of}
use Rattle.naming.proofs.Gathering.{ascending_most}
use Rattle.locks.specs.declared.Mode.{Mode}
use Rattle.locks.specs.declared.Lock.{Lock}
use Rattle.locks.specs.declared.Stage.TheVariants.{Holding}
use Rattle.locks.specs.Stages.{is_out, is_waiting, of_lock}
use Rattle.locks.specs.Lent.{Hierarchy, keeps_names, lock_for, in_named}
use Rattle.parties.proofs.Clauses.{clauses}
use Rattle.desk.specs.declared.Desk.{Desk}
use Rattle.desk.specs.Desks.{stage_at}
use Rattle.desk.specs.Steps.{step_checks, StepFacts, node_checks, values_short, value_checks, scratch_left, get_own, get_step, put_own, put_step, sum64, add_own, add_step}
use Rattle.desk.proofs.Facts.{step_facts, holder_of}
use Rattle.history.proofs.Facts.{touch}
use Rattle.history.proofs.Nested.{flag_one, holder_names}
use Rattle.history.proofs.Modes.{get_none, put_none}
use Rattle.soundness.proofs.Named.{ascending_any, named_names}
use Rattle.lists.proofs.Numbers.{holds_with, decides, passed, onward}
use Rattle.soundness.proofs.Numbers.{get_turned_away, put_turned_away}

-- A CALL KEEPS WHAT IT WAS GIVEN: a node is in the reach of a name kept exactly when it is in the reach of a name given
pub kept_reach : (H : Hierarchy) (mode : Mode) (given : List ℕ) → length given ≤ 8 → (n : ℕ) (es : List ℕ) (node : ℕ)
    → in_reach n es (names_of (lock_for H mode given).names) node ≡ in_reach n es given node
kept_reach H mode given h n es node =
    ap (λ (names : List ℕ). in_reach n es names node) (named_names (ascending given) (omega (arith, ascending_most given)))
    ∙ ascending_any (λ name. flagged (reach n es name) node) given

-- THE TEST OF 16 IS THE RELATION, where the ends of the edges are nodes (7 has judged them)
module _ (n : ℕ) (es : List ℕ) (ends : (p c : ℕ) → Edge es p c → c < n) (names : List ℕ) (node : ℕ) where
  pub reach_some : in_reach n es names node ≡ true → (name : ℕ) × In name names × Reach es name node
  reach_some e =
      let (name, i, f) = any_found (λ name. flagged (reach n es name) node) names e in
      (name, i, reach_only es n ends name node (flag_one (reach n es name) node f))

  pub some_reach : (name : ℕ) → In name names → name < n → Reach es name node → in_reach n es names node ≡ true
  some_reach name i h w =
      any_in (λ name. flagged (reach n es name) node) i
      (rw (ne_eqb (get_or (reach n es name) node 0) 0 (λ e. let on = reach_all_law es n ends name node h w in omega arith)))

-- the party holds, with a name that reaches the node, by the lent edges
pub record Sees (H : Hierarchy) (d : Desk) (party node : ℕ) : Type 0 where
  pub hold : Lock
  pub holds : stage_at d party ≡ Holding hold
  pub most : hold.names.count ≤ 8
  pub name : ℕ
  pub kept : In name (names_of hold.names)
  pub reaches : Reach (edges_of H.edges H.edge_count) name node

-- the party holds, and no name of its hold reaches the node
pub record SeesNot (H : Hierarchy) (d : Desk) (party node : ℕ) : Type 0 where
  pub hold : Lock
  pub holds : stage_at d party ≡ Holding hold
  pub nowhere : (name : ℕ) → In name (names_of hold.names) → Reach (edges_of H.edges H.edge_count) name node → ⊥

-- the same of a desk that the step found sound: eight names at most
pub record Blind (H : Hierarchy) (d : Desk) (party node : ℕ) : Type 0 where
  pub not_seen : SeesNot H d party node
  pub most : not_seen.hold.names.count ≤ 8

module _ (H : Hierarchy) (d : Desk) (party node : ℕ) where
  -- the edges as the step is lent them, whose ends 7 has judged
  abbrev es : List ℕ
  es = edges_of H.edges H.edge_count

  ends_of : {short : Bool} → StepFacts H d party short → (p c : ℕ) → Edge es p c → c < H.n
  ends_of f p c w = (right_edge H.n p c (no_edge (edge_wrong H.n) f.edges_right w)).child_below

  -- a sound desk keeps eight names at most
  most_eight : {short : Bool} → StepFacts H d party short → (l : Lock) → stage_at d party ≡ Holding l → l.names.count ≤ 8
  most_eight f l e =
      let some = leb 1 l.names.count in
      let few = leb l.names.count 8 in
      let nodes = every (λ name. ltb name H.n) (names_of l.names) in
      let right : keeps_names H l ≡ true =
      rw e at (all_at (λ q. of_lock (keeps_names H) (stage_at d q)) 32 party (clauses H d.entries d.queue d.waiting f.sound).names f.party_below) in
      leb-true l.names.count 8 (and_right some few (and_left (some && few) nodes (and_left (some && few && nodes) (rises (names_of l.names)) right)))

  module _ (values scratch : List ℕ) (own : List Check) where
    abbrev refusal_of : Option ℕ
    refusal_of = refusal (value_checks H d party node values scratch own)

    -- not refused: it sees the node
    checks_see : refusal_of ≡ none → Sees H d party node
    checks_see e =
        let t = touch H d party node values scratch own e in
        let (name, i, w) = reach_some H.n es (ends_of t.step) (names_of t.at_node.hold.names) node t.at_node.reached in
        record { hold = t.at_node.hold; holds = t.at_node.holds; most = most_eight t.step t.at_node.hold t.at_node.holds; name = name; kept = i; reaches = w }

    -- the three checks before 16
    abbrev three : List Check
    three = 13 when is_out (stage_at d party) ∷ 14 when is_waiting (stage_at d party) ∷ 15 when not (ltb node H.n) ∷ []

    -- refused with 16: it does not see it
    checks_blind : holds_with 16 own ≡ false → refusal_of ≡ some 16 → Blind H d party node
    unfolding any
    checks_blind f e =
        let (fine, at_node) = passed 16 (step_checks H d party (values_short H values scratch) []) (node_checks H d party node own) refl e in
        let facts = step_facts H d party (values_short H values scratch) [] fine in
        let (first, last) = passed 16 three (16 when not (in_named H node (stage_at d party)) ∷ own) refl at_node in
        let none = refusal_none three first in
        let (l, holds) = holder_of (stage_at d party) none.0 none.1.0 in
        let unseen : in_reach H.n es (names_of l.names) node ≡ false =
        rw holds at (not-true (in_named H node (stage_at d party)) (decides 16 (not (in_named H node (stage_at d party))) own f last)) in
        record {
          not_seen = record {
            hold = l;
            holds = holds;
            nowhere = λ name i w. not_both (in_reach H.n es (names_of l.names) node)
                (some_reach H.n es (ends_of facts) (names_of l.names) node name i (holder_names H d facts.sound party l facts.party_below holds name i).0 w) unseen;
          };
          most = most_eight facts l holds;
        }

    -- where every step's checks refuse nothing and the node is one, a holder that does not see it is refused with 16
    blind_checks : StepFacts H d party (values_short H values scratch) → refusal (step_checks H d party (values_short H values scratch) []) ≡ none → node < H.n → SeesNot H d party node
        → refusal_of ≡ some 16
    blind_checks facts fine below s =
        let first : refusal three ≡ none = rw (s.holds, lt-ltb node H.n below) three_none in
        let unseen : in_named H node (stage_at d party) ≡ false =
        rw s.holds (bool (in_reach H.n es (names_of s.hold.names) node)
        (λ t. let (name, i, w) = reach_some H.n es (ends_of facts) (names_of s.hold.names) node t in absurd (s.nowhere name i w)) (λ t. t)) in
        onward (step_checks H d party (values_short H values scratch) []) (node_checks H d party node own) fine
        ∙ onward three (16 when not (in_named H node (stage_at d party)) ∷ own) first
        ∙ refused_here (16 when not (in_named H node (stage_at d party))) own (ap not unseen)
      where
        three_none : refusal (13 when false ∷ 14 when false ∷ 15 when false ∷ []) ≡ none
        three_none = unfold refusal in refl

  module _ (values scratch : List ℕ) where
    -- A GET that is not refused is of a node in the reach of a name of the hold;
    pub get_sees : (value : ℕ) → (get_step H d party node values scratch).answer ≡ done value → Sees H d party node
    unfolding get_step
    get_sees value e = checks_see values scratch (get_own d party) (get_none (refusal_of values scratch (get_own d party)) d (get_or values node 0) value (scratch_left H values scratch) e)

    -- one refused with 16 is of a node that no name of the hold reaches;
    pub get_sixteen : (get_step H d party node values scratch).answer ≡ refused 16 → Blind H d party node
    unfolding get_step any
    get_sixteen e =
        checks_blind values scratch (get_own d party) refl ((get_turned_away (refusal_of values scratch (get_own d party)) d (get_or values node 0) 16 (scratch_left H values scratch)).0 e)

    -- A PUT, likewise,
    pub put_sees : (value : ℕ) → (put_step H d party node value values scratch).answer ≡ done tt → Sees H d party node
    unfolding put_step
    put_sees value e = checks_see values scratch (put_own d party) (put_none (refusal_of values scratch (put_own d party)) d node value values (scratch_left H values scratch) e)

    pub put_sixteen : (value : ℕ) → (put_step H d party node value values scratch).answer ≡ refused 16 → Blind H d party node
    unfolding put_step any
    put_sixteen value e = checks_blind values scratch (put_own d party) refl ((put_turned_away (refusal_of values scratch (put_own d party)) d node value 16 values (scratch_left H values scratch)).0 e)

    -- and AN ADD
    pub add_sees : (number : ℕ) → (add_step H d party node number values scratch).answer ≡ done tt → Sees H d party node
    unfolding add_step
    add_sees number e =
        checks_see values scratch (add_own d party)
        (put_none (refusal_of values scratch (add_own d party)) d node (sum64 (get_or values node 0) number) values (scratch_left H values scratch) e)

    pub add_sixteen : (number : ℕ) → (add_step H d party node number values scratch).answer ≡ refused 16 → Blind H d party node
    unfolding add_step any
    add_sixteen number e =
        checks_blind values scratch (add_own d party) refl
        ((put_turned_away (refusal_of values scratch (add_own d party)) d node (sum64 (get_or values node 0) number) 16 values (scratch_left H values scratch)).0 e)

    -- and where nothing that every step looks at refuses, and the node is one, the three are refused with 16 by a holder that does not see it
    pub sixteen_given : refusal (step_checks H d party (values_short H values scratch) []) ≡ none → node < H.n → SeesNot H d party node
        → ((get_step H d party node values scratch).answer ≡ refused 16)
        × ((value : ℕ) → (put_step H d party node value values scratch).answer ≡ refused 16)
        × ((number : ℕ) → (add_step H d party node number values scratch).answer ≡ refused 16)
    unfolding get_step put_step add_step
    sixteen_given fine below s =
        let facts = step_facts H d party (values_short H values scratch) [] fine in (
          (get_turned_away (refusal_of values scratch (get_own d party)) d (get_or values node 0) 16 (scratch_left H values scratch)).1 (blind_checks values scratch (get_own d party) facts fine below s),
          λ value. (put_turned_away (refusal_of values scratch (put_own d party)) d node value 16 values (scratch_left H values scratch)).1 (blind_checks values scratch (put_own d party) facts fine below s),
          λ number. (put_turned_away (refusal_of values scratch (add_own d party)) d node (sum64 (get_or values node 0) number) 16 values (scratch_left H values scratch)).1
              (blind_checks values scratch (add_own d party) facts fine below s),
        )
