-- From no refusal to the facts by name. Assumes nothing.
use Rattle.std.proofs.Common.{◌≡◌, ℕ, ◌*◌, Bool, false, not, ltb, List, length, refl, true≢false, arith, ltb-false, ltb-true}
use mathlib.Core.Option.{none}
use borrow.Author.Tests.{not-false}
use Rattle.lists.specs.Lists.{any_below}
use Rattle.lists.specs.Answer.{Check, refusal}
use Rattle.lists.proofs.Bools.{or_left, or_right}
use Rattle.lists.proofs.Refusals.{refusal_none, later_none}
use Rattle.locks.specs.declared.Lock.{Lock}
use Rattle.locks.specs.declared.Stage.{Stage}
use Rattle.locks.specs.declared.Stage.TheVariants.{Out, Waiting, Holding}
use Rattle.locks.specs.Stages.{is_out, is_waiting}
use Rattle.locks.specs.Lent.{Hierarchy, tables_short, interval_wrong, in_named}
use Rattle.desk.specs.declared.Desk.{Desk}
use Rattle.desk.specs.Desks.{stage_at}
use Rattle.desk.specs.Sound.{sound_desk}
use Rattle.desk.specs.Steps.{step_checks, StepFacts, node_checks, NodeFacts}

-- A STEP that is not refused before its own checks
module _ (H : Hierarchy) (d : Desk) (party : ℕ) (short : Bool) (own : List Check) (e : refusal (step_checks H d party short own) ≡ none) where
  -- its own checks refuse nothing either
  pub step_own : refusal own ≡ none
  step_own = later_none (step_checks H d party short own) 6 e

  -- and it knows this
  pub step_facts : StepFacts H d party short
  step_facts =
      let f = refusal_none (step_checks H d party short own) e in
      let tables = or_left (tables_short H) short f.0 in
      record {
        intervals_lent = ltb-false (length H.intervals) (2 * H.n) (or_left (ltb (length H.intervals) (2 * H.n)) _ tables);
        edges_lent = ltb-false (length H.edges) (2 * H.edge_count) (or_right (ltb (length H.intervals) (2 * H.n)) _ tables);
        own_lent = or_right (tables_short H) short f.0;
        sized = f.1.0;
        edges_few = f.1.1.0;
        edges_right = f.1.1.1.0;
        intervals_right = or_left (any_below H.n (interval_wrong H)) (not (sound_desk H d)) f.1.1.1.1.0;
        sound = not-false (sound_desk H d) (or_right (any_below H.n (interval_wrong H)) (not (sound_desk H d)) f.1.1.1.1.0);
        party_below = let k = ltb-false 31 party f.1.1.1.1.1.0 in omega arith;
      }

-- who is neither out nor waiting holds
pub holder_of : (s : Stage) → is_out s ≡ false → is_waiting s ≡ false → (l : Lock) × (s ≡ Holding l)
holder_of Out a b = absurd (true≢false a)
holder_of (Waiting l) a b = absurd (true≢false b)
holder_of (Holding l) a b = (l, refl)

-- A GET, PUT OR ADD that is not refused before its own check
module _ (H : Hierarchy) (d : Desk) (party node : ℕ) (own : List Check) (e : refusal (node_checks H d party node own) ≡ none) where
  pub node_own_none : refusal own ≡ none
  node_own_none = later_none (node_checks H d party node own) 4 e

  pub node_facts : NodeFacts H d party node
  node_facts =
      let f = refusal_none (node_checks H d party node own) e in
      let h = holder_of (stage_at d party) f.0 f.1.0 in
      record {
        hold = h.0;
        holds = h.1;
        below = ltb-true node H.n (not-false (ltb node H.n) f.1.1.0);
        reached = rw h.1 at (not-false (in_named H node (stage_at d party)) f.1.1.1.0);
      }
