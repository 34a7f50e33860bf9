-- `tally` meets its contract: only a wait is judged. Assumes nothing.
use mathlib.Core.Path.{◌≡◌, refl, sym, ap, ◌∙◌}
use mathlib.Core.Bool.{Bool, true, false, not}
use Prim.Native.Nat.{ℕ, ◌+◌}
use borrow.Author.Tests.{not-true, not-false}
use Rattle.std.specs.Int.{from_bool}
use Rattle.lists.specs.Lists.{one}
use Rattle.blocks.specs.Record.{mode_in, names_in}
use Rattle.locks.specs.declared.Mode.{Mode}
use Rattle.locks.specs.Locks.{mode_numbered}
use Rattle.reach_sets.specs.declared.NodeSet.{NodeSet}
use Rattle.reach_sets.specs.Sets.{call_set}
use Rattle.needless.specs.Inner.{some_in_way, waited}
use Rattle.needless.proofs.Tallies.{tally_none, tally_one}
use Rattle.needless.proofs.tally.Goals as goal
use Rattle.needless.proofs.tally.Goals.{Start}

-- 1 where a test holds, in the words of std
one_from : (b : Bool) → from_bool b ≡ one b
one_from true = refl
one_from false = refl

-- whether nobody stands in the way of the call of the record
module _ (c : Start) where
  abbrev alone : Bool
  alone = not (some_in_way c.args.desk.entries c.args.called.now (mode_numbered (mode_in c.args.bytes.now)) (call_set c.args.sets.now (names_in c.args.bytes.now)))

pub returns-then-not-is_wait : goal.returns-then-not-is_wait
returns-then-not-is_wait c = tally_none c.args.before (waited c.args.outcome) (alone (goal.at.returns-then-not-is_wait c).Start) (sym c.is_wait.ensures ∙ not-true c.is_wait.result c.if-not-is_wait.true-raw)

pub returns : goal.returns
returns c = tally_one c.args.before (waited c.args.outcome) (alone (goal.at.returns c).Start) (sym c.is_wait.ensures ∙ not-false c.is_wait.result c.if-not-is_wait.false-raw)
    (ap (λ (k : ℕ). c.args.before.needless + k) (c.from.ensures ∙ one_from (not c.some_in_way-needful.result)) ∙ ap (λ (x : Bool). c.args.before.needless + one (not x))
    (c.some_in_way-needful.ensures
    ∙ ap (λ (x : NodeSet). some_in_way c.args.desk.entries c.args.called.now c.mode_when-mode.result x) c.call_in.ensures
    ∙ ap (λ (x : Mode). some_in_way c.args.desk.entries c.args.called.now x (call_set c.args.sets.now (names_in c.args.bytes.now)))
    (c.mode_when-mode.ensures ∙ ap (λ (k : ℕ). mode_numbered k) c.byte-m.ensures)))
