-- `sweep` meets its contract: the waiters taken so far have left what the pass over them leaves. Assumes nothing.
use Rattle.std.proofs.Common.{◌≡◌, sym, ◌∙◌, ◌≤◌, arith, rules, length, take, get_or, ap, List, ℕ}
use lib.ListN.{length-take}
use Rattle.lists.proofs.Loops.{field_length}
use Rattle.arrivals.specs.declared.Listed.{Listed}
use Rattle.arrivals.specs.Arrivals.{pushed}
use Rattle.sweeps.proofs.Sweeps.{passing_start, passing_goes, passing_stays}
use Rattle.sweeps.proofs.sweep.Goals as goal
use Rattle.sweeps.proofs.sweep.Goals.{Start, At-loop-party, After-may_go, then-may_go, else-may_go}

long : (c : Start) → length c.args.list.places ≡ 32
long c = search (field_length, rules)

entries-long : (c : Start) → length c.args.entries ≡ 32
entries-long c = search rules

few : (c : At-loop-party) → length (take c.min.result c.args.list.places) ≤ 32
few c = simp length-take (omega (arith, c.min.ensures))

pub loop-party-init : goal.loop-party-init
loop-party-init c = rw (c.none-stay.ensures, c.none-granted.ensures) (passing_start c.args.entries (take c.min.result c.args.list.places) (entries-long (goal.at.loop-party-init c).Start))

-- what is pushed is the party whose stage was read
read : (c : After-may_go) → (r : Listed) → pushed r (get_or (take c.min.result c.args.list.places) c.loop-party.party-index 0) ≡ pushed r c.from-at.result
read c r = ap (pushed r) (sym c.from-at.ensures)

pub loop-party-preserved : goal.loop-party-preserved
loop-party-preserved c =
    let items : List ℕ = take c.min.result c.args.list.places in
    let known = few (goal.at.loop-party-preserved c).At-loop-party in
    elim c.if-may_go.branch [
      | then-may_go w ↦ rw (w.next-is, w.stay-is, w.granted-is) (passing_goes c.args.entries items known c.loop-party.next c.loop-party.stay c.loop-party.granted c.loop-party.party-index c.loop-party.invariant
          c.loop-party-test.true c.from-at.result c.from-at.ensures c.stage-s.result c.stage-s.ensures w.hold.result w.hold.ensures (sym c.may_go.ensures ∙ w.if-may_go.true)
          w.push.new.self (w.push.ensures ∙ read (goal.at.loop-party-preserved c).After-may_go c.loop-party.granted))
      | else-may_go w ↦ rw (w.next-is, w.stay-is, w.granted-is) (passing_stays c.args.entries items known c.loop-party.next c.loop-party.stay c.loop-party.granted c.loop-party.party-index c.loop-party.invariant
          c.loop-party-test.true c.from-at.result c.from-at.ensures c.stage-s.result c.stage-s.ensures (sym c.may_go.ensures ∙ w.if-may_go.false)
          w.push-else-may_go.new.self (w.push-else-may_go.ensures ∙ read (goal.at.loop-party-preserved c).After-may_go c.loop-party.stay))
    ]
