-- `Desk::leave` meets its contract: the pass over the other waiters. Assumes nothing.
use Rattle.std.proofs.Common.{◌≡◌, ◌≤◌, length, ap, arith, rules, ltb-false, subst}
use Rattle.lists.proofs.Loops.{field_length}
use Rattle.locks.specs.Lent.{lent_in}
use Rattle.sweeps.proofs.Sweeps.{leaving_few}
use Rattle.sweeps.specs.Sweeps.{Sweeps}
use Rattle.arrivals.proofs.Queues.{places_length}
use Rattle.desk.specs.Steps.{after_leaving}
use Rattle.desk.proofs.Facts.{step_facts}
use Rattle.desk.proofs.Answering.{leave_left}
use Rattle.desk.proofs.Desk.leave.Goals as goal
use Rattle.desk.proofs.Desk.leave.Goals.{After-leaving-swept, Start}

long : (c : Start) → length c.args.self.queue ≡ 32
long c = search (field_length, rules)

-- the pass is that of the definition
swept : (c : After-leaving-swept) → Sweeps (after_leaving c.args.self c.args.party) c.leaving-swept.result
swept c = rw c.list.ensures at c.leaving-swept.ensures

-- no more are granted than the list has places
few : (c : After-leaving-swept) → length (after_leaving c.args.self c.args.party).granted ≤ 32
few c = leaving_few c.args.self.entries c.args.self.queue c.args.self.waiting c.args.party (long (goal.at.After-leaving-swept c).Start)

pub put_list-requires : goal.put_list-requires
put_list-requires c =
    let s = swept (goal.at.put_list-requires c).After-leaving-swept in
    let k = few (goal.at.put_list-requires c).After-leaving-swept in
    let f = step_facts (lent_in c.args.tables.now) c.args.self c.args.party _ _ c.in_default.ensures in (
      omega (arith, s.granted.1, k, ap length s.granted.0, places_length (after_leaving c.args.self c.args.party).granted),
      omega (arith, s.granted.1, k, ltb-false (length c.args.list.now) 32 f.own_lent),
    )

pub returns : goal.returns
returns c = leave_left (lent_in c.args.tables.now) c.args.self c.args.party c.args.list.now c.in_default.ensures c.leaving-swept.result _ c.after.result
    (swept (goal.at.returns c).After-leaving-swept) (few (goal.at.returns c).After-leaving-swept) c.put_list.ensures c.after.ensures
