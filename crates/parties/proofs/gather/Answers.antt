-- `gather` meets its contract: the entries passed so far are right and apart, and the holds among them stand. Assumes nothing.
use Rattle.std.proofs.Common.{sym, ◌∙◌, subst, arith, ◌+◌}
use Rattle.locks.specs.Lent.{lent_in}
use Rattle.parties.specs.declared.Standing.{Standing}
use Rattle.parties.proofs.Holders.{Gathering, gathering_start, gathering_wrong, gathering_other, gathering_conflict, gathering_holder, gathering_end}
use Rattle.parties.proofs.gather.Goals as goal
use Rattle.parties.proofs.gather.Goals.{in-Holding+else-meets, in_default}

pub loop-party-init : goal.loop-party-init
loop-party-init c = gathering_start (lent_in c.args.tables.now) c.args.entries.now c.args.list.now c.none-standing.result c.none-standing.ensures

pub returns-then-not-entry_right : goal.returns-then-not-entry_right
returns-then-not-entry_right c = gathering_wrong (lent_in c.args.tables.now) c.args.entries.now c.args.list.now c.loop-party.party c.loop-party-test.true (sym c.entry_right.ensures ∙ c.if-not-entry_right.true)

pub returns-then-meets : goal.returns-then-meets
returns-then-meets c = gathering_conflict (lent_in c.args.tables.now) c.args.entries.now c.args.list.now c.loop-party.party c.loop-party.standing c.loop-party.invariant c.in-Holding.l c.in-Holding.is c.loop-party-test.true
    (sym c.meets.ensures ∙ c.if-meets.true)

pub loop-party-preserved : goal.loop-party-preserved
loop-party-preserved c = elim c.match-entry.branch [
  | in-Holding+else-meets w ↦ subst (λ (r : Standing). Gathering (lent_in c.args.tables.now) c.args.entries.now c.args.list.now (c.loop-party.party + 1) r) (sym w.standing-is)
      (gathering_holder (lent_in c.args.tables.now) c.args.entries.now c.args.list.now c.loop-party.party c.loop-party.standing c.loop-party.invariant w.in-Holding.l w.in-Holding.is
      (sym c.entry_right.ensures ∙ c.if-not-entry_right.false) (sym w.meets.ensures ∙ w.if-meets.false) w.push.new.self w.push.ensures.0 w.push.ensures.1)
  | in_default w ↦ subst (λ (r : Standing). Gathering (lent_in c.args.tables.now) c.args.entries.now c.args.list.now (c.loop-party.party + 1) r) (sym w.standing-is)
      (gathering_other (lent_in c.args.tables.now) c.args.entries.now c.args.list.now c.loop-party.party c.loop-party.standing c.loop-party.invariant w.in_default.not-Holding
      (sym c.entry_right.ensures ∙ c.if-not-entry_right.false))
]

pub returns : goal.returns
returns c = gathering_end (lent_in c.args.tables.now) c.args.entries.now c.args.list.now c.loop-party.party c.loop-party.standing c.loop-party.invariant (omega arith)
