-- `Desk::enter` meets its contract: the lock on the cover, granted where it is free. Assumes nothing.
use Rattle.std.proofs.Common.{◌≡◌, ltb, length, take, sym, ap, ◌∙◌, arith, length-take-le, ltb-false}
use Rattle.hierarchy.proofs.Legals.{right_size}
use Rattle.locks.specs.Lent.{lent_in, cover_in, lock_on, lock_for}
use Rattle.desk.specs.Steps.{StepFacts}
use Rattle.desk.proofs.Judging.{few_waiting, enter_facts, enter_named}
use Rattle.desk.proofs.Answering.{enter_granted, enter_waits}
use Rattle.desk.proofs.Desk.enter.Goals as goal
use Rattle.desk.proofs.Desk.enter.Goals.{After-lock_called-l, In_default}

-- what an enter that is not refused knows
facts : (c : In_default) → StepFacts (lent_in c.args.tables.now) c.args.self c.args.party (ltb (length c.args.names.now) c.args.name_count)
facts c = enter_facts (lent_in c.args.tables.now) c.args.self c.args.party c.args.names.now c.args.name_count c.in_default.ensures

-- the lock, with the names that are kept
locked : (c : After-lock_called-l) → c.lock_called-l.result ≡ lock_for (lent_in c.args.tables.now) c.args.mode (take c.args.name_count c.args.names.now)
locked c = let H = lent_in c.args.tables.now in
    c.lock_called-l.ensures
    ∙ ap (lock_on H c.args.mode (cover_in H (take c.args.name_count c.args.names.now))) (enter_named H c.args.self c.args.party c.args.names.now c.args.name_count c.in_default.ensures)

pub overflow_cast-tables : goal.overflow_cast-tables
overflow_cast-tables c = omega (arith, (right_size c.args.tables.now.n (facts (goal.at.overflow_cast-tables c).In_default).sized).1)

pub slice_bounds-lock_called-end : goal.slice_bounds-lock_called-end
slice_bounds-lock_called-end c = sym (length-take-le c.args.name_count c.args.names.now (ltb-false _ _ (facts (goal.at.slice_bounds-lock_called-end c).In_default).own_lent))

pub granted-requires : goal.granted-requires
granted-requires c = (facts (goal.at.granted-requires c).In_default).party_below

pub returns-then-is_free : goal.returns-then-is_free
returns-then-is_free c = enter_granted (lent_in c.args.tables.now) c.args.self c.args.party c.args.mode c.args.names.now c.args.name_count _ _ c.from-cover.result c.from-cover.ensures c.in_default.ensures
    (locked (goal.at.returns-then-is_free c).After-lock_called-l) (sym c.is_free.ensures ∙ c.if-is_free.true) c.granted.ensures

pub queued-requires : goal.queued-requires
queued-requires c = let f = facts (goal.at.queued-requires c).In_default in (few_waiting (lent_in c.args.tables.now) c.args.self c.args.party _ f, f.party_below)

pub returns : goal.returns
returns c = enter_waits (lent_in c.args.tables.now) c.args.self c.args.party c.args.mode c.args.names.now c.args.name_count _ _ c.in_default.ensures
    (locked (goal.at.returns c).After-lock_called-l) (sym c.is_free.ensures ∙ c.if-is_free.false) c.queued.ensures
