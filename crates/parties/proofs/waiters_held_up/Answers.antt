-- `waiters_held_up` meets its contract: each waiter passed so far is held up, and its call stands. Assumes nothing.
use Rattle.std.proofs.Common.{◌≡◌, refl, sym, ap, ◌∙◌, false, rules, arith, take, length, List}
use Rattle.lists.specs.Lists.{all_below}
use Rattle.lists.proofs.Bounded.{all_next, all_stop, all_end}
use Rattle.lists.proofs.Loops.{field_length}
use Rattle.locks.specs.declared.Lock.{Lock}
use Rattle.locks.specs.declared.Stage.{Stage}
use Rattle.locks.specs.declared.Stage.TheVariants.{Out, Waiting, Holding}
use Rattle.arrivals.specs.Arrivals.{listed_in}
use Rattle.parties.specs.declared.Entry.{Entry}
use Rattle.parties.specs.Parties.{stage_in}
use Rattle.parties.specs.Sound.{held_up}
use Rattle.parties.proofs.Holders.{calling_start, calling_next}
use Rattle.parties.proofs.waiters_held_up.Invariants.{test}
use Rattle.parties.proofs.waiters_held_up.Goals as goal
use Rattle.parties.proofs.waiters_held_up.Goals.{Start, After-stage, After-meets}

long : (c : Start) → length c.args.list.now.places ≡ 32
long c = search (field_length, rules)

-- the stage that was read is that of the party listed there
here : (c : After-stage) → c.stage.result ≡ stage_in c.args.entries.now (listed_in c.args.list.now.places c.loop-i.i)
here c = c.stage.ensures ∙ ap (stage_in c.args.entries.now) c.party_at.ensures

-- who does not wait is not held up
not_held : (entries : List Entry) (earlier : List _) (s : Stage) → ((l : Lock) → s ≡ Waiting l → ⊥) → held_up entries earlier s ≡ false
not_held entries earlier Out f = refl
not_held entries earlier (Waiting l) f = absurd (f l refl)
not_held entries earlier (Holding l) f = refl

-- a waiter is held up where its lock meets those that stand
asked : (c : After-meets) → c.stage.result ≡ stage_in c.args.entries.now (listed_in c.args.list.now.places c.loop-i.i)
    → test c.args.entries.now c.args.list.now.places c.loop-i.i ≡ c.meets.result
asked c e = ap (held_up c.args.entries.now (take c.loop-i.i c.args.list.now.places)) (sym e ∙ c.in-Waiting.is) ∙ sym (c.meets.ensures ∙ c.loop-i.invariant.1.meets c.in-Waiting.l)

pub loop-i-init : goal.loop-i-init
unfolding all_below
loop-i-init c = (refl, calling_start c.args.entries.now c.args.list.now.places c.args.holds c.requires.1)

pub returns-in_default : goal.returns-in_default
returns-in_default c = sym (all_stop (test c.args.entries.now c.args.list.now.places) c.args.list.now.count c.loop-i.i c.loop-i-test.true
    (ap (held_up c.args.entries.now (take c.loop-i.i c.args.list.now.places)) (sym (here (goal.at.returns-in_default c).After-stage)) ∙ not_held c.args.entries.now (take c.loop-i.i c.args.list.now.places) c.stage.result c.in_default.not-Waiting))

pub returns-then-not-meets : goal.returns-then-not-meets
returns-then-not-meets c = sym (all_stop (test c.args.entries.now c.args.list.now.places) c.args.list.now.count c.loop-i.i c.loop-i-test.true (asked (goal.at.returns-then-not-meets c).After-meets (here (goal.at.returns-then-not-meets c).After-stage) ∙ c.if-not-meets.true))

pub loop-i-preserved : goal.loop-i-preserved
loop-i-preserved c = (
  all_next (test c.args.entries.now c.args.list.now.places) c.loop-i.i c.loop-i.invariant.0 (asked (goal.at.loop-i-preserved c).After-meets (here (goal.at.loop-i-preserved c).After-stage) ∙ c.if-not-meets.false),
  calling_next c.args.entries.now c.args.list.now.places c.loop-i.i c.loop-i.standing (omega (arith, long (goal.at.loop-i-preserved c).Start, c.requires.0, c.loop-i-test.true)) c.loop-i.invariant.1 c.in-Waiting.l
      (sym (here (goal.at.loop-i-preserved c).After-stage) ∙ c.in-Waiting.is) c.push.new.self c.push.ensures.0 c.push.ensures.1,
)

pub returns : goal.returns
returns c = all_end (test c.args.entries.now c.args.list.now.places) c.args.list.now.count c.loop-i.i c.loop-i.invariant.0 c.loop-i.auto.i-end c.loop-i-test.false
