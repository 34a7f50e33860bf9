-- `Desk::judge` meets its contract: what is asked of lengths and counts, then the edges, the state and the party. Assumes nothing.
use Rattle.std.proofs.Common.{◌≡◌, not, ◌||◌, refl, ◌∙◌, le-ltb, lt-ltb}
use Rattle.lists.specs.Lists.{any_below}
use Rattle.lists.proofs.Refusals.{refused_here, refused_later}
use Rattle.locks.specs.Lent.{lent_in, interval_wrong}
use Rattle.desk.specs.Sound.{sound_desk}
use Rattle.desk.proofs.Desk.judge.Goals as goal
use Rattle.desk.proofs.Desk.judge.Goals.{After-state_wrong}

-- refusal 10, as the definition has it
wrong : (c : After-state_wrong) → let H = lent_in c.args.tables.now in c.state_wrong.result ≡ (any_below H.n (interval_wrong H) || not (sound_desk H c.args.self.now))
wrong c = rw (c.state_wrong.ensures, c.list.ensures) refl

pub returns-then-edges_wrong : goal.returns-then-edges_wrong
returns-then-edges_wrong c own = c.in_ok-judge_sizes.ensures _ ∙ refused_here _ _ (cc)

pub returns-then-state_wrong : goal.returns-then-state_wrong
returns-then-state_wrong c own = let e = wrong (goal.at.returns-then-state_wrong c).After-state_wrong in c.in_ok-judge_sizes.ensures _ ∙ refused_later _ _ (cc) ∙ refused_here _ _ (cc)

pub returns-then-party-gt31 : goal.returns-then-party-gt31
returns-then-party-gt31 c own = let e = wrong (goal.at.returns-then-party-gt31 c).After-state_wrong in
    c.in_ok-judge_sizes.ensures _ ∙ refused_later _ _ (cc) ∙ refused_later _ _ (cc) ∙ refused_here _ _ (lt-ltb 31 _ c.if-party-gt31.true)

pub returns : goal.returns
returns c own = let e = wrong (goal.at.returns c).After-state_wrong in
    c.in_ok-judge_sizes.ensures _ ∙ refused_later _ _ (cc) ∙ refused_later _ _ (cc) ∙ refused_later _ _ (le-ltb 31 _ c.if-party-gt31.false)
