-- `Desk::judge_node` meets its contract: the stage, the node, its reach and the mode, in rising order. Assumes nothing.
use Rattle.std.proofs.Common.{◌≡◌, ℕ, not, [], sym, ap, ◌∙◌, length-take-le, le-ltb, lt-ltb}
use Rattle.lists.specs.Answer.{refusal}
use Rattle.lists.proofs.Refusals.{refused_here, refused_later}
use Rattle.locks.specs.declared.Stage.{Stage}
use Rattle.locks.specs.declared.Stage.TheVariants.{Holding}
use Rattle.locks.specs.Stages.{is_out, is_waiting}
use Rattle.locks.specs.Lent.{lent, lent_in, in_named}
use Rattle.desk.specs.Desks.{stage_at}
use Rattle.desk.specs.Inner.{own_at}
use Rattle.desk.proofs.Desk.judge_node.Goals as goal
use Rattle.desk.proofs.Desk.judge_node.Goals.{After-in_named}

-- the search, as the definition has it
searched : (c : After-in_named) → c.in_named.result ≡ in_named (lent_in c.args.tables.now) c.args.node (stage_at c.args.self.now c.args.party)
searched c = let t = c.args.tables.now in
    c.in_named.ensures.value
    ∙ ap (λ (n : ℕ). in_named (lent n [] t.edges.numbers.now t.edges.count) c.args.node (Holding c.in-Holding.l)) (length-take-le t.n c.args.scratch.now c.requires.0)
    ∙ ap (in_named (lent_in t) c.args.node) (sym c.in-Holding.is ∙ c.stage-stage.ensures)

pub returns-in-Out-clause-judged : goal.returns-in-Out-clause-judged
returns-in-Out-clause-judged c = let s = sym c.stage-stage.ensures ∙ c.in-Out.is in refused_here _ _ (ap is_out s)

pub returns-in-Waiting-clause-judged : goal.returns-in-Waiting-clause-judged
returns-in-Waiting-clause-judged c = let s = sym c.stage-stage.ensures ∙ c.in-Waiting.is in refused_later _ _ (ap is_out s) ∙ refused_here _ _ (ap is_waiting s)

pub returns-then-tables-node-clause-judged : goal.returns-then-tables-node-clause-judged
returns-then-tables-node-clause-judged c = let s = sym c.stage-stage.ensures ∙ c.in-Holding.is in
    refused_later _ _ (ap is_out s) ∙ refused_later _ _ (ap is_waiting s) ∙ refused_here _ _ (ap not (le-ltb _ _ c.if-tables-node.true))

pub returns-then-not-in_named-clause-judged : goal.returns-then-not-in_named-clause-judged
returns-then-not-in_named-clause-judged c = let s = sym c.stage-stage.ensures ∙ c.in-Holding.is in
    refused_later _ _ (ap is_out s) ∙ refused_later _ _ (ap is_waiting s) ∙ refused_later _ _ (ap not (lt-ltb _ _ c.if-tables-node.false))
    ∙ refused_here _ _ (ap not (sym (searched (goal.at.returns-then-not-in_named-clause-judged c).After-in_named) ∙ c.if-not-in_named.true))

pub returns-clause-judged : goal.returns-clause-judged
returns-clause-judged c = let s = sym c.stage-stage.ensures ∙ c.in-Holding.is in
    refused_later _ _ (ap is_out s) ∙ refused_later _ _ (ap is_waiting s) ∙ refused_later _ _ (ap not (lt-ltb _ _ c.if-tables-node.false))
    ∙ refused_later _ _ (ap not (sym (searched (goal.at.returns-clause-judged c).After-in_named) ∙ c.if-not-in_named.false))
    ∙ ap (λ (x : Stage). refusal (own_at c.args.access x)) s ∙ c.judge_mode.ensures
