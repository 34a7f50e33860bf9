-- `Desk::judge_value` meets its contract: what is too short, then what every step looks at, then what is asked of the node. Assumes nothing.
use Rattle.std.proofs.Common.{◌≡◌, ℕ, false, ◌||◌, ltb, [], length, ◌++◌, drop, sym, ap, ◌∙◌, length-take-le}
use Rattle.lists.proofs.Refusals.{refused_here, refusal_nil}
use Rattle.hierarchy.proofs.Legals.{right_size}
use Rattle.locks.specs.Lent.{lent_in, tables_short}
use Rattle.desk.specs.Steps.{search_after}
use Rattle.desk.proofs.Facts.{step_facts}
use Rattle.desk.proofs.Judging.{search_room, search_wiped, search_front}
use Rattle.desk.proofs.Desk.judge_value.Goals as goal
use Rattle.desk.proofs.Desk.judge_value.Goals.{After-fill, Else-tables_short-short}

-- nothing is too short
enough : (c : Else-tables_short-short) → (tables_short (lent_in c.args.tables.now) || (c.args.few || ltb (length c.args.scratch.now) 256)) ≡ false
enough c = cc

-- the scratch after the wiping
wiped : (c : After-fill) → c.fill.new.self ++ drop 256 c.args.scratch.now ≡ search_after (tables_short (lent_in c.args.tables.now) || (c.args.few || ltb (length c.args.scratch.now) 256)) c.args.scratch.now
wiped c = search_wiped _ _ _ (cc) _ (c.fill.ensures.after (λ _ e. e))

pub returns-then-tables_short-short-clause-judged : goal.returns-then-tables_short-short-clause-judged
returns-then-tables_short-short-clause-judged c = refused_here _ _ (cc)

pub slice_bounds-fill-end-2 : goal.slice_bounds-fill-end-2
slice_bounds-fill-end-2 c = sym (length-take-le 256 _ (search_room _ _ _ (enough (goal.at.slice_bounds-fill-end-2 c).Else-tables_short-short)))

pub returns-in_err-judge-clause-scratch_after : goal.returns-in_err-judge-clause-scratch_after
returns-in_err-judge-clause-scratch_after c = wiped (goal.at.returns-in_err-judge-clause-scratch_after c).After-fill

pub judge_node-requires : goal.judge_node-requires
judge_node-requires c =
    let facts = step_facts (lent_in c.args.tables.now) c.args.self.now c.args.party _ [] (c.in_ok-judge.ensures [] ∙ refusal_nil) in
    search_front _ _ _ (enough (goal.at.judge_node-requires c).Else-tables_short-short) _ (c.fill.ensures.after (λ _ e. e)) c.args.tables.now.n (right_size c.args.tables.now.n facts.sized).1

pub returns-clause-scratch_after : goal.returns-clause-scratch_after
returns-clause-scratch_after c = c.judge_node.ensures.scratch_unchanged ∙ wiped (goal.at.returns-clause-scratch_after c).After-fill
