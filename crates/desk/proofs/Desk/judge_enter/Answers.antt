-- `Desk::judge_enter` meets its contract: what every step looks at, then the stage and the names. Assumes nothing.
use Rattle.std.proofs.Common.{◌∙◌}
use Rattle.lists.proofs.Refusals.{refusal_nil, refused_here, refused_later}
use Rattle.desk.proofs.Desk.judge_enter.Goals as goal

pub returns-then-not-is_out : goal.returns-then-not-is_out
returns-then-not-is_out c = c.in_ok-judge.ensures _ ∙ refused_here _ _ (cc)

pub returns-then-names_wrong : goal.returns-then-names_wrong
returns-then-names_wrong c = c.in_ok-judge.ensures _ ∙ refused_later _ _ (cc) ∙ refused_here _ _ (cc)

pub returns : goal.returns
returns c = c.in_ok-judge.ensures _ ∙ refused_later _ _ (cc) ∙ refused_later _ _ (cc) ∙ refusal_nil
