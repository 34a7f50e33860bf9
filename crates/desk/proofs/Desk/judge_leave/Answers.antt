-- `Desk::judge_leave` meets its contract: what every step looks at, then the stage. Assumes nothing.
use Rattle.std.proofs.Common.{◌∙◌}
use Rattle.lists.proofs.Refusals.{refusal_nil, refused_here, refused_later}
use Rattle.desk.proofs.Desk.judge_leave.Goals as goal

pub returns-then-is_out : goal.returns-then-is_out
returns-then-is_out c = c.in_ok-judge.ensures _ ∙ refused_here _ _ (cc)

pub returns : goal.returns
returns c = c.in_ok-judge.ensures _ ∙ refused_later _ _ (cc) ∙ refusal_nil
