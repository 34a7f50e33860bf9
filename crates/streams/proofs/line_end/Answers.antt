use Rattle.std.proofs.Common.{arith, ◌-◌}
use Rattle.std.proofs.lemmas.Grind.{common_steps}
use Rattle.streams.proofs.line_end.Goals as goal

pub returns-in-Some-clause-within : goal.returns-in-Some-clause-within
returns-in-Some-clause-within c = λ k low high e. c.in-Some.ensures.0.before (k - c.args.from) (omega arith) (omega arith) (grind (arith, common_steps))

pub returns-in-None-clause-within : goal.returns-in-None-clause-within
returns-in-None-clause-within c = λ k low high e. c.in-None.ensures (k - c.args.from) (omega arith) (grind (arith, common_steps)) (grind (arith, common_steps))
