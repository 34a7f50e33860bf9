-- `put_line` meets its contract: the line of the two numbers. Assumes nothing.
use mathlib.Core.Path.{ap}
use Rattle.texts.specs.Lines.{report_line}
use Rattle.texts.proofs.Puts.{puts_as}
use Rattle.needless.specs.declared.Waits.{Waits}
use Rattle.waits.proofs.put_line.Goals as goal

pub returns : goal.returns
returns c = puts_as 0 c.args.text.now (ap (λ (w : Waits). report_line w.all w.needless) c.report-report.ensures) c.put_report.ensures
