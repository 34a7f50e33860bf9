-- `record_right` meets its contract, row by row. Assumes nothing.
use mathlib.Core.Path.{sym, ap, ◌∙◌}
use Rattle.blocks.specs.Record.{kinds, row_in}
use Rattle.blocks.specs.Inner.{kind_number}
use Rattle.blocks.proofs.Rows.{right_at, no_kind}
use Rattle.blocks.proofs.record_right.Goals as goal

pub returns-in-Some-Size : goal.returns-in-Some-Size
unfolding kinds row_in
returns-in-Some-Size c = c.zero_from.ensures ∙ sym (right_at c.args.r.now (c.in-Some-Size.ensures ∙ ap kind_number c.in-Some-Size.field-0-is))

pub returns-in-Some-Edge : goal.returns-in-Some-Edge
unfolding kinds row_in
returns-in-Some-Edge c = c.zero_from-in-Some-Edge.ensures ∙ sym (right_at c.args.r.now (c.in-Some-Edge.ensures ∙ ap kind_number c.in-Some-Edge.field-0-is))

pub returns-in-Some-Enter : goal.returns-in-Some-Enter
unfolding kinds row_in
returns-in-Some-Enter c = c.enter_right.ensures ∙ sym (right_at c.args.r.now (c.in-Some-Enter.ensures ∙ ap kind_number c.in-Some-Enter.field-0-is))

pub returns-in-Some-Get : goal.returns-in-Some-Get
unfolding kinds row_in
returns-in-Some-Get c = c.zero_from-in-Some-Get.ensures ∙ sym (right_at c.args.r.now (c.in-Some-Get.ensures ∙ ap kind_number c.in-Some-Get.field-0-is))

pub returns-in-Some-Put : goal.returns-in-Some-Put
unfolding kinds row_in
returns-in-Some-Put c = c.zero_but_value.ensures ∙ sym (right_at c.args.r.now (c.in-Some-Put.ensures ∙ ap kind_number c.in-Some-Put.field-0-is))

pub returns-in-Some-Leave : goal.returns-in-Some-Leave
unfolding kinds row_in
returns-in-Some-Leave c = c.zero_from-in-Some-Leave.ensures ∙ sym (right_at c.args.r.now (c.in-Some-Leave.ensures ∙ ap kind_number c.in-Some-Leave.field-0-is))

pub returns-in-Some-Add : goal.returns-in-Some-Add
unfolding kinds row_in
returns-in-Some-Add c = c.zero_but_value-in-Some-Add.ensures ∙ sym (right_at c.args.r.now (c.in-Some-Add.ensures ∙ ap kind_number c.in-Some-Add.field-0-is))

pub returns-in-Some-Value : goal.returns-in-Some-Value
unfolding kinds row_in
returns-in-Some-Value c = c.value_right.ensures ∙ sym (right_at c.args.r.now (c.in-Some-Value.ensures ∙ ap kind_number c.in-Some-Value.field-0-is))

pub returns-in-None : goal.returns-in-None
returns-in-None c = sym (no_kind c.args.r.now c.in-None.ensures)
