-- `number_in` meets its contract: the number behind the digits left, from the one so far, is that of all, as far as it fits. Assumes nothing.
use mathlib.Core.Path.{refl}
use native.Mathlib.Omega.{arith}
use Rattle.numerals.proofs.Digits.{digit_turn, digits_end}
use Rattle.numerals.proofs.number_in.Goals as goal

pub loop-b-preserved : goal.loop-b-preserved
loop-b-preserved c = (omega (arith, c.next_number-x.ensures), digit_turn c.args.text.now c.loop-b.b-index c.loop-b.x (omega arith) c.loop-b.invariant.1 refl c.digit_value.ensures c.next_number-x.ensures)

pub returns : goal.returns
returns c = digits_end c.args.text.now c.loop-b.b-index c.loop-b.x (omega arith) c.loop-b.invariant.0 c.loop-b.invariant.1
