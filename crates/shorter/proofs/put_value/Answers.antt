-- `put_value` meets its contract: a value that is zero has no record. Assumes nothing.
use mathlib.Core.Path.{sym, ap, ◌∙◌}
use mathlib.Core.List.{List}
use Prim.Native.Nat.{ℕ, ◌+◌}
use lib.ListN.{length}
use Rattle.octets.specs.Writes.{over_at}
use Rattle.shorter.proofs.Puts.{value_zero, value_some}
use Rattle.shorter.proofs.put_value.Goals as goal

pub returns-then-value-eq0 : goal.returns-then-value-eq0
returns-then-value-eq0 c = value_zero c.args.node c.args.value c.args.at c.args.room.now c.if-value-eq0.true

pub returns : goal.returns
returns c = let e = value_some c.args.node c.args.value c.args.at c.args.room.now c.if-value-eq0.false in
    (sym (ap (λ (t : List ℕ). c.args.at + length t) e), c.put_record.ensures ∙ sym (ap (λ (t : List ℕ). over_at c.args.at t c.args.room.now) e))
