-- `put_short` meets its contract: three writes, one behind the other. Assumes nothing.
use native.Mathlib.Omega.{arith}
use Rattle.shorter.proofs.Puts.{short_length, short_put}
use Rattle.shorter.proofs.put_short.Goals as goal

pub overflow_add-result : goal.overflow_add-result
overflow_add-result c = omega (arith, c.put_values-at.ensures.0, short_length c.args.records.now c.args.head c.args.from c.args.values.now c.args.room.now c.requires.head_in_bounds.0 c.requires.head_in_bounds.1 c.requires.values_in_bounds.1, c.requires.values_in_bounds.1, c.well_formed)

pub returns : goal.returns
returns c = let l = short_length c.args.records.now c.args.head c.args.from c.args.values.now c.args.room.now c.requires.head_in_bounds.0 c.requires.head_in_bounds.1 c.requires.values_in_bounds.1 in (
  omega (arith, c.put_values-at.ensures.0, l),
  short_put c.args.records.now c.args.head c.args.from c.args.values.now c.args.room.now c.requires.head_in_bounds.0 c.requires.head_in_bounds.1 c.requires.values_in_bounds.1
      c.copy_at.ensures c.put_values-at.ensures.0 c.put_values-at.ensures.1 c.copy_at-2.ensures,
)
