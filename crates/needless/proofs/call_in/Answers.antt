-- `call_in` meets its contract: the names stand from byte 4 on. Assumes nothing.
use mathlib.Core.Path.{sym, ap, ◌∙◌}
use native.Mathlib.Omega.{arith}
use Rattle.reach_sets.specs.Sets.{call_set}
use Rattle.needless.proofs.Names.{names_none, names_within, names_are}
use Rattle.reach_sets.proofs.Calls.{call_none}
use Rattle.needless.proofs.call_in.Goals as goal

pub returns-then-bytes-lt4 : goal.returns-then-bytes-lt4
returns-then-bytes-lt4 c = c.none.ensures ∙ sym (ap (call_set c.args.sets.now) (names_none c.args.bytes.now c.if-bytes-lt4.true) ∙ call_none c.args.sets.now)

pub slice_bounds-call_set-end : goal.slice_bounds-call_set-end
slice_bounds-call_set-end c = omega (arith, names_within c.args.bytes.now c.if-bytes-lt4.false, c.names_in-count.ensures.0)

pub returns : goal.returns
returns c = c.call_set.ensures ∙ ap (call_set c.args.sets.now) (names_are c.args.bytes.now c.names_in-count.result c.names_in-count.ensures.0)
