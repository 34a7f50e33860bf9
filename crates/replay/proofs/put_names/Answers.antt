-- `put_names` meets its contract: the names left, written over the places as they are now, give the places with all of them. Assumes nothing.
use mathlib.Core.Path.{ap, ◌∙◌}
use Prim.Native.Nat.{ℕ, ◌+◌}
use native.Mathlib.Nat.{zero-add}
use native.Mathlib.Omega.{arith}
use lib.ListN.{set, drop}
use Rattle.blocks.specs.Record.{names_in}
use Rattle.octets.specs.Writes.{over_at}
use Rattle.octets.proofs.Writes.{over_first, over_end}
use Rattle.replay.proofs.Records.{names_turn}
use Rattle.replay.proofs.put_names.Goals as goal

pub loop-i-init : goal.loop-i-init
loop-i-init c = over_first (names_in c.args.bytes.now) c.args.names.now

pub loop-i-preserved : goal.loop-i-preserved
loop-i-preserved c = ap (λ (x : ℕ). over_at (c.loop-i.i + 1) (drop (c.loop-i.i + 1) (names_in c.args.bytes.now)) (set c.loop-i.names c.loop-i.i x)) (c.from.ensures ∙ c.byte.ensures)
    ∙ names_turn c.args.bytes.now c.loop-i.names c.loop-i.i (omega (arith, c.names_in-count.ensures.0, c.loop-i-test.true)) (omega (arith, c.names_in-count.ensures.1, c.requires, c.loop-i.auto.names, c.loop-i-test.true)) ∙ c.loop-i.invariant

pub returns : goal.returns
returns c = (
  c.names_in-count.ensures.0,
  over_end c.loop-i.names 0 c.loop-i.i (names_in c.args.bytes.now) (omega (arith, c.names_in-count.ensures.0, c.loop-i-test.false))
      ∙ ap (λ (k : ℕ). over_at k (drop c.loop-i.i (names_in c.args.bytes.now)) c.loop-i.names) (zero-add c.loop-i.i) ∙ c.loop-i.invariant,
)
