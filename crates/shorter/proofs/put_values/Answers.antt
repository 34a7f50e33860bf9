-- `put_values` meets its contract: the value records left, written over the room as it is now, give the room with all of them. Assumes nothing.
use mathlib.Core.Path.{◌≡◌, refl, sym, ap, ◌∙◌}
use mathlib.Core.List.{List}
use Prim.Native.Nat.{ℕ, ◌+◌}
use native.Mathlib.Omega.{arith}
use lib.ListN.{length, get_or}
use Rattle.octets.specs.Writes.{over_at}
use Rattle.octets.proofs.Writes.{length_over, over_none}
use Rattle.shorter.specs.Inner.{value_bytes}
use Rattle.shorter.proofs.Puts.{left, left_length, left_turn, left_end, value_few}
use Rattle.shorter.proofs.put_values.Goals as goal

pub loop-node-init : goal.loop-node-init
loop-node-init c = (omega (arith, c.requires.1), refl, refl)

pub put_value-to-requires : goal.put_value-to-requires
put_value-to-requires c = (omega (arith, c.loop-node-test.true, c.requires.0), omega (arith, c.loop-node-test.true, c.loop-node.invariant.0))

pub loop-node-preserved : goal.loop-node-preserved
loop-node-preserved c = let values : List ℕ = c.args.values.now in
    let here : List ℕ = value_bytes c.loop-node.node (get_or values c.loop-node.node 0) in
    let few = value_few c.loop-node.node (get_or values c.loop-node.node 0) in
    let same : length c.put_value-to.new.room ≡ length c.loop-node.room = ap length c.put_value-to.ensures.1 ∙ length_over c.loop-node.room c.loop-node.to here (omega (arith, few, c.loop-node.invariant.0, c.loop-node-test.true)) in (
      omega (arith, same, few, c.loop-node.invariant.0, c.put_value-to.ensures.0, c.loop-node-test.true),
      omega (arith, left_length values c.loop-node.node c.loop-node-test.true, c.put_value-to.ensures.0, c.loop-node.invariant.1),
      ap (λ (k : ℕ). over_at k (left values (c.loop-node.node + 1)) c.put_value-to.new.room) c.put_value-to.ensures.0
          ∙ ap (λ (r : List ℕ). over_at (c.loop-node.to + length here) (left values (c.loop-node.node + 1)) r) c.put_value-to.ensures.1
          ∙ left_turn values c.loop-node.node c.loop-node-test.true c.loop-node.to c.loop-node.room (omega (arith, few, c.loop-node.invariant.0, c.loop-node-test.true)) ∙ c.loop-node.invariant.2,
    )

pub returns : goal.returns
returns c = let values : List ℕ = c.args.values.now in
    let e = left_end values c.loop-node.node c.loop-node-test.false in (
      omega (arith, ap length e, c.loop-node.invariant.1),
      sym (ap (λ (l : List ℕ). over_at c.loop-node.to l c.loop-node.room) e ∙ over_none c.loop-node.room c.loop-node.to) ∙ c.loop-node.invariant.2,
    )
