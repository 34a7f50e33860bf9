-- `join_at` meets its contract: a set is written where it grew. Assumes nothing.
use mathlib.Core.Path.{refl, sym, ◌∙◌}
use native.Mathlib.Omega.{arith}
use Rattle.reach_sets.proofs.Joinings.{read_same, read_more}
use Rattle.reach_sets.proofs.join_at.Goals as goal

pub returns-then-eq : goal.returns-then-eq
returns-then-eq c = record { joins = read_same c.args.parent c.args.child c.args.table.now _ _ _ c.set_at-before.ensures c.set_at.ensures c.joined-after.ensures (sym c.eq.ensures ∙ c.if-eq.true); went = refl }

pub returns : goal.returns
returns c = let e = read_more c.args.parent c.args.child c.args.table.now _ _ _ c.set_at-before.ensures c.set_at.ensures c.joined-after.ensures c.requires
    (λ i. omega (arith, c.slice_known-1.given i)) (sym c.eq.ensures ∙ c.if-eq.false) _ c.put_set.ensures in
    record { joins = e.0; went = e.1 }
