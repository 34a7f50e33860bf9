-- `in_reach` meets its contract: what all names reach at once is what one of them reaches. Assumes nothing.
use mathlib.Core.Path.{ap, ◌∙◌}
use mathlib.Core.List.{List}
use Prim.Native.Nat.{ℕ}
use lib.ListN.{replicate}
use Rattle.hierarchy.specs.Hierarchy.{flagged}
use Rattle.hierarchy.proofs.Unions.{reach_names}
use Rattle.hierarchy.proofs.in_reach.Goals as goal

pub returns : goal.returns
returns c = record {
  value = c.has_flag-found.ensures ∙ ap (λ (flags : List ℕ). flagged flags c.args.node) c.flag_reach.ensures ∙ reach_names _ _ c.args.names.now c.args.node;
  flags_after = c.fill.ensures.after (λ y h. h) ∙ ap (λ (n : ℕ). replicate n 0) c.flag_reach.auto.flags;
}
