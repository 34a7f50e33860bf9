-- `tidy` meets its contract: the first places are copied over zeros. Assumes nothing.
use Rattle.std.proofs.Common.{◌≡◌, rules, ◌∙◌, ap, length, drop, replicate}
use mathlib.Core.List.{List, ◌++◌}
use Prim.Native.Nat.{ℕ}
use Rattle.lists.proofs.Loops.{field_length}
use Rattle.arrivals.proofs.Queues.{places_copied}
use Rattle.arrivals.proofs.Listed.tidy.Goals as goal
use Rattle.arrivals.proofs.Listed.tidy.Goals.{Start}

long : (c : Start) → length c.args.self.now.places ≡ 32
long c = search (field_length, rules)

pub returns : goal.returns
returns c =
    ap (λ (l : List ℕ). l ++ drop c.min-end.result (replicate 32 0)) c.copy_from_slice.ensures.after
    ∙ places_copied c.args.self.now.places c.args.self.now.count c.min-end.result (long (goal.at.returns c).Start) c.min-end.ensures
