-- `leaving` meets its contract: the others are those that the pass takes. Assumes nothing.
use mathlib.Core.Path.{◌≡◌, subst}
use mathlib.Core.Bool.{not}
use mathlib.Core.List.{List}
use Prim.Native.Nat.{ℕ}
use lib.Dec.{eqb}
use lib.ListN.{length, set}
use borrow.Author.Rules.{rules}
use Rattle.lists.specs.Lists.{keep}
use Rattle.lists.proofs.Loops.{field_length}
use Rattle.locks.specs.declared.Stage.TheVariants.{Out}
use Rattle.parties.specs.declared.Entry.{Entry}
use Rattle.parties.specs.Parties.{entry_of}
use Rattle.arrivals.specs.Arrivals.{list_of}
use Rattle.sweeps.specs.Sweeps.{sweep_of, Sweeps}
use Rattle.arrivals.proofs.Queues.{kept_places, listed_take}
use Rattle.sweeps.proofs.leaving.Goals as goal
use Rattle.sweeps.proofs.leaving.Goals.{Start}

long : (c : Start) → length c.args.list.places ≡ 32
long c = search (field_length, rules)

pub returns : goal.returns
returns c = let others = keep (λ other. not (eqb other c.args.party)) (list_of c.args.list) in
    let same : list_of c.without-others.result ≡ others
    = listed_take c.without-others.result others c.without-others.ensures (kept_places (λ other. not (eqb other c.args.party)) c.args.list.places c.args.list.count (long (goal.at.returns c).Start)) in
    subst (λ (t : List ℕ). Sweeps (sweep_of (set c.args.entries c.args.party (entry_of Out)) t) c.sweep.result) same
    (subst (λ (t : List Entry). Sweeps (sweep_of t (list_of c.without-others.result)) c.sweep.result) c.with_out-rest.ensures c.sweep.ensures)
