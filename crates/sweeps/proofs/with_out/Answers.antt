-- `with_out` meets its contract: a store past the entries changes nothing. Assumes nothing.
use mathlib.Core.Path.{◌≡◌, sym}
use native.Mathlib.Omega.{arith}
use lib.ListN.{length}
use lib.Seq.{set_out}
use borrow.Author.Rules.{rules}
use Rattle.locks.specs.declared.Stage.TheVariants.{Out}
use Rattle.parties.specs.Parties.{entry_of}
use Rattle.sweeps.proofs.with_out.Goals as goal
use Rattle.sweeps.proofs.with_out.Goals.{Start}

long : (c : Start) → length c.args.entries ≡ 32
long c = search rules

pub returns-else-party-lt-PARTIES : goal.returns-else-party-lt-PARTIES
returns-else-party-lt-PARTIES c = sym (set_out c.args.entries c.args.party (entry_of Out) (omega (arith, long (goal.at.returns-else-party-lt-PARTIES c).Start)))
