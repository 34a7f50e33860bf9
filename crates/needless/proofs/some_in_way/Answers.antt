-- `some_in_way` meets its contract: what is tested of each party. Assumes nothing.
use Rattle.std.proofs.Common.{rules}
use Rattle.lists.proofs.Chains.{any_numbers}
use Rattle.parties.specs.Parties.{stage_in}
use Rattle.reach_sets.specs.Sets.{set_at}
use Rattle.needless.specs.Inner.{set_in_way}
use Rattle.needless.proofs.some_in_way.Goals as goal

pub returns : goal.returns
returns c = any_numbers (λ party. set_in_way (stage_in c.args.entries party) (set_at c.args.called.now party) c.args.mode c.args.set) _ c.any.ensures.ran (λ x b q k. search rules)
