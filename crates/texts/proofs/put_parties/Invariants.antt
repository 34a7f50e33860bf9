-- `put_parties` meets its contract: the parties left, put from here on, give all of them. Assumes nothing.
use mathlib.Core.Path.{◌≡◌}
use lib.ListN.{drop}
use Rattle.texts.specs.Text.{spaced}
use Rattle.texts.specs.Pages.{page_of, put}
use Rattle.texts.proofs.put_parties.Given as goal

abbrev pub invariant-loop-party : goal.invariant-loop-party
invariant-loop-party l = put (spaced (drop l.party-index l.parties)) (page_of l.text l.here) ≡ put (spaced l.parties) (page_of l.initial.text l.at)
