-- `put_party_lines` meets its contract: the lines left, put from here on, give all of them. Assumes nothing.
use mathlib.Core.Path.{◌≡◌}
use lib.ListN.{drop}
use Rattle.texts.specs.Lines.{party_lines}
use Rattle.texts.specs.Pages.{page_of, put}
use Rattle.texts.proofs.put_party_lines.Given as goal

abbrev pub invariant-loop-party : goal.invariant-loop-party
invariant-loop-party l = put (party_lines l.party (drop l.party l.grants)) (page_of l.text l.here) ≡ put (party_lines 0 l.grants) (page_of l.initial.text l.at)
