-- `without` meets its contract: those kept so far stand in the rest. Assumes nothing.
use Rattle.std.proofs.Common.{◌≡◌, ◌+◌, refl, ap, sym, ◌∙◌, ◌≤◌, rules, arith, not, eqb, length, take, get_or, List, ℕ, Bool, subst}
use borrow.Author.Tests.{eq-eqb, ne_eqb}
use lib.ListN.{length-take}
use lib.Seq.{take_all}
use Rattle.lists.specs.Lists.{keep}
use Rattle.lists.proofs.Loops.{field_length}
use Rattle.arrivals.specs.declared.Listed.{Listed}
use Rattle.arrivals.specs.Arrivals.{Lists}
use Rattle.arrivals.proofs.Queues.{kept_yes, kept_no, cut_take}
use Rattle.arrivals.proofs.Listed.without.Goals as goal
use Rattle.arrivals.proofs.Listed.without.Goals.{Start, At-loop-other, then-from-party, else-from-party}

long : (c : Start) → length c.args.self.now.places ≡ 32
long c = search (field_length, rules)

abbrev other_than : ℕ → ℕ → Bool
other_than party other = not (eqb other party)

few : (c : At-loop-other) → length (take c.min.result c.args.self.now.places) ≤ 32
few c = simp length-take (omega (arith, c.min.ensures))

pub loop-other-init : goal.loop-other-init
unfolding keep
loop-other-init c = rw c.none-rest.ensures (refl, refl)

pub loop-other-preserved : goal.loop-other-preserved
loop-other-preserved c =
    let items : List ℕ = take c.min.result c.args.self.now.places in
    let kept : List ℕ = keep (other_than c.args.party) (take (c.loop-other.other-index + 1) items) in
    let same : eqb c.from.result c.args.party ≡ eqb (get_or items c.loop-other.other-index 0) c.args.party = ap (λ (x : ℕ). eqb x c.args.party) c.from.ensures in
    elim c.if-from-party.branch [
      | then-from-party w ↦ subst (λ (r : Listed). Lists r kept) (sym (w.rest-is ∙ w.push.ensures))
          (kept_yes (other_than c.args.party) items c.loop-other.rest c.loop-other.other-index c.loop-other-test.true (few (goal.at.loop-other-preserved c).At-loop-other) c.loop-other.invariant
          (ap not (sym same ∙ ne_eqb c.from.result c.args.party w.if-from-party.true)))
      | else-from-party w ↦ subst (λ (r : Listed). Lists r kept) (sym w.rest-is)
          (kept_no (other_than c.args.party) items c.loop-other.rest c.loop-other.other-index c.loop-other-test.true (few (goal.at.loop-other-preserved c).At-loop-other) c.loop-other.invariant
          (ap not (sym same ∙ eq-eqb c.from.result c.args.party w.if-from-party.false)))
    ]

pub returns : goal.returns
returns c =
    let items : List ℕ = take c.min.result c.args.self.now.places in
    let all : take c.loop-other.other-index items ≡ take c.args.self.now.count c.args.self.now.places
    = take_all c.loop-other.other-index items c.loop-other-test.false ∙ cut_take c.args.self.now.places c.args.self.now.count c.min.result (long (goal.at.returns c).Start) c.min.ensures in
    subst (λ (l : List ℕ). Lists c.loop-other.rest (keep (other_than c.args.party) l)) all c.loop-other.invariant
