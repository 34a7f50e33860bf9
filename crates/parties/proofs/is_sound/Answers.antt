-- `is_sound` meets its contract: the list, the entries with the holds, and the waiters are tested in turn. Assumes nothing.
use Rattle.std.proofs.Common.{◌≡◌, sym, ◌∙◌, true, ◌&&◌, ◌≤◌}
use lib.Dec.{leb, ltb}
use borrow.Author.Tests.{leb-true}
use Rattle.lists.specs.Lists.{all_below}
use Rattle.lists.proofs.Bools.{not_both, and_left, and_right, and_both}
use Rattle.locks.specs.Lent.{lent_in}
use Rattle.arrivals.specs.declared.Listed.{Listed}
use Rattle.arrivals.specs.Arrivals.{listed_in}
use Rattle.parties.specs.Sound.{lists_parties, lists_once, holders_apart}
use Rattle.parties.specs.Inner.{entries_right}
use Rattle.parties.proofs.Clauses.{unsound, entries_right_law, sound_held}
use Rattle.parties.proofs.is_sound.Goals as goal

-- a list that is right has at most 32 parties
few : (list : Listed) → (lists_parties list.places list.count && lists_once list.places list.count) ≡ true → list.count ≤ 32
few list e = leb-true list.count 32 (and_left (leb list.count 32) (all_below list.count (λ i. ltb (listed_in list.places i) 32)) (and_left (lists_parties list.places list.count) (lists_once list.places list.count) e))

pub returns-then-not-lists_right : goal.returns-then-not-lists_right
returns-then-not-lists_right c = unsound (lent_in c.args.tables.now) c.args.entries.now c.args.list.now.places c.args.list.now.count (λ k.
    not_both _ (and_both (lists_parties c.args.list.now.places c.args.list.now.count) (lists_once c.args.list.now.places c.args.list.now.count) k.parties k.once)
    (sym c.lists_right.ensures ∙ c.if-not-lists_right.true))

pub waiters_held_up-requires : goal.waiters_held_up-requires
waiters_held_up-requires c = (few c.args.list.now (sym c.lists_right.ensures ∙ c.if-not-lists_right.false), c.in-Some.ensures.1)

pub returns-in-Some : goal.returns-in-Some
returns-in-Some c =
    let entered = entries_right (lent_in c.args.tables.now) c.args.entries.now c.args.list.now in
    let apart = holders_apart c.args.entries.now in
    c.waiters_held_up.ensures
    ∙ sound_held (lent_in c.args.tables.now) c.args.entries.now c.args.list.now c.requires (sym c.lists_right.ensures ∙ c.if-not-lists_right.false)
    (and_left entered apart c.in-Some.ensures.0) (and_right entered apart c.in-Some.ensures.0)

pub returns-in-None : goal.returns-in-None
returns-in-None c = unsound (lent_in c.args.tables.now) c.args.entries.now c.args.list.now.places c.args.list.now.count (λ k.
    not_both _ (and_both (entries_right (lent_in c.args.tables.now) c.args.entries.now c.args.list.now) (holders_apart c.args.entries.now)
    (entries_right_law (lent_in c.args.tables.now) c.args.entries.now c.args.list.now k) k.apart) c.in-None.ensures)
