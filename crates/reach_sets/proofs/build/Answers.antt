-- `build` meets its contract: what each of its ends leaves is what the definition says, for the answer, the places and the words. Assumes nothing.
use mathlib.Core.Path.{sym, ap, ◌∙◌}
use Prim.Native.Nat.{ℕ, ◌≤◌}
use native.Mathlib.Omega.{arith}
use lib.ListN.{length, replicate}
use lib.Seq.{length-take-le}
use Rattle.lists.proofs.Parts.{laid}
use Rattle.refusals.specs.Refusals.{meaning}
use Rattle.reach_sets.proofs.Plains.{long_enough, plain_done}
use Rattle.reach_sets.proofs.build.Goals as goal

pub slice_bounds-fill-end-2 : goal.slice_bounds-fill-end-2
slice_bounds-fill-end-2 c = sym (length-take-le 1024 c.build_plain-answer.new.words (omega (arith, c.build_plain-answer.auto.words, c.if-words-lt-WORDS.false)))

pub returns : goal.returns
returns c =
    let long : 1024 ≤ length c.build_plain-answer.new.words = omega (arith, c.build_plain-answer.auto.words, c.if-words-lt-WORDS.false) in
    let e = plain_done c.args.n c.args.edges.now.numbers.now c.args.edges.now.count c.args.places.now c.args.words.now
    (long_enough c.args.n c.args.edges.now.numbers.now c.args.edges.now.count c.args.places.now c.args.words.now c.if-places-n.false c.if-edges.false c.if-words-lt-WORDS.false)
    (meaning c.build_plain-answer.result) c.build_plain-answer.new.places c.build_plain-answer.new.words _
    c.build_plain-answer.ensures.result_value c.build_plain-answer.ensures.places_after c.build_plain-answer.ensures.words_unchanged
    (laid 1024 (replicate 1024 0) c.fill.new.self c.build_plain-answer.new.words
    (c.fill.ensures.after (λ y e. e) ∙ ap (λ (k : ℕ). replicate k 0) (length-take-le 1024 c.build_plain-answer.new.words long)) long c.fill.ensures.len) in
    record { result_value = e.0; places_after = e.1.0; words_after = e.1.1 }
