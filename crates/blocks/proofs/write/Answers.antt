-- `write` meets its contract: each return is the first refusal that applies, or none; the room is written at the last one only. Assumes nothing.
use Prim.Native.Nat.{ℕ, ◌*◌}
use mathlib.Core.Path.{◌≡◌, refl, sym, ap, ◌∙◌}
use native.Mathlib.Omega.{arith}
use lib.ListN.{length, take}
use lib.Seq.{length-take-le}
use Rattle.std.proofs.lemmas.Result.{err_from_is_err_and}
use Rattle.lists.specs.Lists.{over}
use Rattle.lists.specs.Answer.{done, refused}
use Rattle.blocks.specs.File.{blocks_for, blocks_of}
use Rattle.blocks.specs.Record.{ReadStage, begun}
use Rattle.blocks.proofs.Stages.{records_four}
use Rattle.blocks.proofs.Answers.{left, write_refuses, write_gives, write_short, write_room, write_many}
use Rattle.blocks.proofs.Answers.{write_wrong, write_none, no_records, wrong_records, right_records}
use Rattle.blocks.proofs.write.Goals as goal

pub returns-then-records-count : goal.returns-then-records-count
returns-then-records-count c = left (write_refuses c.args.records.now c.args.count c.args.room.now (write_short c.args.records.now c.args.count c.args.room.now (omega arith)))

pub returns-then-room-k : goal.returns-then-room-k
returns-then-room-k c = left (write_refuses c.args.records.now c.args.count c.args.room.now (write_room c.args.records.now c.args.count c.args.room.now (omega arith) (omega arith)))

pub returns-then-count-gt3968 : goal.returns-then-count-gt3968
returns-then-count-gt3968 c = left (write_refuses c.args.records.now c.args.count c.args.room.now (write_many c.args.records.now c.args.count c.args.room.now (omega arith) (omega arith) (omega arith)))

pub returns-then-count-lt1 : goal.returns-then-count-lt1
returns-then-count-lt1 c = let wrong = no_records c.args.records.now c.args.count c.if-count-lt1.true in
    left (write_refuses c.args.records.now c.args.count c.args.room.now (write_wrong c.args.records.now c.args.count c.args.room.now (omega arith) (omega arith) (omega arith) wrong))

pub returns-in_err-after_records : goal.returns-in_err-after_records
returns-in_err-after_records c = let e = c.in_err-after_records.ensures in
    let four = e.0 ∙ records_four c.args.count begun c.args.records.now (λ h. absurd (h refl)) (λ z. omega (arith, z, e.1)) in
    let wrong = wrong_records c.args.records.now c.args.count c.if-count-lt1.false e.0 (λ z. omega (arith, z, e.1)) in
    let l = left (write_refuses c.args.records.now c.args.count c.args.room.now (write_wrong c.args.records.now c.args.count c.args.room.now (omega arith) (omega arith) (omega arith) wrong)) in
    let p = err_from_is_err_and c.from_residual.result c.from_residual.ensures.1 in
    rw (p.1, p.2) (ap refused four ∙ l.0, l.1)

pub slice_bounds-write_blocks-end : goal.slice_bounds-write_blocks-end
slice_bounds-write_blocks-end c = sym (length-take-le _ c.args.records.now (omega arith))

pub write_blocks-requires : goal.write_blocks-requires
write_blocks-requires c = let l : length (take (16 * c.args.count) c.args.records.now) ≡ 16 * c.args.count = length-take-le (16 * c.args.count) c.args.records.now (omega arith) in
    (c.if-room-k.false, omega arith, omega arith, omega arith)

pub returns : goal.returns
returns c = let right = right_records c.args.records.now c.args.count c.if-count-lt1.false (ap (λ (t : ReadStage). t.wrong) c.in_ok-after_records.ensures) refl in
    let l = left (write_gives c.args.records.now c.args.count c.args.room.now (write_none c.args.records.now c.args.count c.args.room.now (omega arith) (omega arith) (omega arith) right)) in
    let k : c.div_ceil-k.result ≡ blocks_for c.args.count = omega arith in
    (ap done k ∙ l.0, c.write_blocks.ensures ∙ ap (λ (k : ℕ). over (blocks_of k 0 (take (16 * c.args.count) c.args.records.now)) c.args.room.now) k ∙ l.1)
