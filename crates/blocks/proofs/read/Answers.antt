-- `read` meets its contract: each return is the first refusal that applies, or none; the room is written at the last one only. Assumes nothing.
use Prim.Native.Nat.{ℕ, ◌/◌}
use mathlib.Core.Path.{sym, ap, ◌∙◌}
use native.Mathlib.Omega.{arith}
use Rattle.std.proofs.lemmas.Result.{err_from_is_err_and}
use Rattle.lists.specs.Answer.{done}
use Rattle.blocks.specs.Record.{ReadStage}
use Rattle.blocks.proofs.Answers.{left, blocks_facts, read_refuses, read_gives, read_1, read_2, read_34, read_none}
use Rattle.blocks.proofs.read.Goals as goal

pub returns-then-room-k : goal.returns-then-room-k
returns-then-room-k c = left (read_refuses c.args.file.now c.args.room.now (read_1 c.args.file.now c.args.room.now (omega arith)))

pub returns-then-not_blocks : goal.returns-then-not_blocks
returns-then-not_blocks c = left (read_refuses c.args.file.now c.args.room.now (read_2 c.args.file.now c.args.room.now (omega arith) (sym c.not_blocks.ensures ∙ c.if-not_blocks.true)))

pub after_blocks-requires : goal.after_blocks-requires
after_blocks-requires c = let f = blocks_facts c.args.file.now (sym c.not_blocks.ensures ∙ c.if-not_blocks.false) in
    (omega (arith, f.0), omega (arith, f.2))

pub returns-in_err-after_blocks : goal.returns-in_err-after_blocks
returns-in_err-after_blocks c = let whole = sym c.not_blocks.ensures ∙ c.if-not_blocks.false in
    let e = c.in_err-after_blocks.ensures in
    let p = err_from_is_err_and c.from_residual.result c.from_residual.ensures.1 in
    rw (p.1, p.2) (left (read_refuses c.args.file.now c.args.room.now (read_34 c.args.file.now c.args.room.now (omega arith) whole _ e.0 (λ z. omega (arith, z, e.1)))))

pub copy_records-requires : goal.copy_records-requires
copy_records-requires c = let f = blocks_facts c.args.file.now (sym c.not_blocks.ensures ∙ c.if-not_blocks.false) in
    (f.0, f.2, c.if-room-k.false, ap (λ (t : ReadStage). t.wrong) (sym c.in_ok-after_blocks.ensures))

pub returns : goal.returns
returns c = let whole = sym c.not_blocks.ensures ∙ c.if-not_blocks.false in
    let l = left (read_gives c.args.file.now c.args.room.now (read_none c.args.file.now c.args.room.now (omega arith) whole (ap (λ (t : ReadStage). t.wrong) (sym c.in_ok-after_blocks.ensures)))) in
    (ap (λ (n : ℕ). done (n / 16)) c.copy_records.ensures.0 ∙ l.0, c.copy_records.ensures.1 ∙ l.1)
