-- `put_end` meets its contract: the line `end`, and behind it those of the parties. Assumes nothing.
use mathlib.Core.Path.{sym, ap, ◌∙◌}
use Prim.Native.Nat.{ℕ}
use Rattle.lists.specs.Lists.{sum}
use Rattle.texts.proofs.Counts.{count_std}
use Rattle.locks.specs.Stages.{is_holding}
use Rattle.parties.specs.declared.Entry.{Entry}
use Rattle.replay.specs.Replay.{holders_at}
use Rattle.texts.specs.Lines.{end_line, party_lines}
use Rattle.texts.proofs.Puts.{puts_two, puts_as}
use Rattle.texts.proofs.put_end.Goals as goal

pub returns : goal.returns
returns c = puts_two c.args.at (end_line (holders_at c.args.desk) c.args.desk.waiting (sum c.args.desk.grants)) (party_lines 0 c.args.desk.grants) c.args.text.now
    (puts_as c.args.at c.args.text.now (ap (λ (k : ℕ). end_line k c.args.desk.waiting c.all_grants.result) (c.holders.ensures ∙ sym (count_std (λ (e : Entry). is_holding e.stage) c.args.desk.entries)) ∙ ap (end_line (holders_at c.args.desk) c.args.desk.waiting) c.all_grants.ensures)
    c.put_end_line-behind.ensures)
    c.put_party_lines.ensures
