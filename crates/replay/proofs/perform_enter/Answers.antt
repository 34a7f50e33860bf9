-- `perform_enter` meets its contract: the bytes read are the record's fields, and the desk's step does the rest. Assumes nothing.
use mathlib.Core.Path.{◌≡◌, sym, ap, ◌∙◌}
use mathlib.Core.List.{List}
use Prim.Native.Nat.{ℕ, ◌≤◌}
use native.Mathlib.Omega.{arith}
use lib.ListN.{length, take, drop, length-append}
use lib.Seq.{length-take-le, take-append_seam}
use Rattle.lists.specs.Lists.{over}
use Rattle.blocks.specs.Record.{names_in}
use Rattle.locks.specs.Lent.{lent_in}
use Rattle.locks.specs.Locks.{mode_numbered}
use Rattle.replay.proofs.Outcomes.{entered_performs}
use Rattle.replay.proofs.perform_enter.Goals as goal

-- what was put stands at the front
take-over : (xs buffer : List ℕ) → take (length xs) (over xs buffer) ≡ xs
unfolding over
take-over xs buffer = take-append_seam xs (drop (length xs) buffer)

fits : (xs after buffer : List ℕ) {k : ℕ} → k ≡ length xs → after ≡ over xs buffer → k ≤ length after
unfolding over
fits xs after buffer e t = omega (arith, ap length t ∙ length-append xs (drop (length xs) buffer))

pub slice_bounds-names-end : goal.slice_bounds-names-end
slice_bounds-names-end c = fits (names_in c.args.bytes.now) c.put_names-k.new.names _ c.put_names-k.ensures.0 c.put_names-k.ensures.1

pub slice_bounds-enter-end : goal.slice_bounds-enter-end
slice_bounds-enter-end c = sym (length-take-le _ c.put_names-k.new.names (fits (names_in c.args.bytes.now) c.put_names-k.new.names _ c.put_names-k.ensures.0 c.put_names-k.ensures.1))

pub returns : goal.returns
returns c = let bytes : List ℕ = c.args.bytes.now in
    let put : List ℕ = c.put_names-k.new.names in
    let names : take c.put_names-k.result put ≡ names_in bytes
    = ap (λ (k : ℕ). take k put) c.put_names-k.ensures.0 ∙ ap (take (length (names_in bytes))) c.put_names-k.ensures.1 ∙ take-over (names_in bytes) _ in
    λ values. rw c.plain.ensures (entered_performs (lent_in c.args.tables.now) c.args.desk bytes c.from-party.result (c.from-party.ensures ∙ c.byte.ensures)
    c.mode_when-mode.result (take c.put_names-k.result put) c.from-name_count.result
    (c.mode_when-mode.ensures ∙ ap mode_numbered c.byte-m.ensures) names (c.from-name_count.ensures ∙ c.byte-2.ensures)
    c.enter-step.result c.from.result c.enter-step.ensures c.from.ensures values)
