-- `put_record` meets its contract: the sixteen bytes are those of the value record. Assumes nothing.
use mathlib.Core.Path.{◌≡◌, ap, ◌∙◌}
use mathlib.Core.List.{List}
use Prim.Native.Nat.{ℕ, ◌/◌}
use native.Mathlib.Omega.{arith}
use Rattle.octets.specs.Bytes.{bytes4}
use Rattle.octets.specs.Writes.{put_at}
use Rattle.octets.proofs.Writes.{put_fits}
use Rattle.cutting.specs.Cut.{value_record}
use Rattle.shorter.proofs.Puts.{sixteen_bytes}
use Rattle.shorter.proofs.put_record.Goals as goal

pub returns : goal.returns
returns c = let bytes : List ℕ = value_record c.args.node c.args.value in
    let done : c.put4-2.new.room ≡ bytes =
    c.put4-2.ensures ∙ ap (λ (t : List ℕ). put_at 8 (bytes4 (c.args.value / 4294967296)) t) c.put4.ensures ∙ sixteen_bytes c.args.node c.args.value in
    c.copy_at.ensures ∙ ap (λ (t : List ℕ). put_at c.args.at t c.args.room.now) done ∙ put_fits c.args.room.now c.args.at bytes (omega (arith, c.requires.1))
