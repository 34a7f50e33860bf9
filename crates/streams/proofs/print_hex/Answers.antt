use Rattle.std.proofs.Common.{◌≡◌, ◌^◌, ◌-◌, ℕ, [], false, refl, subst, append-nil, IfSome}
use native.Mathlib.Nat.{sub-zero}
use Rattle.std.specs.Option.{option_map}
use Rattle.std.specs.Fmt.{padded_integral, format_spec, digits, char_count, shown_prefix, radix_prefix}
use Rattle.std.specs.Io.KnownBytes.{Appends}
use Rattle.std.proofs.lemmas.Result.{on_ok_weaker}
use Rattle.streams.specs.Fronts.{eight_digits}
use Rattle.streams.proofs.print_hex.Goals as goal

-- what `{:08x}` writes
eight : (n : ℕ) → padded_integral (format_spec 32 0 4 8 (2 ^ 64 - 1)) false [] (digits 16 false n) ≡ eight_digits n
unfolding padded_integral char_count
eight n = simp (append-nil, sub-zero) refl

pub returns : goal.returns
returns g c =
    let grown = Appends (g.W.Write.contents c.args.out.now) (g.W.Write.contents c.write.new.self) in
    let prefix = radix_prefix c.in_radix.result.base in
    let ds = digits 16 false c.args.n in
    on_ok_weaker c.write.result (λ bytes.
    let styled = subst (λ o. IfSome (option_map (padded_integral c.laid_out.result false (shown_prefix c.laid_out.result prefix)) o) grown) c.in_radix.ensures bytes in
    let padded = subst (λ s. grown (padded_integral s false (shown_prefix s prefix) ds)) c.laid_out.ensures styled in
    subst grown (eight c.args.n) padded) c.write.ensures.bytes
