use Rattle.std.proofs.Common.{◌≡◌, ap, sym, ◌∙◌, rules}
use Rattle.std.specs.Prelude.{int_lt, pos, false, unsigned_abs}
use Rattle.std.specs.Int.{int_pow}
use Rattle.std.proofs.lemmas.Int.{to_z-of_z}
use Rattle.value_operators.specs.Numbers.{in_range}
use Rattle.number_ops.specs.Exponents.{reduced}
use Rattle.number_ops.proofs.Powers.{same_power}
use Rattle.number_ops.proofs.power.power.Goals as goal

pub returns : goal.returns
returns c =
    let raised : c.raised.result ≡ in_range (int_pow c.args.m c.exponent.result) = search (rules, to_z-of_z) in
    let size : c.unsigned_abs.result ≡ unsigned_abs c.args.n = search (rules, to_z-of_z) in
    let positive : int_lt c.args.n (pos 0) ≡ false = search (rules, to_z-of_z) in
    raised
    ∙ ap (λ e. in_range (int_pow c.args.m e)) (c.exponent.ensures ∙ ap reduced size)
    ∙ sym (same_power c.args.m c.args.n positive)
